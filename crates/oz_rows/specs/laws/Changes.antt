-- Rows after changes.
use Rattle.std.proofs.Common.{◌≡◌, List, [], ◌∷◌, ◌++◌, Option, None, Some, cond, refl, sym, ◌∙◌, ap}
use Rattle.std.specs.declared.cmp.Ordering.{Ordering}
use Rattle.std.specs.declared.cmp.Ordering.TheVariants.{Less, Equal, Greater}
use Rattle.oz_rows.specs.declared.key.RowKey.{RowKey}
use Rattle.oz_rows.specs.declared.row.Row.{Row}
use Rattle.oz_rows.specs.declared.operation.Change.{Change}
use Rattle.oz_rows.specs.Order.{key_order}
use Rattle.oz_rows.specs.declared.entry.RowEntry.{RowEntry}
use Rattle.oz_rows.specs.RowMaps.{row_of, row_after, row_after_one, is_same, KeysRise, Becomes}
use Rattle.oz_rows.specs.laws.Order.{above_below}
use Rattle.oz_rows.specs.laws.Lookups.{entry_key, AllBelow, AllAbove, row_added, row_replaced, row_removed}
use Rattle.oz_rows.specs.laws.Lookups.{row_absent}
use Rattle.oz_rows.specs.laws.Rising.{over_lower, rise_with, rise_without, rise_replaced, before_at, behind_at}

-- where a key stands among rows in order, or would stand
pub data Spot (key : RowKey) : List RowEntry → Type 0 where
  at : (a b : List RowEntry) (x : RowEntry) → key_order x.key key ≡ Equal → Spot key (a ++ x ∷ b)
  between : (a b : List RowEntry) → AllBelow key a → AllAbove key b → Spot key (a ++ b)

pub spot : (key : RowKey) (l : List RowEntry) → KeysRise l → Spot key l
spot key [] rise = between [] [] tt tt
spot key (x ∷ l) rise = by_order (key_order x.key key) refl (spot key l rise.1)
  where
    behind : key_order x.key key ≡ Less → (m : List RowEntry) → Spot key m → Spot key (x ∷ m)
    behind e _ (at a b y same) = at (x ∷ a) b y same
    behind e _ (between a b below above) = between (x ∷ a) b (e, below) above

    by_order : (o : Ordering) → key_order x.key key ≡ o → Spot key l → Spot key (x ∷ l)
    by_order Less e later = behind e l later
    by_order Equal e later = at [] l x e
    by_order Greater e later = between [] (x ∷ l) tt (e, over_lower entry_key x key l (above_below x.key key e) rise.0)

one_put : (key : RowKey) (row : Row) (l : List RowEntry) → KeysRise l → Spot key l → (after : List RowEntry) × KeysRise after
    × ((q : RowKey) → row_of after q ≡ cond (is_same key q) (Some row) (row_of l q))
one_put key row _ rise (at a b x same) =
    let new : RowEntry = record { key = key; row = row } in
    (a ++ new ∷ b, rise_replaced entry_key a b x new same rise, row_replaced a b x new same (before_at entry_key a b x key same rise))
one_put key row _ rise (between a b below above) =
    let new : RowEntry = record { key = key; row = row } in
    (a ++ new ∷ b, rise_with entry_key a b new below above rise, row_added a b new below)

one_gone : (key : RowKey) (l : List RowEntry) → KeysRise l → Spot key l → (after : List RowEntry) × KeysRise after
    × ((q : RowKey) → row_of after q ≡ cond (is_same key q) None (row_of l q))
one_gone key _ rise (at a b x same) = (
  a ++ b,
  rise_without entry_key a b x rise,
  row_removed a b x key same (before_at entry_key a b x key same rise) (behind_at entry_key a b x key same rise),
)
one_gone key _ rise (between a b below above) = (a ++ b, rise, row_absent a b key below above)

one_change : (change : Change) (l : List RowEntry) → KeysRise l → (after : List RowEntry) × KeysRise after
    × ((q : RowKey) → row_of after q ≡ row_after_one change q (row_of l q))
one_change change l rise = by_row change.row refl
  where
    by_row : (row : Option Row) → change.row ≡ row → (after : List RowEntry) × KeysRise after
        × ((q : RowKey) → row_of after q ≡ row_after_one change q (row_of l q))
    by_row (Some row) e = let made =
        one_put change.key row l rise (spot change.key l rise) in
        (made.0, made.1, λ q. made.2 q ∙ ap (λ (r : Option Row). cond (is_same change.key q) r (row_of l q)) (sym e))
    by_row None e = let made =
        one_gone change.key l rise (spot change.key l rise) in
        (made.0, made.1, λ q. made.2 q ∙ ap (λ (r : Option Row). cond (is_same change.key q) r (row_of l q)) (sym e))

-- rows in order have rows in order after any changes
pub become : (changes : List Change) (l : List RowEntry) → KeysRise l → (after : List RowEntry) × Becomes l changes after
become [] l rise = (l, record { in_order = rise; rows = λ q. refl })
become (change ∷ changes) l rise =
    let first = one_change change l rise in
    let later = become changes first.0 first.1 in
    (later.0, record { in_order = later.1.in_order; rows = λ q. later.1.rows q ∙ ap (row_after changes q) (first.2 q) })
