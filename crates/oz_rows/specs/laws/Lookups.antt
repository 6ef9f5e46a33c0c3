-- Which row a key has where rows stand before it and behind it.
use Rattle.std.proofs.Common.{◌≡◌, Bool, true, false, List, [], ◌∷◌, ◌++◌, Some, None, cond, refl, sym, ◌∙◌, ap}
use Rattle.std.specs.List.{AllByRecursion}
use Rattle.std.specs.Ordering.{is_eq}
use Rattle.std.specs.declared.cmp.Ordering.TheVariants.{Less, Equal, Greater}
use Rattle.oz_rows.specs.declared.key.RowKey.{RowKey}
use Rattle.oz_rows.specs.Order.{key_order}
use Rattle.oz_rows.specs.declared.entry.RowEntry.{RowEntry}
use Rattle.oz_rows.specs.RowMaps.{row_of, is_same}
use Rattle.oz_rows.specs.laws.Order.{equal_from_test, alike, alike_left}

abbrev pub entry_key : RowEntry → RowKey
entry_key entry = entry.key

abbrev pub AllBelow : RowKey → List RowEntry → Type 0
AllBelow key entries = AllByRecursion (λ entry. key_order entry.key key ≡ Less) entries

abbrev pub AllAbove : RowKey → List RowEntry → Type 0
AllAbove key entries = AllByRecursion (λ entry. key_order entry.key key ≡ Greater) entries

-- lower keys do not hide a row
pub row_behind : (a b : List RowEntry) (q : RowKey) → AllBelow q a → row_of (a ++ b) q ≡ row_of b q
row_behind [] b q below = refl
row_behind (x ∷ a) b q below = ap (λ o. cond (is_eq o) (Some x.row) (row_of (a ++ b) q)) below.0 ∙ row_behind a b q below.1

pub row_above : (b : List RowEntry) (q : RowKey) → AllAbove q b → row_of b q ≡ None
row_above [] q above = refl
row_above (x ∷ b) q above = ap (λ o. cond (is_eq o) (Some x.row) (row_of b q)) above.0 ∙ row_above b q above.1

-- nor does another key
pub row_beside : (a b : List RowEntry) (x : RowEntry) (q : RowKey) → is_same x.key q ≡ false → row_of (a ++ x ∷ b) q ≡ row_of (a ++ b) q
row_beside [] b x q other = ap (λ (t : Bool). cond t (Some x.row) (row_of b q)) other
row_beside (y ∷ a) b x q other = ap (cond (is_same y.key q) (Some y.row)) (row_beside a b x q other)

pub all_below_same : (key q : RowKey) → key_order key q ≡ Equal → (a : List RowEntry) → AllBelow key a → AllBelow q a
all_below_same key q same [] below = tt
all_below_same key q same (x ∷ a) below = (sym (alike key q x.key same) ∙ below.0, all_below_same key q same a below.1)

pub all_above_same : (key q : RowKey) → key_order key q ≡ Equal → (a : List RowEntry) → AllAbove key a → AllAbove q a
all_above_same key q same [] above = tt
all_above_same key q same (x ∷ a) above = (sym (alike key q x.key same) ∙ above.0, all_above_same key q same a above.1)

pub row_at : (a b : List RowEntry) (x : RowEntry) (q : RowKey) → AllBelow q a → key_order x.key q ≡ Equal → row_of (a ++ x ∷ b) q ≡ Some x.row
row_at a b x q below same = row_behind a (x ∷ b) q below ∙ ap (λ o. cond (is_eq o) (Some x.row) (row_of b q)) same

-- an entry between lower keys and others is found under its key, and the others as before
pub row_added : (a b : List RowEntry) (x : RowEntry) → AllBelow x.key a → (q : RowKey)
    → row_of (a ++ x ∷ b) q ≡ cond (is_same x.key q) (Some x.row) (row_of (a ++ b) q)
row_added a b x below q = by_test (is_same x.key q) refl
  where
    by_test : (t : Bool) → is_same x.key q ≡ t → row_of (a ++ x ∷ b) q ≡ cond (is_same x.key q) (Some x.row) (row_of (a ++ b) q)
    by_test true e = let same = equal_from_test _ e in row_at a b x q (all_below_same x.key q same a below) same
        ∙ ap (λ (t : Bool). cond t (Some x.row) (row_of (a ++ b) q)) (sym e)
    by_test false e = row_beside a b x q e ∙ ap (λ (t : Bool). cond t (Some x.row) (row_of (a ++ b) q)) (sym e)

-- so is one that stands in the place of another with its key
pub row_replaced : (a b : List RowEntry) (old new : RowEntry) → key_order old.key new.key ≡ Equal → AllBelow new.key a → (q : RowKey)
    → row_of (a ++ new ∷ b) q ≡ cond (is_same new.key q) (Some new.row) (row_of (a ++ old ∷ b) q)
row_replaced a b old new same below q = row_added a b new below q ∙ by_test (is_same new.key q) refl
  where
    by_test : (t : Bool) → is_same new.key q ≡ t
        → cond (is_same new.key q) (Some new.row) (row_of (a ++ b) q) ≡ cond (is_same new.key q) (Some new.row) (row_of (a ++ old ∷ b) q)
    by_test true e = ap (λ (t : Bool). cond t (Some new.row) (row_of (a ++ b) q)) e ∙ ap (λ (t : Bool). cond t (Some new.row) (row_of (a ++ old ∷ b) q)) (sym e)
    by_test false e = ap (cond (is_same new.key q) (Some new.row)) (sym (row_beside a b old q (ap is_eq (alike_left old.key new.key q same) ∙ e)))

-- without the entry of a key the key has no row
pub row_removed : (a b : List RowEntry) (x : RowEntry) (key : RowKey) → key_order x.key key ≡ Equal → AllBelow key a → AllAbove key b → (q : RowKey)
    → row_of (a ++ b) q ≡ cond (is_same key q) None (row_of (a ++ x ∷ b) q)
row_removed a b x key same below above q = by_test (is_same key q) refl
  where
    by_test : (t : Bool) → is_same key q ≡ t → row_of (a ++ b) q ≡ cond (is_same key q) None (row_of (a ++ x ∷ b) q)
    by_test true e =
        let tied = equal_from_test _ e in
        row_behind a b q (all_below_same key q tied a below) ∙ row_above b q (all_above_same key q tied b above)
        ∙ ap (λ (t : Bool). cond t None (row_of (a ++ x ∷ b) q)) (sym e)
    by_test false e = sym (row_beside a b x q (ap is_eq (alike_left x.key key q same) ∙ e)) ∙ ap (λ (t : Bool). cond t None (row_of (a ++ x ∷ b) q)) (sym e)

-- taking away a key that has no entry changes nothing
pub row_absent : (a b : List RowEntry) (key : RowKey) → AllBelow key a → AllAbove key b → (q : RowKey)
    → row_of (a ++ b) q ≡ cond (is_same key q) None (row_of (a ++ b) q)
row_absent a b key below above q = by_test (is_same key q) refl
  where
    by_test : (t : Bool) → is_same key q ≡ t → row_of (a ++ b) q ≡ cond (is_same key q) None (row_of (a ++ b) q)
    by_test true e =
        let tied = equal_from_test _ e in
        row_behind a b q (all_below_same key q tied a below) ∙ row_above b q (all_above_same key q tied b above)
        ∙ ap (λ (t : Bool). cond t None (row_of (a ++ b) q)) (sym e)
    by_test false e = ap (λ (t : Bool). cond t None (row_of (a ++ b) q)) (sym e)
