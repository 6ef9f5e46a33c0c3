-- A walk from key to key gathers all rows of a kind.
use Rattle.std.proofs.Common.{◌≡◌, ℕ, false, List, [], ◌∷◌, ◌++◌, Option, None, Some, is_some, cond, refl, sym, ◌∙◌, ap, append-nil}
use mathlib.Core.Bool.{false≢true}
use Rattle.std.specs.List.{AllByRecursion}
use Rattle.std.specs.Ordering.{is_eq, is_gt}
use Rattle.std.specs.declared.cmp.Ordering.{Ordering}
use Rattle.std.specs.declared.cmp.Ordering.TheVariants.{Less, Equal, Greater}
use Rattle.oz_effects.specs.Parts.{own_row}
use Rattle.oz_reclaim.specs.Gathered.{IsLeast, IsOfKind, AreAllOf}
use Rattle.oz_rows.specs.declared.entry.RowEntry.{RowEntry}
use Rattle.oz_rows.specs.declared.key.RowKey.{RowKey}
use Rattle.oz_rows.specs.declared.row.Row.{Row}
use Rattle.oz_rows.specs.Order.{key_order}
use Rattle.oz_rows.specs.Rows.{kind_of}
use Rattle.oz_rows.specs.RowMaps.{Rows, IsBelow, IsNext, HasNoNext, KeysRise, is_same, row_of}
use Rattle.oz_rows.specs.laws.Lookups.{AllBelow, row_added}
use Rattle.oz_rows.specs.laws.Order.{key_order_total, above_below, itself}
use Rattle.oz_rows.specs.laws.Same.{same_is_one}

-- a key that is not above another stands under what that one stands under
pub under : (a b c : RowKey) → is_gt (key_order a b) ≡ false → IsBelow b c → IsBelow a c
under a b c not_above below = by (key_order a b) refl not_above
  where
    by : (o : Ordering) → key_order a b ≡ o → is_gt o ≡ false → IsBelow a c
    by Less e not = key_order_total.trans a b c e below
    by Equal e not = key_order_total.congr a b c e ∙ below
    by Greater e not = absurd (false≢true (sym not))

pub not_itself : (a : RowKey) → IsBelow a a → ⊥
not_itself a e = false≢true (ap is_eq (sym e ∙ itself a))

all_snoc : (P : RowEntry → Type 0) (l : List RowEntry) (x : RowEntry) → AllByRecursion P l → P x → AllByRecursion P (l ++ x ∷ [])
all_snoc P [] x all one = (one, tt)
all_snoc P (y ∷ l) x all one = (all.0, all_snoc P l x all.1 one)

pub each : (P Q : RowEntry → Type 0) → ((entry : RowEntry) → P entry → Q entry) → (l : List RowEntry) → AllByRecursion P l → AllByRecursion Q l
each P Q from [] all = tt
each P Q from (x ∷ l) all = (from x all.0, each P Q from l all.1)

rise_snoc : (l : List RowEntry) (x : RowEntry) → KeysRise l → AllBelow x.key l → KeysRise (l ++ x ∷ [])
rise_snoc [] x rise below = (tt, tt)
rise_snoc (y ∷ l) x rise below = (all_snoc (λ (other : RowEntry). IsBelow y.key other.key) l x rise.0 below.0, rise_snoc l x rise.1 below.1)

-- the rows of a kind up to the last key
pub record Gathering (all : Rows) (kind : ℕ) (last : RowKey) (found : List RowEntry) : Type 0 where
  pub kind_is : kind_of last ≡ kind
  pub in_order : KeysRise found
  pub passed : AllByRecursion (λ (entry : RowEntry). is_gt (key_order entry.key last) ≡ false) found
  pub each_is : AllByRecursion (IsOfKind all kind) found
  pub every : (key : RowKey) (row : Row) → kind_of key ≡ kind → all key ≡ Some row → (IsBelow last key → ⊥) → row_of found key ≡ Some row

pub begins : (all : Rows) (start : RowKey) → IsLeast start → Gathering all (kind_of start) start (own_row start (all start))
begins all start least = by (all start) refl
  where
    the_start : (key : RowKey) → kind_of key ≡ kind_of start → (IsBelow start key → ⊥) → key_order start key ≡ Equal
    the_start key kind not_over = by_order (key_order start key) refl
      where
        by_order : (o : Ordering) → key_order start key ≡ o → key_order start key ≡ Equal
        by_order Less e = absurd (not_over e)
        by_order Equal e = e
        by_order Greater e = absurd (least key kind (above_below start key e))

    by : (o : Option Row) → all start ≡ o → Gathering all (kind_of start) start (own_row start o)
    by None e = record {
      kind_is = refl;
      in_order = tt;
      passed = tt;
      each_is = tt;
      every = λ key row kind there not_over. absurd (false≢true (ap is_some (sym e ∙ ap all (same_is_one start key (ap is_eq (the_start key kind not_over))) ∙ there)));
    }
    by (Some row) e = record {
      kind_is = refl;
      in_order = (tt, tt);
      passed = (ap is_gt (itself start), tt);
      each_is = ((refl, e), tt);
      every = λ key other kind there not_over.
          let same = the_start key kind not_over in
          ap (λ (o : Ordering). cond (is_eq o) (Some row) None) same ∙ sym e ∙ ap all (same_is_one start key (ap is_eq same)) ∙ there;
    }

module _ (all : Rows) (kind : ℕ) (last : RowKey) (found : List RowEntry) (it : Gathering all kind last found) where
  pub steps : (key : RowKey) (row : Row) → IsNext all last key row → Gathering all kind key (found ++ record { key = key; row = row } ∷ [])
  steps key row next =
      let above = next.is_above.above in
      let new : RowEntry = record { key = key; row = row } in
      let below : AllBelow key found = each (λ (entry : RowEntry). is_gt (key_order entry.key last) ≡ false) (λ (entry : RowEntry). key_order entry.key key ≡ Less) (λ entry not_above. under entry.key last key not_above above) found it.passed in
      let kind_is = next.is_above.same_kind ∙ it.kind_is in
      record {
        kind_is = kind_is;
        in_order = rise_snoc found new it.in_order below;
        passed = all_snoc (λ (entry : RowEntry). is_gt (key_order entry.key key) ≡ false) found new (each (λ (entry : RowEntry). key_order entry.key key ≡ Less) (λ (entry : RowEntry). is_gt (key_order entry.key key) ≡ false) (λ entry less. ap is_gt less) found below) (ap is_gt (itself key));
        each_is = all_snoc (IsOfKind all kind) found new it.each_is (kind_is, next.its_row);
        every = λ q other of_kind there not_over. row_added found [] new below q ∙ by q other of_kind there not_over (key_order key q) refl;
      }
    where
      by : (q : RowKey) (other : Row) → kind_of q ≡ kind → all q ≡ Some other → (IsBelow key q → ⊥) → (o : Ordering) → key_order key q ≡ o → cond (is_same key q) (Some row) (row_of (found ++ []) q) ≡ Some other
      by q other of_kind there not_over Less e = absurd (not_over e)
      by q other of_kind there not_over Equal e = ap (λ (o : Ordering). cond (is_eq o) (Some row) (row_of (found ++ []) q)) e ∙ sym next.its_row ∙ ap all (same_is_one key q (ap is_eq e)) ∙ there
      by q other of_kind there not_over Greater e =
          ap (λ (o : Ordering). cond (is_eq o) (Some row) (row_of (found ++ []) q)) e
          ∙ ap (λ (l : List RowEntry). row_of l q) (append-nil found)
          ∙ it.every q other of_kind there (λ over. next.least q (record { has_row = ap is_some there; same_kind = of_kind ∙ sym it.kind_is; above = over }) (above_below key q e))

  pub ends : HasNoNext all last → AreAllOf all kind found
  ends none = record {
    in_order = it.in_order;
    each = it.each_is;
    every = λ key row of_kind there. it.every key row of_kind there (λ over. none key (record { has_row = ap is_some there; same_kind = of_kind ∙ sym it.kind_is; above = over }));
  }
