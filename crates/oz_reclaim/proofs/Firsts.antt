-- A walk from key to key finds the first marked snapshot.
use Rattle.std.proofs.Common.{◌≡◌, ℕ, true, false, List, Option, Some, IsSome, refl, sym, ◌∙◌, ap}
use mathlib.Core.Bool.{false≢true}
use Rattle.std.specs.Ordering.{is_eq}
use Rattle.std.specs.declared.cmp.Ordering.{Ordering}
use Rattle.std.specs.declared.cmp.Ordering.TheVariants.{Less, Equal, Greater}
use Rattle.oz_reclaim.specs.Firsts.{IsOfSnapshot, IsMarkedKey, NoneMarked, IsFirstOf}
use Rattle.oz_reclaim.specs.Gathered.{IsLeast}
use Rattle.oz_reclaim.specs.Work.{IsFirstMarked, IsMarked, is_marked}
use Rattle.oz_rows.specs.declared.key.RowKey.{RowKey}
use Rattle.oz_rows.specs.declared.key.RowKey.TheVariants as keys
use Rattle.oz_rows.specs.declared.row.Row.{Row}
use Rattle.oz_rows.specs.Order.{key_order}
use Rattle.oz_rows.specs.RowMaps.{Rows, IsAbove, IsBelow, IsNext, HasNoNext}
use Rattle.oz_rows.specs.laws.Order.{above_below}
use Rattle.oz_rows.specs.laws.Same.{same_is_one}

is_there : (o : Option Row) → is_marked o ≡ true → IsSome o
is_there (Some row) e = refl
is_there o e = absurd (false≢true e)

-- no marked snapshot stands up to this key
pub record Passed (all : Rows) (last : RowKey) : Type 0 where
  pub kind : IsOfSnapshot last
  pub above : (key : RowKey) → IsMarkedKey all key → IsBelow last key

pub nothing_before : (all : Rows) (start : RowKey) → IsLeast start → IsOfSnapshot start → is_marked (all start) ≡ false → Passed all start
nothing_before all start least kind not = record { kind = kind; above = λ key marked. by key marked (key_order start key) refl }
  where
    by : (key : RowKey) → IsMarkedKey all key → (o : Ordering) → key_order start key ≡ o → IsBelow start key
    by key marked Less e = e
    by key marked Equal e = absurd (false≢true (sym not ∙ ap (λ k. is_marked (all k)) (same_is_one start key (ap is_eq e)) ∙ marked.1))
    by key marked Greater e = absurd (least key (marked.0 ∙ sym kind) (above_below start key e))

pub the_start : (all : Rows) (start : RowKey) → IsLeast start → IsOfSnapshot start → is_marked (all start) ≡ true → IsFirstOf all start
the_start all start least kind marked = record { marked = (kind, marked); least = λ other is. least other (is.0 ∙ sym kind) }

module _ (all : Rows) (last : RowKey) (passed : Passed all last) where
  is_above : (key : RowKey) → IsMarkedKey all key → IsAbove all last key
  is_above key marked = record { has_row = is_there (all key) marked.1; same_kind = marked.0 ∙ sym passed.kind; above = passed.above key marked }

  pub none_at_all : HasNoNext all last → NoneMarked all
  none_at_all none key marked = none key (is_above key marked)

  module _ (key : RowKey) (row : Row) (next : IsNext all last key row) where
    pub this_one : is_marked (Some row) ≡ true → IsFirstOf all key
    this_one marked = record {
      marked = (next.is_above.same_kind ∙ passed.kind, ap is_marked next.its_row ∙ marked);
      least = λ other is. next.least other (is_above other is);
    }

    pub not_this_one : is_marked (Some row) ≡ false → Passed all key
    not_this_one not = record { kind = next.is_above.same_kind ∙ passed.kind; above = λ other marked. by other marked (key_order key other) refl }
      where
        by : (other : RowKey) → IsMarkedKey all other → (o : Ordering) → key_order key other ≡ o → IsBelow key other
        by other marked Less e = e
        by other marked Equal e = absurd (false≢true (sym not ∙ sym (ap is_marked next.its_row) ∙ ap (λ k. is_marked (all k)) (same_is_one key other (ap is_eq e)) ∙ marked.1))
        by other marked Greater e = absurd (next.least other (is_above other marked) (above_below key other e))

pub no_work : (all : Rows) → NoneMarked all → (v b : List ℕ) (n : ℕ) → IsMarked all v b n → ⊥
no_work all none v b n marked = none (keys.Snapshot v b n) (refl, marked)

pub first_is : (all : Rows) (v b : List ℕ) (n : ℕ) → IsFirstOf all (keys.Snapshot v b n) → IsFirstMarked all v b n
first_is all v b n first = record { marked = first.marked.1; least = λ w c m marked. first.least (keys.Snapshot w c m) (refl, marked) }
