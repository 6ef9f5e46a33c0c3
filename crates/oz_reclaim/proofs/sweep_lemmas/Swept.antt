-- What the changes of a sweep make of its dead rows.
use Rattle.std.proofs.Common.{◌≡◌, ⊎_elim, Bool, true, false, ◌||◌, List, [], ◌∷◌, Option, None, Some, IsSome, is_some, cond, refl, sym, ◌∙◌, ap, subst}
use mathlib.Core.Bool.{false≢true}
use Rattle.oz_cache.specs.Cache.{has_key}
use Rattle.oz_reclaim.specs.declared.sweep.notes.Note.{Note}
use Rattle.oz_reclaim.specs.sweep.Dead.{AreFiled, HasDead, IsDead, IsDeadRow}
use Rattle.oz_reclaim.specs.sweep.Filing.{AreFilings}
use Rattle.oz_reclaim.specs.sweep.Kept.{AreRight, AreRightBut, Sets}
use Rattle.oz_reclaim.specs.sweep.Notes.{names, touches_home}
use Rattle.oz_reclaim.specs.sweep.Swept.{IsSwept, IsSweptBut}
use Rattle.oz_reclaim.specs.sweep.View.{SweepView, dead_of}
use Rattle.oz_reclaim.proofs.ShownBlocks.{or_cases}
use Rattle.oz_rows.specs.declared.entry.RowEntry.{RowEntry}
use Rattle.oz_rows.specs.declared.key.RowKey.{RowKey}
use Rattle.oz_rows.specs.declared.key.RowKey.TheVariants as keys
use Rattle.oz_rows.specs.declared.operation.Change.{Change}
use Rattle.oz_rows.specs.declared.row.Row.{Row}
use Rattle.oz_rows.specs.Rows.{kind_of}
use Rattle.oz_rows.specs.RowMaps.{Rows, is_same, row_after, row_of}
use Rattle.oz_rows.specs.laws.Same.{same_is_one}

none_is : {P : Type 0} {row : Row} → None ≡ Some row → P
none_is e = absurd (false≢true (ap is_some e))

untouched : (changes : List Change) (key : RowKey) (row : Option Row) → has_key key changes ≡ false → row_after changes key row ≡ row
untouched [] key row e = refl
untouched (change ∷ changes) key row e = by (is_same change.key key) refl e (untouched changes key)
  where
    by : (t : Bool) → is_same change.key key ≡ t → (is_same change.key key || has_key key changes) ≡ false → ((row : Option Row) → has_key key changes ≡ false → row_after changes key row ≡ row)
        → row_after changes key (cond (is_same change.key key) change.row row) ≡ row
    by true same e later = absurd (false≢true (sym e ∙ ap (λ (t : Bool). t || has_key key changes) same))
    by false same e later = ap (λ (t : Bool). row_after changes key (cond t change.row row)) same ∙ later row (sym (ap (λ (t : Bool). t || has_key key changes) same) ∙ e)

module _ (all : Rows) where
  pub kind_of_dead : (key : RowKey) (row : Row) → IsDead all key row → kind_of key ≡ 5
  kind_of_dead (keys.Deleted v b o k l) row dead = refl
  kind_of_dead key row dead = absurd dead

  after_filed : (changes : List Change) (key : RowKey) (row : Option Row) → AreFiled all changes → has_key key changes ≡ true → IsDeadRow all key (row_after changes key row)
  after_filed [] key row filed e = absurd (false≢true e)
  after_filed (change ∷ changes) key row filed e = by (has_key key changes) refl e (after_filed changes key)
    where
      last : is_same change.key key ≡ true → has_key key changes ≡ false → IsDeadRow all key (row_after changes key (cond (is_same change.key key) change.row row))
      last same none =
          subst (IsDeadRow all key) (sym (untouched changes key _ none ∙ ap (λ (t : Bool). cond t change.row row) same))
          (subst (λ (k : RowKey). IsDeadRow all k change.row) (same_is_one change.key key same) filed.0)

      by : (t : Bool) → has_key key changes ≡ t → (is_same change.key key || has_key key changes) ≡ true
          → ((row : Option Row) → AreFiled all changes → has_key key changes ≡ true → IsDeadRow all key (row_after changes key row)) → IsDeadRow all key (row_after changes key (cond (is_same change.key key) change.row row))
      by true has e later = later _ filed.1 has
      by false none e later = last (⊎_elim (λ same. same) (λ has. absurd (false≢true (sym none ∙ has))) (or_cases (is_same change.key key) _ e)) none

  module _ (notes : List Note) (sweep : SweepView) (is : IsSweptBut notes all sweep) (changes : List Change) (are : AreFilings all notes sweep.is_new changes) where
    filed_now : (key : RowKey) → IsDeadRow all key (row_after changes key (dead_of sweep key))
    filed_now key = by (has_key key changes) refl
      where
        not_named : has_key key changes ≡ false → names notes key ≡ false
        not_named none = by_test (names notes key) refl
          where
            by_test : (t : Bool) → names notes key ≡ t → names notes key ≡ false
            by_test false e = e
            by_test true e = absurd (false≢true (sym none ∙ are.named key e))

        not_touched : has_key key changes ≡ false → IsSome (all key) → touches_home notes key ≡ false
        not_touched none there = by_test (touches_home notes key) refl
          where
            by_test : (t : Bool) → touches_home notes key ≡ t → touches_home notes key ≡ false
            by_test false e = e
            by_test true e = absurd (false≢true (sym none ∙ are.touched key (there, e)))

        -- a row that isn't there
        of_none : has_key key changes ≡ false → all key ≡ None → (o : Option Row) → dead_of sweep key ≡ o → IsDeadRow all key o
        of_none none absent None e = λ row has. none_is (sym absent ∙ has.0)
        of_none none absent (Some row) e = none_is (sym absent ∙ (is.there key row e (not_named none)).0)

        -- nothing was looked at
        of_new : has_key key changes ≡ false → IsSome (all key) → sweep.is_new ≡ true → (o : Option Row) → dead_of sweep key ≡ o → IsDeadRow all key o
        of_new none there new None e = λ row has. absurd (false≢true (sym none ∙ are.every new key (there, kind_of_dead key row has.1)))
        of_new none there new (Some row) e = absurd (false≢true (sym none ∙ are.every new key (there, (is.there key row e (not_named none)).1)))

        of_old : has_key key changes ≡ false → IsSome (all key) → (t : Bool) → sweep.is_new ≡ t → IsDeadRow all key (dead_of sweep key)
        of_old none there true e = of_new none there e (dead_of sweep key) refl
        of_old none there false e = is.filed e key (not_named none) (not_touched none there)

        of_row : has_key key changes ≡ false → (o : Option Row) → all key ≡ o → IsDeadRow all key (dead_of sweep key)
        of_row none None e = of_none none e (dead_of sweep key) refl
        of_row none (Some row) e = of_old none (ap is_some e) sweep.is_new refl

        by : (t : Bool) → has_key key changes ≡ t → IsDeadRow all key (row_after changes key (dead_of sweep key))
        by true has = after_filed changes key (dead_of sweep key) are.filed has
        by false none = subst (IsDeadRow all key) (sym (untouched changes key (dead_of sweep key) none)) (of_row none (all key) refl)

    pub swept_now : (now : SweepView) → ((key : RowKey) → dead_of now key ≡ row_after changes key (dead_of sweep key)) → IsSwept now all
    swept_now now told = λ key. subst (IsDeadRow all key) (sym (told key)) (filed_now key)

  -- what has the dead rows has them up to any index
  pub swept_to : (sweep : SweepView) (notes : List Note) → IsSwept sweep all → AreRight all sweep.sets → IsSweptBut notes all sweep
  swept_to sweep notes swept right = record {
    filed = λ old key unnamed untouched. swept key;
    there = λ key row e unnamed. by key row (subst (IsDeadRow all key) e (swept key));
    sets = λ v b untouched. right v b;
  }
    where
      by : (key : RowKey) (row : Row) → HasDead all key row → (all key ≡ Some row) × (kind_of key ≡ 5)
      by key row has = (has.0, kind_of_dead key row has.1)

  -- other sets that are right
  pub other_sets : (notes : List Note) (sweep : SweepView) (sets : Sets) → IsSweptBut notes all sweep → AreRightBut notes all sets → IsSweptBut notes all (record sweep { sets = sets })
  other_sets notes sweep sets is right = record { filed = is.filed; there = is.there; sets = right }

  -- nor does it matter what is noted and ready
  pub same_dead : (notes others : List Note) (sweep now : SweepView) → IsSweptBut notes all sweep → notes ≡ others → now.dead ≡ sweep.dead → now.sets ≡ sweep.sets → now.is_new ≡ sweep.is_new → IsSweptBut others all now
  same_dead notes others sweep now is notes_are dead sets is_new =
      let here : IsSweptBut others all sweep = subst (λ (l : List Note). IsSweptBut l all sweep) notes_are is in
      record {
        filed = λ old key unnamed untouched. subst (λ (l : List RowEntry). IsDeadRow all key (row_of l key)) (sym dead) (here.filed (sym is_new ∙ old) key unnamed untouched);
        there = λ key row e unnamed. here.there key row (ap (λ (l : List RowEntry). row_of l key) (sym dead) ∙ e) unnamed;
        sets = subst (AreRightBut others all) (sym sets) here.sets;
      }
