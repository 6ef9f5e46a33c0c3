-- A sweep goes on with the rows.
use Rattle.std.proofs.Common.{◌≡◌, ℕ, ◌≤◌, nat_le, Bool, true, false, ◌||◌, List, [], ◌∷◌, Option, None, Some, IfSome, map, filter, cond, refl, sym, ◌∙◌, ap, arith}
use mathlib.Core.Bool.{false≢true}
use Rattle.std.proofs.lemmas.Bool.Decides.{nat_tests}
use Rattle.std.specs.BTreeSet.{BTreeSet}
use Rattle.std.specs.List.{list_any}
use Rattle.oz_cache.specs.Cache.{has_key}
use Rattle.oz_decision.specs.Walking.{is_live}
use Rattle.oz_fields.specs.declared.block.Block.{Block}
use Rattle.oz_reclaim.specs.declared.sweep.notes.Note.{Note}
use Rattle.oz_reclaim.specs.sweep.Changes.{DifferByNotes, SnapshotKeysStay}
use Rattle.oz_reclaim.specs.sweep.Dead.{HasDead, IsDeadRow}
use Rattle.oz_reclaim.specs.sweep.Kept.{AreKept, IsKept, set_of}
use Rattle.oz_reclaim.specs.sweep.Notes.{is_noted, is_snapshot_of, names, note_of, notes_of, touches, touches_home, up_to}
use Rattle.oz_reclaim.specs.sweep.Swept.{IsSweptBut}
use Rattle.oz_reclaim.specs.sweep.View.{SweepView, dead_of}
use Rattle.oz_reclaim.proofs.Between.{bucket_itself}
use Rattle.oz_rows.specs.declared.key.RowKey.{RowKey}
use Rattle.oz_rows.specs.declared.key.RowKey.TheVariants as keys
use Rattle.oz_rows.specs.declared.operation.Change.{Change}
use Rattle.oz_rows.specs.declared.row.Row.{Row}
use Rattle.oz_rows.specs.Rows.{kind_of}
use Rattle.oz_rows.specs.RowMaps.{Rows, after_changes, is_same, row_after}
use Rattle.oz_rows.specs.laws.Same.{same_is_one}

-- ---- what later notes don't say, earlier ones don't either

later_too : (n upto later : ℕ) → upto ≤ later → nat_le n upto ≡ true → nat_le n later ≡ true
later_too n upto later le e = grind (arith, nat_tests, le, e)

or_left : (a b : Bool) → (a || b) ≡ false → a ≡ false
or_left false b e = refl
or_left true b e = e

or_right : (a b : Bool) → (a || b) ≡ false → b ≡ false
or_right false b e = e
or_right true b e = absurd (false≢true (sym e))

module _ (P : Note → Bool) (upto later : ℕ) (le : upto ≤ later) where
  pub none_earlier : (notes : List Note) → list_any P (up_to later notes) ≡ false → list_any P (up_to upto notes) ≡ false
  none_earlier [] e = refl
  none_earlier (x ∷ notes) e = by (nat_le x.index upto) refl (nat_le x.index later) refl e (none_earlier notes)
    where
      by : (t : Bool) → nat_le x.index upto ≡ t → (u : Bool) → nat_le x.index later ≡ u → list_any P (cond u (x ∷ up_to later notes) (up_to later notes)) ≡ false
          → (list_any P (up_to later notes) ≡ false → list_any P (up_to upto notes) ≡ false) → list_any P (cond t (x ∷ up_to upto notes) (up_to upto notes)) ≡ false
      by true f true g e rest = ap (λ (t : Bool). t || list_any P (up_to upto notes)) (or_left (P x) _ e) ∙ rest (or_right (P x) _ e)
      by true f false g e rest = absurd (false≢true (sym g ∙ later_too x.index upto later le f))
      by false f true g e rest = rest (or_right (P x) _ e)
      by false f false g e rest = rest e

-- notes of no snapshot of the bucket name none of them
none_named : (notes : List Note) (v b : List ℕ) (n : ℕ) → touches notes v b ≡ false → names notes (keys.Snapshot v b n) ≡ false
none_named [] v b n e = refl
none_named (x ∷ notes) v b n e = by (is_same x.key (keys.Snapshot v b n)) refl (none_named notes v b n (or_right (is_snapshot_of v b x.key) _ e))
  where
    by : (t : Bool) → is_same x.key (keys.Snapshot v b n) ≡ t → names notes (keys.Snapshot v b n) ≡ false → (is_same x.key (keys.Snapshot v b n) || names notes (keys.Snapshot v b n)) ≡ false
    by false same rest = ap (λ (t : Bool). t || names notes (keys.Snapshot v b n)) same ∙ rest
    by true same rest = absurd (false≢true
        (sym (or_left (is_snapshot_of v b x.key) _ e) ∙ ap (is_snapshot_of v b) (same_is_one x.key (keys.Snapshot v b n) same) ∙ bucket_itself v b))

-- ---- rows that differ by notes

module _ (notes : List Note) (before now : Rows) (differ : DifferByNotes notes before now) where
  kept_on : (v b : List ℕ) (block : Block) → touches notes v b ≡ false → IsKept before v b block → IsKept now v b block
  kept_on v b block none it =
      let unnamed = none_named notes v b it.number none in
      record {
        number = it.number;
        name = it.name;
        live = ap is_live (differ.rows (keys.Snapshot v b it.number) refl unnamed) ∙ it.live;
        stands = record { row = it.stands.row; there = differ.keys v b it.name it.number unnamed ∙ it.stands.there; has = it.stands.has };
      }

  kept_back : (v b : List ℕ) (block : Block) → touches notes v b ≡ false → IsKept now v b block → IsKept before v b block
  kept_back v b block none it =
      let unnamed = none_named notes v b it.number none in
      record {
        number = it.number;
        name = it.name;
        live = sym (ap is_live (differ.rows (keys.Snapshot v b it.number) refl unnamed)) ∙ it.live;
        stands = record { row = it.stands.row; there = sym (differ.keys v b it.name it.number unnamed) ∙ it.stands.there; has = it.stands.has };
      }

  dead_on : (key : RowKey) (row : Row) → names notes key ≡ false → touches_home notes key ≡ false → HasDead before key row → HasDead now key row
  dead_on (keys.Deleted v b o k l) row unnamed none dead =
      (differ.rows (keys.Deleted v b o k l) refl unnamed ∙ dead.0, (dead.1.0, dead.1.1, λ kept. dead.1.2 (kept_back v b dead.1.0 none kept)))
  dead_on key row unnamed none dead = absurd dead.1

  dead_back : (key : RowKey) (row : Row) → names notes key ≡ false → touches_home notes key ≡ false → HasDead now key row → HasDead before key row
  dead_back (keys.Deleted v b o k l) row unnamed none dead =
      (sym (differ.rows (keys.Deleted v b o k l) refl unnamed) ∙ dead.0, (dead.1.0, dead.1.1, λ kept. dead.1.2 (kept_on v b dead.1.0 none kept)))
  dead_back key row unnamed none dead = absurd dead.1

  filed_on : (key : RowKey) (row : Option Row) → names notes key ≡ false → touches_home notes key ≡ false → IsDeadRow before key row → IsDeadRow now key row
  filed_on key None unnamed none right = λ row dead. right row (dead_back key row unnamed none dead)
  filed_on key (Some row) unnamed none right = dead_on key row unnamed none right

  noted_kind : (key : RowKey) → kind_of key ≡ 5 → is_noted key ≡ true
  noted_kind (keys.Deleted v b o k l) e = refl
  noted_kind (keys.Snapshot v b n) e = refl
  noted_kind (keys.Volume v) e = absurd (omega (arith, e))
  noted_kind (keys.Bucket v b) e = absurd (omega (arith, e))
  noted_kind (keys.Key v b k) e = absurd (omega (arith, e))
  noted_kind (keys.Open v b k n) e = absurd (omega (arith, e))
  noted_kind (keys.SnapshotKey v b n k) e = absurd (omega (arith, e))
  noted_kind (keys.Renamed v b o l) e = absurd (omega (arith, e))
  noted_kind (keys.Stripe n) e = absurd (omega (arith, e))

  set_on : (v b : List ℕ) (o : Option (BTreeSet Block)) → touches notes v b ≡ false → IfSome o (AreKept before v b) → IfSome o (AreKept now v b)
  set_on v b None none right = tt
  set_on v b (Some set) none right = λ block. ((λ e. kept_on v b block none ((right block).0 e)), λ kept. (right block).1 (kept_back v b block none kept))

  pub swept_on : (sweep : SweepView) → IsSweptBut notes before sweep → IsSweptBut notes now sweep
  swept_on sweep is = record {
    filed = λ old key unnamed none. filed_on key (dead_of sweep key) unnamed none (is.filed old key unnamed none);
    there = λ key row e unnamed. let at = is.there key row e unnamed in (differ.rows key (noted_kind key at.1) unnamed ∙ at.0, at.1);
    sets = λ v b none. set_on v b (set_of sweep.sets v b) none (is.sets v b none);
  }

touches_earlier : (notes : List Note) (upto later : ℕ) → upto ≤ later → (key : RowKey) → touches_home (up_to later notes) key ≡ false → touches_home (up_to upto notes) key ≡ false
touches_earlier notes upto later le (keys.Deleted v b o k l) e = none_earlier (λ (note : Note). is_snapshot_of v b note.key) upto later le notes e
touches_earlier notes upto later le key e = refl

-- fewer notes say more
pub less_but : (all : Rows) (sweep : SweepView) (notes : List Note) (upto later : ℕ) → upto ≤ later → IsSweptBut (up_to upto notes) all sweep → IsSweptBut (up_to later notes) all sweep
less_but all sweep notes upto later le is = record {
  filed = λ old key unnamed none. is.filed old key (none_earlier (λ (note : Note). is_same note.key key) upto later le notes unnamed) (touches_earlier notes upto later le key none);
  there = λ key row e unnamed. is.there key row e (none_earlier (λ (note : Note). is_same note.key key) upto later le notes unnamed);
  sets = λ v b none. is.sets v b (none_earlier (λ (note : Note). is_snapshot_of v b note.key) upto later le notes none);
}

-- ---- the notes of changes

no_key : (changes : List Change) (key : RowKey) → is_noted key ≡ true → names (notes_of changes) key ≡ false → has_key key changes ≡ false
no_key [] key noted e = refl
no_key (x ∷ changes) key noted e = by (is_same x.key key) refl (is_noted x.key) refl e (no_key changes key noted)
  where
    by : (t : Bool) → is_same x.key key ≡ t → (u : Bool) → is_noted x.key ≡ u
        → names (map note_of (cond u (x ∷ filter (λ (change : Change). is_noted change.key) changes) (filter (λ (change : Change). is_noted change.key) changes))) key ≡ false
        → (names (notes_of changes) key ≡ false → has_key key changes ≡ false) → (is_same x.key key || has_key key changes) ≡ false
    by true same true f e rest = absurd (false≢true (sym (or_left (is_same x.key key) _ e) ∙ same))
    by true same false f e rest = absurd (false≢true (sym f ∙ ap is_noted (same_is_one x.key key same) ∙ noted))
    by false same true f e rest = ap (λ (t : Bool). t || has_key key changes) same ∙ rest (or_right (is_same x.key key) _ e)
    by false same false f e rest = ap (λ (t : Bool). t || has_key key changes) same ∙ rest e

no_change : (changes : List Change) (key : RowKey) (row : Option Row) → has_key key changes ≡ false → row_after changes key row ≡ row
no_change [] key row e = refl
no_change (change ∷ changes) key row e = by (is_same change.key key) refl e (no_change changes key)
  where
    by : (t : Bool) → is_same change.key key ≡ t → (is_same change.key key || has_key key changes) ≡ false → ((row : Option Row) → has_key key changes ≡ false → row_after changes key row ≡ row)
        → row_after changes key (cond (is_same change.key key) change.row row) ≡ row
    by true same e later = absurd (false≢true (sym e ∙ ap (λ (t : Bool). t || has_key key changes) same))
    by false same e later = ap (λ (t : Bool). row_after changes key (cond t change.row row)) same ∙ later row (sym (ap (λ (t : Bool). t || has_key key changes) same) ∙ e)

pub noted_changes : (changes : List Change) (before : Rows) → SnapshotKeysStay (notes_of changes) before (after_changes changes before) → DifferByNotes (notes_of changes) before (after_changes changes before)
noted_changes changes before stay = record {
  rows = λ key noted unnamed. no_change changes key (before key) (no_key changes key noted unnamed);
  keys = stay;
}
