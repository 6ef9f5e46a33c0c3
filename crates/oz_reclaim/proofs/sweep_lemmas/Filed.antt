-- Rows are filed one after another.
use Rattle.std.proofs.Common.{◌≡◌, ◌⊎◌, inl, inr, ⊎_elim, ℕ, ◌+◌, ◌<◌, Bool, true, false, ◌||◌, List, [], ◌∷◌, ◌++◌, length, get_or, take, IsSome, sym, ◌∙◌, ap, subst}
use mathlib.Core.Bool.{false≢true}
use Rattle.std.proofs.lemmas.List.{take_more}
use Rattle.std.proofs.lemmas.List.Folds.{list_any-append}
use Rattle.std.specs.List.{AllByRecursion, list_any}
use Rattle.std.specs.Ordering.{is_eq}
use Rattle.oz_cache.specs.Cache.{has_key}
use Rattle.oz_reclaim.specs.declared.sweep.notes.Note.{Note}
use Rattle.oz_reclaim.specs.sweep.Dead.{AreFiled, IsDeadRow}
use Rattle.oz_reclaim.specs.sweep.Filing.{AreFilings, Files, IsAmong, IsAtHome, IsDeletedIn, IsDeletedThere, IsTouched, touches_bucket}
use Rattle.oz_reclaim.specs.sweep.Notes.{is_snapshot_of, names, touches}
use Rattle.oz_reclaim.proofs.Between.{is_that_bucket, same_bucket}
use Rattle.oz_reclaim.proofs.ShownBlocks.{or_cases, or_first, or_second}
use Rattle.oz_reclaim.proofs.sweep_lemmas.Notes.{names_more, touches_more}
use Rattle.oz_rows.specs.declared.entry.RowEntry.{RowEntry}
use Rattle.oz_rows.specs.declared.key.RowKey.{RowKey}
use Rattle.oz_rows.specs.declared.key.RowKey.TheVariants as keys
use Rattle.oz_rows.specs.declared.operation.Change.{Change}
use Rattle.oz_rows.specs.RowMaps.{Rows, is_bucket, is_same}
use Rattle.oz_rows.specs.laws.Order.{itself}
use Rattle.oz_rows.specs.laws.Same.{same_is_one}

all_snoc : (P : Change → Type 0) (l : List Change) (x : Change) → AllByRecursion P l → P x → AllByRecursion P (l ++ x ∷ [])
all_snoc P [] x all one = (one, tt)
all_snoc P (y ∷ l) x all one = (all.0, all_snoc P l x all.1 one)

module _ (all : Rows) where
  pub files_one : (before now : List Change) (key : RowKey) (change : Change) → now ≡ before ++ change ∷ [] → change.key ≡ key → IsDeadRow all change.key change.row
      → Files all (λ (other : RowKey). other ≡ key) before now
  files_one before now key change is of right = record {
    filed = λ filed. subst (AreFiled all) (sym is) (all_snoc (λ (c : Change). IsDeadRow all c.key c.row) before change filed right);
    still = λ other has. ap (has_key other) is ∙ list_any-append (λ (c : Change). is_same c.key other) before (change ∷ []) ∙ or_first (has_key other before) _ has;
    done = λ other same. ap (has_key other) is ∙ list_any-append (λ (c : Change). is_same c.key other) before (change ∷ [])
        ∙ or_second (has_key other before) _ (or_first (is_same change.key other) _ (ap (is_same change.key) (same ∙ sym of) ∙ ap is_eq (itself change.key)));
  }

  pub files_none : (P : RowKey → Type 0) (changes : List Change) → ((key : RowKey) → P key → ⊥) → Files all P changes changes
  files_none P changes none = record { filed = λ filed. filed; still = λ key has. has; done = λ key is. absurd (none key is) }

  pub files_then : (P Q R : RowKey → Type 0) (a b c : List Change) → Files all P a b → Files all Q b c → ((key : RowKey) → R key → P key ⊎ Q key) → Files all R a c
  files_then P Q R a b c first second parts = record {
    filed = λ filed. second.filed (first.filed filed);
    still = λ key has. second.still key (first.still key has);
    done = λ key is. ⊎_elim (λ before. second.still key (first.done key before)) (second.done key) (parts key is);
  }

  pub files_for : (P Q : RowKey → Type 0) (a b : List Change) → Files all P a b → ((key : RowKey) → Q key → P key) → Files all Q a b
  files_for P Q a b files has = record { filed = files.filed; still = files.still; done = λ key is. files.done key (has key is) }

  -- one entry more
  pub files_entry : (found : List RowEntry) (i : ℕ) (entry : RowEntry) (a b c : List Change) → i < length found → entry ≡ get_or found i entry
      → Files all (IsAmong (take i found)) a b → Files all (λ (other : RowKey). other ≡ entry.key) b c → Files all (IsAmong (take (i + 1) found)) a c
  files_entry found i entry a b c within is first second = files_then (IsAmong (take i found)) (λ (other : RowKey). other ≡ entry.key) (IsAmong (take (i + 1) found)) a b c first second parts
    where
      front : take (i + 1) found ≡ take i found ++ entry ∷ []
      front = take_more found i entry within ∙ ap (λ (x : RowEntry). take i found ++ x ∷ []) (sym is)

      last : (key : RowKey) → (is_same entry.key key || false) ≡ true → key ≡ entry.key
      last key e = ⊎_elim (λ same. sym (same_is_one entry.key key same)) (λ e. absurd (false≢true e)) (or_cases (is_same entry.key key) false e)

      parts : (key : RowKey) → IsAmong (take (i + 1) found) key → IsAmong (take i found) key ⊎ (key ≡ entry.key)
      parts key e = ⊎_elim inl (λ here. inr (last key here))
          (or_cases (list_any (λ (x : RowEntry). is_same x.key key) (take i found)) _
          (sym (ap (list_any (λ (x : RowEntry). is_same x.key key)) front ∙ list_any-append (λ (x : RowEntry). is_same x.key key) (take i found) (entry ∷ [])) ∙ e))

  -- one note more
  pub files_named : (notes : List Note) (note : Note) (a b c : List Change) → Files all (λ (key : RowKey). names notes key ≡ true) a b → Files all (λ (other : RowKey). other ≡ note.key) b c
      → Files all (λ (key : RowKey). names (notes ++ note ∷ []) key ≡ true) a c
  files_named notes note a b c first second =
      files_then (λ (key : RowKey). names notes key ≡ true) (λ (other : RowKey). other ≡ note.key) (λ (key : RowKey). names (notes ++ note ∷ []) key ≡ true) a b c first second
      (λ key e. ⊎_elim inl (λ same. inr (sym (same_is_one note.key key same))) (or_cases (names notes key) _ (sym (names_more notes note key) ∙ e)))

  at_home : (of key : RowKey) (v b : List ℕ) → is_snapshot_of v b of ≡ true → IsSome (all key) → ((w c : List ℕ) → is_bucket v b w c ≡ true → IsDeletedIn all w c key) → IsAtHome all of key
  at_home (keys.Snapshot w c n) key v b e there deleted = deleted w c e
  at_home of key v b e there deleted = absurd (false≢true e)

  pub files_touched : (notes : List Note) (note : Note) (a b c : List Change) → Files all (IsTouched all notes) a b → Files all (IsAtHome all note.key) b c → Files all (IsTouched all (notes ++ note ∷ [])) a c
  files_touched notes note a b c first second = files_then (IsTouched all notes) (IsAtHome all note.key) (IsTouched all (notes ++ note ∷ [])) a b c first second parts
    where
      parts : (key : RowKey) → IsTouched all (notes ++ note ∷ []) key → IsTouched all notes key ⊎ IsAtHome all note.key key
      parts (keys.Deleted v b owner k local) it = ⊎_elim
          (λ before. inl (it.0, before))
          (λ here. inr (at_home note.key (keys.Deleted v b owner k local) v b here it.0
          (λ w c same. let is = same_bucket v b w c same in (it.0, is_that_bucket w c v b (sym is.volume) (sym is.bucket)))))
          (or_cases (touches notes v b) _ (sym (touches_more notes note v b) ∙ it.1))
      parts key it = absurd (false≢true it.1)

  -- one note more, of a bucket of which there were notes before
  pub files_seen : (notes : List Note) (note : Note) (a b : List Change) → Files all (IsTouched all notes) a b → touches_bucket notes note.key ≡ true → Files all (IsTouched all (notes ++ note ∷ [])) a b
  files_seen notes note a b files seen = files_for (IsTouched all notes) (IsTouched all (notes ++ note ∷ [])) a b files parts
    where
      same : (of : RowKey) (v c : List ℕ) → is_snapshot_of v c of ≡ true → touches_bucket notes of ≡ true → touches notes v c ≡ true
      same (keys.Snapshot w d n) v c e seen = let is = same_bucket v c w d e in subst (λ (x : List ℕ). touches notes x c ≡ true) (sym is.volume) (subst (λ (y : List ℕ). touches notes w y ≡ true) (sym is.bucket) seen)
      same of v c e seen = absurd (false≢true e)

      parts : (key : RowKey) → IsTouched all (notes ++ note ∷ []) key → IsTouched all notes key
      parts (keys.Deleted v b owner k local) it = ⊎_elim
          (λ before. (it.0, before))
          (λ here. (it.0, same note.key v b here seen))
          (or_cases (touches notes v b) _ (sym (touches_more notes note v b) ∙ it.1))
      parts key it = absurd (false≢true it.1)

  -- all of them
  pub are_filings : (notes : List Note) (is_new : Bool) (a b c d : List Change) → a ≡ [] → Files all (λ (key : RowKey). names notes key ≡ true) a b → Files all (IsTouched all notes) b c
      → Files all (λ (key : RowKey). (is_new ≡ true) × IsDeletedThere all key) c d → AreFilings all notes is_new d
  are_filings notes is_new a b c d none named touched every = record {
    filed = every.filed (touched.filed (named.filed (subst (AreFiled all) (sym none) tt)));
    named = λ key is. every.still key (touched.still key (named.done key is));
    touched = λ key is. every.still key (touched.done key is);
    every = λ new key is. every.done key (new, is);
  }
