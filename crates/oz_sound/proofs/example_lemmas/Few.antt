-- Things that have keys of their own are at most as many as the keys that have rows.
use Rattle.std.proofs.Common.{◌≡◌, ◌≢◌, ◌≤◌, ℕ, Bool, true, false, List, [], ◌∷◌, length, map, suc, Some, IsSome, cond, refl, sym, ◌∙◌, ap, subst, inl, inr, arith}
use mathlib.Core.Bool.{false≢true}
use Rattle.std.specs.List.{AllByRecursion}
use Rattle.oz_rows.specs.declared.key.RowKey.{RowKey}
use Rattle.oz_rows.specs.declared.entry.RowEntry.{RowEntry}
use Rattle.oz_rows.specs.Counts.{AllDiffer}
use Rattle.oz_sound.specs.Sound.{AtMost}
use Rattle.oz_rows.specs.RowMaps.{row_of, is_same}
use Rattle.oz_sound.proofs.example_lemmas.Keys.{same_is_one}
use Rattle.oz_sound.proofs.example_lemmas.Lists.{IsAmong, no_more}

-- the keys that pass a test
unfoldable pub keys_passing : (RowKey → Bool) → List RowEntry → List RowKey
keys_passing test [] = []
keys_passing test (x ∷ l) = cond (test x.key) (x.key ∷ keys_passing test l) (keys_passing test l)

module _ (test : RowKey → Bool) where
  among : (rows : List RowEntry) (key : RowKey) → test key ≡ true → IsSome (row_of rows key) → IsAmong key (keys_passing test rows)
  unfolding keys_passing
  among [] key pass some = absurd (false≢true some)
  among (x ∷ l) key pass some = by (is_same x.key key) refl (among l key pass)
    where
      behind : (t : Bool) → IsAmong key (keys_passing test l) → IsAmong key (cond t (x.key ∷ keys_passing test l) (keys_passing test l))
      behind true later = inr later
      behind false later = later

      by : (t : Bool) → is_same x.key key ≡ t → (IsSome (row_of l key) → IsAmong key (keys_passing test l)) → IsAmong key (cond (test x.key) (x.key ∷ keys_passing test l) (keys_passing test l))
      by true e later =
          let is : x.key ≡ key = same_is_one x.key key e in
          subst (λ (t : Bool). IsAmong key (cond t (x.key ∷ keys_passing test l) (keys_passing test l))) (sym (ap test is ∙ pass)) (inl (sym is))
      by false e later = behind (test x.key) (later (subst (λ (t : Bool). IsSome (cond t (Some x.row) (row_of l key))) e some))

  module _ {A : Type 0} (to : A → RowKey) (one : (a b : A) → to a ≡ to b → a ≡ b) (pass : (a : A) → test (to a) ≡ true) (rows : List RowEntry) (Holds : A → Type 0) (there : (a : A) → Holds a → IsSome (row_of rows (to a))) where
    differ : (a : A) (items : List A) → AllByRecursion (λ b. a ≢ b) items → AllByRecursion (λ key. to a ≢ key) (map to items)
    differ a [] all = tt
    differ a (b ∷ items) all = (λ e. all.0 (one a b e), differ a items all.1)

    all_differ : (items : List A) → AllDiffer items → AllDiffer (map to items)
    all_differ [] all = tt
    all_differ (a ∷ items) all = (differ a items all.0, all_differ items all.1)

    each : (items : List A) → AllByRecursion Holds items → AllByRecursion (λ key. IsAmong key (keys_passing test rows)) (map to items)
    each [] all = tt
    each (a ∷ items) all = (among rows (to a) (pass a) (there a all.0), each items all.1)

    length_map : (items : List A) → length (map to items) ≡ length items
    length_map [] = refl
    length_map (a ∷ items) = ap suc (length_map items)

    pub at_most : (count : ℕ) → length (keys_passing test rows) ≤ count → AtMost count Holds
    at_most count few items apart all =
        let most : length (map to items) ≤ length (keys_passing test rows) = no_more (map to items) (keys_passing test rows) (all_differ items apart) (each items all) in
        let same : length (map to items) ≡ length items = length_map items in
        omega arith
