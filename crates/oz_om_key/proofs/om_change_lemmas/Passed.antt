-- A pass down the numbers of snapshots, which carries the name that a block had.
use Rattle.std.proofs.Common.{◌≡◌, ℕ, ◌&&◌, ◌||◌, Bool, true, false, List, [], ◌∷◌, length, drop, drop-cons, get_or, ◌<◌, ◌≤◌, arith, zero, suc, None, refl, sym, ◌∙◌, ap, subst}
use Rattle.oz_decision.specs.Walking.{is_live}
use Rattle.oz_fields.specs.declared.block.Block.{Block}
use Rattle.oz_reclaim.specs.Held.{has_there, is_held, name_carried, name_or}
use Rattle.oz_rows.specs.declared.key.RowKey.TheVariants as keys
use Rattle.oz_rows.specs.RowMaps.{Rows}

module _ (all : Rows) (v b k : List ℕ) (block : Block) where
  -- what the pass knows once it went down over these numbers and found nothing
  pub record IsPassed (numbers name : List ℕ) : Type 0 where
    pub carried : name ≡ name_carried all v b block.local k numbers
    pub not_yet : is_held all v b block k numbers ≡ false

  pub at_end : all (keys.Renamed v b 0 block.local) ≡ None → IsPassed [] k
  at_end none = record { carried = ap (λ o. name_or o k) (sym none); not_yet = refl }

  module _ (number : ℕ) (numbers name : List ℕ) (passed : IsPassed numbers name) where
    -- whether this one has it
    abbrev pub has_here : List ℕ → Bool
    has_here carried = is_live (all (keys.Snapshot v b number)) && has_there block (all (keys.SnapshotKey v b number carried))

    same_test : is_held all v b block k (number ∷ numbers) ≡ has_here name
    same_test = ap (λ (t : Bool). t || has_here (name_carried all v b block.local k numbers)) passed.not_yet ∙ ap has_here (sym passed.carried)

    pub further : has_here name ≡ false → IsPassed (number ∷ numbers) (name_or (all (keys.Renamed v b number block.local)) name)
    further none = record { carried = ap (name_or (all (keys.Renamed v b number block.local))) passed.carried; not_yet = same_test ∙ none }

    pub found_here : has_here name ≡ true → is_held all v b block k (number ∷ numbers) ≡ true
    found_here e = same_test ∙ e

  -- what is found stays so further down
  pub found_below : (number : ℕ) (numbers : List ℕ) → is_held all v b block k numbers ≡ true → is_held all v b block k (number ∷ numbers) ≡ true
  found_below number numbers e = ap (λ (t : Bool). t || (is_live (all (keys.Snapshot v b number)) && has_there block (all (keys.SnapshotKey v b number (name_carried all v b block.local k numbers))))) e

  -- ---- by places in the list of numbers

  pub found_whole : (numbers : List ℕ) (i : ℕ) → is_held all v b block k (drop i numbers) ≡ true → is_held all v b block k numbers ≡ true
  found_whole numbers zero e = e
  found_whole [] (suc i) e = e
  found_whole (number ∷ numbers) (suc i) e = found_below number numbers (found_whole numbers i e)

  -- what is found at a place is found
  pub found_at : (numbers : List ℕ) (i : ℕ) (name : List ℕ) → i < length numbers → IsPassed (drop (suc i) numbers) name
      → is_live (all (keys.Snapshot v b (get_or numbers i 0))) && has_there block (all (keys.SnapshotKey v b (get_or numbers i 0) name)) ≡ true
      → is_held all v b block k numbers ≡ true
  found_at numbers i name lt passed e =
      found_whole numbers i (subst (λ (l : List ℕ). is_held all v b block k l ≡ true) (sym (drop-cons numbers i 0 lt)) (found_here (get_or numbers i 0) (drop (suc i) numbers) name passed e))

  pub found_before : (numbers : List ℕ) (n i : ℕ) (name : List ℕ) → n ≡ suc i → n ≤ length numbers → IsPassed (drop n numbers) name
      → is_live (all (keys.Snapshot v b (get_or numbers i 0))) && has_there block (all (keys.SnapshotKey v b (get_or numbers i 0) name)) ≡ true
      → is_held all v b block k numbers ≡ true
  found_before numbers n i name next few passed e = found_at numbers i name (omega (arith, next, few)) (subst (λ m. IsPassed (drop m numbers) name) next passed) e
