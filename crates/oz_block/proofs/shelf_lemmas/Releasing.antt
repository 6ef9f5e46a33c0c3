-- How far slots were set free, by their numbers.
use Rattle.std.proofs.Common.{◌≡◌, ℕ, ◌+◌, ◌<◌, ◌≤◌, eqb, ◌||◌, Bool, true, false, cond, List, [], ◌∷◌, length, take, get_or, refl, sym, ap, ◌∙◌, arith}
use Rattle.std.proofs.lemmas.Bool.{false≢true}
use Rattle.std.proofs.lemmas.List.{take_more, take_all}
use Rattle.std.proofs.lemmas.List.Folds.{list_any-append}
use Rattle.oz_chunk.specs.Taken.{is_taken, Marks}
use Rattle.oz_block.specs.shelf.Release.{is_one_of}

-- these slots are free, and each other one is what it was
pub record Releases {D : Type 0} (disk now : D) (before after : List Bool) (numbers : List ℕ) : Type 0 where
  pub disk_same : now ≡ disk
  pub free : (s : ℕ) → is_taken after s ≡ cond (is_one_of numbers s) false (is_taken before s)

pub releases_none : {D : Type 0} (disk : D) (before : List Bool) → Releases disk disk before before []
releases_none disk before = record { disk_same = refl; free = λ s. refl }

turned : (x y : ℕ) → eqb x y ≡ eqb y x
turned x y = grind arith

pub releases_more : {D : Type 0} (disk between now : D) (before middle after : List Bool) (numbers : List ℕ) (i d : ℕ) → Releases disk between before middle (take i numbers) → i < length numbers → Marks (get_or numbers i d) false middle after → now ≡ between
    → Releases disk now before after (take (i + 1) numbers)
releases_more disk between now before middle after numbers i d released less marks same = let number = get_or numbers i d in record {
  disk_same = same ∙ released.disk_same;
  free = λ s.
      let any : is_one_of (take (i + 1) numbers) s ≡ (is_one_of (take i numbers) s || (eqb number s || false)) =
      ap (λ (l : List ℕ). is_one_of l s) (take_more numbers i d less) ∙ list_any-append (λ (n : ℕ). eqb n s) (take i numbers) (number ∷ []) in
      marks s
      ∙ (ap (λ (b : Bool). cond (eqb s number) false b) (released.free s)
      ∙ (both (is_one_of (take i numbers) s) (eqb s number) (eqb number s) (is_taken before s) (turned s number) ∙ ap (λ (b : Bool). cond b false (is_taken before s)) (sym any)));
} where
  both : (a e f t : Bool) → e ≡ f → cond e false (cond a false t) ≡ cond (a || (f || false)) false t
  both true true f t same = refl
  both true false f t same = refl
  both false true true t same = refl
  both false false false t same = refl
  both false true false t same = absurd (false≢true (sym same))
  both false false true t same = absurd (false≢true same)

pub releases_all : {D : Type 0} (disk now : D) (before after : List Bool) (numbers : List ℕ) (i : ℕ) → Releases disk now before after (take i numbers) → length numbers ≤ i → (s : ℕ) → is_taken after s ≡ cond (is_one_of numbers s) false (is_taken before s)
releases_all disk now before after numbers i released whole s = released.free s ∙ ap (λ (l : List ℕ). cond (is_one_of l s) false (is_taken before s)) (take_all i numbers whole)
