-- Numbers of which no two are equal, and blocks.
use Rattle.std.proofs.Common.{◌≡◌, ℕ, eqb, Bool, true, false, ◌||◌, List, [], ◌∷◌, ◌++◌, refl, sym, ◌∙◌, ap, subst}
use Rattle.std.proofs.lemmas.Bool.{false≢true}
use Rattle.std.proofs.lemmas.Bool.Decides.{Decides-eqb, Decides-like, same_from_decides}
use Rattle.std.proofs.lemmas.List.Folds.{list_any-append}
use Rattle.std.proofs.lemmas.Map.Keys.{IsDistinct-cons, IsDistinct-head, IsDistinct-tail}
use Rattle.std.specs.Bool.{Decides}
use Rattle.std.specs.Cmp.{IsEquivalence}
use Rattle.std.specs.List.{AllByRecursion, IsDistinct, list_any}
use Rattle.oz_entries.specs.Node.{is_same_block}
use Rattle.oz_entries.specs.laws.Blocks.{itself, same_block}
use Rattle.oz_fields.specs.declared.block.Block.{Block}

pub or_false : (a b : Bool) → (a || b) ≡ false → (a ≡ false) × (b ≡ false)
or_false false false e = (refl, refl)
or_false false true e = absurd (false≢true (sym e))
or_false true b e = absurd (false≢true (sym e))

pub or_left : (a b : Bool) → a ≡ true → (a || b) ≡ true
or_left true b e = refl
or_left false b e = absurd (false≢true e)

pub or_right : (a b : Bool) → b ≡ true → (a || b) ≡ true
or_right true b e = refl
or_right false b e = e

-- none passes a test
pub each_fails : {X : Type 0} (test : X → Bool) (xs : List X) → list_any test xs ≡ false → AllByRecursion (λ x. test x ≡ false) xs
each_fails test [] none = tt
each_fails test (x ∷ xs) none = let both = or_false (test x) (list_any test xs) none in (both.0, each_fails test xs both.1)

pub none_passes : {X : Type 0} (test : X → Bool) (xs : List X) → AllByRecursion (λ x. test x ≡ false) xs → list_any test xs ≡ false
none_passes test [] fails = refl
none_passes test (x ∷ xs) fails = ap (λ (t : Bool). t || list_any test xs) fails.0 ∙ none_passes test xs fails.1

pub eqb_turned : (x y : ℕ) → eqb x y ≡ eqb y x
eqb_turned x y = same_from_decides (eqb x y) (eqb y x) (Decides-eqb x y) (Decides-like (eqb y x) sym sym (Decides-eqb y x))

-- a test that isn't passed
pub fails_where : (t : Bool) → (t ≡ true → ⊥) → t ≡ false
fails_where true never = absurd (never refl)
fails_where false never = refl

-- two lists without a number in both
pub distinct_append : (xs ys : List ℕ) → IsDistinct eqb xs → IsDistinct eqb ys → ((q : ℕ) → list_any (eqb q) xs ≡ true → list_any (eqb q) ys ≡ true → ⊥)
    → IsDistinct eqb (xs ++ ys)
distinct_append [] ys dx dy apart = dy
distinct_append (x ∷ xs) ys dx dy apart =
    let itself : eqb x x ≡ true = (Decides-eqb x x).1 refl in
    let own = none_passes (eqb x) xs (IsDistinct-head eqb x xs dx) in
    let others = fails_where (list_any (eqb x) ys) (apart x (or_left (eqb x x) (list_any (eqb x) xs) itself)) in
    let none : list_any (eqb x) (xs ++ ys) ≡ false = list_any-append (eqb x) xs ys ∙ (ap (λ (t : Bool). t || list_any (eqb x) ys) own ∙ others) in
    IsDistinct-cons eqb x (xs ++ ys) (each_fails (eqb x) (xs ++ ys) none)
    (distinct_append xs ys (IsDistinct-tail eqb x xs dx) dy (λ q one two. apart q (or_right (eqb q x) (list_any (eqb q) xs) one) two))

-- ---- blocks

pub same_decides : (a b : Block) → Decides (is_same_block a b) (a ≡ b)
same_decides a b = (same_block a b, λ e. subst (λ (c : Block). is_same_block a c ≡ true) e (itself a))

pub blocks_alike : IsEquivalence is_same_block
blocks_alike = record {
  refl = itself;
  symm = λ a b. same_from_decides (is_same_block a b) (is_same_block b a) (same_decides a b) (Decides-like (is_same_block b a) sym sym (same_decides b a));
  congr = λ a b c same. ap (λ (block : Block). is_same_block block c) (same_block a b same);
}
