-- The first place at which something passes a test, or the length.
use Rattle.std.proofs.Common.{◌≡◌, ℕ, ◌<◌, ◌≤◌, Bool, true, false, cond, List, length, refl, sym, arith}
use Rattle.std.specs.Prelude.{not, nat_lt, Option, None, Some, unwrap_or}
use Rattle.std.specs.List.{position, position_or_len}
use Rattle.std.proofs.lemmas.Bool.{ltb-true, ltb-false}
use Rattle.std.proofs.lemmas.List.Sums.{prefix_len-le-length}

abbrev place : ℕ → Bool → Option ℕ
place a below = cond below (Some a) None

position_some-at : (a l n : ℕ) (below : Bool) → nat_lt a l ≡ below → place a below ≡ Some n → (n ≡ a) × (a < l)
position_some-at a l n true e h = (cc, ltb-true a l e)
position_some-at a l n false e h = absurd cc

position_none-at : (a l : ℕ) (below : Bool) → nat_lt a l ≡ below → place a below ≡ None → l ≤ a
position_none-at a l true e h = absurd cc
position_none-at a l false e h = ltb-false a l e

pub position_else : {A : Type 0} (test : A → Bool) (xs : List A) (found : Option ℕ) → found ≡ position test xs → unwrap_or found (length xs) ≡ position_or_len test xs
position_else test xs None h =
    let past : length xs ≤ position_or_len test xs = position_none-at (position_or_len test xs) (length xs) (nat_lt (position_or_len test xs) (length xs)) refl (sym h) in
    omega (arith, past, prefix_len-le-length (λ x. not (test x)) xs)
position_else test xs (Some n) h =
    (position_some-at (position_or_len test xs) (length xs) n (nat_lt (position_or_len test xs) (length xs)) refl (sym h)).0

pub place_within : {A : Type 0} (test : A → Bool) (xs : List A) → position_or_len test xs ≤ length xs
place_within test xs = prefix_len-le-length (λ x. not (test x)) xs
