-- What digits come to.
use Rattle.std.proofs.Common.{◌≡◌, ℕ, ◌+◌, ◌-◌, ◌*◌, ◌<◌, ◌≤◌, List, [], ◌∷◌, length, get_or, drop, refl, ap, ◌∙◌, arith, add-one}
use Rattle.std.proofs.Math.Seq.{drop-cons}
use Rattle.oz_command.specs.Numbers.{digits_value}

-- more digits never make it less
pub digits_value-grows : (before : ℕ) (digits : List ℕ) → before ≤ digits_value before digits
unfolding digits_value
digits_value-grows before [] = omega arith
digits_value-grows before (digit ∷ rest) =
    omega (arith, digits_value-grows (10 * before + (digit - 48)) rest)

-- the digit at a place, and those behind it
pub digits_value-step : (before : ℕ) (word : List ℕ) (i digit : ℕ) → i < length word → digit ≡ get_or word i 0
    → digits_value before (drop i word) ≡ digits_value (10 * before + (digit - 48)) (drop (i + 1) word)
unfolding digits_value
digits_value-step before word i digit lt is =
    ap (digits_value before) (drop-cons word i 0 lt) ∙ rw (add-one, is) refl
