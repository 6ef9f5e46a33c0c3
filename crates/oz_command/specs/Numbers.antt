-- Numbers in decimal digits.
use Rattle.std.specs.Prelude.{ℕ, ◌+◌, ◌-◌, ◌*◌, Bool, nat_le, ◌&&◌, List, [], ◌∷◌, length, Option, None, Some, if◌then◌else◌}
use Rattle.std.specs.List.{list_all}
use Rattle.oz_names.specs.Names.{is_digit}
use Rattle.oz_command.specs.declared.numbers.TheConstants.{MOST_DIGITS}

-- what these digits come to, with digits before them that come to `before`
unfoldable pub digits_value : ℕ → List ℕ → ℕ
digits_value before [] = before
digits_value before (digit ∷ rest) = digits_value (10 * before + (digit - 48)) rest

-- some digits, and not too many
abbrev pub is_number : List ℕ → Bool
is_number word = nat_le 1 (length word) && nat_le (length word) MOST_DIGITS && list_all is_digit word

-- the number that a word says, where it is one of least to most
unfoldable pub number_in : ℕ → ℕ → List ℕ → Option ℕ
number_in least most word =
    if is_number word && nat_le least (digits_value 0 word) && nat_le (digits_value 0 word) most
    then Some (digits_value 0 word) else None
