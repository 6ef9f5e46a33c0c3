-- The words of a line, between its blanks.
use Rattle.std.specs.Prelude.{ℕ, Bool, nat_lt, nat_le, ◌==◌, ◌&&◌, ◌||◌, List, [], ◌∷◌, length, filter, Option, None, Some}
use Rattle.std.specs.List.{list_all, slice_split}
use Rattle.oz_names.specs.Names.{is_digit, is_letter}
use Rattle.oz_command.specs.declared.words.TheConstants.{LONGEST_CLIENT}

-- a blank or a tab
abbrev pub is_blank : ℕ → Bool
is_blank byte = byte == 32 || byte == 9

-- from `!` to `~`
abbrev pub is_visible : ℕ → Bool
is_visible byte = nat_le 33 byte && nat_le byte 126

-- what stands between the blanks of a line
unfoldable pub words : List ℕ → List (List ℕ)
words line = filter (λ word. nat_lt 0 (length word)) (slice_split is_blank line)

-- the one word, where there is one and no other
abbrev pub only : List (List ℕ) → Option (List ℕ)
only [] = None
only (word ∷ []) = Some word
only (word ∷ other ∷ rest) = None

-- a client's name; labels are named alike
abbrev pub is_client_name : List ℕ → Bool
is_client_name name = nat_le 1 (length name) && nat_le (length name) LONGEST_CLIENT
    && list_all (λ byte. is_letter byte || is_digit byte) name
