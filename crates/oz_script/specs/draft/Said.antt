-- What the words of a line say: `CLIENT COMMAND` or `CLIENT after CLIENT NUMBER COMMAND`.
use Rattle.std.specs.Prelude.{ℕ, List, [], ◌∷◌, codes, Option, None, Some, if◌then◌else◌}
use Rattle.std.specs.Str.{bytes_eq}
use Rattle.oz_command.specs.Commands.{◌>>=◌, command_of}
use Rattle.oz_command.specs.Numbers.{number_in}
use Rattle.oz_command.specs.Words.{is_client_name}
use Rattle.oz_script.specs.declared.draft.said.Said.{Said}
use Rattle.oz_script.specs.declared.draft.said.TheConstants.{GREATEST_AFTER}

-- the words behind `after CLIENT`
abbrev pub after_line : List ℕ → List ℕ → List ℕ → List (List ℕ) → Option Said
after_line client other number words = do
  number ← number_in 0 GREATEST_AFTER number
  command ← command_of words
  Some (record { client = client; after = Some (other, number); command = command })

-- the words behind `after`
unfoldable pub said_after : List ℕ → List (List ℕ) → Option Said
said_after client [] = None
said_after client (other ∷ []) = None
said_after client (other ∷ number ∷ words) =
    if is_client_name other then after_line client other number words else None

abbrev pub plain_line : List ℕ → List (List ℕ) → Option Said
plain_line client words = do
  command ← command_of words
  Some (record { client = client; after = None; command = command })

unfoldable pub said_behind : List ℕ → List (List ℕ) → Option Said
said_behind client [] = None
said_behind client (word ∷ words) =
    if bytes_eq word (codes "after") then said_after client words else plain_line client (word ∷ words)

-- the client's name, and the words behind it
unfoldable pub said_of : List ℕ → List (List ℕ) → Option Said
said_of client words = if is_client_name client then said_behind client words else None
