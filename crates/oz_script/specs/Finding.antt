-- For private calls: the places of lines, by the numbers of their clients and of themselves.
use Rattle.std.specs.Prelude.{◌≡◌, ◌-◌, ◌==◌, ◌&&◌, ℕ, Bool, List, Option, Some}
use Rattle.std.specs.List.{slice_get}
use Rattle.std.specs.Option.{IsSomeAnd, option_and_then}
use Rattle.oz_script.specs.declared.circles.waits.Waits.{Waits}
use Rattle.oz_script.specs.declared.lines.script.Line.{Line}

-- a client and the number of a line of it
abbrev pub is_same_name : (ℕ × ℕ) → (ℕ × ℕ) → Bool
is_same_name one other = one.0 == other.0 && one.1 == other.1

abbrev pub IsNamed : List Line → ℕ → (ℕ × ℕ) → Type 0
IsNamed lines place name = IsSomeAnd (slice_get lines place) (λ line. (line.client ≡ name.0) × (line.number ≡ name.1))

-- each line is found by its name, and nothing else is
pub record FindsLines (lines : List Line) (find : (ℕ × ℕ) → Option ℕ) : Type 0 where
  pub found : (name : ℕ × ℕ) (place : ℕ) → find name ≡ Some place → IsNamed lines place name
  pub all : (name : ℕ × ℕ) (place : ℕ) → IsNamed lines place name → find name ≡ Some place

-- what a line waits for, by places
abbrev pub waits_of : ((ℕ × ℕ) → Option ℕ) → Line → Waits
waits_of find line = record {
  client = line.client;
  before = find (line.client, line.number - 1);
  after = option_and_then find line.after;
}
