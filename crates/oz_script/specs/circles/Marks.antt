-- For private calls: which lines are marked, since the lines of a client lead to them.
use Rattle.std.specs.Prelude.{◌≡◌, ℕ, ◌+◌, ◌*◌, ◌<◌, ◌≤◌, ◌⊎◌, min, Bool, true, false, not}
use Rattle.std.specs.Prelude.{List, length, count_by, Contains, Option, None, Some}
use Rattle.std.specs.List.{slice_index_or}
use Rattle.oz_script.specs.declared.circles.waits.Waits.{Waits}
use Rattle.oz_script.specs.circles.Circles.{LeadsTo, ComesBack}
use Rattle.oz_script.specs.circles.Waiting.{IsOf, WaitsFor}

abbrev pub IsMarked : List Bool → ℕ → Type 0
IsMarked marks line = slice_index_or marks line false ≡ true

-- how many lines aren't marked
abbrev pub unmarked : List Bool → ℕ
unmarked marks = count_by (λ mark. not mark) marks

-- what a marked line waits for is marked
abbrev pub IsClosed : List Waits → List Bool → Type 0
IsClosed lines marks = (line other : ℕ) → IsMarked marks line → WaitsFor lines line other → IsMarked marks other

-- Marks this line, if it is one, and puts it on the stack unless it was marked.
pub record MarksOne (line : Option ℕ) (marks next : List Bool) (stack longer : List ℕ) : Type 0 where
  pub long : length next ≡ length marks
  pub kept : (place : ℕ) → IsMarked marks place → IsMarked next place
  pub there : (place : ℕ) → line ≡ Some place → IsMarked next place
  pub new : (place : ℕ) → IsMarked next place → IsMarked marks place ⊎ ((line ≡ Some place) × Contains longer place)
  pub on : (place : ℕ) → Contains stack place → Contains longer place
  pub only : (place : ℕ) → Contains longer place → Contains stack place ⊎ (line ≡ Some place)
  pub less : 2 * unmarked next + length longer ≤ 2 * unmarked marks + length stack

-- Marks all lines to which this one leads, and no others.
pub record MarksAll (lines : List Waits) (line : ℕ) (marks next : List Bool) : Type 0 where
  pub long : length next ≡ length marks
  pub kept : (place : ℕ) → IsMarked marks place → IsMarked next place
  pub new : (place : ℕ) → IsMarked next place → IsMarked marks place ⊎ LeadsTo (WaitsFor lines) line place
  pub first : (place : ℕ) → WaitsFor lines line place → IsMarked next place
  pub closed : IsClosed lines next

-- This is the first line of a client that comes back to itself, or none does.
abbrev pub IsFirstOf : List Waits → ℕ → Option ℕ → Type 0
IsFirstOf lines client None = (line : ℕ) → IsOf lines line client → ComesBack (WaitsFor lines) line → ⊥
IsFirstOf lines client (Some first) = IsOf lines first client × ComesBack (WaitsFor lines) first
    × ((line : ℕ) → line < first → IsOf lines line client → ComesBack (WaitsFor lines) line → ⊥)

-- the lesser of two places, of which there may be one or none
abbrev pub earlier : Option ℕ → Option ℕ → Option ℕ
earlier None other = other
earlier (Some one) None = Some one
earlier (Some one) (Some other) = Some (min one other)
