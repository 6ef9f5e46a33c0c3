-- Which lines of a script wait for which. Lines are given by their places among all lines, counted from 0.
use Rattle.std.specs.Prelude.{◌≡◌, ◌+◌, ◌⊎◌, ℕ, List, Some}
use Rattle.std.specs.List.{slice_get}
use Rattle.std.specs.Option.{IsSomeAnd}
use Rattle.oz_script.specs.declared.lines.script.Line.{Line}

-- A line needs another: the one before of its client, or the one that its `after` names.
abbrev pub Needs : Line → Line → Type 0
Needs line other =
    ((other.client ≡ line.client) × (other.number + 1 ≡ line.number)) ⊎ (line.after ≡ Some (other.client, other.number))

-- The line at one place waits for the line at another.
abbrev pub WaitsFor : List Line → ℕ → ℕ → Type 0
WaitsFor lines from to =
    IsSomeAnd (slice_get lines from) (λ line. IsSomeAnd (slice_get lines to) (λ other. Needs line other))
