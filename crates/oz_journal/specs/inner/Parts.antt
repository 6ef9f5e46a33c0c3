-- What is left of a record that comes to a journal, where a stop comes in the middle.
use Rattle.std.specs.Prelude.{◌⊎◌, ℕ, ◌+◌, List, length}
use Rattle.oz_world.specs.Disk.{Torn, overwritten}

-- A part of what a record behind a gate comes to: of the record while the gate stays as it was, or of the gate once
-- the record stands.
abbrev pub IsPartOf : ℕ → List ℕ → List ℕ → List ℕ → Type 0
IsPartOf gate framed bytes left =
    Torn (gate + 1) (length framed) bytes left ⊎ Torn gate 1 (overwritten (gate + 1) framed bytes) left
