-- What a memory disk's record makes of its bytes.
use Rattle.std.specs.Prelude.{List, [], ◌∷◌, length, ℕ}
use Rattle.oz_world.specs.Disk.{Torn, CutShort, Same}
use Rattle.oz_world.specs.Record.{done}
use Rattle.oz_world.specs.declared.history.Change.{Change}
use Rattle.oz_world.specs.declared.history.Change.TheVariants.{Write, Cut, Sync}
use Rattle.oz_world.specs.declared.history.TimedChange.{TimedChange}

-- what a read gives after these entries
unfoldable pub contents : List ℕ → List TimedChange → List ℕ
contents bytes [] = bytes
contents bytes (entry ∷ entries) = contents (done entry.change bytes) entries

-- what a stop in the middle of a change may make of the bytes
abbrev pub step_of : Change → List ℕ → List ℕ → Type 0
step_of (Write pos others) = Torn pos (length others.items)
step_of (Cut size) = CutShort size
step_of Sync = Same
