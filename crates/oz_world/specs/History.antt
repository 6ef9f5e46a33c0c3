-- A memory disk's history in the words of its record.
use Rattle.std.specs.Prelude.{ℕ, List}
use Rattle.oz_world.specs.declared.history.Change.{Change}
use Rattle.oz_world.specs.declared.history.History.{History}
use Rattle.oz_world.specs.Disk.{Images}
use Rattle.oz_world.specs.Record.{images_since, left_by}

-- what a stop may leave at each moment
abbrev pub images_of : History → Images
images_of history = images_since history.first.items history.entries.items

-- what is left where this part of each change came about that no sync followed
abbrev pub left_of : (Change → List ℕ → List ℕ) → History → List ℕ
left_of part history = left_by part history.first.items history.entries.items
