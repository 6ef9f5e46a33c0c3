-- What reading the words of a transfer gives.
use Rattle.std.specs.Prelude.{ℕ, List}
use Rattle.oz_cluster.specs.declared.files.words.WordsFault.{WordsFault}
use Rattle.oz_cluster.specs.declared.files.words.WordsFault.TheVariants.{At, OutOfMemory}
use Rattle.oz_cluster.specs.files.Words.{IsFirstFault}
use Rattle.oz_command.specs.declared.paths.KeyPath.{KeyPath}
use Rattle.oz_command.specs.command_line.Words.{IsFirstFault as IsFirstFaultOfRun}
use Rattle.oz_names.specs.declared.path.Parts.{Parts}

-- a key by the parts of its path
abbrev pub path_of : Parts → KeyPath
path_of parts = record { volume = parts.volume.now; bucket = parts.bucket.now; key = parts.rest.now }

-- why words weren't read
abbrev pub IsFault : List (List ℕ) → WordsFault → Type 0
IsFault words (At place) = IsFirstFault words place
IsFault words OutOfMemory = Unit {0}

-- the same of the words of a run
abbrev pub IsRunFault : List (List ℕ) → WordsFault → Type 0
IsRunFault words (At place) = IsFirstFaultOfRun words place
IsRunFault words OutOfMemory = Unit {0}
