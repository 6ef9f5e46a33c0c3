-- The number that a program ends with.
use Rattle.std.specs.Prelude.{ℕ}
use Rattle.oz_headline.specs.declared.status.Status.{Status}
use Rattle.oz_headline.specs.declared.status.Status.TheVariants.{Done, Script, Words, Read, Unwritten, Disk, Damaged}
use Rattle.oz_headline.specs.declared.status.Status.TheVariants.{OutOfMemory}

abbrev pub status_number : Status → ℕ
status_number Done = 0
status_number Script = 1
status_number Words = 2
status_number Read = 3
status_number Unwritten = 4
status_number Disk = 5
status_number Damaged = 6
status_number OutOfMemory = 7
