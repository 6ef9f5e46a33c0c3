-- The number that a transfer ends with.
use Rattle.std.specs.Prelude.{ℕ}
use Rattle.oz_cluster.specs.declared.files.outcome.Outcome.{Outcome}
use Rattle.oz_cluster.specs.declared.files.outcome.Outcome.TheVariants.{Done, TooLong, Words, Read, Unwritten, Disk, Damaged}
use Rattle.oz_cluster.specs.declared.files.outcome.Outcome.TheVariants.{OutOfMemory, Refused}

abbrev pub outcome_number : Outcome → ℕ
outcome_number Done = 0
outcome_number TooLong = 1
outcome_number Words = 2
outcome_number Read = 3
outcome_number Unwritten = 4
outcome_number Disk = 5
outcome_number Damaged = 6
outcome_number OutOfMemory = 7
outcome_number Refused = 8
