use Rattle.std.proofs.Common.{◌≡◌}
use Rattle.oz_rows.specs.Rows.{kind_of}
use Rattle.oz_loaded.proofs.Gathering.{Walked}
use Rattle.oz_loaded.proofs.walking.with_kind.Given as goal

abbrev pub invariant-loop : goal.invariant-loop
invariant-loop l = Walked l.tables.rows l.found.items l.last × (kind_of l.last ≡ kind_of l.start)
