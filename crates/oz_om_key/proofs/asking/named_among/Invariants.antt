use Rattle.std.proofs.Common.{◌≡◌, drop}
use Rattle.oz_om_key.specs.Places.{first_named}
use Rattle.oz_om_key.proofs.asking.named_among.Given as goal

abbrev pub invariant-loop-key : goal.invariant-loop-key
invariant-loop-key g l = first_named (g.M.RowMap.rows l.rows) (drop l.key-index l.keys) l.name ≡ first_named (g.M.RowMap.rows l.rows) l.keys l.name
