use Rattle.std.proofs.Common.{◌≡◌, take}
use Rattle.std.specs.List.{sum_by}
use Rattle.oz_om.specs.Tallies.{bytes_at}
use Rattle.oz_om.proofs.tally.bytes_of_all.Given as goal

-- the bytes of each key that was looked at
abbrev pub invariant-loop-key : goal.invariant-loop-key
invariant-loop-key g l = l.bytes ≡ sum_by (λ key. bytes_at (g.M.RowMap.rows l.rows key)) (take l.key-index l.keys)
