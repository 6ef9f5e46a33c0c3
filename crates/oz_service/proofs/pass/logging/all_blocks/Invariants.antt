use Rattle.std.proofs.Common.{◌≡◌, take}
use Rattle.oz_om.specs.Purging.{blocks_of_all}
use Rattle.oz_service.proofs.pass.logging.all_blocks.Given as goal

-- the blocks of each row that was looked at
abbrev pub invariant-loop-row : goal.invariant-loop-row
invariant-loop-row l = l.blocks.items ≡ blocks_of_all (take l.row-index l.rows)
