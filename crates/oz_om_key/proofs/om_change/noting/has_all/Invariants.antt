use Rattle.std.proofs.Common.{take}
use Rattle.std.specs.List.{AllByRecursion}
use Rattle.oz_model.specs.Reach.{blocks_of}
use Rattle.oz_om_key.specs.om_change.Passing.{IsLiveIn}
use Rattle.oz_om_key.proofs.om_change.noting.has_all.Given as goal

abbrev pub invariant-loop-piece : goal.invariant-loop-piece
invariant-loop-piece g l =
    AllByRecursion (IsLiveIn (g.M.RowMap.rows l.rows) l.of.volume.now l.of.bucket.now l.of.key.now l.number) (blocks_of (take l.piece-index l.pieces))
