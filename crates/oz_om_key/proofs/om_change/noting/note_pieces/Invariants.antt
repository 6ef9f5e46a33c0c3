use Rattle.std.proofs.Common.{◌≡◌, ◌++◌, drop}
use Rattle.std.specs.List.{AllByRecursion}
use Rattle.oz_decision.specs.Drafts.{row_by_row}
use Rattle.oz_model.specs.Reach.{blocks_of}
use Rattle.oz_om_key.specs.om_change.Noting.{noted}
use Rattle.oz_om_key.specs.om_change.Numbers.{MayBeNoted}
use Rattle.oz_rows.specs.Operations.{batch_bytes}
use Rattle.oz_om_key.proofs.om_change.noting.note_pieces.Given as goal

-- what is noted so far and what will be is what is noted in all
abbrev pub invariant-loop-piece : goal.invariant-loop-piece
invariant-loop-piece g l =
    let all = g.M.RowMap.rows l.rows in
    let v = l.of.volume.now in
    let b = l.of.bucket.now in
    let k = l.of.key.now in
    record {
      fits : AllByRecursion (MayBeNoted v b k) (blocks_of (drop l.piece-index l.pieces));
      bytes : l.draft.bytes ++ batch_bytes (row_by_row (noted all v b k l.numbers (blocks_of (drop l.piece-index l.pieces))))
          ≡ l.fn.before.bytes ++ batch_bytes (row_by_row (noted all v b k l.numbers (blocks_of l.pieces)));
      changes : l.draft.changes ++ noted all v b k l.numbers (blocks_of (drop l.piece-index l.pieces))
          ≡ l.fn.before.changes ++ noted all v b k l.numbers (blocks_of l.pieces);
    }
