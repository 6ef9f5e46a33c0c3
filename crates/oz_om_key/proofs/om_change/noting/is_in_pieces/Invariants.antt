use Rattle.std.proofs.Common.{◌≡◌, drop}
use Rattle.std.specs.List.{list_any}
use Rattle.oz_rows.specs.RowMaps.{is_block}
use Rattle.oz_sound.specs.frames.Sessions.{blocks_in}
use Rattle.oz_om_key.proofs.om_change.noting.is_in_pieces.Given as goal

abbrev pub invariant-loop-piece : goal.invariant-loop-piece
invariant-loop-piece l = list_any (is_block l.block) (blocks_in (drop l.piece-index l.pieces)) ≡ list_any (is_block l.block) (blocks_in l.pieces)
