use Rattle.std.proofs.Common.{◌≡◌, ◌||◌, take}
use Rattle.std.specs.List.{list_any}
use Rattle.oz_effects.specs.changes.Steps.{holds}
use Rattle.oz_fields.specs.declared.block.Block.{Block}
use Rattle.oz_fields.specs.declared.block.Piece.{Piece}
use Rattle.oz_rows.specs.RowMaps.{is_block}
use Rattle.oz_reclaim.proofs.reaching.add_pieces.Given as goal

abbrev pub invariant-loop-piece : goal.invariant-loop-piece
invariant-loop-piece l = (block : Block) → holds l.blocks block ≡ (holds l.fn.blocks block || list_any (λ (piece : Piece). is_block block piece.block) (take l.piece-index l.pieces))
