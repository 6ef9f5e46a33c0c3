use Rattle.std.proofs.Common.{sym, ◌∙◌}
use Rattle.oz_fields.specs.declared.block.Piece.{Piece}
use Rattle.oz_core.specs.Nodes.{is_block}
use Rattle.oz_law.proofs.Logs.{any-map}
use Rattle.oz_law.proofs.blocks.has_piece.Goals as goal

pub returns : goal.returns
returns c = c.is_in_piece.ensures ∙ sym (any-map (is_block c.args.block) (λ (piece : Piece). piece.block) c.args.pieces.now)
