use Rattle.std.proofs.Common.{sym, ◌∙◌}
use Rattle.oz_fields.specs.declared.block.Piece.{Piece}
use Rattle.oz_core.specs.Nodes.{is_block}
use Rattle.oz_node_law.specs.laws.Held.{any_map}
use Rattle.oz_node_law.proofs.room.is_in_pieces.Goals as goal

pub returns : goal.returns
returns c = c.is_of_pieces.ensures ∙ sym (any_map (is_block c.args.block) (λ (piece : Piece). piece.block) c.args.pieces.now)
