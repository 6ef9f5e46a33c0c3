use Rattle.std.proofs.Common.{◌≡◌, take, Some, None, if◌then◌else◌}
use Rattle.std.specs.List.{filter_map}
use Rattle.oz_fields.specs.declared.block.Piece.{Piece}
use Rattle.oz_core.specs.Nodes.{is_block}
use Rattle.oz_core.specs.Stories.{first_in}
use Rattle.oz_node_law.proofs.lengths.length_in.Given as goal

abbrev pub invariant-loop-piece : goal.invariant-loop-piece
invariant-loop-piece l = l.length ≡ first_in (filter_map (λ (piece : Piece). if is_block l.block piece.block then Some piece.length else None) (take l.piece-index l.fn.node.held))
