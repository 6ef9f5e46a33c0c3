use Rattle.std.proofs.Common.{◌≡◌, max, drop, map}
use Rattle.oz_fields.specs.declared.block.Piece.{Piece}
use Rattle.oz_loaded.specs.Counted.{greatest_local}
use Rattle.oz_loaded.proofs.counting.in_pieces.Given as goal

abbrev pub invariant-loop-piece : goal.invariant-loop-piece
invariant-loop-piece l = max l.greatest (greatest_local (map (λ (piece : Piece). piece.block) (drop l.piece-index l.pieces))) ≡ greatest_local (map (λ (piece : Piece). piece.block) l.pieces)
