use Rattle.std.proofs.Common.{◌≡◌, drop}
use Rattle.oz_model.specs.Buckets.{are_pieces_of}
use Rattle.oz_om_session.proofs.pieces.are_pieces_of.Given as goal

abbrev pub invariant-loop-i : goal.invariant-loop-i
invariant-loop-i l = are_pieces_of l.blocks (drop l.i l.pieces) ≡ are_pieces_of l.blocks l.pieces
