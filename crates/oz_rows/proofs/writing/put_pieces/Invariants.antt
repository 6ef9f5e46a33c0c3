use Rattle.std.proofs.Common.{◌≡◌, ◌++◌, length, take}
use Rattle.std.specs.List.{flat_map}
use Rattle.oz_fields.specs.Number.{u16_bytes}
use Rattle.oz_rows.specs.Rows.{piece_bytes}
use Rattle.oz_rows.proofs.writing.put_pieces.Given as goal

abbrev pub invariant-loop-piece : goal.invariant-loop-piece
invariant-loop-piece l = l.out.items ≡ l.fn.out.items ++ (u16_bytes (length l.pieces) ++ flat_map piece_bytes (take l.piece-index l.piece-items))
