use Rattle.std.proofs.Common.{◌≡◌, ◌-◌}
use Rattle.oz_rows.specs.Reading.{with_front, items_at, piece_at}
use Rattle.oz_rows.proofs.decoding.more_pieces.Given as goal

abbrev pub invariant-loop : goal.invariant-loop
invariant-loop l = with_front l.pieces.items (items_at piece_at (l.count - l.counter)) l.rest ≡ items_at piece_at l.count l.bytes
