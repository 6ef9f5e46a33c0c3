use Rattle.std.proofs.Common.{◌≡◌, map, take}
use Rattle.oz_model.specs.Reach.{blocks_of}
use Rattle.oz_locks.proofs.pins.pins_of_pieces.Given as goal

-- a pin for each piece that was looked at
abbrev pub invariant-loop-piece : goal.invariant-loop-piece
invariant-loop-piece l =
    l.pins.items ≡ map (λ block. record { block = block; client = l.id.client; line = l.id.line }) (blocks_of (take l.piece-index l.pieces))
