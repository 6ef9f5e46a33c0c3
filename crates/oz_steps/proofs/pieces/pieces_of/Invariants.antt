use Rattle.std.proofs.Common.{◌≡◌, ◌-◌, ◌*◌, take}
use Rattle.oz_command.specs.Payload.{data_length}
use Rattle.oz_core.specs.Steps.{pieces_from}
use Rattle.oz_steps.proofs.pieces.pieces_of.Given as goal

abbrev pub invariant-loop-block : goal.invariant-loop-block
invariant-loop-block l =
    (l.pieces.items ≡ pieces_from 0 l.fn.command (take l.block-index l.fn.blocks))
    × (l.left ≡ data_length l.fn.command - 65536 * l.block-index)
