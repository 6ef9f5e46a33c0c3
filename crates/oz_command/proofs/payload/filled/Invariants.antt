use Rattle.std.proofs.Common.{◌≡◌, ◌-◌}
use Rattle.std.specs.Prelude.{map}
use Rattle.std.specs.List.{range_with_len}
use Rattle.oz_command.specs.Payload.{fill_byte}
use Rattle.oz_command.proofs.payload.filled.Given as goal

abbrev pub invariant-loop-i : goal.invariant-loop-i
invariant-loop-i l = l.bytes.items ≡ map (fill_byte l.number) (range_with_len l.first (l.i - l.first))
