use Rattle.std.proofs.Common.{◌≡◌, ◌<◌, ◌^◌, drop}
use Rattle.oz_command.specs.Numbers.{digits_value}
use Rattle.oz_command.proofs.numbers.digits_value.Given as goal

abbrev pub invariant-loop-digit : goal.invariant-loop-digit
invariant-loop-digit l = (l.value < 2 ^ 64) × (digits_value l.value (drop l.digit-index l.word) ≡ digits_value 0 l.word)
