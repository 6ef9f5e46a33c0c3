use Rattle.std.proofs.Common.{◌≡◌, ◌-◌, vec_len}
use Rattle.oz_world.specs.Record.{padded}
use Rattle.oz_world.proofs.put.pad.Given as goal

abbrev pub invariant-loop-bytes : goal.invariant-loop-bytes
invariant-loop-bytes l = padded l.size l.bytes.items ≡ padded l.size l.initial.bytes.items

abbrev pub decreases-loop-bytes : goal.decreases-loop-bytes
decreases-loop-bytes l = l.size - vec_len l.bytes
