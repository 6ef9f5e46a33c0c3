use Rattle.std.proofs.Common.{◌≡◌, ◌&&◌, take}
use Rattle.std.specs.Prelude.{not}
use Rattle.oz_fields.specs.declared.block.Block.{Block}
use Rattle.oz_effects.specs.Effects.{is_in_a_key}
use Rattle.oz_effects.specs.changes.Steps.{holds}
use Rattle.oz_effects.proofs.changes.blocks.take_out.Given as goal

abbrev pub invariant-loop-entry : goal.invariant-loop-entry
invariant-loop-entry l = (block : Block) → holds l.free block ≡ (holds l.fn.free block && not (is_in_a_key (take l.entry-index l.keys) block))
