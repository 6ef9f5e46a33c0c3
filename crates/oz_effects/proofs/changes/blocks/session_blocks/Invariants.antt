use Rattle.std.proofs.Common.{◌≡◌, take}
use Rattle.oz_fields.specs.declared.block.Block.{Block}
use Rattle.oz_effects.specs.changes.Steps.{holds, is_in_a_session}
use Rattle.oz_effects.proofs.changes.blocks.session_blocks.Given as goal

abbrev pub invariant-loop-entry : goal.invariant-loop-entry
invariant-loop-entry l = (block : Block) → holds l.blocks block ≡ is_in_a_session (take l.entry-index l.sessions) block
