use Rattle.oz_block.specs.Blocks.{node_in}
use Rattle.oz_entries.specs.Node.{is_used}
use Rattle.oz_datanode.proofs.Listing.{Lists}
use Rattle.oz_datanode.proofs.loading.used_slots.Given as goal

abbrev pub invariant-loop-slot : goal.invariant-loop-slot
invariant-loop-slot g l = Lists (is_used (node_in l.blocks)) l.slots.items l.slot
