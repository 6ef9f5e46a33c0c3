use Rattle.std.proofs.Common.{ℕ, List, sym, subst, arith}
use Rattle.oz_block.specs.Blocks.{node_in}
use Rattle.oz_entries.specs.Node.{is_used}
use Rattle.oz_datanode.proofs.Listing.{Lists, lists_none, lists_more, lists_all, lists_only}
use Rattle.oz_datanode.proofs.loading.used_slots.Goals as goal

pub loop-slot-init : goal.loop-slot-init
loop-slot-init g c = subst (λ (l : List ℕ). Lists (is_used (node_in c.args.blocks.now)) l 0) (sym c.new-slots.ensures.items) (lists_none _)

pub loop-slot-preserved : goal.loop-slot-preserved
loop-slot-preserved g c = lists_more (is_used (node_in c.args.blocks.now)) _ _ c.loop-slot.slot _ c.loop-slot.invariant c.is_used.ensures c.in_ok-push_if.ensures

pub returns-clause-listed : goal.returns-clause-listed
returns-clause-listed g c slot below = lists_all (is_used (node_in c.args.blocks.now)) _ c.loop-slot.slot c.loop-slot.invariant slot (omega (arith, below))

pub returns-clause-only : goal.returns-clause-only
returns-clause-only g c slot has = lists_only (is_used (node_in c.args.blocks.now)) _ c.loop-slot.slot c.loop-slot.invariant slot has
