use Rattle.std.proofs.Common.{arith, ap, ◌∙◌}
use Rattle.oz_entries.specs.Node.{is_in, unless_gone}
use Rattle.oz_entries.specs.Held.{user_of}
use Rattle.oz_entries.proofs.SlotUsers.{cleans_none, cleans_more, cleans_all}
use Rattle.oz_entries.proofs.users.release_container.Goals as goal

pub loop-slot-init : goal.loop-slot-init
loop-slot-init c = cleans_none _ _

pub loop-slot-preserved : goal.loop-slot-preserved
loop-slot-preserved c = cleans_more (is_in c.args.container) _ _ c.loop-slot.slot _ c.loop-slot.invariant (omega arith) (c.kept_user-user.ensures ∙ ap (unless_gone (is_in c.args.container)) (c.user_at.ensures ∙ ap (λ l. user_of l c.loop-slot.slot) c.deref.ensures.value))

pub returns-clause-count : goal.returns-clause-count
returns-clause-count c = c.loop-slot.invariant.count

pub returns-clause-free : goal.returns-clause-free
returns-clause-free c = cleans_all (is_in c.args.container) _ _ c.loop-slot.slot c.loop-slot.invariant (omega (arith, c.loop-slot.invariant.count))
