use Rattle.std.proofs.Common.{ℕ, List, sym, subst, ap, ◌∙◌, arith}
use Rattle.oz_entries.specs.Node.{names_some}
use Rattle.oz_entries.specs.Held.{is_freed}
use Rattle.oz_entries.proofs.SlotLists.{Lists, lists_none, lists_more, lists_all}
use Rattle.oz_entries.proofs.users.slots_of.Goals as goal

pub loop-slot-init : goal.loop-slot-init
loop-slot-init c = subst (λ (l : List ℕ). Lists (names_some c.args.container c.args.locals.now) c.args.users.now l 0) (sym c.new-slots.ensures.items) (lists_none _ _)

pub loop-slot-preserved : goal.loop-slot-preserved
loop-slot-preserved c = lists_more (names_some c.args.container c.args.locals.now) c.args.users.now _ _ c.loop-slot.slot _ c.loop-slot.invariant (c.is_freed-is_one.ensures ∙ ap (is_freed (names_some c.args.container c.args.locals.now)) c.user_at.ensures) c.in_ok-push_if.ensures

pub returns-clause-each : goal.returns-clause-each
returns-clause-each c = lists_all (names_some c.args.container c.args.locals.now) c.args.users.now _ c.loop-slot.slot c.loop-slot.invariant (omega arith)

pub returns-clause-rising : goal.returns-clause-rising
returns-clause-rising c = c.loop-slot.invariant.rising
