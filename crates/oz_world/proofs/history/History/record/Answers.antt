use Rattle.std.proofs.Common.{◌+◌, ◌≡◌, List, refl, sym, ◌∙◌, ap, subst, arith}
use Rattle.oz_world.specs.Disk.{Same, Ticks, LeavesEach}
use Rattle.oz_world.specs.Record.{images, images_since, synced_count}
use Rattle.oz_world.specs.inner.Contents.{contents, step_of}
use Rattle.oz_world.specs.declared.history.TimedChange.{TimedChange}
use Rattle.oz_world.proofs.Pushes.{pushed}
use Rattle.oz_world.proofs.Records.{by_later, by_push, contents-push, ticks_pass, ticks_push, still_left, left_in_part, synced_count-push_change}
use Rattle.oz_world.specs.laws.Present.{AreBy}
use Rattle.oz_world.proofs.history.History.record.Goals as goal

pub invariant_of-self-clause-past : goal.invariant_of-self-clause-past
invariant_of-self-clause-past c =
    subst (AreBy (c.args.self.now.clock + 1)) (sym c.reserve.ensures.items) (by_later c.args.self.now.clock (c.args.self.now.clock + 1) c.args.self.now.entries.items (omega arith) c.args.self.now.past)

pub invariant_of-self-clause-stable : goal.invariant_of-self-clause-stable
invariant_of-self-clause-stable c is left h =
    let before = sym c.reserve.ensures.items in
    subst (λ (l : List TimedChange). images c.args.self.now.first.items (λ bytes. bytes ≡ c.args.self.now.first.items) l left → left ≡ contents c.args.self.now.first.items l) before (c.args.self.now.stable (is ∙ c.reserve.ensures.len) left) h

pub returns-in_default-clause-no_change : goal.returns-in_default-clause-no_change
returns-in_default-clause-no_change c =
    subst (λ (l : List TimedChange). Ticks Same c.args.self.now.clock (c.args.self.now.clock + 1) (images_since c.args.self.now.first.items c.args.self.now.entries.items) (images_since c.args.self.now.first.items l)) (sym c.reserve.ensures.items)
    (ticks_pass c.args.self.now.first.items c.args.self.now.entries.items c.args.self.now.clock c.args.self.now.past)

pub invariant_of-self-2-clause-past : goal.invariant_of-self-2-clause-past
invariant_of-self-2-clause-past c =
    let all = pushed _ _ _ _ _ (c.push.ensures.succeeds (omega (arith, c.in-Ok.ensures.ok))) c.reserve.ensures.items c.push.ensures.items in
    subst (AreBy (c.args.self.now.clock + 1)) (sym all) (by_push c.args.self.now.clock c.args.self.now.entries.items (record { moment = c.args.self.now.clock + 1; change = c.args.change }) c.args.self.now.past refl)

pub returns-clause-ok : goal.returns-clause-ok
returns-clause-ok c =
    let all = pushed _ _ _ _ _ (c.push.ensures.succeeds (omega (arith, c.in-Ok.ensures.ok))) c.reserve.ensures.items c.push.ensures.items in
    ap (contents c.args.self.now.first.items) all ∙ contents-push c.args.self.now.first.items c.args.self.now.entries.items (record { moment = c.args.self.now.clock + 1; change = c.args.change })

pub returns-clause-time : goal.returns-clause-time
returns-clause-time c =
    let all = pushed _ _ _ _ _ (c.push.ensures.succeeds (omega (arith, c.in-Ok.ensures.ok))) c.reserve.ensures.items c.push.ensures.items in
    subst (λ (l : List TimedChange). Ticks (step_of c.args.change) c.args.self.now.clock (c.args.self.now.clock + 1) (images_since c.args.self.now.first.items c.args.self.now.entries.items) (images_since c.args.self.now.first.items l)) (sym all)
    (ticks_push c.args.self.now.first.items c.args.self.now.entries.items (record { moment = c.args.self.now.clock + 1; change = c.args.change }) c.args.self.now.clock c.args.self.now.past refl)

pub invariant_of-self-2-clause-counted : goal.invariant_of-self-2-clause-counted
invariant_of-self-2-clause-counted c =
    let all = pushed _ _ _ _ _ (c.push.ensures.succeeds (omega (arith, c.in-Ok.ensures.ok))) c.reserve.ensures.items c.push.ensures.items in
    c.args.self.now.counted
    ∙ sym (ap synced_count all ∙ synced_count-push_change c.args.self.now.entries.items (record { moment = c.args.self.now.clock + 1; change = c.args.change }) c.requires.changes)

pub returns-in_default-clause-still_left : goal.returns-in_default-clause-still_left
returns-in_default-clause-still_left c =
    subst (λ (l : List TimedChange). LeavesEach Same c.args.self.now.clock (c.args.self.now.clock + 1) (images_since c.args.self.now.first.items c.args.self.now.entries.items) (images_since c.args.self.now.first.items l)) (sym c.reserve.ensures.items)
    (still_left c.args.self.now.first.items c.args.self.now.entries.items c.args.self.now.clock c.args.self.now.past)

pub returns-clause-left : goal.returns-clause-left
returns-clause-left c =
    let all = pushed _ _ _ _ _ (c.push.ensures.succeeds (omega (arith, c.in-Ok.ensures.ok))) c.reserve.ensures.items c.push.ensures.items in
    subst (λ (l : List TimedChange). LeavesEach (step_of c.args.change) c.args.self.now.clock (c.args.self.now.clock + 1) (images_since c.args.self.now.first.items c.args.self.now.entries.items) (images_since c.args.self.now.first.items l)) (sym all)
    (left_in_part c.args.self.now.first.items c.args.self.now.entries.items (record { moment = c.args.self.now.clock + 1; change = c.args.change }) c.args.self.now.clock c.args.self.now.past refl c.requires.changes)
