use Rattle.std.proofs.Common.{refl, sym, subst, take, ◌+◌}
use Rattle.oz_cluster.proofs.TransferTold.{IsLast, last_is_this, last_as_before}
use Rattle.oz_cluster.proofs.files.told.last_told.Goals as goal
use Rattle.oz_cluster.proofs.files.told.last_told.Goals.{in-Some, in_default}

pub loop-event-preserved : goal.loop-event-preserved
loop-event-preserved c =
    let story = c.args.story.now in
    let place = c.loop-event.event-index in
    elim c.match-answer_of.branch [
      | in-Some w ↦ last_is_this (λ answer. answer.now) story place c.event-item.result _ _ c.loop-event-test.true c.event-item.is w.last-is w.in-Some.ensures
      | in_default w ↦
          subst (IsLast (λ answer. answer.now) (take (place + 1) story)) (sym w.last-is)
          (last_as_before (λ answer. answer.now) story place c.event-item.result _ c.loop-event-test.true c.event-item.is w.in_default.ensures c.loop-event.invariant)
    ]
