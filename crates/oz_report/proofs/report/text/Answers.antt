use Rattle.std.proofs.Common.{ap, ◌∙◌}
use Rattle.oz_report.proofs.Reports.{first_printed, asked_next, decided_next, served_next, told_next, other_next, halted_next, printed_on}
use Rattle.oz_report.proofs.report.text.Goals as goal
use Rattle.oz_report.proofs.report.text.Goals.{in-Ask+in_ok-insert-in-Ask, in-Decide+then-id+in_ok-push_decide-in-Decide, in-Decide+else-id, in-Told+in_ok-push_told-in-Told, in-Halt+in_ok-push_halt-in-Halt, in_default}

pub loop-event-init : goal.loop-event-init
loop-event-init c = first_printed _ c.new-pending.result c.in_ok-out.ensures.items c.new-pending.ensures.empty

pub loop-event-preserved : goal.loop-event-preserved
loop-event-preserved c =
    elim c.match-event.branch [
      | in-Ask+in_ok-insert-in-Ask w ↦
          printed_on _ _ _ _ _ _ _ _ _ c.loop-event-test.true c.event-item.is (ap (λ v. v.items) w.out-is) w.pending-is w.told-is
          (asked_next _ _ _ _ _ c.loop-event.invariant w.insert.new.self w.in-Ask.id _ w.in-Ask.is w.in_ok-insert-in-Ask.ensures.updates.0)
      | in-Decide+then-id+in_ok-push_decide-in-Decide w ↦
          printed_on _ _ _ _ _ _ _ _ _ c.loop-event-test.true c.event-item.is (ap (λ v. v.items) w.out-is ∙ w.in_ok-push_decide-in-Decide.ensures) w.pending-is w.told-is
          (decided_next _ _ _ _ _ c.loop-event.invariant w.remove-request.new.self w.in-Decide.id w.in-Decide.index w.in-Decide.reply w.in-Decide.batch w.in-Decide.is w.remove-request.ensures.updates.0 w.remove-request.result w.remove-request.ensures.value w.if-id.true)
      | in-Decide+else-id w ↦
          printed_on _ _ _ _ _ _ _ _ _ c.loop-event-test.true c.event-item.is (ap (λ v. v.items) w.out-is) w.pending-is w.told-is
          (served_next _ _ _ _ _ c.loop-event.invariant w.remove-request.new.self w.in-Decide.id w.in-Decide.index w.in-Decide.reply w.in-Decide.batch w.in-Decide.is w.remove-request.ensures.updates.0 w.if-id.false)
      | in-Told+in_ok-push_told-in-Told w ↦
          printed_on _ _ _ _ _ _ _ _ _ c.loop-event-test.true c.event-item.is (ap (λ v. v.items) w.out-is ∙ w.in_ok-push_told-in-Told.ensures) w.pending-is w.told-is
          (told_next _ _ _ _ _ c.loop-event.invariant w.in-Told.client w.in-Told.line w.in-Told.answer w.in-Told.is)
      | in-Halt+in_ok-push_halt-in-Halt w ↦
          printed_on _ _ _ _ _ _ _ _ _ c.loop-event-test.true c.event-item.is (ap (λ v. v.items) w.out-is ∙ w.in_ok-push_halt-in-Halt.ensures) w.pending-is w.told-is
          (halted_next _ _ _ _ _ c.loop-event.invariant w.in-Halt.node w.in-Halt.count w.in-Halt.is)
      | in_default w ↦
          printed_on _ _ _ _ _ _ _ _ _ c.loop-event-test.true c.event-item.is (ap (λ v. v.items) w.out-is) w.pending-is w.told-is
          (other_next _ _ _ _ _ c.loop-event.invariant (record { not_ask = w.in_default.not-Ask; not_decide = w.in_default.not-Decide; not_halt = w.in_default.not-Halt; not_told = w.in_default.not-Told }))
    ]
