use Rattle.std.proofs.Common.{sym, ap, ◌∙◌, arith}
use Rattle.oz_scm.specs.grants.Made.{Made}
use Rattle.oz_scm.proofs.Applied.{refused, halted, went, kept_after, step_adds}
use Rattle.oz_scm.proofs.scm.Scm.apply.Goals as goal

pub returns-in-Err : goal.returns-in-Err
returns-in-Err g c = rw (← c.self.view_is) (refused g.D.Disk.told g.D.Disk.clock g.D.Disk.image g.D.Disk.faults c.args.container c.args.event c.self.inside.containers.made c.self.inside.nodes
    c.self.inside.journal.disk c.self.inside.journal.stopped c.in-Err.fault c.in-Ok.ensures.running c.in-Err.ensures.goes_on c.in-Err.ensures.wrong c.in-Ok.ensures.at_rest (c.self.invariant.1 c.in-Ok.ensures.running))

pub returns-in_default-add : goal.returns-in_default-add
returns-in_default-add g c =
    let adds = step_adds c.self.inside.containers.made c.args.container c.args.event c.in-Ok-led_to.ensures.may (omega (arith, c.ranges.container.fits)) in
    rw (← c.self.view_is) (halted g.D.Disk.told g.D.Disk.clock g.D.Disk.image g.D.Disk.faults c.args.container c.args.event c.self.inside.containers.made c.self.inside.nodes
    _ c.self.inside.journal.disk c.add.new.journal.disk c.self.inside.journal.stopped c.add.new.journal.stopped c.in-Ok.ensures.running c.encode_stepped-frame.ensures (c.self.invariant.1 c.in-Ok.ensures.running) c.in-Ok-led_to.ensures.may adds
    c.in_default-add.field-0 c.faults-count-in_default-add.result c.in_default-add.ensures.stopped c.faults-count-in_default-add.ensures c.in_default-add.ensures.appended)

pub invariant_of-self-2 : goal.invariant_of-self-2
invariant_of-self-2 g c =
    let adds = step_adds c.self.inside.containers.made c.args.container c.args.event c.in-Ok-led_to.ensures.may (omega (arith, c.ranges.container.fits)) in (
      c.self.invariant.0 ∙ sym (ap (λ (m : Made). m.nodes) c.step.ensures),
      λ running. kept_after c.args.container c.args.event _ _ _ c.self.inside.containers.made c.step.new.self.made c.in-Ok-add.field-0 c.encode_stepped-frame.ensures (c.self.invariant.1 c.in-Ok.ensures.running) adds c.in-Ok-add.ensures.appended c.step.ensures,
    )

pub returns : goal.returns
returns g c =
    let adds = step_adds c.self.inside.containers.made c.args.container c.args.event c.in-Ok-led_to.ensures.may (omega (arith, c.ranges.container.fits)) in
    rw (← c.self.view_is) (went g.D.Disk.told g.D.Disk.clock g.D.Disk.image g.D.Disk.faults c.args.container c.args.event c.self.inside.containers.made c.self.inside.nodes
    _ c.self.inside.journal.disk c.add.new.journal.disk c.self.inside.journal.stopped c.add.new.journal.stopped c.in-Ok.ensures.running c.encode_stepped-frame.ensures (c.self.invariant.1 c.in-Ok.ensures.running) c.in-Ok-led_to.ensures.may adds
    c.step.new.self.made c.in-Ok-add.field-0 c.in-Ok-led_to.state c.in-Ok-add.ensures.stopped c.in-Ok-led_to.ensures.reached c.step.ensures c.in-Ok-add.ensures.appended)
