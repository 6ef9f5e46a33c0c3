use Rattle.std.proofs.Common.{sym, ap, ◌∙◌, arith}
use Rattle.oz_scm.specs.declared.grants.entry.Entry.TheVariants.{Acked}
use Rattle.oz_scm.specs.grants.Made.{Made}
use Rattle.oz_scm.proofs.Noted.{halted, went, kept_after, ack_adds}
use Rattle.oz_scm.proofs.scm.Scm.ack.Goals as goal

pub returns-in_default-add : goal.returns-in_default-add
returns-in_default-add g c =
    let adds = ack_adds c.self.inside.containers.made c.args.number c.args.dn (rw (← c.self.view_is) at c.requires) (omega (arith, c.ranges.number.fits)) (omega (arith, c.ranges.dn.fits)) in
    rw (← c.self.view_is) (halted g.D.Disk.told g.D.Disk.clock g.D.Disk.image g.D.Disk.faults (Acked c.args.number c.args.dn) c.self.inside.containers.made c.self.inside.nodes
    _ _ c.self.inside.journal.disk c.add.new.journal.disk c.self.inside.journal.stopped c.add.new.journal.stopped c.in-Ok.ensures.running c.encode_acked-frame.ensures (c.self.invariant.1 c.in-Ok.ensures.running) adds
    c.in_default-add.field-0 c.faults-count-in_default-add.result c.in_default-add.ensures.stopped c.faults-count-in_default-add.ensures c.in_default-add.ensures.appended)

pub invariant_of-self-2 : goal.invariant_of-self-2
invariant_of-self-2 g c =
    let adds = ack_adds c.self.inside.containers.made c.args.number c.args.dn (rw (← c.self.view_is) at c.requires) (omega (arith, c.ranges.number.fits)) (omega (arith, c.ranges.dn.fits)) in (
      c.self.invariant.0 ∙ sym (ap (λ (m : Made). m.nodes) c.ack.ensures),
      λ running. kept_after (Acked c.args.number c.args.dn) _ _ _ c.self.inside.containers.made _ c.ack.new.self.made c.in-Ok-add.field-0 c.ack.ensures c.encode_acked-frame.ensures (c.self.invariant.1 c.in-Ok.ensures.running) adds c.in-Ok-add.ensures.appended,
    )

pub returns : goal.returns
returns g c =
    let adds = ack_adds c.self.inside.containers.made c.args.number c.args.dn (rw (← c.self.view_is) at c.requires) (omega (arith, c.ranges.number.fits)) (omega (arith, c.ranges.dn.fits)) in
    rw (← c.self.view_is) (went g.D.Disk.told g.D.Disk.clock g.D.Disk.image g.D.Disk.faults (Acked c.args.number c.args.dn) c.self.inside.containers.made c.self.inside.nodes
    _ _ c.self.inside.journal.disk c.add.new.journal.disk c.self.inside.journal.stopped c.add.new.journal.stopped c.in-Ok.ensures.running c.encode_acked-frame.ensures (c.self.invariant.1 c.in-Ok.ensures.running) adds
    c.ack.new.self.made c.in-Ok-add.field-0 tt c.ack.ensures c.in-Ok-add.ensures.stopped c.in-Ok-add.ensures.appended)
