use Rattle.std.proofs.Common.{◌≡◌, refl, sym, ap, ◌∙◌}
use Rattle.oz_journal.specs.Journal.{body_of}
use Rattle.oz_scm.specs.grants.Made.{Made, after_grant}
use Rattle.oz_scm.proofs.Granting.{refused, halted, granted, kept_after, due_adds}
use Rattle.oz_scm.proofs.scm.Scm.grant.Goals as goal

pub returns-in_err-grant : goal.returns-in_err-grant
returns-in_err-grant g c = rw (← c.self.view_is) (refused g.D.Disk.told g.D.Disk.clock g.D.Disk.image g.D.Disk.faults c.args.stripe c.args.exclude.now c.self.inside.containers.made c.self.inside.nodes
    c.self.inside.journal.disk c.self.inside.journal.stopped c.self.inside.containers.made c.in_err-grant.field-0.0 _ c.in_ok-check.ensures.running c.from_residual-in_err-grant.ensures.1 c.in_err-grant.ensures.goes_on c.in_err-grant.ensures.refused refl c.in_ok-check.ensures.at_rest (c.self.invariant.1 c.in_ok-check.ensures.running))

pub returns-in_err-frame : goal.returns-in_err-frame
returns-in_err-frame g c = rw (← c.self.view_is) (refused g.D.Disk.told g.D.Disk.clock g.D.Disk.image g.D.Disk.faults c.args.stripe c.args.exclude.now c.self.inside.containers.made c.self.inside.nodes
    c.self.inside.journal.disk c.self.inside.journal.stopped c.plan_grant.new.containers.made _ _ c.in_ok-check.ensures.running c.from_residual-in_err-frame.ensures.1 refl tt c.plan_grant.ensures.same c.in_ok-check.ensures.at_rest (c.self.invariant.1 c.in_ok-check.ensures.running))

pub returns-in_err-add : goal.returns-in_err-add
returns-in_err-add g c =
    let adds = due_adds c.self.inside.containers.made c.args.stripe c.in_ok-grant.grant c.in_ok-grant.ensures.next c.requires c.in_ok-grant.ensures.fits.0 c.in_ok-grant.ensures.fits.1 in
    rw (← c.self.view_is) (halted g.D.Disk.told g.D.Disk.clock g.D.Disk.image g.D.Disk.faults c.args.stripe c.args.exclude.now c.self.inside.containers.made c.self.inside.nodes
    c.in_ok-grant.grant _ c.self.inside.journal.disk c.add.new.journal.disk c.self.inside.journal.stopped c.add.new.journal.stopped c.plan_grant.new.containers.made c.in_err-add.field-0.0 _ c.in_ok-check.ensures.running c.in_err-add.ensures.stopped c.in_err-add.ensures.fault c.from_residual-in_err-add.ensures.1
    (ap body_of c.deref_mut.ensures.value ∙ c.in_ok-frame.ensures.frame.body) (c.self.invariant.1 c.in_ok-check.ensures.running) c.in_ok-grant.ensures.due adds c.plan_grant.ensures.same c.in_err-add.ensures.appended)

pub invariant_of-self-2 : goal.invariant_of-self-2
invariant_of-self-2 g c =
    let adds = due_adds c.self.inside.containers.made c.args.stripe c.in_ok-grant.grant c.in_ok-grant.ensures.next c.requires c.in_ok-grant.ensures.fits.0 c.in_ok-grant.ensures.fits.1 in
    let made_so : c.grant.new.self.made ≡ after_grant c.in_ok-grant.grant c.self.inside.containers.made = c.grant.ensures ∙ ap (after_grant c.in_ok-grant.grant) c.plan_grant.ensures.same in (
      c.self.invariant.0 ∙ sym (ap (λ (m : Made). m.nodes) made_so),
      λ running. kept_after c.args.stripe c.in_ok-grant.grant _ _ _ c.self.inside.containers.made c.grant.new.self.made c.in_ok-add.field-0 (ap body_of c.deref_mut.ensures.value ∙ c.in_ok-frame.ensures.frame.body) (c.self.invariant.1 c.in_ok-check.ensures.running) adds c.in_ok-add.ensures.appended made_so,
    )

pub returns : goal.returns
returns g c =
    let adds = due_adds c.self.inside.containers.made c.args.stripe c.in_ok-grant.grant c.in_ok-grant.ensures.next c.requires c.in_ok-grant.ensures.fits.0 c.in_ok-grant.ensures.fits.1 in
    let made_so : c.grant.new.self.made ≡ after_grant c.in_ok-grant.grant c.self.inside.containers.made = c.grant.ensures ∙ ap (after_grant c.in_ok-grant.grant) c.plan_grant.ensures.same in
    rw (← c.self.view_is) (granted g.D.Disk.told g.D.Disk.clock g.D.Disk.image g.D.Disk.faults c.args.stripe c.args.exclude.now c.self.inside.containers.made c.self.inside.nodes
    c.in_ok-grant.grant _ c.self.inside.journal.disk c.add.new.journal.disk c.self.inside.journal.stopped c.add.new.journal.stopped c.grant.new.self.made c.in_ok-add.field-0 c.in_ok-check.ensures.running c.in_ok-add.ensures.stopped
    (ap body_of c.deref_mut.ensures.value ∙ c.in_ok-frame.ensures.frame.body) (c.self.invariant.1 c.in_ok-check.ensures.running) c.in_ok-grant.ensures.due adds made_so c.in_ok-add.ensures.appended)
