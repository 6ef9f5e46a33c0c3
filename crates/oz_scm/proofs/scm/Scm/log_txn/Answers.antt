use Rattle.std.proofs.Common.{◌≡◌, sym, ap, ◌∙◌}
use Rattle.oz_journal.specs.Journal.{body_of}
use Rattle.oz_scm.specs.declared.grants.entry.Entry.TheVariants.{Logged}
use Rattle.oz_scm.specs.grants.Made.{Made, MayLog}
use Rattle.oz_scm.proofs.Noted.{halted_as, went, kept_after, log_adds}
use Rattle.oz_scm.proofs.scm.Scm.log_txn.Goals as goal

pub invariant_of-self-in-Ok-add : goal.invariant_of-self-in-Ok-add
invariant_of-self-in-Ok-add g c =
    let made = c.self.inside.containers.made in
    let may : MayLog made c.args.txn.now = rw (← c.self.view_is) at c.requires in
    let adds = log_adds made c.args.txn.now may c.has_numbers.ensures.number c.has_numbers.ensures.container c.has_numbers.ensures.locals in (
      c.self.invariant.0 ∙ sym (ap (λ (m : Made). m.nodes) c.in_ok-frame.ensures.logged),
      λ running. kept_after (Logged c.args.txn.now) _ _ _ made _ c.plan_log.new.containers.made c.in-Ok-add.field-0 c.in_ok-frame.ensures.logged
          (ap body_of c.deref_mut.ensures.value ∙ c.in_ok-frame.ensures.frame.body) (c.self.invariant.1 c.in-Ok.ensures.running) adds c.in-Ok-add.ensures.appended,
    )

pub unlog-requires : goal.unlog-requires
unlog-requires g c = (c.self.inside.containers.made, c.in_ok-frame.ensures.was)

pub returns-in_default-add : goal.returns-in_default-add
returns-in_default-add g c =
    let made = c.self.inside.containers.made in
    let may : MayLog made c.args.txn.now = rw (← c.self.view_is) at c.requires in
    let adds = log_adds made c.args.txn.now may c.has_numbers.ensures.number c.has_numbers.ensures.container c.has_numbers.ensures.locals in
    let back : c.unlog.new.self.made ≡ made = c.unlog.ensures made c.in_ok-frame.ensures.was in
    rw (← c.self.view_is) (record {
      notes = halted_as g.D.Disk.told g.D.Disk.clock g.D.Disk.image g.D.Disk.faults (Logged c.args.txn.now) made c.self.inside.nodes
          _ _ c.self.inside.journal.disk c.add.new.journal.disk c.self.inside.journal.stopped c.add.new.journal.stopped c.in-Ok.ensures.running
          (ap body_of c.deref_mut.ensures.value ∙ c.in_ok-frame.ensures.frame.body) (c.self.invariant.1 c.in-Ok.ensures.running) adds
          c.unlog.new.self.made back c.in_default-add.field-0 c.faults-count-in_default-add.result c.in_default-add.ensures.stopped c.faults-count-in_default-add.ensures c.in_default-add.ensures.appended;
      wants = tt;
    })

pub returns : goal.returns
returns g c =
    let made = c.self.inside.containers.made in
    let may : MayLog made c.args.txn.now = rw (← c.self.view_is) at c.requires in
    let adds = log_adds made c.args.txn.now may c.has_numbers.ensures.number c.has_numbers.ensures.container c.has_numbers.ensures.locals in
    rw (← c.self.view_is) (record {
      notes = went g.D.Disk.told g.D.Disk.clock g.D.Disk.image g.D.Disk.faults (Logged c.args.txn.now) made c.self.inside.nodes
          _ _ c.self.inside.journal.disk c.add.new.journal.disk c.self.inside.journal.stopped c.add.new.journal.stopped c.in-Ok.ensures.running
          (ap body_of c.deref_mut.ensures.value ∙ c.in_ok-frame.ensures.frame.body) (c.self.invariant.1 c.in-Ok.ensures.running) adds
          c.plan_log.new.containers.made c.in-Ok-add.field-0 tt c.in_ok-frame.ensures.logged c.in-Ok-add.ensures.stopped c.in-Ok-add.ensures.appended;
      wants = tt;
    })
