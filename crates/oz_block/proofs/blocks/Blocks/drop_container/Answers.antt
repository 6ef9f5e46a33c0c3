use Rattle.oz_block.proofs.Changing.{unplanned, halted, is_made, kept_after, dropped}
use Rattle.oz_entries.specs.declared.entry.Entry.TheVariants as entries
use Rattle.oz_entries.specs.Held.{node_of}
use Rattle.oz_entries.specs.Node.{MayFollow}
use Rattle.oz_block.proofs.blocks.Blocks.drop_container.Goals as goal

pub returns-in_err-frame : goal.returns-in_err-frame
returns-in_err-frame g c =
    let follows : MayFollow (node_of c.self.inside.held) (entries.Drop c.args.container) = rw (← c.self.view_is) at c.requires in
    rw (← c.self.view_is) (unplanned g.D.Disk.told g.D.Disk.clock g.D.Disk.image g.D.Disk.faults (entries.Drop c.args.container) c.self.inside.held c.plan_drop.new.held c.self.inside.journal.disk c.self.inside.journal.stopped _
    c.in_ok-check.ensures.running c.from_residual-in_err-frame.ensures.1 c.in_ok-check.ensures.at_rest (c.self.invariant c.in_ok-check.ensures.running) follows c.plan_drop.ensures.same)

pub returns-in_err-add : goal.returns-in_err-add
returns-in_err-add g c =
    let follows : MayFollow (node_of c.self.inside.held) (entries.Drop c.args.container) = rw (← c.self.view_is) at c.requires in
    rw (← c.self.view_is) (halted g.D.Disk.told g.D.Disk.clock g.D.Disk.image g.D.Disk.faults (entries.Drop c.args.container) c.self.inside.held c.plan_drop.new.held _ c.self.inside.journal.disk c.add.new.journal.disk c.self.inside.journal.stopped c.add.new.journal.stopped
    c.in_err-add.field-0.0 _ c.in_ok-check.ensures.running c.in_err-add.ensures.stopped c.in_err-add.ensures.fault c.from_residual-in_err-add.ensures.1 c.in_ok-frame.ensures.frame.body (c.self.invariant c.in_ok-check.ensures.running) follows c.plan_drop.ensures.same c.in_err-add.ensures.appended)

pub invariant_of-self-2 : goal.invariant_of-self-2
invariant_of-self-2 g c =
    let follows : MayFollow (node_of c.self.inside.held) (entries.Drop c.args.container) = rw (← c.self.view_is) at c.requires in
    λ running. kept_after (entries.Drop c.args.container) _ _ _ (node_of c.self.inside.held) (node_of c.set_state.new.self) c.in_ok-add.field-0 c.in_ok-frame.ensures.frame.body (c.self.invariant c.in_ok-check.ensures.running) follows c.in_ok-add.ensures.appended (dropped c.args.container (node_of c.self.inside.held) (node_of c.plan_drop.new.held) (node_of c.forget_container.new.self) (node_of c.set_state.new.self) c.plan_drop.ensures.same c.forget_container.ensures.same c.set_state.ensures.state)

pub returns : goal.returns
returns g c =
    let follows : MayFollow (node_of c.self.inside.held) (entries.Drop c.args.container) = rw (← c.self.view_is) at c.requires in
    rw (← c.self.view_is) (is_made g.D.Disk.told g.D.Disk.clock g.D.Disk.image g.D.Disk.faults (entries.Drop c.args.container) c.self.inside.held c.set_state.new.self _ c.self.inside.journal.disk c.add.new.journal.disk c.self.inside.journal.stopped c.add.new.journal.stopped
    c.in_ok-add.field-0 _ c.in_ok-check.ensures.running c.in_ok-add.ensures.stopped c.in_ok-frame.ensures.frame.body (c.self.invariant c.in_ok-check.ensures.running) follows (dropped c.args.container (node_of c.self.inside.held) (node_of c.plan_drop.new.held) (node_of c.forget_container.new.self) (node_of c.set_state.new.self) c.plan_drop.ensures.same c.forget_container.ensures.same c.set_state.ensures.state) c.in_ok-add.ensures.appended)
