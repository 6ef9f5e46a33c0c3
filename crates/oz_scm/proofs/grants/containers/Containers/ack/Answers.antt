use Rattle.std.proofs.Common.{◌∙◌}
use Rattle.oz_scm.specs.grants.Made.{MayAck}
use Rattle.oz_scm.specs.grants.Steps.{made_of}
use Rattle.oz_scm.proofs.Logs.{noted, kept_ack, made_ack, owed_awaits}
use Rattle.oz_scm.proofs.grants.containers.Containers.ack.Goals as goal

pub invariant_of-self : goal.invariant_of-self
invariant_of-self c =
    let inside = c.self.inside in
    let may : MayAck (made_of inside.log inside.node_count inside.next inside.list.items) c.args.number c.args.dn = rw (← c.self.view_is) at c.requires in
    let awaited = owed_awaits inside.node_count inside.next inside.log inside.list.items inside.roomy.items c.args.number c.args.dn may in
    kept_ack inside.node_count inside.next inside.log inside.list.items inside.roomy.items c.args.number c.args.dn may c.ack.new.self
    (noted c.ack.result _ (c.ack.ensures.answer ∙ awaited) c.ack.ensures.noted) c.self.invariant

pub returns : goal.returns
returns c =
    let inside = c.self.inside in
    let may : MayAck (made_of inside.log inside.node_count inside.next inside.list.items) c.args.number c.args.dn = rw (← c.self.view_is) at c.requires in
    let awaited = owed_awaits inside.node_count inside.next inside.log inside.list.items inside.roomy.items c.args.number c.args.dn may in
    rw (← c.self.view_is) (made_ack inside.node_count inside.next inside.log inside.list.items inside.roomy.items c.args.number c.args.dn may c.ack.new.self
    (noted c.ack.result _ (c.ack.ensures.answer ∙ awaited) c.ack.ensures.noted))
