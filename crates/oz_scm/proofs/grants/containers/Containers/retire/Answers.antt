use Rattle.std.proofs.Common.{◌∙◌}
use Rattle.oz_scm.specs.grants.Made.{MayRetire}
use Rattle.oz_scm.specs.grants.Steps.{made_of}
use Rattle.oz_scm.proofs.Logs.{noted, kept_retired, made_retired}
use Rattle.oz_scm.proofs.grants.containers.Containers.retire.Goals as goal

pub invariant_of-self : goal.invariant_of-self
invariant_of-self c =
    let inside = c.self.inside in
    let may : MayRetire (made_of inside.log inside.node_count inside.next inside.list.items) c.args.number = rw (← c.self.view_is) at c.requires in
    kept_retired inside.node_count inside.next inside.log inside.list.items inside.roomy.items c.args.number c.retire.new.self
    (noted c.retire.result _ (c.retire.ensures.answer ∙ may) c.retire.ensures.retired) c.self.invariant

pub returns : goal.returns
returns c =
    let inside = c.self.inside in
    let may : MayRetire (made_of inside.log inside.node_count inside.next inside.list.items) c.args.number = rw (← c.self.view_is) at c.requires in
    rw (← c.self.view_is) (made_retired inside.node_count inside.next inside.log inside.list.items inside.roomy.items c.args.number c.retire.new.self
    (noted c.retire.result _ (c.retire.ensures.answer ∙ may) c.retire.ensures.retired))
