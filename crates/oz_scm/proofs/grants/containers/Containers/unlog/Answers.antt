use Rattle.oz_scm.specs.grants.Made.{Made}
use Rattle.oz_scm.specs.grants.Steps.{WasLogged, made_of}
use Rattle.oz_scm.proofs.Logs.{kept_back, made_back}
use Rattle.oz_scm.proofs.grants.containers.Containers.unlog.Goals as goal

pub invariant_of-self : goal.invariant_of-self
invariant_of-self c =
    let inside = c.self.inside in
    let it : (before : Made) × WasLogged before (made_of inside.log inside.node_count inside.next inside.list.items) = rw (← c.self.view_is) at c.requires in
    kept_back inside.node_count inside.next inside.log inside.list.items inside.roomy.items it.0 it.1 c.take_back.new.self c.take_back.ensures.taken c.self.invariant

pub returns : goal.returns
returns c before was =
    let inside = c.self.inside in
    let it : WasLogged before (made_of inside.log inside.node_count inside.next inside.list.items) = rw (← c.self.view_is) at was in
    made_back inside.node_count inside.next inside.log inside.list.items inside.roomy.items before it c.take_back.new.self c.take_back.ensures.taken
