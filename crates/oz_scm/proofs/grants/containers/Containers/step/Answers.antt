use Rattle.std.proofs.Common.{◌≡◌, Option, Some, sym, subst, ◌∙◌}
use Rattle.oz_scm.specs.declared.grants.container.Container.{Container}
use Rattle.oz_scm.specs.grants.Made.{stepped}
use Rattle.oz_scm.proofs.grants_lemmas.Rooms.{kept_step, made_step}
use Rattle.oz_scm.proofs.grants.containers.Containers.step.Goals as goal

pub invariant_of-self : goal.invariant_of-self
invariant_of-self c =
    let inside = c.self.inside in
    let at = rw (← c.self.view_is) at c.get.ensures.found in
    let there = subst (λ (o : Option Container). stepped o c.args.event ≡ Some c.in-Some.container) at (sym c.stepped.ensures ∙ c.in-Some.is) in
    kept_step inside.log inside.node_count inside.next inside.list.items inside.roomy.items c.args.number c.args.event c.in-Some.container there c.self.invariant c.forget.new.numbers.items c.forget.ensures

pub returns : goal.returns
returns c =
    let inside = c.self.inside in
    let at = rw (← c.self.view_is) at c.get.ensures.found in
    let there = subst (λ (o : Option Container). stepped o c.args.event ≡ Some c.in-Some.container) at (sym c.stepped.ensures ∙ c.in-Some.is) in
    rw (← c.self.view_is) (made_step inside.log inside.node_count inside.next inside.list.items inside.roomy.items c.args.number c.args.event c.in-Some.container there c.self.invariant)
