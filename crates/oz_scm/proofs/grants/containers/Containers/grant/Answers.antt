use Rattle.std.proofs.Common.{Option, sym, ap, ◌∙◌}
use Rattle.std.proofs.lemmas.Bool.{false≢true}
use Rattle.oz_scm.specs.declared.grants.container.Container.{Container}
use Rattle.oz_scm.specs.grants.Made.{MayGrant, granted_in}
use Rattle.oz_scm.specs.grants.Steps.{made_of}
use Rattle.oz_scm.proofs.grants_lemmas.Rooms.{kept_full, kept_roomy, kept_new, made_old, made_new}
use Rattle.oz_scm.proofs.grants.containers.Containers.grant.Goals as goal

pub invariant_of-self : goal.invariant_of-self
invariant_of-self c =
    let inside = c.self.inside in
    let may : MayGrant (made_of inside.log inside.node_count inside.next inside.list.items) c.args.grant.now = rw (← c.self.view_is) at c.requires.next in
    let there = rw (← c.self.view_is) at c.in-Some.ensures.found in
    kept_full inside.log inside.node_count inside.next inside.list.items inside.roomy.items c.args.grant.now may c.self.invariant c.in-Some.field-0 c.granted-container.result (sym there) (c.granted-container.ensures ∙ ap (λ (o : Option Container). granted_in o c.args.grant.now.pipeline c.args.grant.now.count) c.in-Some.is) c.forget.new.numbers.items
    (λ room. false≢true (sym c.if-not-has_room.true ∙ c.has_room.ensures.1 room)) c.forget.ensures

pub invariant_of-self-else-not-has_room : goal.invariant_of-self-else-not-has_room
invariant_of-self-else-not-has_room c =
    let inside = c.self.inside in
    let may : MayGrant (made_of inside.log inside.node_count inside.next inside.list.items) c.args.grant.now = rw (← c.self.view_is) at c.requires.next in
    let there = rw (← c.self.view_is) at c.in-Some.ensures.found in
    kept_roomy inside.log inside.node_count inside.next inside.list.items inside.roomy.items c.args.grant.now may c.self.invariant c.in-Some.field-0 c.granted-container.result (sym there) (c.granted-container.ensures ∙ ap (λ (o : Option Container). granted_in o c.args.grant.now.pipeline c.args.grant.now.count) c.in-Some.is) (c.has_room.ensures.0 c.if-not-has_room.false)

pub invariant_of-self-in-None : goal.invariant_of-self-in-None
invariant_of-self-in-None c =
    let inside = c.self.inside in
    let may : MayGrant (made_of inside.log inside.node_count inside.next inside.list.items) c.args.grant.now = rw (← c.self.view_is) at c.requires.next in
    let none = rw (← c.self.view_is) at c.in-None.ensures.found in
    kept_new inside.log inside.node_count inside.next inside.list.items inside.roomy.items c.args.grant.now may c.self.invariant c.granted-container.result (sym none) (c.granted-container.ensures ∙ ap (λ (o : Option Container). granted_in o c.args.grant.now.pipeline c.args.grant.now.count) c.in-None.is) c.push.new.self.items c.push-in-None.new.self.items
    (rw c.unwrap.ensures at c.push.ensures.items) (rw c.unwrap-in-None.ensures at c.push-in-None.ensures.items)

pub returns-then-not-has_room : goal.returns-then-not-has_room
returns-then-not-has_room c =
    let inside = c.self.inside in
    let may : MayGrant (made_of inside.log inside.node_count inside.next inside.list.items) c.args.grant.now = rw (← c.self.view_is) at c.requires.next in
    let there = rw (← c.self.view_is) at c.in-Some.ensures.found in
    rw (← c.self.view_is) (made_old inside.log inside.node_count inside.next inside.list.items inside.roomy.items c.args.grant.now may c.self.invariant c.in-Some.field-0 c.granted-container.result (sym there) (c.granted-container.ensures ∙ ap (λ (o : Option Container). granted_in o c.args.grant.now.pipeline c.args.grant.now.count) c.in-Some.is))

pub returns-else-not-has_room : goal.returns-else-not-has_room
returns-else-not-has_room c =
    let inside = c.self.inside in
    let may : MayGrant (made_of inside.log inside.node_count inside.next inside.list.items) c.args.grant.now = rw (← c.self.view_is) at c.requires.next in
    let there = rw (← c.self.view_is) at c.in-Some.ensures.found in
    rw (← c.self.view_is) (made_old inside.log inside.node_count inside.next inside.list.items inside.roomy.items c.args.grant.now may c.self.invariant c.in-Some.field-0 c.granted-container.result (sym there) (c.granted-container.ensures ∙ ap (λ (o : Option Container). granted_in o c.args.grant.now.pipeline c.args.grant.now.count) c.in-Some.is))

pub returns-in-None : goal.returns-in-None
returns-in-None c =
    let inside = c.self.inside in
    let may : MayGrant (made_of inside.log inside.node_count inside.next inside.list.items) c.args.grant.now = rw (← c.self.view_is) at c.requires.next in
    let none = rw (← c.self.view_is) at c.in-None.ensures.found in
    rw (← c.self.view_is) (made_new inside.log inside.node_count inside.next inside.list.items inside.roomy.items c.args.grant.now may c.self.invariant c.granted-container.result (sym none) (c.granted-container.ensures ∙ ap (λ (o : Option Container). granted_in o c.args.grant.now.pipeline c.args.grant.now.count) c.in-None.is) c.push.new.self.items (rw c.unwrap.ensures at c.push.ensures.items))
