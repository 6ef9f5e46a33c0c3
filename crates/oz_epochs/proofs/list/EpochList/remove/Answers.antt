use Rattle.std.proofs.Common.{◌+◌, Some, ap, sym, ◌∙◌, subst}
use Rattle.std.proofs.lemmas.Option.{same_Some, slice_get_within}
use Rattle.std.specs.Prelude.{IsSome, IfSome}
use Rattle.oz_epochs.specs.Epochs.{Epochs, found, without}
use Rattle.oz_epochs.specs.Links.{IsUsed, with_next}
use Rattle.oz_epochs.specs.Nodes.{entries_of}
use Rattle.oz_epochs.proofs.Changes.{entries_are, order_here, linked_here, found_used, freed_prev_used, led_next_used, removed_to, removed_entry, room_for_one}
use Rattle.oz_epochs.proofs.list.EpochList.remove.Goals as goal

pub replace-requires : goal.replace-requires
replace-requires g c =
    let i = c.self.inside in let es = entries_of i.nodes.items i.front i.spare in
    let some = subst (λ (v : Epochs g.row.K.Denot). IsSome (found c.args.place.slot v.entries)) (sym c.self.view_is) c.requires in
    slice_get_within i.nodes.items c.args.place.slot _ (found_used i.nodes.items i.front i.back i.spare_front i.spare es c.self.invariant c.args.place.slot some).1

pub unreachable-requires : goal.unreachable-requires
unreachable-requires g c =
    let i = c.self.inside in let es = entries_of i.nodes.items i.front i.spare in
    let some = subst (λ (v : Epochs g.row.K.Denot). IsSome (found c.args.place.slot v.entries)) (sym c.self.view_is) c.requires in
    let used = (found_used i.nodes.items i.front i.back i.spare_front i.spare es c.self.invariant c.args.place.slot some).1 in
    c.in_default.not-Used _ (sym (same_Some _ _ (sym used ∙ c.replace.ensures.value)))

pub overflow_add-self : goal.overflow_add-self
overflow_add-self g c =
    let i = c.self.inside in let es = entries_of i.nodes.items i.front i.spare in
    let some = subst (λ (v : Epochs g.row.K.Denot). IsSome (found c.args.place.slot v.entries)) (sym c.self.view_is) c.requires in
    let at = c.replace.ensures.value ∙ ap Some c.in-Used.is in
    record { fits = room_for_one i.nodes.items i.front i.back i.spare_front i.spare es c.self.invariant c.args.place.slot c.in-Used.node at some }

pub link_next-requires : goal.link_next-requires
link_next-requires g c =
    let i = c.self.inside in let es = entries_of i.nodes.items i.front i.spare in
    let some = subst (λ (v : Epochs g.row.K.Denot). IsSome (found c.args.place.slot v.entries)) (sym c.self.view_is) c.requires in
    let at = c.replace.ensures.value ∙ ap Some c.in-Used.is in
    subst (λ k. IfSome c.in-Used.node.prev (IsUsed k)) (sym c.replace.ensures.items)
    (freed_prev_used i.nodes.items i.front i.back i.spare_front i.spare es c.self.invariant c.args.place.slot c.in-Used.node at some)

pub link_prev-requires : goal.link_prev-requires
link_prev-requires g c =
    let i = c.self.inside in let es = entries_of i.nodes.items i.front i.spare in let n = c.in-Used.node in
    let some = subst (λ (v : Epochs g.row.K.Denot). IsSome (found c.args.place.slot v.entries)) (sym c.self.view_is) c.requires in
    let at = c.replace.ensures.value ∙ ap Some c.in-Used.is in
    subst (λ k. IfSome n.next (IsUsed k)) (sym (c.link_next.ensures.nodes ∙ ap (λ k. with_next k n.prev n.next) c.replace.ensures.items))
    (led_next_used i.nodes.items i.front i.back i.spare_front i.spare es c.self.invariant c.args.place.slot n at some)

pub invariant_of-self : goal.invariant_of-self
invariant_of-self g c =
    let i = c.self.inside in let es = entries_of i.nodes.items i.front i.spare in let n = c.in-Used.node in let slot = c.args.place.slot in
    let some = subst (λ (v : Epochs g.row.K.Denot). IsSome (found slot v.entries)) (sym c.self.view_is) c.requires in
    let at = c.replace.ensures.value ∙ ap Some c.in-Used.is in
    linked_here c.link_prev.new.nodes.items c.link_next.new.front c.link_prev.new.back (Some slot) (i.spare + 1) (without slot es)
    (removed_to i.nodes.items i.front i.back i.spare_front i.spare es c.self.invariant slot n at some
    c.replace.new.self.items c.link_next.new.nodes.items c.link_prev.new.nodes.items c.link_next.new.front c.link_prev.new.back
    c.replace.ensures.items c.link_next.ensures.nodes c.link_prev.ensures.nodes c.link_next.ensures.front c.link_prev.ensures.back)

pub returns-clause-entry : goal.returns-clause-entry
returns-clause-entry g c =
    let i = c.self.inside in let es = entries_of i.nodes.items i.front i.spare in let slot = c.args.place.slot in
    let some = subst (λ (v : Epochs g.row.K.Denot). IsSome (found slot v.entries)) (sym c.self.view_is) c.requires in
    let at = c.replace.ensures.value ∙ ap Some c.in-Used.is in
    ap (λ (v : Epochs g.row.K.Denot). found slot v.entries) (sym c.self.view_is)
    ∙ removed_entry i.nodes.items i.front i.back i.spare_front i.spare es c.self.invariant slot c.in-Used.node at some

pub returns-clause-rest : goal.returns-clause-rest
returns-clause-rest g c =
    let i = c.self.inside in let es = entries_of i.nodes.items i.front i.spare in let n = c.in-Used.node in let slot = c.args.place.slot in
    let some = subst (λ (v : Epochs g.row.K.Denot). IsSome (found slot v.entries)) (sym c.self.view_is) c.requires in
    let at = c.replace.ensures.value ∙ ap Some c.in-Used.is in
    entries_are c.link_prev.new.nodes.items c.link_next.new.front c.link_prev.new.back (Some slot) (i.spare + 1) (without slot es)
    (removed_to i.nodes.items i.front i.back i.spare_front i.spare es c.self.invariant slot n at some
    c.replace.new.self.items c.link_next.new.nodes.items c.link_prev.new.nodes.items c.link_next.new.front c.link_prev.new.back
    c.replace.ensures.items c.link_next.ensures.nodes c.link_prev.ensures.nodes c.link_next.ensures.front c.link_prev.ensures.back)
    ∙ ap (λ (v : Epochs g.row.K.Denot). without slot v.entries) c.self.view_is

pub returns-clause-order : goal.returns-clause-order
returns-clause-order g c =
    let i = c.self.inside in let es = entries_of i.nodes.items i.front i.spare in let n = c.in-Used.node in let slot = c.args.place.slot in
    let some = subst (λ (v : Epochs g.row.K.Denot). IsSome (found slot v.entries)) (sym c.self.view_is) c.requires in
    let at = c.replace.ensures.value ∙ ap Some c.in-Used.is in
    order_here c.link_prev.new.nodes.items c.link_next.new.front c.link_prev.new.back (Some slot) (i.spare + 1) (without slot es)
    (removed_to i.nodes.items i.front i.back i.spare_front i.spare es c.self.invariant slot n at some
    c.replace.new.self.items c.link_next.new.nodes.items c.link_prev.new.nodes.items c.link_next.new.front c.link_prev.new.back
    c.replace.ensures.items c.link_next.ensures.nodes c.link_prev.ensures.nodes c.link_next.ensures.front c.link_prev.ensures.back)
