use Rattle.std.proofs.Common.{◌≤◌, ◌-◌, [], ◌∷◌, ◌++◌, Some, is_some, ap, sym, ◌∙◌, subst, arith}
use Rattle.std.proofs.lemmas.Bool.{false≢true}
use Rattle.std.proofs.lemmas.Option.{slice_get_within}
use Rattle.std.specs.Prelude.{IsSome, IfSome}
use Rattle.oz_epochs.specs.Epochs.{Epochs, entry, IsAway, EndsBy}
use Rattle.oz_epochs.specs.Links.{IsUsed}
use Rattle.oz_epochs.specs.Nodes.{entries_of}
use Rattle.oz_epochs.proofs.Spares.{spare_there, spare_first}
use Rattle.oz_epochs.proofs.Changes.{entries_are, order_here, linked_here, put_back_used, put_slot_away, pushed_to}
use Rattle.oz_epochs.proofs.list.EpochList.push_back.Goals as goal

pub unreachable-requires : goal.unreachable-requires
unreachable-requires g c =
    let i = c.self.inside in
    let room = subst (λ (v : Epochs g.row.K.Denot). 1 ≤ v.spare) (sym c.self.view_is) c.requires.room in
    let some : IsSome i.spare_front = spare_there i.nodes.items i.spare_front i.spare c.self.invariant.spares room in
    false≢true (sym (ap is_some c.in_default.is) ∙ some)

pub replace-requires : goal.replace-requires
replace-requires g c =
    let i = c.self.inside in
    let room = subst (λ (v : Epochs g.row.K.Denot). 1 ≤ v.spare) (sym c.self.view_is) c.requires.room in
    slice_get_within i.nodes.items c.in-Some.slot _ (spare_first i.nodes.items i.spare_front i.spare c.in-Some.slot c.self.invariant.spares room c.in-Some.is).1

pub unreachable-requires-in-Used : goal.unreachable-requires-in-Used
unreachable-requires-in-Used g c =
    let i = c.self.inside in
    let room = subst (λ (v : Epochs g.row.K.Denot). 1 ≤ v.spare) (sym c.self.view_is) c.requires.room in
    let spare = (spare_first i.nodes.items i.spare_front i.spare c.in-Some.slot c.self.invariant.spares room c.in-Some.is).1 in
    let had = c.replace.ensures.value in let used = c.in-Used.is in cc

pub link_next-requires : goal.link_next-requires
link_next-requires g c =
    let i = c.self.inside in
    let at = c.replace.ensures.value ∙ ap Some c.in-Spare.is in
    subst (λ k. IfSome i.back (IsUsed k)) (sym c.replace.ensures.items)
    (put_back_used i.nodes.items i.front i.back i.spare_front i.spare (entries_of i.nodes.items i.front i.spare) c.self.invariant c.in-Some.slot c.args.epoch c.args.key c.in-Spare.next c.in-Some.is at)

pub invariant_of-self : goal.invariant_of-self
invariant_of-self g c =
    let i = c.self.inside in
    let at = c.replace.ensures.value ∙ ap Some c.in-Spare.is in
    let es = entries_of i.nodes.items i.front i.spare in
    let room = subst (λ (v : Epochs g.row.K.Denot). 1 ≤ v.spare) (sym c.self.view_is) c.requires.room in
    let ends = subst (λ (v : Epochs g.row.K.Denot). EndsBy c.args.epoch v.entries) (sym c.self.view_is) c.requires.order in
    linked_here c.link_next.new.nodes.items c.link_next.new.front (Some c.in-Some.slot) c.in-Spare.next (i.spare - 1) (es ++ entry c.in-Some.slot c.args.epoch c.args.key ∷ [])
    (pushed_to i.nodes.items i.front i.back i.spare_front i.spare es c.self.invariant c.in-Some.slot c.args.epoch c.args.key c.in-Spare.next c.in-Some.is at ends (i.spare - 1) (omega arith)
    c.replace.new.self.items c.link_next.new.nodes.items c.link_next.new.front c.replace.ensures.items c.link_next.ensures.nodes c.link_next.ensures.front)

pub returns-clause-entries : goal.returns-clause-entries
returns-clause-entries g c =
    let i = c.self.inside in
    let at = c.replace.ensures.value ∙ ap Some c.in-Spare.is in
    let es = entries_of i.nodes.items i.front i.spare in
    let room = subst (λ (v : Epochs g.row.K.Denot). 1 ≤ v.spare) (sym c.self.view_is) c.requires.room in
    let ends = subst (λ (v : Epochs g.row.K.Denot). EndsBy c.args.epoch v.entries) (sym c.self.view_is) c.requires.order in
    entries_are c.link_next.new.nodes.items c.link_next.new.front (Some c.in-Some.slot) c.in-Spare.next (i.spare - 1) (es ++ entry c.in-Some.slot c.args.epoch c.args.key ∷ [])
    (pushed_to i.nodes.items i.front i.back i.spare_front i.spare es c.self.invariant c.in-Some.slot c.args.epoch c.args.key c.in-Spare.next c.in-Some.is at ends (i.spare - 1) (omega arith)
    c.replace.new.self.items c.link_next.new.nodes.items c.link_next.new.front c.replace.ensures.items c.link_next.ensures.nodes c.link_next.ensures.front)
    ∙ ap (λ (v : Epochs g.row.K.Denot). v.entries ++ entry c.in-Some.slot c.args.epoch c.args.key ∷ []) c.self.view_is

pub returns-clause-own_slot : goal.returns-clause-own_slot
returns-clause-own_slot g c =
    let i = c.self.inside in
    let at = c.replace.ensures.value ∙ ap Some c.in-Spare.is in
    subst (λ (v : Epochs g.row.K.Denot). IsAway c.in-Some.slot v.entries) c.self.view_is
    (put_slot_away i.nodes.items i.front i.back i.spare_front i.spare (entries_of i.nodes.items i.front i.spare) c.self.invariant c.in-Some.slot c.args.epoch c.args.key c.in-Spare.next c.in-Some.is at)

pub returns-clause-order : goal.returns-clause-order
returns-clause-order g c =
    let i = c.self.inside in
    let at = c.replace.ensures.value ∙ ap Some c.in-Spare.is in
    let es = entries_of i.nodes.items i.front i.spare in
    let room = subst (λ (v : Epochs g.row.K.Denot). 1 ≤ v.spare) (sym c.self.view_is) c.requires.room in
    let ends = subst (λ (v : Epochs g.row.K.Denot). EndsBy c.args.epoch v.entries) (sym c.self.view_is) c.requires.order in
    order_here c.link_next.new.nodes.items c.link_next.new.front (Some c.in-Some.slot) c.in-Spare.next (i.spare - 1) (es ++ entry c.in-Some.slot c.args.epoch c.args.key ∷ [])
    (pushed_to i.nodes.items i.front i.back i.spare_front i.spare es c.self.invariant c.in-Some.slot c.args.epoch c.args.key c.in-Spare.next c.in-Some.is at ends (i.spare - 1) (omega arith)
    c.replace.new.self.items c.link_next.new.nodes.items c.link_next.new.front c.replace.ensures.items c.link_next.ensures.nodes c.link_next.ensures.front)
