use Rattle.std.proofs.Common.{List, sym, ap, ◌∙◌, subst}
use Rattle.oz_buffer.specs.Buffer.{Follows}
use Rattle.oz_core.specs.declared.event.Event.{Event}
use Rattle.oz_core.specs.declared.event.EventKind.TheVariants.{Halt}
use Rattle.oz_core.specs.declared.event.Node.TheVariants.{Datanode}
use Rattle.oz_turn.specs.Seat.{seen_of}
use Rattle.oz_turn.specs.Told.{own_entries}
use Rattle.oz_node_events.specs.Commands.{by_node}
use Rattle.oz_node_events.specs.Led.{done_kind}
use Rattle.oz_node_events.proofs.doing.do_held.Goals as goal

pub end_in-end-requires-clause-follows : goal.end_in-end-requires-clause-follows
end_in-end-requires-clause-follows g c =
    let O = g.O.Opened in
    let dn = c.args.dn in
    let take = c.take-ledger.ensures in
    let others = c.show.ensures.begins in
    let story = c.take-ledger.result.0.story in
    subst (λ (l : List Event). Follows O.coherent O.opening O.bytes O.script l (by_node dn (done_kind dn c.args.done))) (sym c.make_room.ensures.story)
    (c.requires.follows story take.begins
    (others.0, sym take.seen ∙ (ap (λ share. share.seen) (sym c.show.ensures.holder_share) ∙ (sym c.show.ensures.seen ∙ others.1)))
    c.all_follow.ensures
    (ap (λ n. own_entries (λ (event : Event). event.seat) n story) (sym (take.seat.1 ∙ c.requires.ready.numbered)) ∙ (take.own ∙ take.mine)))

pub end_in-end-requires-clause-halts : goal.end_in-end-requires-clause-halts
end_in-end-requires-clause-halts g c count some =
    let O = g.O.Opened in
    let dn = c.args.dn in
    let take = c.take-ledger.ensures in
    let story = c.take-ledger.result.0.story in
    subst (λ (l : List Event). Follows O.coherent O.opening O.bytes O.script l (by_node dn (Halt (Datanode dn) count))) (sym c.make_room.ensures.story)
    (c.requires.halts count some story c.all_follow.ensures
    (ap (λ n. own_entries (λ (event : Event). event.seat) n story) (sym (take.seat.1 ∙ c.requires.ready.numbered)) ∙ (take.own ∙ take.mine)))

pub returns-in-Err-clause-known : goal.returns-in-Err-clause-known
returns-in-Err-clause-known g c =
    let seat = c.give_back.new.seat in
    ap (λ n. own_entries (λ (event : Event). event.seat) n (seen_of seat))
    (sym (c.give_back.ensures.seat.1 ∙ (c.show.ensures.holder.1 ∙ (c.take-ledger.ensures.seat.1 ∙ c.requires.ready.numbered)))) ∙ c.knows_own.ensures

pub returns-in-Ok-clause-known : goal.returns-in-Ok-clause-known
returns-in-Ok-clause-known g c =
    let seat = c.give.new.seat in
    ap (λ n. own_entries (λ (event : Event). event.seat) n (seen_of seat))
    (sym (c.give.ensures.seat.1 ∙ (c.show.ensures.holder.1 ∙ (c.take-ledger.ensures.seat.1 ∙ c.requires.ready.numbered)))) ∙ c.knows_own-in-Ok.ensures
