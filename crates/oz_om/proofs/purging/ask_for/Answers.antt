use Rattle.std.proofs.Common.{◌≡◌, ◌≤◌, ◌<◌, ◌++◌, [], ◌∷◌, append-nil, arith, ℕ, List, None, Some, sym, ap, ◌∙◌, subst}
use Rattle.std.specs.Prelude.{slice_index}
use Rattle.oz_buffer.specs.declared.ledger.Ledger.{Ledger}
use Rattle.oz_cache.specs.Cache.{newest}
use Rattle.oz_core.specs.declared.event.Event.{Event}
use Rattle.oz_core.specs.Law.{IsLegal}
use Rattle.oz_core.specs.Manager.{durable_index}
use Rattle.oz_core.specs.Seats.{stripe_seat}
use Rattle.oz_locks.specs.Flushes.{flushed_in}
use Rattle.oz_locks.specs.Stripe.{StripeView}
use Rattle.oz_om.specs.Held.{IsHeld}
use Rattle.oz_om.specs.Keeps.{KeepsRows}
use Rattle.oz_om.specs.Purging.{MayBeAsked}
use Rattle.oz_om.proofs.PurgeAsks.{asked_further}
use Rattle.oz_om.proofs.Legal.{legal_of}
use Rattle.oz_om.proofs.Longer.{flushed_rises, held_taken}
use Rattle.oz_turn.specs.Told.{BeginsWith}
use Rattle.oz_om.proofs.Works.{begins_further}
use Rattle.oz_om.proofs.Rests.{CameBack, rests_again}
use Rattle.oz_om.proofs.purging.ask_for.Goals as goal
use Rattle.oz_om.proofs.purging.ask_for.Goals.{in-Ok, in-Err}

pub tell_of-requires-clause-held : goal.tell_of-requires-clause-held
tell_of-requires-clause-held g c =
    let old = c.args.stripe.now in
    subst (λ (l : List Event). IsHeld g.O.Opened.coherent g.O.Opened.opening g.O.Opened.bytes g.O.Opened.script g.L.Loaded.rows c.take-ledger.new.self l)
    (sym c.make_room.ensures.story)
    (held_taken g.O.Opened.coherent g.O.Opened.opening g.O.Opened.bytes g.O.Opened.script g.L.Loaded.rows c.take-ledger.result.0.story
    old c.take-ledger.new.self (Some c.take-ledger.result.0) c.take-ledger.ensures.begins.0 c.take-ledger.ensures.same c.take-ledger.ensures.begins.1 c.all_follow.ensures c.take-ledger.ensures.own
    ((c.requires.opens.keeps old.number old.mine old.seen (newest old.cache)).0 c.requires.rests.keeps))

pub tell_of-requires-clause-blocks : goal.tell_of-requires-clause-blocks
tell_of-requires-clause-blocks g c = λ coherent.
    let old = c.args.stripe.now in
    let more = c.take-ledger.ensures.begins.0 in
    let legal : IsLegal g.O.Opened.opening (old.seen ++ more) = subst (IsLegal g.O.Opened.opening) c.take-ledger.ensures.begins.1
    (legal_of g.O.Opened.coherent g.O.Opened.opening g.O.Opened.bytes g.O.Opened.script coherent c.take-ledger.result.0.story c.all_follow.ensures) in
    subst (λ (v : StripeView (Ledger g.row.O.Denot)). MayBeAsked g.O.Opened.opening g.L.Loaded.rows v.number c.make_room.new.ledger.story (newest v.cache) c.args.blocks)
    (sym c.take-ledger.ensures.same)
    (subst (λ (l : List Event). MayBeAsked g.O.Opened.opening g.L.Loaded.rows old.number l (newest old.cache) c.args.blocks)
    (sym (c.make_room.ensures.story ∙ c.take-ledger.ensures.begins.1))
    (asked_further g.O.Opened.opening g.L.Loaded.rows old.number old.seen (newest old.cache) c.args.blocks (c.requires.blocks coherent) more legal))

pub returns-clause-rests : goal.returns-clause-rests
returns-clause-rests g c =
    let old = c.args.stripe.now in
    let story = c.take-ledger.result.0.story in
    let taken = c.take-ledger.new.self in
    let s = c.match-make_room.stripe in
    let last = g.L.Loaded.last_index in
    let keeps = (c.requires.opens.keeps old.number old.mine old.seen (newest old.cache)).0 c.requires.rests.keeps in
    let held = held_taken g.O.Opened.coherent g.O.Opened.opening g.O.Opened.bytes g.O.Opened.script g.L.Loaded.rows story
    old taken (Some c.take-ledger.result.0) c.take-ledger.ensures.begins.0 c.take-ledger.ensures.same c.take-ledger.ensures.begins.1 c.all_follow.ensures c.take-ledger.ensures.own keeps in
    let flushed : taken.flushed ≡ old.flushed = λ i. (c.take-ledger.ensures.same i).flushed in
    let came : CameBack g.O.Opened.coherent g.L.Loaded.coherent g.O.Opened.opening g.O.Opened.bytes g.L.Loaded.rows last g.L.Loaded.keeps c.requires.opens old story s =
    elim c.match-make_room.branch [
      | in-Ok w ↦ record {
        free = (λ i. (w.stripe-is i).taken) ∙ w.tell_of.ensures.free;
        flushed = (λ i. (w.stripe-is i).flushed) ∙ w.tell_of.ensures.brought ∙ flushed;
        known = (λ i. flushed_in last (w.stripe-is i).seen) ∙ w.tell_of.ensures.flushed ∙ ap (flushed_in last) held.seen;
        keeps = subst (λ (v : StripeView (Ledger g.row.O.Denot)). KeepsRows g.O.Opened.coherent g.O.Opened.opening g.L.Loaded.rows v.number v.mine v.seen (newest v.cache)) (sym w.stripe-is) w.tell_of.ensures.told.keeps;
      }
      | in-Err w ↦
          let whole = w.stripe-is ∙ (w.give_back.ensures
          ∙ ap (λ (v : StripeView (Ledger g.row.O.Denot)). record v { room = slice_index c.make_room.new.ledger.rooms (stripe_seat v.number); taken = None }) w.show.ensures.stripe) in record {
            free = (λ i. (whole i).taken);
            flushed = (λ i. (whole i).flushed) ∙ flushed;
            known = (λ i. flushed_in last (whole i).seen) ∙ ap (flushed_in last) held.seen;
            keeps = subst (λ (w : StripeView (Ledger g.row.O.Denot)). KeepsRows g.O.Opened.coherent g.O.Opened.opening g.L.Loaded.rows w.number w.mine w.seen (newest w.cache)) (sym whole)
                (subst (λ (l : List Event). KeepsRows g.O.Opened.coherent g.O.Opened.opening g.L.Loaded.rows taken.number taken.mine l (newest taken.cache)) (sym held.seen) held.keeps);
          }
    ] in
    rests_again g.O.Opened.coherent g.L.Loaded.coherent g.O.Opened.opening g.O.Opened.bytes g.L.Loaded.rows last g.L.Loaded.keeps c.requires.opens old story
    s c.bring_down.new.stripe c.durable_index-durable.result came c.bring_down.ensures.same c.bring_down.ensures.newest c.bring_down.ensures.brought c.durable_index-durable.ensures
    (λ agreed. subst (λ (n : ℕ). n ≤ durable_index g.O.Opened.opening story) (sym (c.requires.rests.whole agreed))
    (flushed_rises g.O.Opened.coherent g.O.Opened.opening g.O.Opened.bytes g.O.Opened.script g.L.Loaded.rows old.number old.mine old.seen c.take-ledger.ensures.begins.0 story c.take-ledger.ensures.begins.1
    c.all_follow.ensures c.take-ledger.ensures.own (c.requires.opens.agrees.1 agreed) last c.requires.opens.last))

pub make_room-requires : goal.make_room-requires
make_room-requires g c = let there = c.is_kept.ensures.kept.there in omega (arith, there, c.number.ensures)

pub returns-clause-seen : goal.returns-clause-seen
returns-clause-seen g c =
    let old = c.args.stripe.now in
    let story = c.take-ledger.result.0.story in
    let s = c.match-make_room.stripe in
    let taken : c.take-ledger.new.self.seen ≡ story = λ i. (c.take-ledger.ensures.same i).seen in
    let later : BeginsWith s.seen story = elim c.match-make_room.branch [
      | in-Ok w ↦ (
        w.tell_of.ensures.told.event ∷ [],
        (λ i. (w.stripe-is i).seen) ∙ w.tell_of.ensures.told.story ∙ ap (λ (l : List Event). l ++ w.tell_of.ensures.told.event ∷ []) taken,
      )
      | in-Err w ↦ (
        [],
        (λ i. (w.stripe-is i).seen) ∙ (λ i. (w.give_back.ensures i).seen) ∙ (λ i. (w.show.ensures.stripe i).seen) ∙ taken ∙ sym (append-nil story),
      )
    ] in
    subst (λ (l : List Event). BeginsWith l old.seen) (sym (λ i. (c.bring_down.ensures.same i).seen))
    (begins_further old.seen story s.seen later c.take-ledger.ensures.begins)
