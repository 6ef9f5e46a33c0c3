use Rattle.std.proofs.Common.{◌≡◌, ◌≤◌, ℕ, List, None, Some, sym, ap, ◌∙◌, subst}
use Rattle.oz_buffer.specs.declared.ledger.Ledger.{Ledger}
use Rattle.oz_cache.specs.Cache.{newest}
use Rattle.oz_core.specs.declared.event.Event.{Event}
use Rattle.oz_core.specs.Manager.{durable_index}
use Rattle.std.specs.Prelude.{slice_index}
use Rattle.oz_core.specs.Seats.{stripe_seat}
use Rattle.oz_locks.specs.Flushes.{flushed_in}
use Rattle.oz_locks.specs.Stripe.{StripeView}
use Rattle.oz_om.specs.Held.{IsHeld}
use Rattle.oz_om.specs.Keeps.{KeepsRows}
use Rattle.oz_om.proofs.Longer.{flushed_rises, held_drafted, held_taken}
use Rattle.oz_om.proofs.Rests.{CameBack, rests_again}
use Rattle.oz_om.proofs.deciding.decide_once.Goals as goal
use Rattle.oz_om.proofs.deciding.decide_once.Goals.{in-Ok-Some, in-Ok-None, in-Err}

pub draft_at-requires-clause-held : goal.draft_at-requires-clause-held
draft_at-requires-clause-held g c =
    let old = c.args.stripe.now in
    held_taken g.O.Opened.coherent g.O.Opened.opening g.O.Opened.bytes g.O.Opened.script g.L.Loaded.rows c.take-ledger.result.0.story
    old c.take-ledger.new.self (Some c.take-ledger.result.0) c.take-ledger.ensures.begins.0 c.take-ledger.ensures.same c.take-ledger.ensures.begins.1 c.all_follow.ensures c.take-ledger.ensures.own
    ((c.requires.opens.keeps old.number old.mine old.seen (newest old.cache)).0 c.requires.rests.keeps)

pub tell-requires-clause-held : goal.tell-requires-clause-held
tell-requires-clause-held g c =
    let old = c.args.stripe.now in
    let held = held_taken g.O.Opened.coherent g.O.Opened.opening g.O.Opened.bytes g.O.Opened.script g.L.Loaded.rows c.take-ledger.result.0.story
    old c.take-ledger.new.self (Some c.take-ledger.result.0) c.take-ledger.ensures.begins.0 c.take-ledger.ensures.same c.take-ledger.ensures.begins.1 c.all_follow.ensures c.take-ledger.ensures.own
    ((c.requires.opens.keeps old.number old.mine old.seen (newest old.cache)).0 c.requires.rests.keeps) in
    subst (λ (l : List Event). IsHeld g.O.Opened.coherent g.O.Opened.opening g.O.Opened.bytes g.O.Opened.script g.L.Loaded.rows c.draft_at.new.stripe l) (sym c.in-Ok-Some.ensures.story)
    (held_drafted g.O.Opened.coherent g.O.Opened.opening g.O.Opened.bytes g.O.Opened.script g.L.Loaded.rows c.take-ledger.result.0.story
    c.take-ledger.new.self c.draft_at.new.stripe c.in-Ok-Some.ensures.same held)

pub returns-clause-rests : goal.returns-clause-rests
returns-clause-rests g c =
    let old = c.args.stripe.now in
    let story = c.take-ledger.result.0.story in
    let taken = c.take-ledger.new.self in
    let drafted = c.draft_at.new.stripe in
    let s = c.match-draft_at.stripe in
    let last = g.L.Loaded.last_index in
    let keeps = (c.requires.opens.keeps old.number old.mine old.seen (newest old.cache)).0 c.requires.rests.keeps in
    let held = held_drafted g.O.Opened.coherent g.O.Opened.opening g.O.Opened.bytes g.O.Opened.script g.L.Loaded.rows story taken drafted c.draft_at.ensures.same
    (held_taken g.O.Opened.coherent g.O.Opened.opening g.O.Opened.bytes g.O.Opened.script g.L.Loaded.rows story
    old taken (Some c.take-ledger.result.0) c.take-ledger.ensures.begins.0 c.take-ledger.ensures.same c.take-ledger.ensures.begins.1 c.all_follow.ensures c.take-ledger.ensures.own keeps) in
    let flushed : drafted.flushed ≡ old.flushed = (λ i. (c.draft_at.ensures.same.same i).flushed) ∙ (λ i. (c.take-ledger.ensures.same i).flushed) in
    let seen : drafted.seen ≡ story = held.seen in
    let back : (v : StripeView (Ledger g.row.O.Denot)) (room : ℕ) → s ≡ v → v ≡ record drafted { room = room; taken = None }
    → CameBack g.O.Opened.coherent g.L.Loaded.coherent g.O.Opened.opening g.O.Opened.bytes g.L.Loaded.rows last g.L.Loaded.keeps c.requires.opens old story s =
    λ v room is same. let whole = is ∙ same in record {
      free = λ i. (whole i).taken;
      flushed = (λ i. (whole i).flushed) ∙ flushed;
      known = (λ i. flushed_in last (whole i).seen) ∙ ap (flushed_in last) seen;
      keeps = subst (λ (w : StripeView (Ledger g.row.O.Denot)). KeepsRows g.O.Opened.coherent g.O.Opened.opening g.L.Loaded.rows w.number w.mine w.seen (newest w.cache)) (sym whole)
          (subst (λ (l : List Event). KeepsRows g.O.Opened.coherent g.O.Opened.opening g.L.Loaded.rows drafted.number drafted.mine l (newest drafted.cache)) (sym seen) held.keeps);
    } in
    let came : CameBack g.O.Opened.coherent g.L.Loaded.coherent g.O.Opened.opening g.O.Opened.bytes g.L.Loaded.rows last g.L.Loaded.keeps c.requires.opens old story s =
    elim c.match-draft_at.branch [
      | in-Ok-Some w ↦ record {
        free = (λ i. (w.stripe-is i).taken) ∙ w.tell.ensures.free;
        flushed = (λ i. (w.stripe-is i).flushed) ∙ w.tell.ensures.brought ∙ flushed;
        known = (λ i. flushed_in last (w.stripe-is i).seen) ∙ w.tell.ensures.flushed ∙ ap (flushed_in last) seen;
        keeps = subst (λ (v : StripeView (Ledger g.row.O.Denot)). KeepsRows g.O.Opened.coherent g.O.Opened.opening g.L.Loaded.rows v.number v.mine v.seen (newest v.cache)) (sym w.stripe-is) w.tell.ensures.told.keeps;
      }
      | in-Ok-None w ↦ back w.give_back.new.self (slice_index c.draft_at.new.ledger.rooms (stripe_seat drafted.number)) w.stripe-is w.give_back.ensures
      | in-Err w ↦ back w.give_back-in-Err.new.self (slice_index c.draft_at.new.ledger.rooms (stripe_seat drafted.number)) w.stripe-is
          (w.give_back-in-Err.ensures ∙ ap (λ (v : StripeView (Ledger g.row.O.Denot)). record v { room = slice_index c.draft_at.new.ledger.rooms (stripe_seat v.number); taken = None }) w.show.ensures.stripe)
    ] in
    rests_again g.O.Opened.coherent g.L.Loaded.coherent g.O.Opened.opening g.O.Opened.bytes g.L.Loaded.rows last g.L.Loaded.keeps c.requires.opens old story
    s c.bring_down.new.stripe c.durable_index-durable.result came c.bring_down.ensures.same c.bring_down.ensures.newest c.bring_down.ensures.brought c.durable_index-durable.ensures
    (λ agreed. subst (λ (n : ℕ). n ≤ durable_index g.O.Opened.opening story) (sym (c.requires.rests.whole agreed))
    (flushed_rises g.O.Opened.coherent g.O.Opened.opening g.O.Opened.bytes g.O.Opened.script g.L.Loaded.rows old.number old.mine old.seen c.take-ledger.ensures.begins.0 story c.take-ledger.ensures.begins.1
    c.all_follow.ensures c.take-ledger.ensures.own (c.requires.opens.agrees.1 agreed) last c.requires.opens.last))
