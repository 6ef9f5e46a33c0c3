use Rattle.std.proofs.Common.{◌≡◌, ◌≤◌, ℕ, List, Some, None, sym, ap, ◌∙◌, subst}
use Rattle.oz_buffer.specs.declared.ledger.Ledger.{Ledger}
use Rattle.oz_cache.specs.Cache.{newest}
use Rattle.oz_core.specs.declared.event.Event.{Event}
use Rattle.oz_core.specs.Manager.{durable_index}
use Rattle.std.specs.Prelude.{slice_index}
use Rattle.oz_core.specs.Seats.{stripe_seat}
use Rattle.oz_locks.specs.Flushes.{flushed_in}
use Rattle.oz_locks.specs.Stripe.{StripeView}
use Rattle.oz_turn.specs.Seat.{seen_of}
use Rattle.oz_om.specs.Keeps.{KeepsRows}
use Rattle.oz_om.proofs.Longer.{flushed_rises, held_taken}
use Rattle.oz_om.proofs.Rests.{CameBack, rests_again}
use Rattle.oz_om.proofs.looking.look.Goals as goal

rests : goal.returns-clause-rests
rests g c =
    let old = c.args.stripe.now in
    let story = c.take-ledger.result.0.story in
    let taken = c.take-ledger.new.self in
    let s = c.give_back.new.self in
    let last = g.L.Loaded.last_index in
    let keeps = (c.requires.opens.keeps old.number old.mine old.seen (newest old.cache)).0 c.requires.rests.keeps in
    let held = held_taken g.O.Opened.coherent g.O.Opened.opening g.O.Opened.bytes g.O.Opened.script g.L.Loaded.rows story
    old taken (Some c.take-ledger.result.0) c.take-ledger.ensures.begins.0 c.take-ledger.ensures.same c.take-ledger.ensures.begins.1 c.all_follow.ensures c.take-ledger.ensures.own keeps in
    let whole = c.give_back.ensures ∙ ap (λ (v : StripeView (Ledger g.row.O.Denot)). record v { room = slice_index c.take-ledger.result.0.rooms (stripe_seat v.number); taken = None })
    (c.show.ensures.stripe ∙ c.unpin_told.ensures.same) in
    let came : CameBack g.O.Opened.coherent g.L.Loaded.coherent g.O.Opened.opening g.O.Opened.bytes g.L.Loaded.rows last g.L.Loaded.keeps c.requires.opens old story s = record {
      free = λ i. (whole i).taken;
      flushed = (λ i. (whole i).flushed) ∙ (λ i. (c.take-ledger.ensures.same i).flushed);
      known = (λ i. flushed_in last (whole i).seen) ∙ ap (flushed_in last) held.seen;
      keeps = subst (λ (w : StripeView (Ledger g.row.O.Denot)). KeepsRows g.O.Opened.coherent g.O.Opened.opening g.L.Loaded.rows w.number w.mine w.seen (newest w.cache)) (sym whole)
          (subst (λ (l : List Event). KeepsRows g.O.Opened.coherent g.O.Opened.opening g.L.Loaded.rows taken.number taken.mine l (newest taken.cache)) (sym held.seen) held.keeps);
    } in
    rests_again g.O.Opened.coherent g.L.Loaded.coherent g.O.Opened.opening g.O.Opened.bytes g.L.Loaded.rows last g.L.Loaded.keeps c.requires.opens old story
    s c.bring_down.new.stripe c.durable_index-durable.result came c.bring_down.ensures.same c.bring_down.ensures.newest c.bring_down.ensures.brought c.durable_index-durable.ensures
    (λ agreed. subst (λ (n : ℕ). n ≤ durable_index g.O.Opened.opening story) (sym (c.requires.rests.whole agreed))
    (flushed_rises g.O.Opened.coherent g.O.Opened.opening g.O.Opened.bytes g.O.Opened.script g.L.Loaded.rows old.number old.mine old.seen c.take-ledger.ensures.begins.0 story c.take-ledger.ensures.begins.1
    c.all_follow.ensures c.take-ledger.ensures.own (c.requires.opens.agrees.1 agreed) last c.requires.opens.last))

pub returns-clause-rests : goal.returns-clause-rests
returns-clause-rests g c = rests g c

pub returns-clause-keeps : goal.returns-clause-keeps
returns-clause-keeps g c =
    let t = c.bring_down.new.stripe in
    let seen : t.seen ≡ seen_of c.show.new.other = (λ i. (c.bring_down.ensures.same i).seen) ∙ ((λ i. (c.give_back.ensures i).seen) ∙ sym c.show.ensures.seen) in
    subst (λ (l : List Event). KeepsRows g.O.Opened.coherent g.O.Opened.opening g.L.Loaded.rows t.number t.mine l (newest t.cache)) seen
    ((c.requires.opens.keeps t.number t.mine t.seen (newest t.cache)).0 (rests g c).keeps)
