use Rattle.std.proofs.Common.{◌≡◌, ◌≤◌, ℕ, List, [], length, rules, refl, sym, ap, ◌∙◌, subst}
use Rattle.oz_buffer.specs.Buffer.{AllFollow, Follows}
use Rattle.oz_buffer.specs.declared.ledger.Ledger.{Ledger}
use Rattle.oz_cache.specs.Cache.{newest}
use Rattle.oz_core.specs.declared.event.Event.{Event}
use Rattle.oz_core.specs.Manager.{durable_index}
use Rattle.oz_fields.specs.declared.block.Block.{Block}
use Rattle.oz_locks.specs.Pins.{untold}
use Rattle.oz_locks.specs.Stripe.{StripeView}
use Rattle.oz_turn.specs.Seat.{seen_of}
use Rattle.oz_turn.specs.Told.{BeginsWith}
use Rattle.oz_om.specs.Purging.{IsCounted, MayBeAsked, WasRefused, WereFound, blocks_of_all}
use Rattle.oz_om.specs.Shown.{HasSeen}
use Rattle.oz_om.proofs.Purges.{given_between, no_length, purged_none, purged_some, refused_through, rests_swept, seen_twice, silent_between}
use Rattle.oz_om.proofs.Works.{begins_itself}
use Rattle.oz_om.specs.declared.refusal.Refusal.TheVariants as refusals
use Rattle.oz_core.specs.Seats.{stripe_seat}
use Rattle.oz_core.specs.Stories.{mine}
use Rattle.oz_om.proofs.Sought.{left_untold, may_ask}
use Rattle.oz_om.proofs.purging.purge_of.Goals as goal

pub find-requires-clause-follow : goal.find-requires-clause-follow
find-requires-clause-follow g c =
    subst (AllFollow (Follows g.O.Opened.coherent g.O.Opened.opening g.O.Opened.bytes g.O.Opened.script) []) (sym c.look-durable.ensures.seen)
    c.look-durable.ensures.shown.follow

pub find-requires-clause-untold : goal.find-requires-clause-untold
find-requires-clause-untold g c = λ pin there.
    let s = c.look-durable.new.stripe in
    left_untold s.seen c.args.stripe.now.pins s.pins
    (c.look-durable.ensures.pins ∙ ap (λ (l : List Event). untold l c.args.stripe.now.pins) (sym c.look-durable.ensures.seen)) pin there

pub find-requires-clause-durable : goal.find-requires-clause-durable
find-requires-clause-durable g c = c.look-durable.ensures.durable ∙ ap (durable_index g.O.Opened.opening) (sym c.look-durable.ensures.seen)

pub ask_for-requires-clause-rests : goal.ask_for-requires-clause-rests
ask_for-requires-clause-rests g c = rests_swept g.L.Loaded.last_index g.L.Loaded.coherent g.L.Loaded.keeps c.look-durable.new.stripe c.find.new.stripe
    c.find.ensures.same c.look-durable.ensures.rests

pub ask_for-requires-clause-blocks : goal.ask_for-requires-clause-blocks
ask_for-requires-clause-blocks g c = λ coherent.
    let s = c.look-durable.new.stripe in
    let some : 1 ≤ length c.in_ok-purged.purged.rows.items = search rules in
    let follow = subst (AllFollow (Follows g.O.Opened.coherent g.O.Opened.opening g.O.Opened.bytes g.O.Opened.script) []) (sym c.look-durable.ensures.seen)
    c.look-durable.ensures.shown.follow in
    subst (λ (v : StripeView (Ledger g.row.O.Denot)). MayBeAsked g.O.Opened.opening g.L.Loaded.rows v.number v.seen (newest v.cache) c.in_ok-blocks.blocks)
    (sym c.find.ensures.same)
    (subst (MayBeAsked g.O.Opened.opening g.L.Loaded.rows s.number s.seen (newest s.cache)) (sym (c.in_ok-blocks.ensures ∙ ap blocks_of_all c.as_slice.ensures.value))
    (may_ask g.O.Opened.coherent g.L.Loaded.coherent g.O.Opened.opening g.O.Opened.bytes g.O.Opened.script g.L.Loaded.rows g.L.Loaded.last_index g.L.Loaded.keeps
    c.requires.opens s c.look-durable.ensures.rests follow coherent c.in_ok-purged.purged some (c.in_ok-purged.ensures.found coherent)))

-- ---- where it ends early

pub returns-in_err-purged-clause-rests : goal.returns-in_err-purged-clause-rests
returns-in_err-purged-clause-rests g c = rests_swept g.L.Loaded.last_index g.L.Loaded.coherent g.L.Loaded.keeps c.look-durable.new.stripe c.find.new.stripe
    c.find.ensures.same c.look-durable.ensures.rests

pub returns-in_err-purged-clause-refused : goal.returns-in_err-purged-clause-refused
returns-in_err-purged-clause-refused g c =
    let seen = seen_of c.look-durable.new.seat in
    refused_through (WasRefused c.args.stripe.now.number (seen_of c.args.seat.now) seen) c.from_residual.result refusals.OutOfMemory c.from_residual.ensures.1
    (record { story = seen; behind = c.look-durable.ensures.shown.goes_on; seen = begins_itself seen; silent = refl; holds = tt })

pub returns-then-is_empty-clause-rests : goal.returns-then-is_empty-clause-rests
returns-then-is_empty-clause-rests g c = rests_swept g.L.Loaded.last_index g.L.Loaded.coherent g.L.Loaded.keeps c.look-durable.new.stripe c.find.new.stripe
    c.find.ensures.same c.look-durable.ensures.rests

pub returns-then-is_empty-clause-purged : goal.returns-then-is_empty-clause-purged
returns-then-is_empty-clause-purged g c =
    let s = c.look-durable.new.stripe in
    let seen = seen_of c.look-durable.new.seat in
    let it = c.in_ok-purged.purged in
    let none : length it.rows.items ≡ 0 = search rules in
    purged_none g.O.Opened.coherent g.O.Opened.opening g.L.Loaded.rows c.args.stripe.now.number (seen_of c.args.seat.now) seen it c.look-durable.ensures.shown.goes_on
    (subst (λ (l : List Event). IsCounted g.O.Opened.opening l it) c.look-durable.ensures.seen c.in_ok-purged.ensures.counted)
    (λ coherent. subst (λ (n : ℕ). WereFound g.O.Opened.opening g.L.Loaded.rows n seen it) c.look-durable.ensures.number
    (subst (λ (l : List Event). WereFound g.O.Opened.opening g.L.Loaded.rows s.number l it) c.look-durable.ensures.seen (c.in_ok-purged.ensures.found coherent)))
    (no_length it.rows.items none)

pub returns-in_err-blocks-clause-rests : goal.returns-in_err-blocks-clause-rests
returns-in_err-blocks-clause-rests g c = rests_swept g.L.Loaded.last_index g.L.Loaded.coherent g.L.Loaded.keeps c.look-durable.new.stripe c.find.new.stripe
    c.find.ensures.same c.look-durable.ensures.rests

pub returns-in_err-blocks-clause-refused : goal.returns-in_err-blocks-clause-refused
returns-in_err-blocks-clause-refused g c =
    let seen = seen_of c.look-durable.new.seat in
    refused_through (WasRefused c.args.stripe.now.number (seen_of c.args.seat.now) seen) c.from_residual-in_err-blocks.result refusals.OutOfMemory
    c.from_residual-in_err-blocks.ensures.1
    (record { story = seen; behind = c.look-durable.ensures.shown.goes_on; seen = begins_itself seen; silent = refl; holds = tt })

pub returns-in_err-ask_for-clause-shown : goal.returns-in_err-ask_for-clause-shown
returns-in_err-ask_for-clause-shown g c =
    seen_twice g.R.Ring.turn g.O.Opened.coherent g.O.Opened.opening g.O.Opened.bytes g.O.Opened.script c.args.by c.args.seat.now c.look-durable.new.seat c.ask_for.new.seat
    c.look-durable.ensures.shown c.in_err-ask_for.ensures.shown

pub returns-in_err-ask_for-clause-refused : goal.returns-in_err-ask_for-clause-refused
returns-in_err-ask_for-clause-refused g c =
    let s = c.look-durable.new.stripe in
    let last = c.ask_for.new.stripe in
    let before = seen_of c.look-durable.new.seat in
    let after = seen_of c.ask_for.new.seat in
    let swept = c.find.ensures.same in
    let keeps = (c.requires.opens.keeps last.number last.mine last.seen (newest last.cache)).0 c.in_err-ask_for.ensures.rests.keeps in
    refused_through (WasRefused c.args.stripe.now.number (seen_of c.args.seat.now) after) c.from_residual-in_err-ask_for.result c.in_err-ask_for.field-0.0
    c.from_residual-in_err-ask_for.ensures.1
    (record {
      story = before;
      behind = c.look-durable.ensures.shown.goes_on;
      seen = c.in_err-ask_for.ensures.shown.goes_on;
      silent = silent_between c.args.stripe.now.number s.number last.number before after s.mine c.find.new.stripe.mine last.mine c.look-durable.ensures.number
          (c.in_err-ask_for.ensures.number ∙ (λ i. (swept i).number) ∙ c.look-durable.ensures.number)
          (ap (mine (stripe_seat last.number)) c.in_err-ask_for.ensures.told ∙ keeps.own) c.in_err-ask_for.ensures.silent (λ i. (swept i).mine)
          c.look-durable.ensures.keeps.own;
      holds = c.in_err-ask_for.ensures.refused;
    })

-- ---- where it asked

pub returns-clause-shown : goal.returns-clause-shown
returns-clause-shown g c =
    seen_twice g.R.Ring.turn g.O.Opened.coherent g.O.Opened.opening g.O.Opened.bytes g.O.Opened.script c.args.by c.args.seat.now c.look-durable.new.seat c.look.new.seat
    c.look-durable.ensures.shown
    (subst (λ s. HasSeen g.R.Ring.turn g.O.Opened.coherent g.O.Opened.opening g.O.Opened.bytes g.O.Opened.script c.args.by s c.look.new.seat) c.in_ok-ask_for.ensures.same
    c.look.ensures.shown)

pub returns-clause-purged : goal.returns-clause-purged
returns-clause-purged g c =
    let s = c.look-durable.new.stripe in
    let last = c.look.new.stripe in
    let seen = seen_of c.look-durable.new.seat in
    let after = seen_of c.look.new.seat in
    let it = c.in_ok-purged.purged in
    let some : 1 ≤ length it.rows.items = search rules in
    let swept = c.find.ensures.same in
    let number = (λ i. (swept i).number) ∙ c.look-durable.ensures.number in
    purged_some g.O.Opened.coherent g.O.Opened.opening g.L.Loaded.rows c.args.stripe.now.number (seen_of c.args.seat.now) seen it c.look-durable.ensures.shown.goes_on
    (subst (λ (l : List Event). IsCounted g.O.Opened.opening l it) c.look-durable.ensures.seen c.in_ok-purged.ensures.counted)
    (λ coherent. subst (λ (n : ℕ). WereFound g.O.Opened.opening g.L.Loaded.rows n seen it) c.look-durable.ensures.number
    (subst (λ (l : List Event). WereFound g.O.Opened.opening g.L.Loaded.rows s.number l it) c.look-durable.ensures.seen (c.in_ok-purged.ensures.found coherent)))
    after (subst (λ t. BeginsWith after (seen_of t)) c.in_ok-ask_for.ensures.same c.look.ensures.shown.goes_on) some
    (given_between c.args.stripe.now.number s.number c.find.new.stripe.number last.number seen after s.mine c.find.new.stripe.mine c.ask_for.new.stripe.mine last.mine
    c.in_ok-blocks.blocks (blocks_of_all it.rows.items) c.look-durable.ensures.number number (c.look.ensures.number ∙ c.in_ok-ask_for.ensures.number ∙ number)
    c.look.ensures.keeps.own c.look.ensures.mine c.in_ok-ask_for.ensures.asked (λ i. (swept i).mine) c.look-durable.ensures.keeps.own
    (c.in_ok-blocks.ensures ∙ ap blocks_of_all c.as_slice.ensures.value))
