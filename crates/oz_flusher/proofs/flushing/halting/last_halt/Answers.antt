use Rattle.std.proofs.Common.{◌-◌, ap, eq-eqb}
use Rattle.oz_core.specs.Seats.{flusher_seat}
use Rattle.oz_flusher.proofs.flushing_lemmas.Last.{parts_at, is_last, ends_so}
use Rattle.oz_flusher.proofs.flushing.halting.last_halt.Goals as goal

pub count_in-requires : goal.count_in-requires
count_in-requires c =
    let story = c.args.story.now in
    let place = c.loop-place.place in
    let event = c.index-story-place.result in
    let parts = parts_at story place event c.loop-place-test.true c.loop-place.invariant.within c.index-story-place.is in
    let is = is_last story (place - 1) place event parts c.loop-place.invariant.none c.requires.0 (eq-eqb event.seat flusher_seat c.if-event-eq-FLUSHER_SEAT.true) c.requires.1 in
    (c.requires.0, ap (λ e. e.kind) is)

pub returns-then-event-eq-FLUSHER_SEAT : goal.returns-then-event-eq-FLUSHER_SEAT
returns-then-event-eq-FLUSHER_SEAT c =
    let story = c.args.story.now in
    let place = c.loop-place.place in
    let event = c.index-story-place.result in
    let parts = parts_at story place event c.loop-place-test.true c.loop-place.invariant.within c.index-story-place.is in
    ends_so story (place - 1) place event parts c.loop-place.invariant.none c.requires.0 c.count_in.result (eq-eqb event.seat flusher_seat c.if-event-eq-FLUSHER_SEAT.true) c.requires.1 c.count_in.ensures
