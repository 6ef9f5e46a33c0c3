use Rattle.std.proofs.Common.{ℕ, List, ◌++◌, drop, length, sym, ap, ◌∙◌, subst}
use Rattle.oz_core.specs.declared.event.Event.{Event}
use Rattle.oz_fields.specs.declared.block.Block.{Block}
use Rattle.oz_node_events.specs.Noting.{IsSameNoter, NotingView}
use Rattle.oz_turn.specs.Seat.{IsReady, mine_of, room_of, seen_of}
use Rattle.oz_line_blocks.specs.writing.Unknown.{AllCame}
use Rattle.oz_line_blocks.proofs.writing_lemmas.Behind.{all_came}
use Rattle.oz_line_blocks.proofs.writing_lemmas.Seated.{by_outcome, ok_then, seat_back}
use Rattle.oz_line_blocks.proofs.writing.noted.write_noted.Goals as goal

pub returns-clause-looked : goal.returns-clause-looked
returns-clause-looked g c =
    let made = c.new-noting.result in
    let after = c.write_block-written.new.noter in
    let laws = c.a_noter_stays_the_same.ensures in
    let same : IsSameNoter made after = by_outcome c.write_block-written.result c.write_block-written.ensures.written c.write_block-written.ensures.lacks
    (λ written all. laws.written made.subject c.args.members written.answers made after all) (λ short. laws.unwritten made.subject c.args.members made after short) in
    let back = seat_back _ c.into_seat-seat.result.ghost_name made after c.into_seat-seat.result.now c.seat-1.given
    (ap (λ (v : NotingView). v.reference) c.new-noting.ensures) same c.into_seat-seat.ensures.same_reference in
    record {
      ready = subst (λ s. IsReady g.R.Ring.turn c.args.by s) (sym back)
          (subst (λ (n : ℕ). IsReady g.R.Ring.turn n c.into_seat-seat.result.now)
          (ap (λ (v : NotingView). v.by) same.same ∙ (ap (λ (v : NotingView). v.by) c.new-noting.ensures ∙ c.requires.seat.ready.numbered)) c.into_seat-seat.ensures.ready);
      room = ap (λ s. room_of s) back
          ∙ (c.into_seat-seat.ensures.room ∙ (ap (λ (v : NotingView). v.room) same.same ∙ ap (λ (v : NotingView). v.room) c.new-noting.ensures));
      goes_on = (
        same.goes_on.0,
        ap (λ s. seen_of s) back
            ∙ (c.into_seat-seat.ensures.events.0
            ∙ (same.goes_on.1 ∙ ap (λ (v : NotingView). v.seen ++ same.goes_on.0) c.new-noting.ensures)),
      );
      mine = ap (λ s. mine_of s) back
          ∙ (c.into_seat-seat.ensures.events.1 ∙ (ap (λ (v : NotingView). v.mine) same.same ∙ ap (λ (v : NotingView). v.mine) c.new-noting.ensures));
    }

pub returns-clause-came : goal.returns-clause-came
returns-clause-came g c =
    let O = g.O.Opened in
    let made = c.new-noting.result in
    let after = c.write_block-written.new.noter in
    let laws = c.a_noter_stays_the_same.ensures in
    ok_then c.write_block-written.result c.write_block-written.ensures.written
    (λ written all.
    let same = laws.written made.subject c.args.members written.answers made after all in
    let back = seat_back _ c.into_seat-seat.result.ghost_name made after c.into_seat-seat.result.now c.seat-1.given
    (ap (λ (v : NotingView). v.reference) c.new-noting.ensures) same c.into_seat-seat.ensures.same_reference in
    let seen = ap (λ s. seen_of s) back ∙ c.into_seat-seat.ensures.events.0 in
    let came = all_came g.D.Disk.told g.D.Disk.clock g.D.Disk.image g.D.Disk.faults O.coherent O.opening O.bytes O.script O.faults made.subject c.args.id c.args.first
    (λ dns answers one other. laws.written made.subject dns answers one other) c.args.members written.answers made after
    (ap (λ (v : NotingView). v.id) c.new-noting.ensures) (ap (λ (v : NotingView). v.first) c.new-noting.ensures) all in
    subst (λ (l : List Event). AllCame O.coherent O.opening c.args.id c.args.block l (drop (length (seen_of c.args.seat.now)) l) c.args.members written.answers) (sym seen)
    (subst (λ (l : List Event). AllCame O.coherent O.opening c.args.id c.args.block after.seen (drop (length l) after.seen) c.args.members written.answers)
    (ap (λ (v : NotingView). v.seen) c.new-noting.ensures)
    (subst (λ (b : Block). AllCame O.coherent O.opening c.args.id b after.seen (drop (length made.seen) after.seen) c.args.members written.answers)
    (ap (λ (v : NotingView). v.subject.block) c.new-noting.ensures) came)))
