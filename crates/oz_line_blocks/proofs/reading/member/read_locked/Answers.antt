use Rattle.std.proofs.Common.{◌≡◌, ℕ, Bool, List, [], length, None, Some, sym, ap, ◌∙◌, subst}
use Rattle.oz_buffer.specs.Buffer.{AllFollow, Follows}
use Rattle.oz_core.specs.declared.event.Event.{Event}
use Rattle.oz_node_events.specs.NodeSeat.{StandsFor}
use Rattle.oz_turn.specs.Seat.{seen_of}
use Rattle.oz_turn.specs.Told.{BeginsWith}
use Rattle.oz_underway.specs.laws.Going.{begins_through}
use Rattle.oz_line_blocks.specs.declared.reading.lack.Lack.{Lack}
use Rattle.oz_line_blocks.specs.reading.Lacks.{has_notes, lack_of}
use Rattle.oz_line_blocks.specs.reading.Member.{LacksIt}
use Rattle.oz_line_blocks.proofs.reading_lemmas.Lacking.{lacks}
use Rattle.oz_line_blocks.proofs.reading_lemmas.Told.{gave_at, given_later, none_at, said_later}
use Rattle.oz_line_blocks.proofs.reading.member.read_locked.Goals as goal
use Rattle.oz_line_blocks.proofs.reading.member.read_locked.Goals.{in-Some, in-None}

pub invariant_of-cell : goal.invariant_of-cell
invariant_of-cell g c =
    let show = c.show-place.ensures in
    record {
      idle = c.cell.invariant.idle;
      stood = c.it_stands_where_it_saw_more.ensures c.cell.inside.kept c.show-place.new.self c.cell.inside.node show.kept_before show.kept c.cell.invariant.stood show.number show.mine show.goes_on;
    }

pub invariant_of-cell-2 : goal.invariant_of-cell-2
invariant_of-cell-2 g c =
    let show = c.show-place.ensures in
    record {
      idle = c.cell.invariant.idle;
      stood = c.it_stands_where_it_saw_more.ensures c.cell.inside.kept c.show-place.new.self c.cell.inside.node show.kept_before show.kept c.cell.invariant.stood show.number show.mine show.goes_on;
    }

pub returns-clause-came : goal.returns-clause-came
returns-clause-came g c =
    let O = g.O.Opened in
    let D = g.D.Disk in
    let show = c.show-place.ensures in
    let noted = c.read_noted-given.ensures in
    let old = c.args.cell.now in
    let node = c.read_noted-given.new.cell.node in
    let view = c.show-place.new.self in
    let seen = seen_of c.args.seat.now in
    let mid = seen_of c.read_noted-given.new.seat in
    let later = seen_of c.show-place.new.other in
    let id = c.args.wanted.id in
    let piece = c.args.wanted.piece in
    let dns = c.args.wanted.members in
    let dn = c.args.dn in
    let stands = subst (λ n. StandsFor D.told D.clock D.image D.faults O.coherent O.opening O.bytes O.script O.faults view n) (ap (λ v. v.node) c.cell.view_is)
    (c.it_stands_where_it_saw_more.ensures c.cell.inside.kept view c.cell.inside.node show.kept_before show.kept c.cell.invariant.stood show.number show.mine show.goes_on) in
    elim c.match-bytes.branch [
      | in-Some w ↦
          let read = w.in-Some.bytes.items in
          let is = rw w.in-Some.is at c.in_ok-bytes.ensures.given in
          let given = given_later D.told D.clock D.image D.faults id piece dns old.node node (Some read) seen mid later is.0 show.other_begins in
          rw w.result-is
          (gave_at D.told D.clock D.image D.faults O.coherent O.opening O.bytes O.script O.faults id piece dns dn (Some read) seen later old.node node old.kept view c.requires.its noted.stood stands
          (sym show.other_seen) given)
      | in-None w ↦
          let is = rw w.in-None.is at c.in_ok-bytes.ensures.given in
          let given = given_later D.told D.clock D.image D.faults id piece dns old.node node None seen mid later is.0 show.other_begins in
          let from : BeginsWith later seen = begins_through later mid seen show.other_begins noted.looked.goes_on in
          let follow = subst (λ (l : List Event). AllFollow (Follows O.coherent O.opening O.bytes O.script) [] l) (sym show.other_seen) show.kept.follow in
          let place = show.length ∙ ap (λ (l : List Event). length l) (sym show.other_seen) in
          let said : has_notes given.said ≡ has_notes is.0.said =
          ap has_notes (said_later D.told D.clock D.image D.faults id piece dns old.node node None seen mid later is.0 show.other_begins) in
          let lack : w.lack_of-lack.result ≡ lack_of dn piece.block (has_notes given.said) (length later) =
          w.lack_of-lack.ensures
          ∙ (ap (λ (t : Bool). lack_of dn piece.block t c.show-place.result) (is.1 ∙ sym said)
          ∙ ap (λ (n : ℕ). lack_of dn piece.block (has_notes given.said) n) place) in
          let none = none_at D.told D.clock D.image D.faults O.coherent O.opening O.bytes O.script O.faults id piece dns dn w.lack_of-lack.result seen later old.node node old.kept view c.requires.its
          noted.stood stands (sym show.other_seen) given lack in
          let gone = lacks D.told D.clock D.image D.faults O.coherent O.opening O.bytes O.script O.faults id piece dns dn old.node node view seen later c.requires.its stands
          (sym show.other_seen) given
          (λ coherent bytes stays read. c.what_is_given_is_the_content.ensures.read coherent old.kept view old.node node piece.block bytes noted.stood stays read stands)
          (λ coherent. (c.requires.may coherent).whole later from follow) in
          rw w.result-is (none, subst (λ (l : Lack). LacksIt O.coherent O.opening O.bytes O.script id piece dn later l) (sym lack) gone)
    ]
