use Rattle.std.proofs.Common.{◌≡◌, ℕ, List, [], sym, ap, ◌∙◌, subst}
use Rattle.std.specs.Prelude.{IfOk}
use Rattle.oz_buffer.specs.Buffer.{AllFollow, Follows}
use Rattle.oz_core.specs.declared.event.Event.{Event}
use Rattle.oz_locks.specs.Pins.{untold}
use Rattle.oz_turn.specs.Seat.{seen_of}
use Rattle.oz_om.specs.Worked.{IsAnswered}
use Rattle.oz_om.proofs.Purges.{rests_swept}
use Rattle.oz_om.proofs.Sought.{left_untold}
use Rattle.oz_om.proofs.worked.is_worked_off_of.Goals as goal

pub has_none_left-requires-clause-follow : goal.has_none_left-requires-clause-follow
has_none_left-requires-clause-follow g c =
    subst (AllFollow (Follows g.O.Opened.coherent g.O.Opened.opening g.O.Opened.bytes g.O.Opened.script) []) (sym c.look.ensures.seen)
    c.look.ensures.shown.follow

pub has_none_left-requires-clause-untold : goal.has_none_left-requires-clause-untold
has_none_left-requires-clause-untold g c = λ pin there.
    let s = c.look.new.stripe in
    left_untold s.seen c.args.stripe.now.pins s.pins
    (c.look.ensures.pins ∙ ap (λ (l : List Event). untold l c.args.stripe.now.pins) (sym c.look.ensures.seen)) pin there

pub returns-clause-rests : goal.returns-clause-rests
returns-clause-rests g c = rests_swept g.L.Loaded.last_index g.L.Loaded.coherent g.L.Loaded.keeps c.look.new.stripe c.has_none_left.new.stripe
    c.has_none_left.ensures.same c.look.ensures.rests

pub returns-clause-answered : goal.returns-clause-answered
returns-clause-answered g c =
    let s = c.look.new.stripe in
    let answer = λ (n : ℕ) (l : List Event). IfOk c.has_none_left.result (λ is. g.O.Opened.coherent → IsAnswered g.O.Opened.opening g.L.Loaded.rows n l is) in
    subst (λ (n : ℕ). answer n (seen_of c.look.new.seat)) c.look.ensures.number
    (subst (λ (l : List Event). answer s.number l) c.look.ensures.seen c.has_none_left.ensures.answered)
