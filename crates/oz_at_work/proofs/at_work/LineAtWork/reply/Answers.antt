use Rattle.std.proofs.Common.{◌≡◌, ℕ, ◌+◌, ◌||◌, Bool, true, is_some, ap, ◌∙◌, subst}
use Rattle.oz_buffer.specs.Became.{times_said}
use Rattle.oz_client.specs.declared.step.Got.TheVariants as gots
use Rattle.oz_requests.specs.declared.answer.Answer.TheVariants as answers
use Rattle.oz_steps.specs.Came.{granted_by}
use Rattle.oz_turn.specs.Seat.{seen_of}
use Rattle.oz_underway.specs.laws.Going.{begins_through}
use Rattle.oz_at_work.specs.AtWork.{WorkView}
use Rattle.oz_at_work.specs.inner.Taken.{IsTakenUp}
use Rattle.oz_at_work.proofs.Cutting.{cut_so}
use Rattle.oz_at_work.proofs.Stepping.{reply_works}
use Rattle.oz_at_work.proofs.at_work.LineAtWork.reply.Goals as goal

pub returns-then-not-is_as_known-clause-works : goal.returns-then-not-is_as_known-clause-works
returns-then-not-is_as_known-clause-works g c coherent =
    let O = g.O.Opened in
    let later = seen_of c.is_as_known.new.seat in
    let was = c.requires.replied coherent in
    let goes = begins_through later (seen_of c.args.seat.now) was.before c.is_as_known.ensures.gone.goes_on was.goes_on in
    cut_so O.coherent O.opening O.bytes O.script later was.before c.args.self.now c.cut.new.self c.args.step answers.OutOfMemory coherent goes tt c.cut.ensures was.at_work

pub returns-clause-works : goal.returns-clause-works
returns-clause-works g c coherent =
    let O = g.O.Opened in
    let inside = c.self.inside in
    let work : WorkView = c.args.self.now in
    let later = seen_of c.is_as_known.new.seat in
    let was = c.requires.replied coherent in
    let as_said : (work.gave_up || is_some (granted_by c.args.reply)) ≡ true → times_said work.line.client work.line.number later ≡ work.said =
    λ looks. c.is_as_known.ensures.said c.if-not-is_as_known.false (c.looks-looks.ensures ∙ looks) in
    let said : inside.said ≡ work.said = ap (λ (w : WorkView). w.said) c.self.view_is in
    let gave_up : inside.gave_up ≡ work.gave_up = ap (λ (w : WorkView). w.gave_up) c.self.view_is in
    let taken : IsTakenUp work (gots.Reply c.args.reply) (work.asked + 1) work.said work.gave_up c.take_up-taken.new.self =
    subst (λ (n : ℕ). IsTakenUp work (gots.Reply c.args.reply) n work.said work.gave_up c.take_up-taken.new.self) c.requires.step
    (subst (λ (n : ℕ). IsTakenUp work (gots.Reply c.args.reply) c.args.step n work.gave_up c.take_up-taken.new.self) said
    (subst (λ (b : Bool). IsTakenUp work (gots.Reply c.args.reply) c.args.step inside.said b c.take_up-taken.new.self) gave_up c.take_up-taken.ensures.taken)) in
    reply_works O.coherent O.opening O.bytes O.script later (seen_of c.args.seat.now) work c.args.reply coherent c.requires.asks was c.is_as_known.ensures.gone.goes_on
    (c.is_as_known.ensures.follow was.follow) as_said c.take_up-taken.new.self taken
