use Rattle.std.proofs.Common.{◌≡◌, true, sym, ap, ◌∙◌, subst}
use Rattle.oz_requests.specs.declared.answer.Answer.TheVariants as answers
use Rattle.oz_turn.specs.Seat.{seen_of}
use Rattle.oz_at_work.specs.AtWork.{IsAtWork, WorkView}
use Rattle.oz_at_work.specs.inner.Replied.{holds_where_said}
use Rattle.oz_at_work.proofs.Cutting.{cut_stays}
use Rattle.oz_at_work.proofs.Staying.{looked}
use Rattle.oz_at_work.proofs.at_work.LineAtWork.look_again.Goals as goal

pub returns-then-not-holds_where_said-clause-stays : goal.returns-then-not-holds_where_said-clause-stays
returns-then-not-holds_where_said-clause-stays g c =
    let O = g.O.Opened in
    let look = c.times_said-said in
    cut_stays O (seen_of look.new.seat) (seen_of c.args.seat.now) c.args.self.now c.cut.new.self _ answers.OutOfMemory look.ensures.goes_on tt c.cut.ensures c.requires.works

pub returns-clause-stays : goal.returns-clause-stays
returns-clause-stays g c =
    let O = g.O.Opened in
    let inside = c.self.inside in
    let look = c.times_said-said in
    let seen = seen_of c.args.seat.now in
    let work : WorkView = record { line = inside.line.now; state = inside.steps; nodes = inside.nodes; asked = inside.asked; said = inside.said; next = inside.next; is_cut = inside.is_cut; gave_up = inside.gave_up; doubted = inside.doubted; refused = inside.refused; was_done = inside.was_done } in
    let holds : holds_where_said work look.result ≡ true =
    ap (λ (w : WorkView). holds_where_said w look.result) c.self.view_is ∙ (sym c.holds_where_said.ensures ∙ c.if-not-holds_where_said.false) in
    record {
      line = ap (λ (w : WorkView). w.line) c.self.view_is;
      works = λ coherent. looked O.coherent O.opening O.bytes O.script (seen_of look.new.seat) seen look.ensures.goes_on work look.result holds (sym look.ensures.said)
          (subst (IsAtWork O.coherent O.opening O.bytes O.script seen) (sym c.self.view_is) (c.requires.works coherent));
      went_on = λ wrong. absurd cc;
    }
