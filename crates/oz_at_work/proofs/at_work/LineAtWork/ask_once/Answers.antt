use Rattle.std.proofs.Common.{◌≡◌, false, Err, IfErr, Result, refl, ap, ◌∙◌, subst}
use Rattle.oz_asker.specs.Decided.{IsDecideAt}
use Rattle.oz_core.specs.Manager.{asked_late}
use Rattle.oz_om.specs.declared.refusal.Refusal.{Refusal}
use Rattle.oz_om.specs.declared.refusal.Refusal.TheVariants as refusals
use Rattle.oz_om.specs.Refusals.{AskStands, IsOfStripe}
use Rattle.oz_requests.specs.declared.answer.Answer.TheVariants as answers
use Rattle.oz_requests.specs.declared.reply.Reply.{Reply}
use Rattle.oz_requests.specs.declared.request.AskId.{AskId}
use Rattle.oz_turn.specs.Seat.{seen_of}
use Rattle.oz_underway.specs.laws.Going.{begins_itself}
use Rattle.oz_at_work.specs.AtWork.{WorkView}
use Rattle.oz_at_work.proofs.Cutting.{cut_stays}
use Rattle.oz_at_work.proofs.Refusing.{is_short}
use Rattle.oz_at_work.proofs.Stepping.{asks_fit, asks_same}
use Rattle.oz_at_work.proofs.Staying.{work_still}
use Rattle.oz_at_work.proofs.at_work.LineAtWork.ask_once.Goals as goal

pub returns-in_default-clause-stays : goal.returns-in_default-clause-stays
returns-in_default-clause-stays g c =
    let O = g.O.Opened in
    let seen = seen_of c.args.seat.now in
    cut_stays O seen seen c.args.self.now c.cut-in_default.new.self _ answers.OutOfMemory (begins_itself seen) tt c.cut-in_default.ensures c.requires.works

pub refuse-requires-clause-works : goal.refuse-requires-clause-works
refuse-requires-clause-works g c coherent =
    let O = g.O.Opened in
    work_still O.coherent O.opening O.bytes O.script (seen_of c.ask.new.seat) (seen_of c.args.seat.now) c.ask.ensures.goes_on c.args.self.now (c.requires.works coherent)

pub ask-requires-clause-same : goal.ask-requires-clause-same
ask-requires-clause-same g c coherent story begins all now other is =
    let O = g.O.Opened in
    asks_same O.coherent O.opening O.bytes O.script (seen_of c.args.seat.now) c.args.self.now c.in-Some.id c.in-Some.request c.in-Some.ensures.id c.in-Some.ensures.next
    (c.requires.works coherent) story begins all (now ∙ ap (λ (w : WorkView). w.said) c.self.view_is) other is

pub ask-requires-clause-fits : goal.ask-requires-clause-fits
ask-requires-clause-fits g c coherent story begins all now enabled =
    let O = g.O.Opened in
    asks_fit O.coherent O.opening O.bytes O.script (seen_of c.args.seat.now) c.args.self.now c.in-Some.id c.in-Some.request c.in-Some.ensures.id c.in-Some.ensures.next
    (c.requires.works coherent) story begins all c.args.by (now ∙ ap (λ (w : WorkView). w.said) c.self.view_is) enabled

pub reply-requires-clause-replied : goal.reply-requires-clause-replied
reply-requires-clause-replied g c coherent =
    let O = g.O.Opened in
    let before = seen_of c.args.seat.now in
    let later = seen_of c.ask.new.seat in
    let so = c.in-Ok.ensures.ok coherent in
    record {
      before = before;
      at_work = c.requires.works coherent;
      goes_on = c.in-Ok.ensures.goes_on;
      follow = c.in-Ok.ensures.follow;
      place = so.place;
      behind = so.behind;
      decided = subst (λ (i : AskId). IsDecideAt later so.place i c.in-Ok.reply) c.in-Some.ensures.id (_, so.index, so.batch, so.there);
    }

pub returns-in-Err-PoolEmpty-clause-stays : goal.returns-in-Err-PoolEmpty-clause-stays
returns-in-Err-PoolEmpty-clause-stays g c =
    let O = g.O.Opened in
    record {
      line = refl;
      works = λ coherent. work_still O.coherent O.opening O.bytes O.script (seen_of c.ask.new.seat) (seen_of c.args.seat.now) c.ask.ensures.goes_on c.args.self.now
          (c.requires.works coherent);
      went_on = λ wrong. absurd cc;
    }

pub returns-in-Err-PoolEmpty-clause-short : goal.returns-in-Err-PoolEmpty-clause-short
returns-in-Err-PoolEmpty-clause-short g c same coherent =
    let O = g.O.Opened in
    let seen = seen_of c.ask.new.seat in
    let stripe = c.in-Err-PoolEmpty.field-0-0 in
    let refused : c.ask.result ≡ Err (refusals.PoolEmpty stripe) =
    c.in-Err-PoolEmpty.is ∙ ap (λ (r : Refusal). Err r) c.in-Err-PoolEmpty.field-0-is in
    let stands = subst (AskStands seen c.in-Some.id c.in-Some.request) refused (c.ask.ensures.stands coherent) in
    let in_time = subst (λ (r : Result Reply Refusal). IfErr r (λ refusal. IsOfStripe refusal → asked_late c.in-Some.id seen ≡ false)) refused c.ask.ensures.in_time in
    is_short O.coherent O.opening O.bytes O.script seen c.args.self.now c.in-Some.id c.in-Some.request stripe coherent c.ask.ensures.follow
    c.in-Some.ensures.id c.in-Some.ensures.script c.in-Some.ensures.next stands (c.ask.ensures.pool_empty stripe refused coherent) (in_time tt)
