use Rattle.std.proofs.Common.{◌≡◌, ℕ, List, rules, arith, sym, ◌∙◌, subst}
use Rattle.std.proofs.lemmas.Bool.Decides.{nat_tests}
use Rattle.oz_asker.specs.Asked.{IsAskAt}
use Rattle.oz_core.specs.declared.event.Event.{Event}
use Rattle.oz_om.specs.Held.{IsLastAsk}
use Rattle.oz_om.proofs.LastAsk.{open_pends}
use Rattle.oz_om.proofs.finding.open_ask.Goals as goal

pub returns : goal.returns
returns g c =
    let story = c.args.ledger.now.story in
    let request = c.in_ok-request.request.now in
    let there : IsAskAt story c.args.place c.args.id request = subst (λ (l : List Event). IsAskAt l c.args.place c.args.id request) c.entries.ensures c.in_ok-request.ensures in
    let at : c.in_ok-last.last ≡ c.args.place = grind (arith, nat_tests, c.if-last-place.false) in
    let last = subst (λ (n : ℕ). IsLastAsk story c.args.id n) at (subst (λ (l : List Event). IsLastAsk l c.args.id c.in_ok-last.last) c.entries-2.ensures c.in_ok-last.ensures.some) in
    record {
      there = there;
      undecided = open_pends c.args.id story c.args.place request there last (sym c.is_pending.ensures ∙ c.if-not-is_pending.false);
      in_time = sym c.asked_late.ensures ∙ c.if-asked_late.false;
      of_stripe = search rules;
    }
