use Rattle.std.proofs.Common.{◌≡◌, true, sym, ◌∙◌, subst}
use mathlib.Core.Bool.{false≢true}
use Rattle.oz_om.specs.decider.Deciders.{decider_of, decides_alone}
use Rattle.oz_om.specs.declared.decider.decider.Decider.{Decider}
use Rattle.oz_om.proofs.decider_lemmas.Choice.{others_alone, no_grant, alone_decides}
use Rattle.oz_om.proofs.decider.deciding.decide.Goals as goal

pub returns-in_ok-decide_alone-in_default : goal.returns-in_ok-decide_alone-in_default
returns-in_ok-decide_alone-in_default c =
    let request = c.args.request.now in
    let alone : decides_alone (decider_of request) ≡ true = subst (λ (d : Decider). decides_alone d ≡ true) c.who_decides.ensures (others_alone c.who_decides.result c.in_default.not-Nobody c.in_default.not-Granting) in
    record {
      decision = c.in_ok-decide_alone-in_default.ensures c.args.pick;
      no_block = λ namespace stand. ((λ e. absurd (cc)), λ wants. absurd (no_grant request alone wants.0));
      of_sessions = λ e. absurd (cc);
      not_yet = ((λ e. absurd (cc)), λ undecided. absurd (false≢true (sym undecided ∙ alone_decides request alone)));
    }
