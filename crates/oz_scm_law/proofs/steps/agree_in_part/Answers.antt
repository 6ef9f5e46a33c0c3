use Rattle.std.proofs.Common.{ℕ, IsTrue, sym, ◌∙◌, rules}
use Rattle.oz_core.specs.Scm.{is_up}
use Rattle.oz_replay.specs.laws.Found.{Found, found}
use Rattle.oz_scm_law.proofs.Closes.{not_so, so_not}
use Rattle.oz_scm_law.proofs.steps.agree_in_part.Goals as goal

pub returns-then-closed : goal.returns-then-closed
returns-then-closed c =
    let any : IsTrue c.is_any_up-up.result = search rules in
    let closed : IsTrue c.are_closed_or_down-closed.result = search rules in
    let ups = λ (dn : ℕ). is_up dn c.args.story.now in (
      λ h.
          let one : Found ups c.args.dns.now = found ups c.args.dns.now (sym c.is_any_up-up.ensures ∙ any) in record {
            dn = one.item;
            member = one.there;
            up = one.so;
            closed = c.are_closed_or_down-closed.ensures.0 closed;
            apart = λ all. so_not c.agree-agreed.result h (c.agree-agreed.ensures.1 all);
          },
      λ is. not_so c.agree-agreed.result (λ agreed. is.apart (c.agree-agreed.ensures.0 agreed)),
    )
