use Rattle.std.proofs.Common.{ℕ, List, sym, subst}
use Rattle.oz_scm_law.specs.Words.{IsAllowedBy}
use Rattle.oz_scm_law.proofs.Closes.{allowed}
use Rattle.oz_scm_law.proofs.steps.allows_step.Goals as goal

pub returns-in-None : goal.returns-in-None
returns-in-None c =
    let opening = c.args.opening.now in
    let story = c.args.story.now in
    let both = allowed opening story c.args.number c.args.by in (
      λ h. both.0 (subst (λ (dns : List ℕ). IsAllowedBy opening story c.args.number dns c.args.by) (sym c.in-None.ensures) (c.is_allowed_by.ensures.0 h)),
      λ is. c.is_allowed_by.ensures.1 (subst (λ (dns : List ℕ). IsAllowedBy opening story c.args.number dns c.args.by) c.in-None.ensures (both.1 is)),
    )

pub returns-in-Some : goal.returns-in-Some
returns-in-Some c =
    let opening = c.args.opening.now in
    let story = c.args.story.now in
    let both = allowed opening story c.args.number c.args.by in (
      λ h. both.0 (subst (λ (dns : List ℕ). IsAllowedBy opening story c.args.number dns c.args.by) (sym c.in-Some.ensures) (c.is_allowed_by-in-Some.ensures.0 h)),
      λ is. c.is_allowed_by-in-Some.ensures.1 (subst (λ (dns : List ℕ). IsAllowedBy opening story c.args.number dns c.args.by) c.in-Some.ensures (both.1 is)),
    )
