use Rattle.std.proofs.Common.{ℕ, ◌≤◌, List, count_by, sym, subst, arith}
use Rattle.oz_core.specs.Law.{puts}
use Rattle.oz_core.specs.Stories.{has_event}
use Rattle.oz_node_law.specs.Words.{IsAnswered}
use Rattle.oz_node_law.proofs.Found.{false-true}
use Rattle.oz_node_law.proofs.written.is_answered.Goals as goal

pub returns-in-None : goal.returns-in-None
returns-in-None c = (
  λ h. false-true h,
  λ is. let few = subst (λ (dns : List ℕ). 2 ≤ count_by (λ (dn : ℕ). has_event (puts dn c.args.block) c.args.story.now) dns) c.in-None.ensures is.quorum in absurd (omega (arith, few)),
)

pub returns-in-Some : goal.returns-in-Some
returns-in-Some c = (
  λ h. subst (λ (dns : List ℕ). IsAnswered c.args.story.now c.args.block c.args.id dns) (sym c.in-Some.ensures) (c.are_enough.ensures.0 h),
  λ is. c.are_enough.ensures.1 (subst (λ (dns : List ℕ). IsAnswered c.args.story.now c.args.block c.args.id dns) c.in-Some.ensures is),
)
