use Rattle.std.proofs.Common.{inl, inr, refl, sym, ◌∙◌}
use Rattle.oz_repl.proofs.Alike.{all_within, not_within, within_more}
use Rattle.oz_repl.proofs.repl.event.is_within.Goals as goal
use Rattle.oz_repl.proofs.repl.event.is_within.Goals.{else-not-has-via-then-not-has+else-not-has-2, else-not-has-via-else-not-has}

pub returns-then-not-has-2 : goal.returns-then-not-has-2
returns-then-not-has-2 c = (
  λ h. absurd cc,
  λ within. absurd (not_within c.args.logged.now c.args.held.now c.args.other.now c.loop-local.local-index c.loop-local-test.true
      (sym c.has.ensures ∙ c.if-not-has.true) (sym c.has-then-not-has.ensures ∙ c.if-not-has-2.true) within),
)

pub loop-local-preserved : goal.loop-local-preserved
loop-local-preserved c =
    within_more c.args.logged.now c.args.held.now c.args.other.now c.loop-local.local-index c.loop-local-test.true c.loop-local.invariant
    (elim c.else-not-has.branch [ else-not-has-via-then-not-has+else-not-has-2 w ↦ let b = w.if-not-has-2.false in inr (sym w.has-then-not-has.ensures ∙ b) | else-not-has-via-else-not-has w ↦ let b = w.if-not-has.false in inl (sym c.has.ensures ∙ b) ])

pub returns : goal.returns
returns c = (
  λ h. all_within c.args.logged.now c.args.held.now c.args.other.now c.loop-local.local-index
      c.loop-local-test.false c.loop-local.invariant,
  λ within. refl,
)
