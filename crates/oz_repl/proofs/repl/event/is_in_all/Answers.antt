use Rattle.std.proofs.Common.{List, ℕ, refl, sym, subst}
use Rattle.oz_repl.specs.repl.View.{HoldsWithin}
use Rattle.oz_repl.proofs.Alike.{all_more, all_taken, not_all}
use Rattle.oz_repl.proofs.repl.event.is_in_all.Goals as goal

pub returns-then-not-is_within : goal.returns-then-not-is_within
returns-then-not-is_within c = (
  λ h. absurd cc,
  λ all. absurd (not_all (λ (other : List ℕ). HoldsWithin c.args.logged.now c.args.held.now other) c.args.all.now c.loop-other.other-index
      c.other-item.result c.loop-other-test.true c.other-item.is
      (λ within. let is = c.is_within.ensures.1 (subst (HoldsWithin c.args.logged.now c.args.held.now) (sym c.items.ensures) within) in
      let no = c.if-not-is_within.true in absurd cc)
      all),
)

pub loop-other-preserved : goal.loop-other-preserved
loop-other-preserved c =
    all_more (λ (other : List ℕ). HoldsWithin c.args.logged.now c.args.held.now other) c.args.all.now c.loop-other.other-index
    c.other-item.result c.loop-other-test.true c.other-item.is c.loop-other.invariant
    (subst (HoldsWithin c.args.logged.now c.args.held.now) c.items.ensures (c.is_within.ensures.0 c.if-not-is_within.false))

pub returns : goal.returns
returns c = (
  λ h. all_taken (λ (other : List ℕ). HoldsWithin c.args.logged.now c.args.held.now other) c.args.all.now
      c.loop-other.other-index c.loop-other-test.false c.loop-other.invariant,
  λ all. refl,
)
