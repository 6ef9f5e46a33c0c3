use Rattle.std.proofs.Common.{List, ℕ, refl, sym, subst}
use Rattle.std.specs.List.{All}
use Rattle.oz_repl.specs.repl.View.{HoldsWithin}
use Rattle.oz_repl.proofs.Alike.{all_more, all_taken, not_all}
use Rattle.oz_repl.proofs.repl.event.hold_alike.Goals as goal

pub returns-then-not-is_in_all : goal.returns-then-not-is_in_all
returns-then-not-is_in_all c = (
  λ h. absurd cc,
  λ all. absurd (not_all (λ (held : List ℕ). All (λ (other : List ℕ). HoldsWithin c.args.logged.now held other)
      c.args.all.now) c.args.all.now c.loop-held.held-index
      c.held-item.result c.loop-held-test.true c.held-item.is
      (λ within. let is = c.is_in_all.ensures.1 (subst (λ (held : List ℕ). All (λ (other : List ℕ). HoldsWithin c.args.logged.now held other) c.args.all.now) (sym c.items.ensures) within) in
      let no = c.if-not-is_in_all.true in absurd cc)
      all),
)

pub loop-held-preserved : goal.loop-held-preserved
loop-held-preserved c =
    all_more (λ (held : List ℕ). All (λ (other : List ℕ). HoldsWithin c.args.logged.now held other) c.args.all.now) c.args.all.now c.loop-held.held-index
    c.held-item.result c.loop-held-test.true c.held-item.is c.loop-held.invariant
    (subst (λ (held : List ℕ). All (λ (other : List ℕ). HoldsWithin c.args.logged.now held other) c.args.all.now)
    c.items.ensures (c.is_in_all.ensures.0 c.if-not-is_in_all.false))

pub returns : goal.returns
returns c = (
  λ h. all_taken (λ (held : List ℕ). All (λ (other : List ℕ). HoldsWithin c.args.logged.now held other) c.args.all.now) c.args.all.now c.loop-held.held-index
      c.loop-held-test.false c.loop-held.invariant,
  λ all. refl,
)
