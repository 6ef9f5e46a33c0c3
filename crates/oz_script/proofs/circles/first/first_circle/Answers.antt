use Rattle.std.proofs.Common.{ℕ, ◌+◌, Option, None, get_or, refl, sym, subst, ◌∙◌, arith}
use Rattle.oz_script.specs.declared.circles.waits.Waits.{Waits}
use Rattle.oz_script.proofs.circles_lemmas.Passing.{IsFirstSo, so_same, so_earlier, so_all, own_at, no_start}
use Rattle.oz_script.proofs.circles.first.first_circle.Goals as goal
use Rattle.oz_script.proofs.circles.first.first_circle.Goals.{then-is_none+in_ok-found, else-is_none}

nothing : Waits
nothing = record { client = 0; before = None; after = None }

pub loop-line-preserved : goal.loop-line-preserved
unfolding nothing
loop-line-preserved c =
    let lines = c.args.lines.now in
    let k = c.loop-line.line-index in
    elim c.if-is_none.branch [
      | then-is_none+in_ok-found w ↦
          subst (λ (first : Option ℕ). IsFirstSo lines (k + 1) first) (sym (w.first-is ∙ w.earlier-first.ensures))
          (so_earlier lines k (get_or lines k nothing).client c.loop-line.first w.in_ok-found.found (own_at lines k (get_or lines k nothing).client nothing c.loop-line-test.true refl) c.loop-line.invariant w.in_ok-found.ensures)
      | else-is_none w ↦
          subst (λ (first : Option ℕ). IsFirstSo lines (k + 1) first) (sym w.first-is)
          (so_same lines k c.loop-line.first (no_start lines k nothing c.loop-line-test.true w.if-is_none.ensures) c.loop-line.invariant)
    ]

pub returns : goal.returns
returns c = so_all c.args.lines.now c.loop-line.line-index c.loop-line.first c.requires (omega arith) c.loop-line.invariant
