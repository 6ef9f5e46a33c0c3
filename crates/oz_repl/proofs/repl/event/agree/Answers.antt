use Rattle.std.proofs.Common.{◌≡◌, true, sym, ◌∙◌, subst, List, ℕ}
use Rattle.std.specs.List.{All}
use Rattle.oz_repl.specs.repl.View.{HoldsWithin}
use Rattle.oz_repl.proofs.repl.event.agree.Goals as goal
use Rattle.oz_repl.proofs.repl.event.agree.Goals.{then-are_all, else-are_all}

pub returns-then-are_all-2 : goal.returns-then-are_all-2
returns-then-are_all-2 c =
    let both : All (λ up. up ≡ true) c.args.view.now.up × All (λ closed. closed ≡ true) c.args.view.now.closed = elim c.if-are_all.branch [
      | then-are_all w ↦ (c.are_all.ensures.0 w.if-are_all.true, w.are_all-then-are_all.ensures.0 (sym w.value-is ∙ c.if-are_all-2.true))
      | else-are_all w ↦ absurd (let a = w.value-is in let b = c.if-are_all-2.true in cc)
    ] in (
      λ is. record {
        up = both.0;
        closed = both.1;
        alike = subst (λ (logged : List ℕ). All
            (λ (held : List ℕ). All (λ (other : List ℕ). HoldsWithin logged held other) c.args.view.now.held)
            c.args.view.now.held) c.items.ensures (c.hold_alike.ensures.0 is);
      },
      λ agree. c.hold_alike.ensures.1
          (subst (λ (logged : List ℕ). All (λ (held : List ℕ). All (λ (other : List ℕ). HoldsWithin logged held other)
          c.args.view.now.held) c.args.view.now.held) (sym c.items.ensures) agree.alike),
    )
