use Rattle.std.proofs.Common.{ℕ, List, take}
use Rattle.oz_entries.specs.Node.{without, names_some}
use Rattle.oz_entries.specs.Held.{HeldView, node_of, AreSame, IsNamed}
use Rattle.oz_entries.proofs.held.Held.forget_locals.Given as goal

-- the blocks so far are gone
pub record Forgets (before after : HeldView) (container : ℕ) (i : ℕ) (locals : List ℕ) : Type 0 where
  pub same : AreSame (without (names_some container (take i locals)) (node_of before)) (node_of after)
  pub named : (other : ℕ) → IsNamed before other → IsNamed after other

abbrev pub invariant-loop-local : goal.invariant-loop-local
invariant-loop-local l = Forgets l.fn.self l.self l.container l.local-index l.locals
