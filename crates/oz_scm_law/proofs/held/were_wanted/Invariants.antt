use Rattle.std.proofs.Common.{ℕ, ◌<◌, get_or}
use Rattle.oz_core.specs.declared.opening.NodeOpening.{NodeOpening}
use Rattle.oz_scm_law.specs.Words.{HadWanted}
use Rattle.oz_scm_law.proofs.held.were_wanted.Given as goal

abbrev pub invariant-loop-node : goal.invariant-loop-node
invariant-loop-node l = (k : ℕ) (d : NodeOpening) → k < l.node-index → HadWanted l.fn.opening l.fn.story l.number l.wanted (get_or l.fn.opening.nodes k d)
