use Rattle.std.proofs.Common.{length}
use Rattle.oz_script.proofs.draft_lemmas.DraftSteps.{IsReadTo}
use Rattle.oz_script.proofs.draft.drafting.draft_of.Given as goal

abbrev pub invariant-loop-line : goal.invariant-loop-line
invariant-loop-line l = IsReadTo l.bytes l.drafting.draft l.drafting.counts.items l.drafting.opened l.place l.rest

abbrev pub decreases-loop-line : goal.decreases-loop-line
decreases-loop-line l = length l.rest
