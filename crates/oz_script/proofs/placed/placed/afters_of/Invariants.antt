use Rattle.std.proofs.Common.{◌≡◌, ◌++◌, drop, Ok}
use Rattle.oz_script.specs.draft.Drafts.{◌>>=◌}
use Rattle.oz_script.specs.placed.Placed.{afters_of}
use Rattle.oz_script.proofs.placed.placed.afters_of.Given as goal

abbrev pub invariant-loop-entry : goal.invariant-loop-entry
invariant-loop-entry l =
    (afters_of l.drafting.draft (drop l.entry-index l.entries) >>= λ rest. Ok (l.afters ++ rest)) ≡ afters_of l.drafting.draft l.drafting.draft.entries
