use Rattle.std.proofs.Common.{◌≡◌, None, Some, MatchOption, take}
use Rattle.oz_cluster.specs.files.Asked.{told_in}
use Rattle.oz_cluster.proofs.files.told.last_told.Given as goal

abbrev pub invariant-loop-event : goal.invariant-loop-event
invariant-loop-event l =
    MatchOption l.last (told_in (take l.event-index l.story) ≡ None) (λ answer. told_in (take l.event-index l.story) ≡ Some answer.now)
