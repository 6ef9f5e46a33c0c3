use Rattle.std.proofs.Common.{◌≡◌, [], take}
use Rattle.oz_core.specs.Manager.{namespace_from}
use Rattle.oz_replay.specs.Words.{is_counted}
use Rattle.oz_replay.proofs.replay.replayed.Given as goal

abbrev pub invariant-loop-i : goal.invariant-loop-i
invariant-loop-i l = l.namespace ≡ namespace_from (is_counted l.most) [] l.opening.namespace (take l.i l.story)
