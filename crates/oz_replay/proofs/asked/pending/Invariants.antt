use Rattle.std.proofs.Common.{◌≡◌, take, option_copied}
use Rattle.oz_core.specs.Asks.{pending}
use Rattle.oz_replay.proofs.asked.pending.Given as goal

abbrev pub invariant-loop-event : goal.invariant-loop-event
invariant-loop-event l = option_copied l.asked ≡ pending l.id (take l.event-index l.story)
