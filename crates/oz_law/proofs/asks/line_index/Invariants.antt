use Rattle.std.proofs.Common.{◌≡◌, take}
use Rattle.oz_core.specs.Asks.{line_index}
use Rattle.oz_law.proofs.asks.line_index.Given as goal

abbrev pub invariant-loop-event : goal.invariant-loop-event
invariant-loop-event l = l.greatest ≡ line_index l.client l.line (take l.event-index l.story)
