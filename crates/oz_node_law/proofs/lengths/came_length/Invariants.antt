use Rattle.std.proofs.Common.{◌≡◌, take}
use Rattle.oz_core.specs.Nodes.{put_length}
use Rattle.oz_core.specs.Stories.{all_told, first_in}
use Rattle.oz_node_law.proofs.lengths.came_length.Given as goal

abbrev pub invariant-loop-event : goal.invariant-loop-event
invariant-loop-event l = l.length ≡ first_in (all_told (put_length l.block) (take l.event-index l.fn.story))
