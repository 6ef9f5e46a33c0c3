use Rattle.std.proofs.Common.{◌≡◌, ◌+◌, drop}
use Rattle.oz_core.specs.Stories.{all_told}
use Rattle.oz_node_law.specs.Words.{given, taken_slots}
use Rattle.oz_node_law.proofs.room.left_by_events.Given as goal

abbrev pub invariant-loop-place : goal.invariant-loop-place
invariant-loop-place l = l.left + taken_slots l.fn.opening l.fn.story l.dn (all_told (given l.dn) l.fn.story) ≡ l.all + taken_slots l.fn.opening l.fn.story l.dn (all_told (given l.dn) (drop l.place l.fn.story))
