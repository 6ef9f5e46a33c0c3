use Rattle.std.proofs.Common.{◌≡◌, ◌+◌, ◌++◌, drop}
use Rattle.oz_model.specs.Reach.{blocks_of}
use Rattle.oz_core.specs.Stories.{all_told}
use Rattle.oz_node_law.specs.Words.{given, taken_slots}
use Rattle.oz_node_law.proofs.room.left_by_pieces.Given as goal

abbrev pub invariant-loop-place : goal.invariant-loop-place
invariant-loop-place l = l.left + taken_slots l.fn.opening l.fn.story l.dn (blocks_of l.fn.pieces ++ all_told (given l.dn) l.fn.story) ≡ l.all + taken_slots l.fn.opening l.fn.story l.dn (blocks_of (drop l.place l.fn.pieces) ++ all_told (given l.dn) l.fn.story)
