use Rattle.std.proofs.Common.{List, ◌<◌, length}
use Rattle.oz_core.specs.declared.event.Event.{Event}
use Rattle.oz_core.specs.Contents.{WasGranted}
use Rattle.oz_node_law.proofs.granted.granted_place.Given as goal

abbrev pub invariant-loop-place : goal.invariant-loop-place
invariant-loop-place l = (before : List Event) → length before < l.place → WasGranted l.story l.id l.block before → ⊥
