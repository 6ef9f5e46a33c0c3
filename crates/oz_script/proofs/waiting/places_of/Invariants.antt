use Rattle.std.specs.HashMap.{get}
use Rattle.oz_script.specs.Finding.{is_same_name}
use Rattle.oz_script.proofs.Finds.{FindsSo}
use Rattle.oz_script.proofs.waiting.places_of.Given as goal

abbrev pub invariant-loop-place : goal.invariant-loop-place
invariant-loop-place l = FindsSo l.lines (get is_same_name l.places) l.place
