use Rattle.std.proofs.Common.{◌≡◌, map}
use Rattle.oz_script.proofs.placed.placed.places_of.Given as goal

abbrev pub invariant-loop-entry : goal.invariant-loop-entry
invariant-loop-entry l = l.places.items ≡ map (λ entry. entry.now.place) l.yielded
