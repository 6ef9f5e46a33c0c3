use Rattle.std.proofs.Common.{◌≡◌, [], ◌≤◌, length, drop}
use Rattle.oz_flusher.proofs.flushing_lemmas.Own.{own}
use Rattle.oz_flusher.proofs.flushing.halting.last_halt.Given as goal

-- the flusher gave none of the events from the place on
abbrev pub invariant-loop-place : goal.invariant-loop-place
invariant-loop-place l = record {
  within : l.place ≤ length l.story;
  none : own (drop l.place l.story) ≡ [];
}

abbrev pub decreases-loop-place : goal.decreases-loop-place
decreases-loop-place l = l.place
