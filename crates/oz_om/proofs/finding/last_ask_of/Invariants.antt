use Rattle.std.proofs.Common.{ℕ, ◌≡◌, ◌≤◌, length, Some}
use Rattle.std.specs.List.{slice_get}
use Rattle.oz_core.specs.declared.event.EventKind.TheVariants.{Ask}
use Rattle.oz_requests.specs.declared.request.Request.{Request}
use Rattle.oz_om.proofs.finding.last_ask_of.Given as goal

-- the id asks nothing from the place on
abbrev pub invariant-loop-place : goal.invariant-loop-place
invariant-loop-place l = record {
  within : l.place ≤ length l.story;
  none : (k seat : ℕ) (request : Request) → l.place ≤ k →
      slice_get l.story k ≡ Some (record { seat = seat; kind = Ask l.id request }) → ⊥;
}

abbrev pub decreases-loop-place : goal.decreases-loop-place
decreases-loop-place l = l.place
