-- How much of a story counts up to an index.
use Rattle.std.specs.Prelude.{◌≡◌, ℕ, ◌<◌, ◌≤◌, List, ◌++◌, Some, Contains}
use Rattle.oz_core.specs.declared.event.Event.{Event}
use Rattle.oz_core.specs.declared.opening.Opening.{Opening}
use Rattle.oz_core.specs.Manager.{decided_index, granted_block, kept_block, kept_up_to, last_index, namespace_of}
use Rattle.oz_core.specs.Stories.{all_told}

-- The front of a story at an index: what a stop would leave at the index is what the front made. Behind it only greater
-- indexes are decided, and each beginning whose last index isn't above it is within.
pub record IsFrontOf (opening : Opening) (most : ℕ) (story front : List Event) : Type 0 where
  pub behind : List Event
  pub parts : story ≡ front ++ behind
  pub namespace : kept_up_to opening most story ≡ namespace_of opening front
  pub granted : all_told (kept_block most) story ≡ all_told granted_block front
  pub within : opening.last_index ≤ most → last_index opening front ≤ most
  pub longest : (start rest : List Event) → story ≡ start ++ rest → last_index opening start ≤ most
      → (more : List Event) × (front ≡ start ++ more)
  pub above : (event : Event) (index : ℕ) → Contains behind event → decided_index event.kind ≡ Some index
      → most < index
