-- What a stop at each of several moments may leave.
use Rattle.std.specs.Prelude.{ℕ, ◌≤◌, ◌<◌, ◌↔◌, List}
use Rattle.oz_world.specs.Disk.{Images}

-- Time goes on. The moments up to the first keep their images.
pub record Elapses (before now : ℕ) (old new : Images) : Type 0 where
  pub later : before ≤ now
  pub kept : (t : ℕ) (left : List ℕ) → t ≤ before → new t left ↔ old t left

-- Each image of each later moment came by this step from an image of the first.
pub record Spans (step : List ℕ → List ℕ → Type 0) (before now : ℕ) (old new : Images) : Type 0 where
  pub elapses : Elapses before now old new
  pub made : (t : ℕ) (after : List ℕ) → before < t → t ≤ now → new t after
      → (bytes : List ℕ) × old before bytes × step bytes after

-- a stop at any moment from the first to the last leaves what has P
abbrev pub LeavesOnly : (List ℕ → Type 0) → ℕ → ℕ → Images → Type 0
LeavesOnly P first last image = (t : ℕ) (left : List ℕ) → first ≤ t → t ≤ last → image t left → P left
