-- What the calls of a disk do to what it contains, and what a stop may leave of it.
use Rattle.std.specs.Prelude.{◌≡◌, ℕ, ◌+◌, ◌-◌, ◌^◌, ◌≤◌, ◌↔◌, min, max, List, ◌++◌, length, take, drop, Option, None}
use Rattle.std.specs.Prelude.{Some, IsSomeAnd}

-- the clock's last value, at which nothing changes any more
abbrev pub last_moment : ℕ
last_moment = 2 ^ 64 - 1

-- these bytes with others at pos in the place of what was there
abbrev pub overwritten : ℕ → List ℕ → List ℕ → List ℕ
overwritten pos others bytes = take pos bytes ++ others ++ drop (pos + length others) bytes

-- A write of count bytes at pos that was done in part, or not at all: any bytes in the range and past the old end,
-- the same elsewhere, and a length from the old one to that of the whole write.
pub record Torn (pos count : ℕ) (before after : List ℕ) : Type 0 where
  pub front : take (min pos (length before)) after ≡ take pos before
  pub back : drop (pos + count) after ≡ drop (pos + count) before
  pub no_shorter : length before ≤ length after
  pub no_longer : length after ≤ max (length before) (pos + count)

-- A cut to a size that was done in part, or not at all: any bytes in what was to go, the same before it, and a length
-- from the size to the old one.
pub record CutShort (size : ℕ) (before after : List ℕ) : Type 0 where
  pub front : take (min size (length before)) after ≡ take size before
  pub no_shorter : min size (length before) ≤ length after
  pub no_longer : length after ≤ length before

-- nothing changes
abbrev pub Same : List ℕ → List ℕ → Type 0
Same before after = after ≡ before

-- A disk that tells its contents tells them still, and they came by this step. One that doesn't, doesn't.
abbrev pub Moves : (List ℕ → List ℕ → Type 0) → Option (List ℕ) → Option (List ℕ) → Type 0
Moves step None after = after ≡ None
Moves step (Some before) after = IsSomeAnd after (step before)

-- a disk tells its contents where it told them before, and nowhere else
abbrev pub TellsAsBefore : Option (List ℕ) → Option (List ℕ) → Type 0
TellsAsBefore before after = (before ≡ None) ↔ (after ≡ None)

-- the images of a disk: at each moment, what a stop may leave
abbrev pub Images : Type 1
Images = ℕ → List ℕ → Type 0

-- the clock and the images of each moment stay as they are
pub record Stands (before now : ℕ) (old new : Images) : Type 0 where
  pub moment : now ≡ before
  pub images : (t : ℕ) (bytes : List ℕ) → new t bytes ↔ old t bytes

-- The clock goes on by one moment. Earlier moments keep their images, and each image of the new moment came by this
-- step from one of the moment before.
pub record Ticks (step : List ℕ → List ℕ → Type 0) (before now : ℕ) (old new : Images) : Type 0 where
  pub later : now ≡ before + 1
  pub kept : (t : ℕ) (bytes : List ℕ) → t ≤ before → new t bytes ↔ old t bytes
  pub made : (after : List ℕ) → new now after → (bytes : List ℕ) × old before bytes × step bytes after

-- Whatever comes by this step from an image of the moment before is an image of the new moment.
abbrev pub LeavesEach : (List ℕ → List ℕ → Type 0) → ℕ → ℕ → Images → Images → Type 0
LeavesEach step before now old new = (bytes after : List ℕ) → old before bytes → step bytes after → new now after

-- a stop at this moment leaves these bytes and no others
abbrev pub IsStable : Images → ℕ → List ℕ → Type 0
IsStable image now bytes = (left : List ℕ) → image now left → left ≡ bytes

-- what is seen of a disk: what a read gives, the present moment, what a stop may leave, how often it has failed
pub record Seen : Type 1 where
  pub told : Option (List ℕ)
  pub clock : ℕ
  pub image : Images
  pub faults : ℕ

abbrev pub seen : Option (List ℕ) → ℕ → Images → ℕ → Seen
seen told clock image faults = record { told = told; clock = clock; image = image; faults = faults }
