-- Batches that wait.
use Rattle.std.specs.Prelude.{◌≡◌, ◌⊎◌, ℕ, ◌+◌, ◌-◌, ◌<◌, ◌≤◌, List, [], length, take, drop}
use Rattle.oz_journal.specs.declared.batches.batches.TheConstants.{LARGEST_BUFFER}

-- What contracts see of batches: their bytes, one batch after another, and for how many bytes more there is room.
pub record Waiting : Type 0 where
  pub bytes : List ℕ
  pub spare : ℕ

-- For private calls.

-- the batches in a frame: thirteen bytes stand before them, and one behind
abbrev pub framed_batches : List ℕ → List ℕ
framed_batches framed = take (length framed - 14) (drop 13 framed)

-- No batches, or batches behind thirteen bytes. There is memory for the bytes that may still come and one more, and for the
-- thirteen where they aren't there yet.
pub record IsFramed (framed : List ℕ) (spare capacity : ℕ) : Type 0 where
  pub shape : (framed ≡ []) ⊎ (14 ≤ length framed)
  pub behind : 0 < length framed → length framed + spare + 1 ≤ capacity
  pub before : 0 < spare → 13 + spare + 1 ≤ capacity
  pub few : (length framed - 13) + spare ≤ LARGEST_BUFFER
