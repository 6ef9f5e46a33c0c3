-- What is seen of a transfer's streams.
use Rattle.std.specs.Prelude.{◌≡◌, ℕ, List, Option}

-- What a source had left before and has after, or what a sink held before and holds after; and whether its count of faults
-- rose.
pub record Stream : Type 1 where
  pub before : Option (List ℕ)
  pub after : Option (List ℕ)
  pub rose : Type 0

abbrev pub stream : Option (List ℕ) → Option (List ℕ) → Type 0 → Stream
stream before after rose = record { before = before; after = after; rose = rose }

-- nothing was read of it, or written to it
abbrev pub IsAsBefore : Stream → Type 0
IsAsBefore it = it.after ≡ it.before
