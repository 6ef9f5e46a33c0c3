-- What a write to a slot does to its disk.
use Rattle.std.proofs.Common.{◌≡◌, ℕ, ◌+◌, ◌<◌, ◌≤◌, List, length, Option, None, Some, inl, inr, Result, Ok, Err, IsErr, OnOk, OnErr, sym, subst}
use Rattle.std.proofs.lemmas.Bool.{cases_lt, false≢true}
use Rattle.std.specs.Option.{option_map, IsSomeAnd}
use Rattle.oz_world.specs.Disk.{Images, Torn, Moves, Ticks, overwritten, last_moment}
use Rattle.oz_world.specs.laws.Partial.{torn_whole}

written_moves : (told after : Option (List ℕ)) (pos : ℕ) (filling : List ℕ) → after ≡ option_map (overwritten pos filling) told → Moves (Torn pos (length filling)) told after
written_moves None after pos filling written = written
written_moves (Some bytes) after pos filling written =
    subst (λ (o : Option (List ℕ)). IsSomeAnd o (Torn pos (length filling) bytes)) (sym written) (torn_whole pos filling bytes)

-- whatever comes of the call
pub moves_torn : {T E : Type 0} (result : Result T E) (told after : Option (List ℕ)) (pos : ℕ) (filling : List ℕ) → OnOk result (after ≡ option_map (overwritten pos filling) told)
    → OnErr result (Moves (Torn pos (length filling)) told after) → Moves (Torn pos (length filling)) told after
moves_torn (Ok x) told after pos filling written failed = written_moves told after pos filling written
moves_torn (Err e) told after pos filling written failed = failed

-- a call that succeeded took a moment
pub a_moment : {T E : Type 0} (result : Result T E) (step : List ℕ → List ℕ → Type 0) (before now : ℕ) (old new : Images)
    → (before < last_moment → Ticks step before now old new) → (last_moment ≤ before → IsErr result) → OnOk result (now ≡ before + 1)
a_moment (Err e) step before now old new ticks ended = tt
a_moment (Ok x) step before now old new ticks ended = elim (cases_lt before last_moment) [
  | inl lt ↦ (ticks lt).later
  | inr ge ↦ absurd (false≢true (ended ge))
]
