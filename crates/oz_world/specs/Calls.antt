-- How the in-memory implementations count their calls and their faults.
use Rattle.std.specs.Prelude.{◌≡◌, ℕ, ◌+◌, ◌-◌, ◌^◌, min, Bool, Contains, if◌then◌else◌}
use Rattle.oz_world.specs.declared.calls.Calls.{Calls}

-- one more, up to the last value
abbrev pub raised : ℕ → ℕ
raised count = min (count + 1) (2 ^ 64 - 1)

-- the call that comes next is one of those that are to fail
abbrev pub IsToFail : Calls → Type 0
IsToFail calls = Contains calls.fails.items (raised calls.made)

-- one call was counted, and one fault where it failed
pub record Counts (old new : Calls) (failed : Bool) : Type 0 where
  pub made : new.made ≡ raised old.made
  pub faults : new.faults ≡ (if failed then raised old.faults else old.faults)
  pub fails : new.fails.items ≡ old.fails.items
