-- What the calls on slots do to their disk, whatever comes of them.
use Rattle.std.specs.Prelude.{◌≡◌, ℕ, ◌+◌, List, [], Result, IfSome, OnOk}
use Rattle.std.specs.Option.{option_map}
use Rattle.oz_world.specs.Disk.{Seen, Same, Torn, Moves, TellsAsBefore, IsStable, overwritten}
use Rattle.oz_world.specs.Faults.{HasCause}
use Rattle.oz_world.specs.Moments.{Elapses, Spans}
use Rattle.oz_chunk.specs.declared.table.TheConstants.{SLOT_SIZE}
use Rattle.oz_chunk.specs.Slots.{start_of}

-- These bytes fill a slot, or a part of them does. Nothing else is written.
pub record Writes {T E : Type 0} (slot : ℕ) (filling : List ℕ) (before after : Seen)
    (result : Result T E) : Type 0 where
  pub written : OnOk result (after.told ≡ option_map (overwritten (start_of slot) filling) before.told)
  pub torn : Moves (Torn (start_of slot) SLOT_SIZE) before.told after.told
  pub time : Spans (Torn (start_of slot) SLOT_SIZE) before.clock after.clock before.image after.image
  pub moment : OnOk result (after.clock ≡ before.clock + 1)
  pub cause : HasCause before.faults after.faults result

-- What the disk tells stays, and is stable where the call succeeded.
pub record Syncs {T E : Type 0} (before after : Seen) (result : Result T E) : Type 0 where
  pub told : after.told ≡ before.told
  pub stable : OnOk result (IfSome after.told (IsStable after.image after.clock))
  pub time : Spans Same before.clock after.clock before.image after.image
  pub moment : OnOk result (after.clock ≡ before.clock + 1)
  pub cause : HasCause before.faults after.faults result

-- No byte is left, and that is stable. Nothing is said of what a stop in the middle of the call leaves.
pub record Empties {T E : Type 0} (before after : Seen) (result : Result T E) : Type 0 where
  pub told : OnOk result (after.told ≡ option_map (λ bytes. []) before.told)
  pub telling : TellsAsBefore before.told after.told
  pub stable : OnOk result (IfSome after.told (IsStable after.image after.clock))
  pub time : Elapses before.clock after.clock before.image after.image
  pub moments : OnOk result (after.clock ≡ before.clock + 2)
  pub cause : HasCause before.faults after.faults result
