-- What loading leaves of a disk, whatever comes of it.
use Rattle.std.specs.Prelude.{◌≡◌, ℕ, ◌≤◌, List, length, Option, Some, IfSome, IsSomeAnd}
use Rattle.oz_datanode.specs.declared.disks.NodeDisks.{NodeDisks}
use Rattle.oz_journal.specs.Load.{IsLoadable, IsLeftAlone}
use Rattle.oz_scm.specs.Scm.{StandsStill}
use Rattle.oz_world.specs.Disk.{Seen, Same, TellsAsBefore}
use Rattle.oz_world.specs.Moments.{Elapses, Spans}

-- two or more bytes are as they were
abbrev pub KeepsBytes : Option (List ℕ) → Option (List ℕ) → Type 0
KeepsBytes before after = IfSome before (λ bytes. 2 ≤ length bytes → after ≡ Some bytes)

-- That of the storage container manager of so many datanodes. Whatever was loaded from what a stop would have left
-- before is loaded from what one leaves since.
pub record LeavesScm (given : ℕ) (before after : Seen) : Type 0 where
  pub telling : TellsAsBefore before.told after.told
  pub never_falls : before.faults ≤ after.faults
  pub time : Elapses before.clock after.clock before.image after.image
  pub moments : IfSome before.told (λ bytes. IsLoadable bytes (before.image before.clock)
      → Spans (StandsStill given) before.clock after.clock before.image after.image)

-- A journal. A stop leaves what one would have left before, or at most one byte in the place of at most
-- one, and so it can be loaded again.
pub record LeavesJournal (before after : Seen) : Type 0 where
  pub telling : TellsAsBefore before.told after.told
  pub contents : KeepsBytes before.told after.told
  pub never_falls : before.faults ≤ after.faults
  pub time : Elapses before.clock after.clock before.image after.image
  pub moments : IfSome before.told (λ bytes. IsLoadable bytes (before.image before.clock)
      → Spans IsLeftAlone before.clock after.clock before.image after.image)
  pub loadable : IfSome before.told (λ bytes. IsLoadable bytes (before.image before.clock)
      → IsSomeAnd after.told (λ left. IsLoadable left (after.image after.clock)))

-- The slots of a datanode. Nothing is written to them.
pub record LeavesSlots (before after : Seen) : Type 0 where
  pub contents : after.told ≡ before.told
  pub never_falls : before.faults ≤ after.faults
  pub moments : Spans Same before.clock after.clock before.image after.image

-- both disks of a datanode
abbrev pub LeavesNode : {D : Type 0} → (D → Seen) → NodeDisks D → NodeDisks D → Type 0
LeavesNode see before after =
    LeavesJournal (see before.meta) (see after.meta) × LeavesSlots (see before.slots) (see after.slots)
