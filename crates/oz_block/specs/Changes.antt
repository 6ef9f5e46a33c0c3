-- What a change of blocks and a wipe do, whatever comes of the call.
use Rattle.std.specs.Prelude.{◌≡◌, ◌⊎◌, ℕ, ◌+◌, ◌≤◌, Bool, true, false, List, [], ◌∷◌, ◌++◌, Some, Result, Ok}
use Rattle.std.specs.Prelude.{Err, is_err, IfSome, OnOk, OnErr, IfErr}
use Rattle.oz_block.specs.Blocks.{State, node_in, StandsFor}
use Rattle.oz_block.specs.declared.fault.BlockFault.{BlockFault}
use Rattle.oz_block.specs.declared.fault.BlockFault.TheVariants.{Stopped, OutOfMemory}
use Rattle.oz_entries.specs.declared.entry.Entry.{Entry}
use Rattle.oz_entries.specs.Entries.{entry_bytes}
use Rattle.oz_entries.specs.Node.{empty_node, after_entry}
use Rattle.oz_journal.specs.Grammar.{IsJournal, TellsBodies}
use Rattle.oz_journal.specs.Journal.{IsBeforeOrAfter}
use Rattle.oz_world.specs.Disk.{Seen, TellsAsBefore, IsStable}
use Rattle.oz_world.specs.Faults.{Rose}
use Rattle.oz_world.specs.Moments.{Elapses, LeavesOnly}

-- the call answers that it is stopped
abbrev pub says_stopped : {T : Type 0} → Result T BlockFault → Bool
says_stopped (Ok x) = false
says_stopped (Err (Stopped count)) = true
says_stopped (Err OutOfMemory) = false

-- A call that is to make a change which this entry names.
pub record Changes {D T : Type 0} (entry : Entry) (old new : State D) (before after : Seen)
    (result : Result T BlockFault) : Type 0 where
  -- Where it succeeds the change is made, by one body more, which is stable.
  pub made : OnOk result (node_in new ≡ after_entry entry (node_in old))
  pub tells : (bodies : List (List ℕ)) → TellsBodies before.told bodies
      → OnOk result (TellsBodies after.told (bodies ++ entry_bytes entry ∷ []))
  pub acknowledged : (bodies : List (List ℕ)) → TellsBodies before.told bodies
      → OnOk result ((left : List ℕ) → after.image after.clock left → IsJournal left (bodies ++ entry_bytes entry ∷ []))
  pub moments : OnOk result (after.clock ≡ before.clock + 4)
  -- Where it doesn't nothing changes in what is held, and without memory nothing on the disk.
  pub same : OnErr result (node_in new ≡ node_in old)
  pub untouched : result ≡ Err OutOfMemory → new.disk ≡ old.disk
  -- A stop at any moment of the call leaves the bodies, or these and the one that names the change.
  pub leaves : old.stopped ≡ false → (bodies : List (List ℕ)) → TellsBodies before.told bodies
      → LeavesOnly (IsBeforeOrAfter bodies (entry_bytes entry)) before.clock after.clock after.image
  pub stands : old.stopped ≡ false → IfSome before.told (λ bytes.
      LeavesOnly (λ left. StandsFor left (node_in old) ⊎ StandsFor left (after_entry entry (node_in old)))
      before.clock after.clock after.image)
  pub telling : TellsAsBefore before.told after.told
  pub time : Elapses before.clock after.clock before.image after.image
  -- It answers that it is stopped where it was, and then nothing changes at all, and where the disk failed in the call.
  pub stops : new.stopped ≡ says_stopped result
  pub still : old.stopped ≡ true → new ≡ old
  pub count : (count : ℕ) → result ≡ Err (Stopped count) → count ≡ after.faults
  pub cause : old.stopped ≡ false → new.stopped ≡ true → Rose before.faults after.faults
  pub never_falls : before.faults ≤ after.faults

-- A call that is to take everything away. Nothing is said of what a stop in the middle of it leaves.
pub record Wipes {D T : Type 0} (old new : State D) (before after : Seen) (result : Result T ℕ) : Type 0 where
  -- Where it succeeds nothing is held, and no body is left, which is stable.
  pub made : OnOk result (node_in new ≡ empty_node)
  pub tells : (bodies : List (List ℕ)) → TellsBodies before.told bodies → OnOk result (TellsBodies after.told [])
  pub contents : (bytes : List ℕ) → before.told ≡ Some bytes → OnOk result (after.told ≡ Some (0 ∷ []))
  pub stable : OnOk result (IfSome after.told (IsStable after.image after.clock))
  pub moments : OnOk result (after.clock ≡ before.clock + 4)
  -- Where it doesn't nothing changes in what is held in memory.
  pub same : OnErr result (node_in new ≡ node_in old)
  pub telling : TellsAsBefore before.told after.told
  pub time : Elapses before.clock after.clock before.image after.image
  -- It answers the count of faults where it was stopped, and then nothing changes at all, and where the disk failed in
  -- the call.
  pub stops : new.stopped ≡ is_err result
  pub still : old.stopped ≡ true → new ≡ old
  pub count : IfErr result (λ count. count ≡ after.faults)
  pub cause : old.stopped ≡ false → new.stopped ≡ true → Rose before.faults after.faults
  pub never_falls : before.faults ≤ after.faults
