-- Why a store's disks weren't loaded, and what comes back.
use Rattle.std.specs.Prelude.{◌≡◌, ◌⊎◌, ℕ, List, length, Option, IfSome}
use Rattle.std.specs.List.{AllZip}
use Rattle.oz_running.specs.declared.disk_run.disks.Disks.{Disks}
use Rattle.oz_journal.specs.declared.load_fault.LoadFault.{LoadFault}
use Rattle.oz_journal.specs.declared.load_fault.LoadFault.TheVariants as load
use Rattle.oz_journal.specs.Grammar.{IsJournal}
use Rattle.oz_loaded.specs.Loads.{IsDamagedDisk, IsLoaded}
use Rattle.oz_loaded.specs.Unseated.{UnseatedView}
use Rattle.oz_headline.specs.disk_name.DiskName.TheVariants.{Manager}
use Rattle.oz_headline.specs.fault.StoreFault.{StoreFault}
use Rattle.oz_headline.specs.fault.StoreFault.TheVariants.{Disk, Damaged, OutOfMemory}
use Rattle.oz_headline.specs.LoadedDisks.{LeavesJournal, LeavesNode, LeavesScm}
use Rattle.oz_headline.specs.Refused.{IsSo}
use Rattle.oz_world.specs.Disk.{Seen}
use Rattle.oz_world.specs.Faults.{Rose}

-- a fault of the manager's disk
abbrev pub store_fault_of : LoadFault → StoreFault
store_fault_of load.Disk = Disk Manager
store_fault_of (load.Damaged offset) = Damaged Manager offset
store_fault_of load.OutOfMemory = OutOfMemory

-- why the manager's disk wasn't loaded
abbrev pub ManagerIsSo : Seen → Seen → LoadFault → Type 0
ManagerIsSo before after load.Disk = Rose before.faults after.faults
ManagerIsSo before after (load.Damaged offset) = IfSome before.told (λ bytes. IsDamagedDisk bytes offset)
ManagerIsSo before after load.OutOfMemory = Unit {0}

-- These bytes, where they are told, are a manager's, whose rows have no greater id than this one.
pub record IsManagerOf (told : Option (List ℕ)) (greatest : ℕ) : Type 0 where
  pub bodies : List (List ℕ)
  pub unseated : UnseatedView
  pub loaded : IsLoaded bodies unseated
  pub journal : IfSome told (λ bytes. IsJournal bytes bodies)
  pub are : greatest ≡ unseated.greatest_id

module _ {D : Type 0} (see : D → Seen) (before after : Disks D) where
  -- The manager's disk wasn't loaded for this, and the others weren't touched.
  pub record ManagerIsRefused (fault : StoreFault) : Type 0 where
    pub why : LoadFault
    pub so : ManagerIsSo (see before.manager) (see after.manager) why
    pub named : fault ≡ store_fault_of why
    pub scm : after.scm ≡ before.scm
    pub nodes : after.nodes ≡ before.nodes

  -- The manager's disk was loaded, and of the others one wasn't for this, or they don't agree.
  pub record NodesAreRefused (fault : StoreFault) : Type 0 where
    pub greatest : ℕ
    pub manager : IsManagerOf (see before.manager).told greatest
    pub so : IsSo see greatest before.scm before.nodes.items after.scm after.nodes.items fault

  abbrev pub IsRefusedFor : StoreFault → Type 0
  IsRefusedFor fault = ManagerIsRefused fault ⊎ NodesAreRefused fault

  -- Each disk was loaded or not, and lost nothing.
  pub record AreAtMostLoaded : Type 0 where
    pub manager : LeavesJournal (see before.manager) (see after.manager)
    pub scm : LeavesScm (length before.nodes.items) (see before.scm) (see after.scm)
    pub nodes : AllZip (LeavesNode see) before.nodes.items after.nodes.items
