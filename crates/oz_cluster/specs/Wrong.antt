-- What is wrong with the disks of a store that tell their bytes.
use Rattle.std.specs.Prelude.{◌≡◌, ◌≢◌, ◌⊎◌, ℕ, ◌≤◌, List, length, Some, IsSomeAnd, slice_get}
use Rattle.oz_block.specs.Blocks.{StandsFor as StandsForNode, IsDamagedDisk as IsDamagedMeta}
use Rattle.oz_datanode.specs.declared.disks.NodeDisks.{NodeDisks}
use Rattle.oz_datanode.specs.Datanode.{IsLowestPast}
use Rattle.oz_running.specs.declared.disk_run.disks.Disks.{Disks}
use Rattle.oz_entries.specs.Node.{Node}
use Rattle.oz_scm.specs.grants.Made.{Made}
use Rattle.oz_journal.specs.Grammar.{IsJournal}
use Rattle.oz_loaded.specs.Loads.{IsDamagedDisk as IsDamagedManager, IsLoaded}
use Rattle.oz_loaded.specs.Counted.{HasId}
use Rattle.oz_loaded.specs.Unseated.{UnseatedView}
use Rattle.oz_rows.specs.declared.key.RowKey.{RowKey}
use Rattle.oz_rows.specs.declared.row.Row.{Row}
use Rattle.oz_rows.specs.RowMaps.{row_of}
use Rattle.oz_running.specs.disk_name.DiskName.{DiskName}
use Rattle.oz_running.specs.disk_name.DiskName.TheVariants as disk
use Rattle.oz_running.specs.fault.StoreFault.{StoreFault}
use Rattle.oz_running.specs.fault.StoreFault.TheVariants.{Disk, Damaged, Nodes, Ids, OutOfMemory}
use Rattle.oz_running.specs.Ids.{HoldsId}
use Rattle.oz_scm.specs.Scm.{StandsFor as StandsForScm, IsDamagedDisk as IsDamagedScm, IsOfNodes}
use Rattle.oz_world.specs.Disk.{Seen}

-- these bytes of a manager's disk make a row that has this local id, or whose key has it
pub record MakeARowOf (id : ℕ) (bytes : List ℕ) : Type 0 where
  pub bodies : List (List ℕ)
  pub journal : IsJournal bytes bodies
  pub unseated : UnseatedView
  pub loaded : IsLoaded bodies unseated
  pub key : RowKey
  pub row : Row
  pub there : row_of loaded.all key ≡ Some row
  pub has : HasId key row id

module _ {D : Type 0} (see : D → Seen) (disks : Disks D) where
  -- the journal of the datanode of this number tells bytes of which this holds
  abbrev pub MetaTells : ℕ → (NodeDisks D → List ℕ → Type 0) → Type 0
  MetaTells dn Holds =
      IsSomeAnd (slice_get disks.nodes.items dn) (λ node. IsSomeAnd (see node.meta).told (Holds node))

  -- a disk is damaged, and its first bad field has this place, or a slot in use passes the end
  abbrev pub IsDamaged : DiskName → ℕ → Type 0
  IsDamaged disk.Manager offset = IsSomeAnd (see disks.manager).told (λ bytes. IsDamagedManager bytes offset)
  IsDamaged disk.Scm offset = IsSomeAnd (see disks.scm).told (λ bytes. IsDamagedScm bytes offset)
  IsDamaged (disk.Meta dn) offset = MetaTells dn (λ node bytes. IsDamagedMeta bytes offset)
  IsDamaged (disk.Slots dn) offset = MetaTells dn (λ node bytes. IsSomeAnd (see node.slots).told (λ slots.
      (this : Node) × StandsForNode bytes this × IsLowestPast this (length slots) offset))

  -- a row of the manager's has this local id, or a datanode holds a block of it
  abbrev pub IsOnDisk : ℕ → Type 0
  IsOnDisk id =
      IsSomeAnd (see disks.manager).told (MakeARowOf id)
      ⊎ ((dn : ℕ) × MetaTells dn (λ node bytes. (this : Node) × StandsForNode bytes this × HoldsId id this))

  -- A disk is damaged; the storage container manager's names another number of datanodes than there are; or an id that a
  -- disk has isn't below the next one that it grants.
  abbrev pub IsWrong : StoreFault → Type 0
  IsWrong (Disk name) = ⊥
  IsWrong (Damaged name offset) = IsDamaged name offset
  IsWrong (Nodes recorded given) =
      IsSomeAnd (see disks.scm).told (IsOfNodes recorded) × (given ≡ length disks.nodes.items) × (recorded ≢ given)
  IsWrong (Ids next id) =
      IsSomeAnd (see disks.scm).told (λ bytes. (made : Made) × StandsForScm (length disks.nodes.items) bytes made
      × (next ≡ made.next_id)) × IsOnDisk id × (next ≤ id)
  IsWrong OutOfMemory = ⊥
