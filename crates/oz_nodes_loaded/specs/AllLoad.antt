-- Disks that load, and faults that those don't have.
use Rattle.std.specs.Prelude.{ℕ, Bool, true, false, List, length, IsSomeAnd}
use Rattle.std.specs.List.{AllZip}
use Rattle.oz_datanode.specs.Datanode.{BothStandFor}
use Rattle.oz_datanode.specs.declared.disks.NodeDisks.{NodeDisks}
use Rattle.oz_entries.specs.Node.{Node}
use Rattle.oz_scm.specs.grants.Made.{Made}
use Rattle.oz_scm.specs.Scm.{StandsFor}
use Rattle.oz_world.specs.Disk.{Seen}
use Rattle.oz_nodes_loaded.specs.declared.fault.StoreFault.{StoreFault}
use Rattle.oz_nodes_loaded.specs.declared.fault.StoreFault.TheVariants.{Disk, Damaged, Nodes, Ids, OutOfMemory}
use Rattle.oz_nodes_loaded.specs.Ids.{AreBelow}

module _ {D : Type 0} (see : D → Seen) where
  -- the disks of a datanode tell bytes that stand for this
  abbrev pub NodeStands : NodeDisks D → Node → Type 0
  NodeStands disks node =
      IsSomeAnd (see disks.meta).told (λ journal. IsSomeAnd (see disks.slots).told (λ slots.
      BothStandFor journal slots node))

  -- All disks tell bytes that stand for something, and the ids of all blocks are below the next one.
  pub record AllLoad (greatest : ℕ) (scm : D) (nodes : List (NodeDisks D)) : Type 0 where
    pub made : Made
    pub scm_stands : IsSomeAnd (see scm).told (λ bytes. StandsFor (length nodes) bytes made)
    pub held : List Node
    pub nodes_stand : AllZip NodeStands nodes held
    pub below : AreBelow greatest held made.next_id

-- the fault is in what the disks have
abbrev pub is_of_bytes : StoreFault → Bool
is_of_bytes (Disk name) = false
is_of_bytes (Damaged name offset) = true
is_of_bytes (Nodes recorded given) = true
is_of_bytes (Ids next id) = true
is_of_bytes OutOfMemory = false
