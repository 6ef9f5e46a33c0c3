-- What is loaded from disks.
use Rattle.std.specs.Prelude.{◌≡◌, ℕ, ◌+◌, ◌≤◌, true, false, List, [], ◌∷◌, length, replicate, Some, IfSome}
use Rattle.oz_block.specs.Blocks.{StandsFor as StandsForNode}
use Rattle.oz_chunk.specs.Slots.{IsWithin}
use Rattle.oz_datanode.specs.declared.disks.NodeDisks.{NodeDisks}
use Rattle.oz_datanode.specs.Datanode.{State as Datanode, Runs, node_in, meta_of, slots_of}
use Rattle.oz_entries.specs.Node.{is_used}
use Rattle.oz_journal.specs.Grammar.{IsJournal, TellsBodies}
use Rattle.oz_journal.specs.Load.{loaded_at}
use Rattle.oz_scm.specs.grants.Log.{IsOrdered}
use Rattle.oz_scm.specs.Scm.{State as Scm, StandsFor, or_first}
use Rattle.oz_world.specs.Disk.{Seen, IsStable}
use Rattle.oz_nodes_loaded.specs.Disks.{LeavesScm, LeavesJournal, LeavesSlots}

-- the disks of a datanode
abbrev pub disks_in : {D : Type 0} → Datanode D → NodeDisks D
disks_in node = record { meta = meta_of node; slots = slots_of node }

module _ {D : Type 0} (see : D → Seen) where
  -- The storage container manager of so many datanodes was loaded from this disk. The datanodes are up, and its first body
  -- names their number.
  pub record IsScmFrom (given : ℕ) (disk : D) (scm : Scm D) : Type 0 where
    pub stands : IfSome (see disk).told (λ bytes. StandsFor given bytes scm.made)
    pub nodes : scm.made.nodes ≡ given
    pub ordered : IsOrdered scm.made
    pub up : scm.up ≡ replicate given true
    pub running : scm.stopped ≡ false
    pub bodies : IfSome (see disk).told (λ bytes. (bodies : List (List ℕ)) → IsJournal bytes bodies
        → TellsBodies (see scm.disk).told (or_first given bodies))
    pub stable : (bytes : List ℕ) → (see scm.disk).told ≡ Some bytes
        → IsStable (see scm.disk).image (see scm.disk).clock bytes
    pub left : LeavesScm given (see disk) (see scm.disk)

  -- The datanode of this number was loaded from these disks. It runs, what it holds is what its journal stands for, and
  -- what both disks tell is stable.
  pub record IsNodeFrom (dn : ℕ) (disks : NodeDisks D) (node : Datanode D) : Type 0 where
    pub id : node.id ≡ dn
    pub stands : IfSome (see disks.meta).told (λ bytes. StandsForNode bytes (node_in node))
    pub within : IfSome (see disks.slots).told (λ slots. (slot : ℕ) → is_used (node_in node) slot ≡ true
        → IsWithin slot slots)
    pub running : Runs (λ disk. (see disk).faults) node
    pub written : node.shelf.written ≡ []
    pub closed : IfSome (see disks.meta).told (λ bytes. length bytes ≤ 1 → (see (meta_of node)).told ≡ Some (0 ∷ []))
    pub meta_ended : IfSome (see disks.meta).told (λ bytes.
        (see (meta_of node)).clock ≡ loaded_at (see disks.meta).clock bytes)
    pub meta_stable : (bytes : List ℕ) → (see (meta_of node)).told ≡ Some bytes
        → IsStable (see (meta_of node)).image (see (meta_of node)).clock bytes
    pub slots_ended : (see (slots_of node)).clock ≡ (see disks.slots).clock + 1
    pub slots_stable : IfSome (see disks.slots).told (IsStable (see (slots_of node)).image (see (slots_of node)).clock)
    pub meta : LeavesJournal (see disks.meta) (see (meta_of node))
    pub slots : LeavesSlots (see disks.slots) (see (slots_of node))

  -- so it is of each datanode, from this number on
  abbrev pub AreNodesFrom : ℕ → List (NodeDisks D) → List (Datanode D) → Type 0
  AreNodesFrom dn [] [] = Unit {0}
  AreNodesFrom dn [] (node ∷ nodes) = ⊥
  AreNodesFrom dn (disks ∷ all) [] = ⊥
  AreNodesFrom dn (disks ∷ all) (node ∷ nodes) = IsNodeFrom dn disks node × AreNodesFrom (dn + 1) all nodes
