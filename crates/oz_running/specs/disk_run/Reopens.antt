-- What the disks of nodes stand for at the end of a run.
use Rattle.std.specs.Prelude.{◌≡◌, ℕ, false, List, Some}
use Rattle.oz_block.specs.Blocks.{StandsFor as StandsForNode}
use Rattle.oz_datanode.specs.Datanode.{State as Datanode, is_halted, meta_of, node_in}
use Rattle.oz_scm.specs.Scm.{State as Scm, StandsFor as StandsForScm}
use Rattle.oz_world.specs.Disk.{IsStable, Seen}

module _ {D : Type 0} (see : D → Seen) where
  -- Unless a call on it failed, the disk of the storage container manager of so many datanodes tells bytes from which the
  -- same is loaded, and a stop leaves these bytes.
  abbrev pub ScmReopens : ℕ → Scm D → Type 0
  ScmReopens given scm =
      scm.stopped ≡ false → (bytes : List ℕ) → (see scm.disk).told ≡ Some bytes
      → StandsForScm given bytes scm.made × IsStable (see scm.disk).image (see scm.disk).clock bytes

  -- So it is of the journal of a datanode, from which what it holds is loaded.
  abbrev pub NodeReopens : Datanode D → Type 0
  NodeReopens node =
      is_halted node ≡ false → (bytes : List ℕ) → (see (meta_of node)).told ≡ Some bytes
      → StandsForNode bytes (node_in node) × IsStable (see (meta_of node)).image (see (meta_of node)).clock bytes
