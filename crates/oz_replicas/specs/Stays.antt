-- What goes on at a datanode without a note of it.
use Rattle.std.specs.Prelude.{◌≡◌, ℕ, List, [], Option}
use Rattle.oz_datanode.specs.Datanode.{State, DisksGoOn, node_in, meta_of, is_halted, stop_of}
use Rattle.oz_datanode.specs.Pairs.{Content, NodeHolds}
use Rattle.oz_fields.specs.declared.block.Block.{Block}
use Rattle.oz_world.specs.Disk.{Images}

-- No chunk was written that isn't put.
abbrev pub IsIdle : {D : Type 0} → State D → Type 0
IsIdle node = node.shelf.written ≡ []

-- Nothing happened that is noted: it holds what it held and is stopped as it was, its journal is as it was, its blocks
-- have the contents that they had, and its disks go on.
pub record Stays {D : Type 0} (told : D → Option (List ℕ)) (clock : D → ℕ) (image : D → Images) (faults : D → ℕ)
    (old new : State D) : Type 0 where
  pub id : new.id ≡ old.id
  pub node : node_in new ≡ node_in old
  pub journal : meta_of new ≡ meta_of old
  pub halted : is_halted new ≡ is_halted old
  pub line : new.stopped ≡ old.stopped
  pub stop : stop_of faults new ≡ stop_of faults old
  pub holds : (contents : Block → Content) → NodeHolds told clock image faults contents old
      → NodeHolds told clock image faults contents new
  pub goes_on : DisksGoOn told faults old new
