-- What the storage container manager and the datanodes are at the end of a run, by the whole story.
use Rattle.std.specs.Prelude.{◌≡◌, ℕ, List, Option, Some, length, slice_get}
use Rattle.oz_core.specs.declared.event.Event.{Event}
use Rattle.oz_core.specs.declared.event.Node.{Node}
use Rattle.oz_core.specs.declared.event.Node.TheVariants as node
use Rattle.oz_core.specs.declared.opening.Opening.{Opening}
use Rattle.oz_core.specs.Contents.{OpeningBytes}
use Rattle.oz_core.specs.Seats.{scm_seat}
use Rattle.oz_core.specs.Stories.{mine}
use Rattle.oz_datanode.specs.Datanode.{State as Datanode, count_of}
use Rattle.oz_headline.specs.halts.Disks.{OtherNodes}
use Rattle.oz_script.specs.declared.lines.script.Script.{Script}
use Rattle.oz_nodes_loaded.specs.Led.{no_lines}
use Rattle.oz_nodes_loaded.specs.NodeSeat.{IsKept as SeatIsKept, SeatView, StandsFor, events_of}
use Rattle.oz_replicas.specs.Cells.{IsAtRest}
use Rattle.oz_scm.specs.Scm.{State as Scm}
use Rattle.oz_nodes_loaded.specs.ScmKept.{IsKept as ScmIsKept}
use Rattle.oz_world.specs.Disk.{Images}

-- a datanode's seat that has seen the whole story; which lines had something done to it isn't looked at
abbrev pub seat_over : List Event → ℕ → SeatView
seat_over story dn = record { dn = dn; seen = story; mine = events_of dn story; room = 0; last = no_lines }

-- The storage container manager is what the events of its seat make of the opening. So often its disk had failed once
-- it was loaded.
abbrev pub ScmIsAsTold : {D : Type 0} → (D → ℕ) → Opening → (Node → ℕ) → List Event → Scm D → Type 0
ScmIsAsTold faults opening loaded story scm =
    ScmIsKept opening (loaded node.Scm) scm (faults scm.disk) story (mine scm_seat story)

-- What disks tell and how often they have failed; that they agree; what was opened, with its bytes; the script; how
-- often the disks of each node had failed once they were loaded; and the story.
module _ {D : Type 0} (told : D → Option (List ℕ)) (clock : D → ℕ) (image : D → Images) (faults : D → ℕ)
    (Coherent : Type 0) (opening : Opening) (bytes : OpeningBytes) (script : Script) (loaded : Node → ℕ)
    (story : List Event) where
  -- The datanode of this number has nothing half written, and is what the story makes of it.
  pub record IsAsTold (dn : ℕ) (datanode : Datanode D) : Type 0 where
    pub kept : SeatIsKept Coherent opening bytes script (seat_over story dn)
    pub rests : IsAtRest (StandsFor told clock image faults Coherent opening bytes script loaded) datanode
        (seat_over story dn)

  -- So it is of each in the place of its number, and the opening has as many.
  pub record AreAsTold (datanodes : List (Datanode D)) : Type 0 where
    pub count : length datanodes ≡ length opening.nodes
    pub each : (dn : ℕ) (datanode : Datanode D) → slice_get datanodes dn ≡ Some datanode → IsAsTold dn datanode

-- So often the disks of these had failed once they were loaded: that of the storage container manager, and both of each
-- datanode together.
pub record AreCounted {D : Type 0} (faults : D → ℕ) (counts : Node → ℕ) (loaded : OtherNodes D) : Type 0 where
  pub of_scm : counts node.Scm ≡ faults loaded.scm.disk
  pub of_each : (dn : ℕ) (datanode : Datanode D) → slice_get loaded.datanodes dn ≡ Some datanode
      → counts (node.Datanode dn) ≡ count_of faults datanode
