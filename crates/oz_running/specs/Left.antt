-- For private calls: what the threads of a run leave.
use Rattle.std.specs.Prelude.{◌≡◌, ℕ, ◌≤◌, Bool, List, length, Option, Some, slice_get}
use Rattle.oz_core.specs.declared.event.Event.{Event}
use Rattle.oz_core.specs.declared.event.Node.{Node}
use Rattle.oz_core.specs.declared.event.Node.TheVariants as node
use Rattle.oz_core.specs.declared.opening.Opening.{Opening}
use Rattle.oz_core.specs.Contents.{OpeningBytes}
use Rattle.oz_datanode.specs.Datanode.{State as Datanode}
use Rattle.oz_flusher.specs.flushing.Kept.{IsKept}
use Rattle.oz_script.specs.declared.lines.script.Script.{Script}
use Rattle.oz_headline.specs.NodeSeat.{IsKept as SeatIsKept, StandsFor}
use Rattle.oz_nodes.specs.declared.nodes.TheConstants.{MOST_NODES}
use Rattle.oz_rows.specs.RowMaps.{Rows}
use Rattle.oz_running.specs.Seats.{HaveLeft}
use Rattle.oz_scm.specs.Scm.{State as Scm}
use Rattle.oz_scm_events.specs.Kept.{IsKept as ScmIsKept}
use Rattle.oz_worker.specs.servers.Served.{IsServed}
use Rattle.oz_turn.specs.declared.seat.Seat.{Seat}
use Rattle.oz_turn.specs.declared.told.Told.{Ghosts}
use Rattle.oz_turn.specs.Ring.{TurnId}
use Rattle.oz_world.specs.Disk.{Images, Seen, seen}

module _ {D T : Type 0} {of : Ghosts T Event} (told : D → Option (List ℕ)) (clock : D → ℕ) (image : D → Images)
    (faults : D → ℕ) (Coherent : Type 0) (opening : Opening) (bytes : OpeningBytes) (script : Script) (counts : Node → ℕ)
    (turn : TurnId) where
  -- the datanode in the place of this number, if there is one, and its seat
  abbrev pub IsServedAt : List (Datanode D) → ℕ → Seat T Event of → Type 0
  IsServedAt nodes dn s = (datanode : Datanode D) → slice_get nodes dn ≡ Some datanode
      → IsServed turn (SeatIsKept Coherent opening bytes script)
      (StandsFor told clock image faults Coherent opening bytes script counts) dn datanode s

  -- There are as many datanodes as the opening has, and each seat of the turn left with what is kept of its node: of the
  -- manager's journal, stopped or not, on its disk, of the storage container manager, and of each datanode.
  pub record IsLeft (bodies : List (List ℕ)) (begun : Seen) (loaded : Rows) (stopped : Bool) (disk : D) (scm : Scm D)
      (nodes : List (Datanode D)) (seats : List (Seat T Event of)) : Type 0 where
    pub count : length nodes ≡ length opening.nodes
    pub few : length opening.nodes ≤ MOST_NODES
    pub left : HaveLeft turn Coherent opening loaded
        (λ saw gave. IsKept Coherent opening bodies begun stopped saw gave
        (seen (told disk) (clock disk) (image disk) (faults disk)))
        (ScmIsKept opening (counts node.Scm) scm (faults scm.disk))
        (IsServedAt nodes) seats
