-- What is asked of the seats, the line and the datanode where something is done to a datanode, and how they are left.
use Rattle.std.specs.Prelude.{◌≡◌, ℕ, ◌≤◌, false, List}
use Rattle.oz_buffer.specs.declared.opened.Opened.{Ghosts as Run}
use Rattle.oz_core.specs.declared.event.Event.{Event}
use Rattle.oz_datanode.specs.Datanode.{State, is_halted}
use Rattle.oz_node_events.specs.declared.command.NodeCommand.{NodeCommand}
use Rattle.oz_node_events.specs.Led.{HasItDone}
use Rattle.oz_node_events.specs.NodeSeat.{IsKept, SeatView, StandsFor}
use Rattle.oz_scm_events.specs.Kept.{ScmView}
use Rattle.oz_script.specs.declared.lines.script.Line.{Line}
use Rattle.oz_script.specs.declared.lines.script.TheConstants.{MOST_CLIENTS as MOST}
use Rattle.oz_turn.specs.declared.seat.Seat.{Seat}
use Rattle.oz_turn.specs.declared.told.Told.{Ghosts as Tells}
use Rattle.oz_turn.specs.Ring.{TurnId}
use Rattle.oz_turn.specs.Seat.{IsReady, mine_of, number_of, room_of, seen_of}
use Rattle.oz_turn.specs.Told.{BeginsWith}
use Rattle.oz_world.specs.declared.disk.Disk.{Ghosts as Disk}

module _ {T E : Type 0} {told : Tells T E} where
  -- The turn is the run's, and the seat is one of it that doesn't hold the ledger.
  pub record MayTake (ring now : TurnId) (seat : Seat T E told) : Type 0 where
    pub turn : now ≡ ring
    pub ready : IsReady ring (number_of seat) seat

  -- It is free again, with its number and its room. It has seen what it had seen, or more, and gave nothing.
  pub record OnlyLooked (turn : TurnId) (old new : Seat T E told) : Type 0 where
    pub ready : IsReady turn (number_of old) new
    pub begins : BeginsWith (seen_of new) (seen_of old)
    pub mine : mine_of new ≡ mine_of old
    pub room : room_of new ≡ room_of old

-- The line may have this done to the datanode: it is numbered as those of a script are, and where the opening is coherent it is
-- one of the script with this command, and has started.
pub record MayCommand {O : Type 0} (run : Run O) (seen : List Event) (dn : ℕ) (done : NodeCommand) (by : Line) : Type 0 where
  pub client : by.client ≤ MOST
  pub some : 1 ≤ by.number
  pub line : run.coherent → HasItDone run.script seen dn done by

module _ {D O : Type 0} (disk : Disk D) (run : Run O) where
  -- Something may be done to the datanode: its disks haven't failed, and its seat stands for it.
  pub record MayChange (view : SeatView) (node : State D) : Type 0 where
    pub unhalted : is_halted node ≡ false
    pub kept : IsKept run.coherent run.opening run.bytes run.script view
    pub stood : StandsFor disk.told disk.clock disk.image disk.faults run.coherent run.opening run.bytes run.script run.faults
        view node

  -- The same seat has seen what it had seen, or more, and stands for the datanode as that is now.
  pub record StillStands (old new : SeatView) (node : State D) : Type 0 where
    pub number : new.dn ≡ old.dn
    pub kept : IsKept run.coherent run.opening run.bytes run.script new
    pub stands : StandsFor disk.told disk.clock disk.image disk.faults run.coherent run.opening run.bytes run.script run.faults
        new node
    pub goes_on : BeginsWith new.seen old.seen

-- Nothing was done to a datanode, and its seat gave no event.
pub record WasLeft {D : Type 0} (old new : SeatView) (before after : State D) : Type 0 where
  pub node : after ≡ before
  pub its : new.mine ≡ old.mine
  pub last : new.last ≡ old.last

-- The storage container manager's seat has seen what it had seen, or more, and has as much room.
pub record ScmWentOn {D : Type 0} (old new : ScmView D) : Type 0 where
  pub scm_goes_on : BeginsWith new.seen old.seen
  pub scm_room : new.room ≡ old.room
