-- The events by which a line has a datanode run, or not, and what a wipe makes of one.
use Rattle.std.specs.Prelude.{◌≡◌, ◌⊎◌, ℕ, Bool, true, false, List, Option}
use Rattle.oz_core.specs.declared.event.Event.{Event}
use Rattle.oz_core.specs.declared.event.EventKind.{EventKind}
use Rattle.oz_core.specs.declared.event.EventKind.TheVariants.{Stop, Start}
use Rattle.oz_core.specs.Seats.{datanode_seat}
use Rattle.oz_datanode.specs.Datanode.{State, DisksGoOn, count_of, is_halted, meta_of, node_in, slots_of}
use Rattle.oz_datanode.specs.Pairs.{Content, NodeHolds}
use Rattle.oz_entries.specs.Node.{empty_node}
use Rattle.oz_fields.specs.declared.block.Block.{Block}
use Rattle.oz_node_events.specs.full.Full.{JournalStands}
use Rattle.oz_world.specs.Disk.{Images}
use Rattle.oz_world.specs.Faults.{Rose}

abbrev pub run_event : ℕ → Bool → EventKind
run_event dn true = Start dn
run_event dn false = Stop dn

-- such an event of the datanode's seat
abbrev pub by_node : ℕ → EventKind → Event
by_node dn kind = record { seat = datanode_seat dn; kind = kind }

-- A datanode whose disks haven't failed holds nothing any more, also once it was stopped, and no replica of it is closed. Where
-- the opening is coherent its journal tells so. Whether a line stopped it is as it was.
pub record IsWipedSo {D : Type 0} (told : D → Option (List ℕ)) (clock : D → ℕ) (image : D → Images) (faults : D → ℕ)
    (Coherent : Type 0) (old new : State D) : Type 0 where
  pub ran : is_halted old ≡ false
  pub unhalted : is_halted new ≡ false
  pub id : new.id ≡ old.id
  pub line : new.stopped ≡ old.stopped
  pub empty : node_in new ≡ empty_node
  pub journal : Coherent → JournalStands told new
  pub pairs : (contents : Block → Content) → NodeHolds told clock image faults contents new
  pub goes_on : DisksGoOn told faults old new

-- A disk of it failed, of both of which so many calls have. Nothing is said of what it holds then.
pub record HaltsSo {D : Type 0} (told : D → Option (List ℕ)) (faults : D → ℕ) (old new : State D) (count : ℕ) : Type 0 where
  pub halted : is_halted new ≡ true
  pub counted : count ≡ count_of faults new
  pub cause : Rose (faults (meta_of old)) (faults (meta_of new)) ⊎ Rose (faults (slots_of old)) (faults (slots_of new))
  pub id : new.id ≡ old.id
  pub line : new.stopped ≡ old.stopped
  pub goes_on : DisksGoOn told faults old new
