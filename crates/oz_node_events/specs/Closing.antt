-- What closing and dropping a replica do at a datanode.
use Rattle.std.specs.Prelude.{◌≡◌, ◌⊎◌, ℕ, true, List, Option, Some}
use Rattle.std.specs.FinMap.{get}
use Rattle.oz_block.specs.Blocks.{StandsFor}
use Rattle.oz_core.specs.declared.event.Event.{Event}
use Rattle.oz_core.specs.declared.opening.Opening.{Opening}
use Rattle.oz_core.specs.Law.{WasNotOpen, comes_to_a_state}
use Rattle.oz_core.specs.Stories.{has_event}
use Rattle.oz_datanode.specs.Datanode.{State, DisksGoOn, Runs, meta_of, node_in}
use Rattle.oz_datanode.specs.Pairs.{Content, NodeHolds}
use Rattle.oz_entries.specs.declared.entry.Entry.{Entry}
use Rattle.oz_entries.specs.Node.{after_entry}
use Rattle.oz_fields.specs.declared.block.Block.{Block}
use Rattle.oz_world.specs.Disk.{Images}

-- its container has left the open state in the story, or wasn't open as the run began
abbrev pub MayClose : Opening → List Event → ℕ → Type 0
MayClose opening story container =
    (has_event (comes_to_a_state container) story ≡ true) ⊎ WasNotOpen (get opening.containers container)

-- A datanode that runs has made the change that this entry names, and its journal tells so.
pub record HasChanged {D : Type 0} (told : D → Option (List ℕ)) (clock : D → ℕ) (image : D → Images) (faults : D → ℕ) (entry : Entry)
    (old new : State D) : Type 0 where
  pub ran : Runs faults old
  pub runs : Runs faults new
  pub id : new.id ≡ old.id
  pub line : new.stopped ≡ old.stopped
  pub made : node_in new ≡ after_entry entry (node_in old)
  pub stands : (bytes : List ℕ) → told (meta_of new) ≡ Some bytes → StandsFor bytes (node_in new)
  pub pairs : (contents : Block → Content) → NodeHolds told clock image faults contents old
      → NodeHolds told clock image faults contents new
  pub goes_on : DisksGoOn told faults old new
