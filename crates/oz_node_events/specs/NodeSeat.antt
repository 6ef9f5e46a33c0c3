-- What contracts see of a datanode's seat, and for which datanodes it stands.
use Rattle.std.specs.Prelude.{◌≡◌, ℕ, ◌<◌, ◌≤◌, Bool, true, false, not, List, [], ◌∷◌, ◌++◌, length, Contains, Option, Some, None}
use Rattle.std.specs.Prelude.{IsSome, IfSome, if◌then◌else◌}
use Rattle.oz_buffer.specs.Buffer.{AllFollow, Follows}
use Rattle.oz_core.specs.declared.event.Event.{Event}
use Rattle.oz_core.specs.declared.event.EventKind.{EventKind}
use Rattle.oz_core.specs.declared.event.EventKind.TheVariants.{Bad, Put}
use Rattle.oz_core.specs.declared.event.Node.{Node}
use Rattle.oz_core.specs.declared.event.Node.TheVariants.{Datanode}
use Rattle.oz_core.specs.declared.opening.Opening.{Opening}
use Rattle.oz_core.specs.declared.opening.Unretired.{Unretired}
use Rattle.oz_core.specs.Asks.{is_told}
use Rattle.oz_core.specs.Contents.{HasContent, OpeningBytes}
use Rattle.oz_core.specs.Manager.{halt_of}
use Rattle.oz_core.specs.Nodes.{holds, is_closed, length_of, stopped_or_started, was_closed, was_held}
use Rattle.oz_core.specs.Seats.{datanode_seat}
use Rattle.oz_core.specs.Stories.{has_event, last_told}
use Rattle.oz_datanode.specs.Datanode.{State, count_of, is_halted, node_in, meta_of, slots_of}
use Rattle.oz_datanode.specs.Pairs.{Content, Has, HaveAll, NodeHolds}
use Rattle.oz_datanode.specs.Writing.{intact, is_open}
use Rattle.oz_entries.specs.Node.{is_held}
use Rattle.oz_entries.specs.declared.row.BlockRow.{BlockRow}
use Rattle.oz_fields.specs.declared.block.Block.{Block}
use Rattle.oz_kept.specs.reopened.Left.{greatest_of, was_greatest}
use Rattle.oz_node_events.specs.full.Full.{JournalStands}
use Rattle.oz_script.specs.declared.lines.script.Script.{Script}
use Rattle.oz_nodes.specs.declared.nodes.TheConstants.{MOST_NODES}
use Rattle.oz_requests.specs.declared.request.AskId.{AskId}
use Rattle.oz_turn.specs.Told.{BeginsWith, own_entries}
use Rattle.oz_world.specs.Disk.{Images}
use Rattle.oz_world.specs.Faults.{Rose}

-- The datanode's number, what its seat has seen of the story, the events that it gave, and how many more it may note; and of each
-- client from 0 on the last line that had something done to the datanode, or 0.
pub record SeatView : Type 0 where
  pub dn : ℕ
  pub seen : List Event
  pub mine : List Event
  pub room : ℕ
  pub last : List ℕ

-- no transaction of the opening's log has a number above the last
abbrev pub NumbersAreOld : Opening → Type 0
NumbersAreOld opening =
    (unretired : Unretired) → Contains opening.unretired unretired → unretired.txn.number ≤ opening.last_txn

-- the events of a datanode's seat in a story
abbrev pub events_of : ℕ → List Event → List Event
events_of dn story = own_entries (λ (event : Event). event.seat) (datanode_seat dn) story

-- a chunk hadn't the digest that is kept of it
abbrev pub is_bad : EventKind → Bool
is_bad (Bad dn block id) = true
is_bad _ = false

-- the line of an ask wasn't told, where there is one
abbrev pub IsUntold : Option AskId → List Event → Type 0
IsUntold None story = Unit {0}
IsUntold (Some id) story = is_told id.client id.line story ≡ false

-- where the event is a Put, its line wasn't told
abbrev pub PutsUntold : EventKind → List Event → Type 0
PutsUntold kind story = (dn : ℕ) (block : Block) (id : AskId) (first count : ℕ) → kind ≡ Put dn block id first count
    → is_told id.client id.line story ≡ false

module _ (Coherent : Type 0) (opening : Opening) (bytes : OpeningBytes) (script : Script) where
  -- what holds of each datanode's seat
  pub record IsKept (view : SeatView) : Type 0 where
    pub few : view.dn < MOST_NODES
    pub there : view.dn < length opening.nodes
    pub numbered : Coherent → NumbersAreOld opening
    pub own : events_of view.dn view.seen ≡ view.mine
    pub follow : AllFollow (Follows Coherent opening bytes script) [] view.seen
    pub no_bad : Coherent → has_event is_bad view.mine ≡ false

-- Each block that a datanode holds has a content on its disks, with the digests that are kept, which is its content by the story.
pub record HasContents {D : Type 0} (told : D → Option (List ℕ)) (clock : D → ℕ) (image : D → Images) (faults : D → ℕ)
    (opening : Opening) (bytes : OpeningBytes) (script : Script) (story : List Event) (node : State D) : Type 0 where
  pub contents : Block → Content
  pub holds : NodeHolds told clock image faults contents node
  pub intact : (block : Block) → is_held (node_in node) block ≡ true → (contents block).intact ≡ true
  pub its : (block : Block) → is_held (node_in node) block ≡ true
      → HasContent opening bytes script story block (contents block).bytes

-- It stands for a datanode that is what the story makes of it: halted and stopped as the seat's own events tell. Where the
-- opening is coherent its disks tell their bytes; and where no call on them failed in the run it has the blocks, the lengths, the
-- contents, the open replicas and the greatest transactions of the story that the seat has seen, and a journal that stands for
-- them. Its disks have failed as often as once they were loaded, and more often where it halted.
pub record StandsFor {D : Type 0} (told : D → Option (List ℕ)) (clock : D → ℕ) (image : D → Images) (faults : D → ℕ)
    (Coherent : Type 0) (opening : Opening) (bytes : OpeningBytes) (script : Script) (loaded : Node → ℕ) (view : SeatView)
    (node : State D) : Type 0 where
  pub number : node.id ≡ view.dn
  pub halt : halt_of (Datanode view.dn) view.mine ≡ (if is_halted node then Some (count_of faults node) else None)
  pub line : last_told (stopped_or_started view.dn) true view.mine ≡ not node.stopped
  pub tells : Coherent → IsSome (told (meta_of node)) × IsSome (told (slots_of node))
  pub no_fewer : loaded (Datanode view.dn) ≤ count_of faults node
  pub rose : is_halted node ≡ true → Rose (loaded (Datanode view.dn)) (count_of faults node)
  pub held : Coherent → is_halted node ≡ false → (block : Block)
      → holds opening view.seen view.dn block ≡ is_held (node_in node) block
  pub whole : Coherent → is_halted node ≡ false → (block : Block) (row : BlockRow) → (node_in node).rows block ≡ Some row
      → length_of opening view.seen block ≡ Some row.length
  pub closed : Coherent → is_halted node ≡ false → (container : ℕ)
      → is_closed opening view.seen view.dn container ≡ not (is_open ((node_in node).states container))
  pub greatest : Coherent → is_halted node ≡ false → (container : ℕ)
      → greatest_of opening view.seen view.dn container ≡ (node_in node).greatest container
  pub journal : Coherent → is_halted node ≡ false → JournalStands told node
  pub contents : Coherent → is_halted node ≡ false → HasContents told clock image faults opening bytes script view.seen node

-- a block of this row has bytes on a disk of slots that stand beside the opening
pub record HasOpeningBytes (bytes : OpeningBytes) (dn : ℕ) (block : Block) (row : BlockRow) (slots : Option (List ℕ))
    : Type 0 where
  pub content : List ℕ
  pub are : bytes dn block ≡ Some content
  pub has : IfSome slots (Has (intact content) row)

-- The disks of a datanode tell their bytes. It holds what the opening says of them, and a stop leaves of its blocks what is read
-- of them.
pub record IsAsOpened {D : Type 0} (told : D → Option (List ℕ)) (clock : D → ℕ) (image : D → Images) (faults : D → ℕ)
    (opening : Opening) (bytes : OpeningBytes) (node : State D) : Type 0 where
  pub tells : IsSome (told (meta_of node)) × IsSome (told (slots_of node))
  pub held : (block : Block) → was_held opening node.id block ≡ is_held (node_in node) block
  pub whole : (block : Block) (row : BlockRow) → (node_in node).rows block ≡ Some row
      → length_of opening [] block ≡ Some row.length
  pub closed : (container : ℕ) → was_closed opening node.id container ≡ not (is_open ((node_in node).states container))
  pub greatest : (container : ℕ) → was_greatest opening node.id container ≡ (node_in node).greatest container
  pub contents : (block : Block) (row : BlockRow) → (node_in node).rows block ≡ Some row
      → HasOpeningBytes bytes node.id block row (told (slots_of node))
  pub pairs : (contents : Block → Content) → (IsSome (told (meta_of node)) → IfSome (told (slots_of node))
      (HaveAll contents (node_in node))) → NodeHolds told clock image faults contents node

-- An event was appended behind what two seats had seen, and more has come since.
pub record IsAppended (event : Event) (seen other after : List Event) : Type 0 where
  pub before : List Event
  pub begins : BeginsWith before seen
  pub begins_other : BeginsWith before other
  pub goes_on : BeginsWith after (before ++ event ∷ [])
