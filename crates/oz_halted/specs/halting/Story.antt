-- What a story makes of a datanode, as its journal has it, and which entries an event may have made right behind a story.
use Rattle.std.specs.Prelude.{◌≡◌, ◌≢◌, ◌⊎◌, ℕ, false, not, List, [], ◌∷◌, ◌++◌, Some, Contains}
use Rattle.oz_dellog.specs.declared.txn.Txn.{Txn}
use Rattle.oz_fields.specs.declared.block.Block.{Block}
use Rattle.oz_requests.specs.declared.request.AskId.{AskId}
use Rattle.oz_script.specs.declared.lines.script.Script.{Script}
use Rattle.oz_entries.specs.declared.entry.Entry.{Entry}
use Rattle.oz_entries.specs.declared.entry.Entry.TheVariants.{Put, SetState, Apply, Drop}
use Rattle.oz_entries.specs.declared.row.BlockRow.{BlockRow}
use Rattle.oz_entries.specs.Node.{Node, is_held}
use Rattle.oz_core.specs.declared.event.Event.{Event}
use Rattle.oz_core.specs.declared.event.EventKind.{EventKind}
use Rattle.oz_core.specs.declared.opening.Opening.{Opening}
use Rattle.oz_core.specs.Contents.{OpeningBytes}
use Rattle.oz_core.specs.Fits.{HasLength}
use Rattle.oz_core.specs.Law.{KindIsEnabled, PutIsEnabled, CopyIsEnabled, DeleteIsEnabled}
use Rattle.oz_core.specs.Nodes.{holds, is_open, is_closed}
use Rattle.oz_core.specs.Seats.{datanode_seat}
use Rattle.oz_kept.specs.reopened.Left.{lengths_of, greatest_of}
use Rattle.oz_halted.specs.Further.{PutsContent}

-- ---- what a story makes of a datanode

-- The node has the blocks that the datanode holds, each with a length that was told of it. Its closed replicas are those of
-- the story, and so is the greatest transaction of each container.
pub record IsOfStory (opening : Opening) (story : List Event) (dn : ℕ) (node : Node) : Type 0 where
  pub held : (block : Block) → is_held node block ≡ holds opening story dn block
  pub lengths : (block : Block) (row : BlockRow) → node.rows block ≡ Some row
      → Contains (lengths_of opening story block) row.length
  pub closed : (container : ℕ) → not (is_open (node.states container)) ≡ is_closed opening story dn container
  pub greatest : (container : ℕ) → node.greatest container ≡ greatest_of opening story dn container

-- two nodes hold the same, but the state of the replica of one container may be any
pub record AreSameButForAState (container : ℕ) (node other : Node) : Type 0 where
  pub rows : (block : Block) → other.rows block ≡ node.rows block
  pub states : (number : ℕ) → number ≢ container → other.states number ≡ node.states number
  pub greatest : (number : ℕ) → other.greatest number ≡ node.greatest number

-- ---- which entry was to come

-- the law allows that the block is put, and what was to be put is its content, all of it
pub record WasToPut (opening : Opening) (bytes : OpeningBytes) (script : Script) (story : List Event) (dn : ℕ)
    (block : Block) (row : BlockRow) : Type 0 where
  pub id : AskId
  pub first : ℕ
  pub enabled : PutIsEnabled opening story (datanode_seat dn) dn block id first row.length
  pub content : HasLength opening bytes script story block row.length

-- the law allows that the block is copied from another datanode, and its length was told
pub record WasToCopy (opening : Opening) (story : List Event) (dn : ℕ) (block : Block) (row : BlockRow) : Type 0 where
  pub source : ℕ
  pub enabled : CopyIsEnabled opening story (datanode_seat dn) source dn block
  pub told : Contains (lengths_of opening story block) row.length

-- the law allows that the transaction is applied
pub record WasToApply (opening : Opening) (story : List Event) (dn : ℕ) (txn : Txn) : Type 0 where
  pub locals : List ℕ
  pub enabled : DeleteIsEnabled opening story (datanode_seat dn) dn txn.number locals
  pub its : enabled.txn ≡ txn

-- no block of the container is held
abbrev pub HoldsNoneOf : ℕ → Node → Type 0
HoldsNoneOf container node = (local : ℕ) → is_held node (record { container = container; local = local }) ≡ false

-- A datanode that is what the story makes of it was to make this entry. A replica may come to any state, and one that
-- holds nothing may be dropped; of these no event tells.
abbrev pub WasToMake : Opening → OpeningBytes → Script → List Event → ℕ → Node → Entry → Type 0
WasToMake opening bytes script story dn node (Put block row) =
    WasToPut opening bytes script story dn block row ⊎ WasToCopy opening story dn block row
WasToMake opening bytes script story dn node (SetState container state) = Unit {0}
WasToMake opening bytes script story dn node (Apply txn) = WasToApply opening story dn txn
WasToMake opening bytes script story dn node (Drop container) = HoldsNoneOf container node

-- ---- what the law allows

-- the node is what the story and one event more make of the datanode: an event of its own, which the law allows there
pub record IsOfOneMore (opening : Opening) (bytes : OpeningBytes) (script : Script) (story : List Event) (dn : ℕ)
    (node : Node) : Type 0 where
  pub further : EventKind
  pub enabled : KindIsEnabled opening story (datanode_seat dn) further
  pub content : PutsContent opening bytes script story further
  pub is : IsOfStory opening (story ++ record { seat = datanode_seat dn; kind = further } ∷ []) dn node

-- or it is what the story makes of it, but that one replica may have another state
abbrev pub IsAllowed : Opening → OpeningBytes → Script → List Event → ℕ → Node → Node → Type 0
IsAllowed opening bytes script story dn was node =
    IsOfOneMore opening bytes script story dn node ⊎ ((container : ℕ) × AreSameButForAState container was node)
