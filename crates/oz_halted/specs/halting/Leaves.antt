-- What a stop leaves on the two disks of a datanode that halted.
use Rattle.std.specs.Prelude.{◌≡◌, ◌⊎◌, ℕ, true, List, ◌∷◌, ◌++◌, Option, None, Some, IfSome, slice_get, Contains, not}
use Rattle.oz_command.specs.declared.command.AdminCommand.TheVariants as admin
use Rattle.oz_fields.specs.declared.block.Block.{Block}
use Rattle.oz_fields.specs.declared.block.Piece.{Piece}
use Rattle.oz_script.specs.declared.lines.script.Script.{Script}
use Rattle.oz_entries.specs.declared.entry.Entry.{Entry}
use Rattle.oz_entries.specs.declared.row.BlockRow.{BlockRow}
use Rattle.oz_entries.specs.Node.{Node, is_held, after_entry}
use Rattle.oz_core.specs.declared.event.Event.{Event}
use Rattle.oz_core.specs.declared.event.EventKind.TheVariants.{Halt}
use Rattle.oz_core.specs.declared.event.Node.TheVariants.{Datanode}
use Rattle.oz_core.specs.declared.opening.NodeOpening.{NodeOpening}
use Rattle.oz_core.specs.declared.opening.Opening.{Opening}
use Rattle.oz_core.specs.Contents.{OpeningBytes, HasContent}
use Rattle.oz_core.specs.Fits.{IsAtWork}
use Rattle.oz_core.specs.Nodes.{was_held, was_closed, is_open}
use Rattle.oz_core.specs.Seats.{datanode_seat}
use Rattle.oz_kept.specs.reopened.Left.{was_greatest}
use Rattle.oz_halted.specs.halting.Story.{IsOfStory, WasToMake}

-- ---- what a stop may leave

-- what the slots give of each block, where the digests that are kept of it are those of its bytes
abbrev pub GivenBytes : Type 0
GivenBytes = Block → Option (List ℕ)

-- Which pairs a stop may leave: what the journal stands for, and what the slots then give.
abbrev pub Remains : Type 1
Remains = Node → GivenBytes → Type 0

-- it is the node, or what the entry makes of it, if there is one
abbrev pub MayHaveEntry : Option Entry → Node → Node → Type 0
MayHaveEntry None node kept = kept ≡ node
MayHaveEntry (Some entry) node kept = (kept ≡ node) ⊎ (kept ≡ after_entry entry node)

-- what is given of a block is its content
pub record GivesContent (opening : Opening) (bytes : OpeningBytes) (script : Script) (story : List Event)
    (given : GivenBytes) (block : Block) : Type 0 where
  pub content : List ℕ
  pub its : HasContent opening bytes script story block content
  pub gives : given block ≡ Some content

-- so it is of each block that a node has
abbrev pub GivesContents : Opening → OpeningBytes → Script → List Event → Node → GivenBytes → Type 0
GivesContents opening bytes script story node given =
    (block : Block) → is_held node block ≡ true → GivesContent opening bytes script story given block

-- No call on its disks has failed: a stop leaves a journal that stands for what the story makes of the datanode. The slots
-- give the content of each of its blocks.
pub record Rests (opening : Opening) (bytes : OpeningBytes) (script : Script) (story : List Event) (dn : ℕ)
    (remains : Remains) : Type 0 where
  pub was : Node
  pub stands : IsOfStory opening story dn was
  pub kept : (node : Node) (given : GivenBytes) → remains node given → node ≡ was
  pub contents : (node : Node) (given : GivenBytes) → remains node given
      → GivesContents opening bytes script story node given

-- Whatever a stop leaves of the journal stands for what the story makes of the datanode, or for that and one entry more,
-- which it was to make. The slots give the content of each block that the journal has then.
pub record Leaves (opening : Opening) (bytes : OpeningBytes) (script : Script) (story : List Event) (dn : ℕ)
    (remains : Remains) : Type 0 where
  pub was : Node
  pub stands : IsOfStory opening story dn was
  pub entry : Option Entry
  pub to_make : IfSome entry (WasToMake opening bytes script story dn was)
  pub kept : (node : Node) (given : GivenBytes) → remains node given → MayHaveEntry entry was node
  pub contents : (node : Node) (given : GivenBytes) → remains node given
      → GivesContents opening bytes script story node given

-- The datanode halted, and this is left of what the story before made of it. Where a wipe failed nothing is said of the
-- disks: then a line that wipes it was at work.
pub record NodeHalted (opening : Opening) (bytes : OpeningBytes) (script : Script) (story : List Event) (dn : ℕ)
    (remains : Remains) : Type 0 where
  pub before : List Event
  pub behind : List Event
  pub count : ℕ
  pub parts : story ≡ before ++ record { seat = datanode_seat dn; kind = Halt (Datanode dn) count } ∷ behind
  pub left : Leaves opening bytes script before dn remains ⊎ IsAtWork script before (admin.Wipe dn)

-- ---- as the next opening

-- an opening has this node of a datanode, and the bytes that were given
pub record IsOpenedOf (left : Opening) (bytes : OpeningBytes) (dn : ℕ) (node : Node) (given : GivenBytes) : Type 0 where
  pub opened : NodeOpening
  pub there : slice_get left.nodes dn ≡ Some opened
  pub held : (block : Block) → was_held left dn block ≡ is_held node block
  pub lengths : (piece : Piece) (row : BlockRow) → Contains opened.held piece → node.rows piece.block ≡ Some row
      → piece.length ≡ row.length
  pub closed : (container : ℕ) → was_closed left dn container ≡ not (is_open (node.states container))
  pub greatest : (container : ℕ) → was_greatest left dn container ≡ node.greatest container
  pub gives : (block : Block) → is_held node block ≡ true → bytes dn block ≡ given block
