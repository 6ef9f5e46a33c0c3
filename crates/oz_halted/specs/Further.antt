-- What a stop may leave where nodes that halted have one body more on their disks than their events tell.
use Rattle.std.specs.Prelude.{◌≡◌, ◌≢◌, ◌⊎◌, ℕ, List, ◌∷◌, ◌++◌, Option, Some, slice_get, Contains}
use Rattle.std.specs.Option.{option_map}
use Rattle.oz_dellog.specs.declared.txn.Txn.{Txn}
use Rattle.oz_fields.specs.declared.block.Piece.{Piece}
use Rattle.oz_script.specs.declared.lines.script.Script.{Script}
use Rattle.oz_model.specs.Reach.{IsReached}
use Rattle.oz_core.specs.declared.event.Event.{Event}
use Rattle.oz_core.specs.declared.event.EventKind.{EventKind}
use Rattle.oz_core.specs.declared.event.EventKind.TheVariants.{Halt, Put}
use Rattle.oz_core.specs.declared.event.Node.{Node}
use Rattle.oz_core.specs.declared.event.Node.TheVariants.{Scm, Datanode}
use Rattle.oz_core.specs.declared.opening.NodeOpening.{NodeOpening}
use Rattle.oz_core.specs.declared.opening.Opening.{Opening}
use Rattle.oz_core.specs.Contents.{OpeningBytes}
use Rattle.oz_core.specs.Fits.{HasLength}
use Rattle.oz_core.specs.Law.{KindIsEnabled}
use Rattle.oz_core.specs.Manager.{halt_of}
use Rattle.oz_core.specs.Nodes.{was_closed}
use Rattle.oz_core.specs.Scm.{logs}
use Rattle.oz_kept.specs.reopened.Left.{MayBeLast, IsLeftByManager, IsLeftByScm, IsLeftByNode, was_greatest}

-- ---- one event more

-- what is put is the block's content, all of it
abbrev pub PutsContent : Opening → OpeningBytes → Script → List Event → EventKind → Type 0
PutsContent opening bytes script story (Put dn block id first count) = HasLength opening bytes script story block count
PutsContent opening bytes script story _ = Unit {0}

-- The longer story has one event more of a node that halted: one of the seat of its Halt, right before that, where the
-- law allows it. A copy gives what its source has; an event that changes nothing on disks adds nothing to what is left.
pub record HasOneMore (opening : Opening) (bytes : OpeningBytes) (script : Script) (node : Node)
    (story longer : List Event) : Type 0 where
  pub before : List Event
  pub behind : List Event
  pub seat : ℕ
  pub count : ℕ
  pub halted : story ≡ before ++ record { seat = seat; kind = Halt node count } ∷ behind
  pub further : EventKind
  pub enabled : KindIsEnabled opening before seat further
  pub content : PutsContent opening bytes script before further
  pub more : longer
      ≡ before ++ record { seat = seat; kind = further } ∷ record { seat = seat; kind = Halt node count } ∷ behind

-- it is the story itself, or has one event more
abbrev pub MayHaveOneMore : Opening → OpeningBytes → Script → Node → List Event → List Event → Type 0
MayHaveOneMore opening bytes script node story longer =
    (longer ≡ story) ⊎ HasOneMore opening bytes script node story longer

-- ---- the storage container manager

-- what the story leaves on its disk, or the story with one event of it more
pub record MayBeLeftByScm (opening : Opening) (bytes : OpeningBytes) (script : Script) (story : List Event)
    (left : Opening) : Type 0 where
  pub longer : List Event
  pub one_more : MayHaveOneMore opening bytes script Scm story longer
  pub is : IsLeftByScm opening longer left

-- ---- a datanode

-- what the story leaves on its disks, or the story with one event of it more
pub record MayHaveOneBodyMore (opening : Opening) (bytes : OpeningBytes) (script : Script) (story : List Event) (dn : ℕ)
    (left : Opening) (given : OpeningBytes) : Type 0 where
  pub longer : List Event
  pub one_more : MayHaveOneMore opening bytes script (Datanode dn) story longer
  pub is : IsLeftByNode opening bytes script longer dn left given

-- the blocks that its disks have, with their lengths, in their order
abbrev pub pieces_on : Opening → ℕ → Option (List Piece)
pieces_on opening dn = option_map (λ (node : NodeOpening). node.held) (slice_get opening.nodes dn)

-- the datanode's disks stand for the same in two openings, but for the state of its replica of one container
pub record IsSameButForAState (dn container : ℕ) (usual left : Opening) : Type 0 where
  pub held : pieces_on left dn ≡ pieces_on usual dn
  pub closed : (other : ℕ) → other ≢ container → was_closed left dn other ≡ was_closed usual dn other
  pub greatest : (other : ℕ) → was_greatest left dn other ≡ was_greatest usual dn other

-- the datanode halted, and its disks have what the story leaves, but that the state of one replica may be any
pub record HasAnotherState (opening : Opening) (bytes : OpeningBytes) (script : Script) (story : List Event) (dn : ℕ)
    (left : Opening) (given : OpeningBytes) : Type 0 where
  pub count : ℕ
  pub halted : halt_of (Datanode dn) story ≡ Some count
  pub usual : Opening
  pub is : IsLeftByNode opening bytes script story dn usual given
  pub container : ℕ
  pub same : IsSameButForAState dn container usual left

abbrev pub MayBeLeftByNode : Opening → OpeningBytes → Script → List Event → ℕ → Opening → OpeningBytes → Type 0
MayBeLeftByNode opening bytes script story dn left given =
    MayHaveOneBodyMore opening bytes script story dn left given
    ⊎ HasAnotherState opening bytes script story dn left given

-- ---- all of them

-- What a story may leave, with the manager at an index: what it leaves, where any of the storage container manager and
-- the datanodes that halted have one body more each.
pub record MayBeLeftByAll (opening : Opening) (bytes : OpeningBytes) (script : Script) (story : List Event) (most : ℕ)
    (left : Opening) (given : OpeningBytes) : Type 0 where
  pub within : MayBeLast opening story most
  pub manager : IsLeftByManager opening story most left
  pub scm : MayBeLeftByScm opening bytes script story left
  pub node : (dn : ℕ) → MayBeLeftByNode opening bytes script story dn left given

-- ---- what a further Delete takes

-- a local id of a transaction of this number that was logged, whose block nothing reaches that is left
pub record IsOfLog (opening : Opening) (story : List Event) (left : Opening) (number local : ℕ) : Type 0 where
  pub txn : Txn
  pub there : Contains (logs opening story) txn
  pub of_number : txn.number ≡ number
  pub names : Contains txn.locals local
  pub unreached : IsReached left.namespace (record { container = txn.container; local = local }) → ⊥
