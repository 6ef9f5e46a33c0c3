-- What a story leaves on the disks of each node, as the opening of the next run.
use Rattle.std.specs.Prelude.{◌≡◌, ◌⊎◌, ◌↔◌, ℕ, ◌≤◌, Bool, true, false, ◌&&◌, ◌==◌, max, List, ◌++◌, fold, length}
use Rattle.std.specs.Prelude.{Some, slice_get, if◌then◌else◌, Contains}
use Rattle.std.specs.List.{flat_map, list_any}
use Rattle.std.specs.Option.{option_map_or}
use Rattle.oz_dellog.specs.declared.txn.Txn.{Txn}
use Rattle.oz_fields.specs.declared.block.Block.{Block}
use Rattle.oz_fields.specs.declared.block.Piece.{Piece}
use Rattle.oz_script.specs.declared.lines.script.Script.{Script}
use Rattle.oz_model.specs.Reach.{IsReached}
use Rattle.oz_core.specs.declared.event.Event.{Event}
use Rattle.oz_core.specs.declared.event.EventKind.{EventKind}
use Rattle.oz_core.specs.declared.event.EventKind.TheVariants.{Delete, Wipe}
use Rattle.oz_core.specs.declared.opening.NodeOpening.{NodeOpening}
use Rattle.oz_core.specs.declared.opening.Opening.{Opening}
use Rattle.oz_core.specs.declared.opening.Replica.{Replica}
use Rattle.oz_core.specs.declared.opening.Unretired.{Unretired}
use Rattle.oz_core.specs.Contents.{OpeningBytes}
use Rattle.oz_core.specs.Manager.{kept_up_to, kept_block, durable_index, last_index}
use Rattle.oz_core.specs.Nodes.{was_closed, is_closed, was_held, holds, length_in, put_length}
use Rattle.oz_core.specs.Scm.{next_id, last_txn, containers, logs, is_logged, is_retired, acknowledgers}
use Rattle.oz_core.specs.Stories.{all_told}
use Rattle.oz_kept.specs.Held.{HasBytes}

-- ---- the manager

-- a block that the manager's disk named as the run began, or that a Decide up to an index granted
abbrev pub IsOfManager : Opening → ℕ → List Event → Block → Type 0
IsOfManager opening most story block =
    IsReached opening.namespace block
    ⊎ (Contains opening.left block ⊎ Contains (all_told (kept_block most) story) block)

-- The manager's disk has what the Decides up to an index made. A deleted row has only blocks that the manager had; and
-- each of these that nothing reaches stands in one, unless it was logged.
pub record IsLeftByManager (opening : Opening) (story : List Event) (most : ℕ) (left : Opening) : Type 0 where
  pub namespace : left.namespace ≡ kept_up_to opening most story
  pub last_index : left.last_index ≡ most
  pub deleted : (block : Block) → Contains left.left block → IsOfManager opening most story block
  pub kept : (block : Block) → IsOfManager opening most story block
      → IsReached left.namespace block ⊎ (Contains left.left block ⊎ (is_logged opening story block ≡ true))

-- ---- the storage container manager

-- a transaction that was logged and isn't retired
abbrev pub IsUnretired : Opening → List Event → Txn → Type 0
IsUnretired opening story txn = Contains (logs opening story) txn × (is_retired txn.number story ≡ false)

-- these are the acknowledgers of a transaction, in any order
abbrev pub AreAcknowledgers : Opening → List Event → ℕ → List ℕ → Type 0
AreAcknowledgers opening story number found =
    (dn : ℕ) → Contains found dn ↔ Contains (acknowledgers opening story number) dn

-- no two transactions of an opening have one number
abbrev pub NumbersAreApart : Opening → Type 0
NumbersAreApart opening =
    (one other : Unretired) → Contains opening.unretired one → Contains opening.unretired other
    → one.txn.number ≡ other.txn.number → one ≡ other

-- a transaction stands in the log with its acknowledgers
pub record StandsInLog (opening : Opening) (story : List Event) (left : Opening) (txn : Txn) : Type 0 where
  pub acknowledged : List ℕ
  pub there : Contains left.unretired (record { txn = txn; acknowledgers = acknowledged })

-- Its disk has what was granted, the containers with their states, and the log: the transactions that aren't retired,
-- in any order.
pub record IsLeftByScm (opening : Opening) (story : List Event) (left : Opening) : Type 0 where
  pub count : length left.nodes ≡ length opening.nodes
  pub next_id : left.next_id ≡ next_id opening story
  pub containers : left.containers ≡ containers opening story
  pub last_txn : left.last_txn ≡ last_txn opening story
  pub logged : (txn : Txn) → IsUnretired opening story txn → StandsInLog opening story left txn
  pub unretired : (unretired : Unretired) → Contains left.unretired unretired
      → IsUnretired opening story unretired.txn
  pub acknowledged : (unretired : Unretired) → Contains left.unretired unretired
      → AreAcknowledgers opening story unretired.txn.number unretired.acknowledgers

-- ---- a datanode

-- the lengths of a block that disks had, and those that were put
abbrev pub lengths_of : Opening → List Event → Block → List ℕ
lengths_of opening story block = flat_map (length_in block) opening.nodes ++ all_told (put_length block) story

-- the greatest transaction of a container that a datanode applied: as its disks had it, and since
abbrev pub greatest_in : ℕ → NodeOpening → ℕ
greatest_in container node =
    fold (λ most (replica : Replica). if replica.container == container then max most replica.greatest else most) 0
    node.replicas

abbrev pub was_greatest : Opening → ℕ → ℕ → ℕ
was_greatest opening dn container = option_map_or (greatest_in container) (slice_get opening.nodes dn) 0

abbrev pub is_txn_of : ℕ → ℕ → Txn → Bool
is_txn_of number container txn = txn.number == number && txn.container == container

abbrev pub greatest_after : List Txn → ℕ → ℕ → ℕ → EventKind → ℕ
greatest_after txns dn container most (Delete other number locals) =
    if other == dn && list_any (is_txn_of number container) txns then max most number else most
greatest_after txns dn container most (Wipe other) = if other == dn then 0 else most
greatest_after txns dn container most _ = most

abbrev pub greatest_of : Opening → List Event → ℕ → ℕ → ℕ
greatest_of opening story dn container =
    fold (λ most (event : Event). greatest_after (logs opening story) dn container most event.kind)
    (was_greatest opening dn container) story

-- the bytes that a disk gives of a block are those that it was given
pub record GivesBack (opening : Opening) (bytes : OpeningBytes) (script : Script) (story : List Event) (dn : ℕ)
    (given : OpeningBytes) (block : Block) : Type 0 where
  pub content : List ℕ
  pub has : HasBytes opening bytes script story block dn content
  pub gives : given dn block ≡ Some content

-- Its disks have the blocks that it holds, each with a length that was told of it and with its bytes. They have which
-- replicas are closed, and the greatest transactions.
pub record IsLeftByNode (opening : Opening) (bytes : OpeningBytes) (script : Script) (story : List Event) (dn : ℕ)
    (left : Opening) (given : OpeningBytes) : Type 0 where
  pub held : (block : Block) → was_held left dn block ≡ holds opening story dn block
  pub lengths : (node : NodeOpening) (piece : Piece) → slice_get left.nodes dn ≡ Some node → Contains node.held piece
      → Contains (lengths_of opening story piece.block) piece.length
  pub has : (block : Block) → holds opening story dn block ≡ true
      → GivesBack opening bytes script story dn given block
  pub closed : (container : ℕ) → was_closed left dn container ≡ is_closed opening story dn container
  pub greatest : (container : ℕ) → was_greatest left dn container ≡ greatest_of opening story dn container

-- ---- all of them

-- How far the manager's disk may have come: to what is stable at least, and at most to what was decided.
pub record MayBeLast (opening : Opening) (story : List Event) (most : ℕ) : Type 0 where
  pub stable : durable_index opening story ≤ most
  pub decided : most ≤ last_index opening story

-- what a story leaves, with the manager at an index
pub record IsLeft (opening : Opening) (bytes : OpeningBytes) (script : Script) (story : List Event) (most : ℕ)
    (left : Opening) (given : OpeningBytes) : Type 0 where
  pub within : MayBeLast opening story most
  pub manager : IsLeftByManager opening story most left
  pub scm : IsLeftByScm opening story left
  pub node : (dn : ℕ) → IsLeftByNode opening bytes script story dn left given
