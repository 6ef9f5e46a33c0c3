-- When nothing is left to do for the log of deleted blocks but what waits for datanodes that are down, and which of these hold up a drain.
use Rattle.std.specs.Prelude.{◌≡◌, ◌⊎◌, ℕ, ◌≤◌, true, false, List, [], Contains, All}
use Rattle.oz_dellog.specs.declared.txn.Txn.{Txn}
use Rattle.oz_fields.specs.declared.block.Block.{Block}
use Rattle.oz_core.specs.declared.event.Event.{Event}
use Rattle.oz_core.specs.declared.opening.Opening.{Opening}
use Rattle.oz_core.specs.Law.{applies}
use Rattle.oz_core.specs.Manager.{IsGarbage, last_index, pinned}
use Rattle.oz_core.specs.Nodes.{holds}
use Rattle.oz_core.specs.Scm.{acknowledgers, is_up, logs, members, names_block}
use Rattle.oz_core.specs.Stories.{has_event}
use Rattle.oz_kept.specs.reopened.Left.{IsUnretired}

-- A transaction is watched as long as it isn't retired. One that the log had as the run began is always, since a datanode may have
-- acknowledged it before and hold a block of it all the same.
abbrev pub IsWatched : Opening → List Event → Txn → Type 0
IsWatched opening story txn = IsUnretired opening story txn ⊎ Contains (logs opening []) txn

-- a datanode holds a block of a watched transaction that it didn't apply
pub record StillHolds (opening : Opening) (story : List Event) (dn : ℕ) (block : Block) : Type 0 where
  pub txn : Txn
  pub watched : IsWatched opening story txn
  pub names : names_block block txn ≡ true
  pub unapplied : has_event (applies dn txn.number) story ≡ false
  pub held : holds opening story dn block ≡ true

-- no datanode that is up does
abbrev pub UpHoldNone : Opening → List Event → Type 0
UpHoldNone opening story = (dn : ℕ) (block : Block) → is_up dn story ≡ true → StillHolds opening story dn block → ⊥

-- each transaction that isn't retired is acknowledged by the members that are up
abbrev pub UpAcknowledged : Opening → List Event → Type 0
UpAcknowledged opening story =
    (txn : Txn) → IsUnretired opening story txn
    → All (λ dn. is_up dn story ≡ true → Contains (acknowledgers opening story txn.number) dn)
    (members opening story txn.container)

-- So it is, and none is acknowledged by all its members. No datanode that is up still holds a block.
pub record IsSettled (opening : Opening) (story : List Event) : Type 0 where
  pub acknowledged : UpAcknowledged opening story
  pub few : (txn : Txn) → IsUnretired opening story txn
      → All (Contains (acknowledgers opening story txn.number)) (members opening story txn.container) → ⊥
  pub let_go : UpHoldNone opening story

-- A datanode that is down holds up a drain that started behind these events: it still holds a block that was garbage there.
pub record HoldsUp (opening : Opening) (start story : List Event) (dn : ℕ) : Type 0 where
  pub down : is_up dn story ≡ false
  pub block : Block
  pub still : StillHolds opening story dn block
  pub garbage : IsGarbage opening start block

-- At a start a block had left reach, by the index at which it did, and no line worked on it.
pub record WasLeft (opening : Opening) (start : List Event) (since : ℕ) (block : Block) : Type 0 where
  pub left : since ≤ last_index opening start
  pub unpinned : Contains (pinned start) block → ⊥
