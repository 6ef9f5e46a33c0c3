-- Where in a story a block is asked to be deleted.
use Rattle.std.specs.Prelude.{◌≡◌, ◌⊎◌, ℕ, ◌<◌, true, List, Some, Contains, slice_get, take}
use Rattle.oz_dellog.specs.declared.txn.Txn.{Txn}
use Rattle.oz_fields.specs.declared.block.Block.{Block}
use Rattle.oz_core.specs.declared.event.Event.{Event}
use Rattle.oz_core.specs.declared.event.EventKind.TheVariants.{PurgeAsk}
use Rattle.oz_core.specs.declared.opening.Opening.{Opening}
use Rattle.oz_core.specs.Scm.{is_logged_at_opening, logs}

-- the event at this place is a PurgeAsk of the block
pub record IsPurgeAt (story : List Event) (block : Block) (place : ℕ) : Type 0 where
  pub seat : ℕ
  pub blocks : List Block
  pub there : slice_get story place ≡ Some (record { seat = seat; kind = PurgeAsk blocks })
  pub among : Contains blocks block

-- A local id of a transaction that the log has at this place: what it stands for was to be deleted as the run began, or
-- was purged before.
pub record WasLetGo (opening : Opening) (story : List Event) (place number local : ℕ) : Type 0 where
  pub txn : Txn
  pub there : Contains (logs opening (take place story)) txn
  pub of_number : txn.number ≡ number
  pub let_go : (is_logged_at_opening opening (record { container = txn.container; local = local }) ≡ true)
      ⊎ ((before : ℕ) × (before < place) × IsPurgeAt story (record { container = txn.container; local = local }) before)
