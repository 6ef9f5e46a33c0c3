-- That nothing reaches what datanodes delete.
use Rattle.std.specs.Prelude.{◌≡◌, ◌⊎◌, ℕ, ◌≤◌, true, List, Some, Contains, slice_get, take}
use Rattle.oz_dellog.specs.declared.txn.Txn.{Txn}
use Rattle.oz_fields.specs.declared.block.Block.{Block}
use Rattle.oz_model.specs.Reach.{IsReached}
use Rattle.oz_core.specs.declared.event.Event.{Event}
use Rattle.oz_core.specs.declared.event.EventKind.TheVariants.{Delete}
use Rattle.oz_core.specs.declared.opening.Opening.{Opening}
use Rattle.oz_core.specs.Manager.{namespace_at}
use Rattle.oz_core.specs.Scm.{is_logged_at_opening, logs}
use Rattle.oz_kept.specs.Purges.{IsPurgeAt}

-- no key, open key or snapshot reaches the block from this place of the story on
abbrev pub IsUnreachedFrom : Opening → List Event → ℕ → Block → Type 0
IsUnreachedFrom opening story place block =
    (later : ℕ) → place ≤ later → IsReached (namespace_at opening story later) block → ⊥

-- The block was given up at this place: at the first one, where its deletion was logged as the run began, or where it
-- was asked to be purged.
abbrev pub WasGivenUp : Opening → List Event → Block → ℕ → Type 0
WasGivenUp opening story block place =
    ((place ≡ 0) × (is_logged_at_opening opening block ≡ true)) ⊎ IsPurgeAt story block place

-- The local id is of a block of the logged transaction with this number, which was given up by this place and which
-- nothing reaches from then on.
pub record IsOutOfReach (opening : Opening) (story : List Event) (place number local : ℕ) : Type 0 where
  pub txn : Txn
  pub there : Contains (logs opening (take place story)) txn
  pub of_number : txn.number ≡ number
  pub from : ℕ
  pub by_then : from ≤ place
  pub given_up : WasGivenUp opening story (record { container = txn.container; local = local }) from
  pub unreached : IsUnreachedFrom opening story from (record { container = txn.container; local = local })

-- so is each block of each Delete
abbrev pub DeletesAreOutOfReach : Opening → List Event → Type 0
DeletesAreOutOfReach opening story = (place seat dn number local : ℕ) (locals : List ℕ)
    → slice_get story place ≡ Some (record { seat = seat; kind = Delete dn number locals }) → Contains locals local
    → IsOutOfReach opening story place number local
