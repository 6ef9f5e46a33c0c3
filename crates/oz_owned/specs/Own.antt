-- Which blocks are a stripe's own.
use Rattle.std.specs.Prelude.{◌≡◌, ◌⊎◌, ℕ, ◌<◌, List, Some, IsSome, Contains}
use Rattle.oz_fields.specs.declared.block.Block.{Block}
use Rattle.oz_rows.specs.declared.key.RowKey.{RowKey}
use Rattle.oz_rows.specs.RowMaps.{Rows}
use Rattle.oz_sound.specs.Kept.{HasHome}
use Rattle.oz_sound.specs.stripes.Stripes.{only}
use Rattle.oz_core.specs.declared.event.Event.{Event}
use Rattle.oz_core.specs.Seats.{stripe_seat}
use Rattle.oz_names.specs.declared.limits.TheConstants.{STRIPES}
use Rattle.oz_store.specs.Store.{IsInADeletedRow, IsInARow, local_in}
use Rattle.oz_store.specs.granted.Granted.{handed_out}

-- the block had a home in a loaded row of the stripe, or a Decide of the stripe handed it out
abbrev pub IsOwn : Rows → ℕ → List Event → Block → Type 0
IsOwn loaded stripe story block = HasHome (only stripe loaded) block ⊎ Contains (handed_out stripe story) block

-- it is the own of a stripe
pub record IsOfSomeStripe (loaded : Rows) (story : List Event) (block : Block) : Type 0 where
  pub stripe : ℕ
  pub there : stripe < STRIPES
  pub own : IsOwn loaded stripe story block

-- it is the own of the stripe whose seat this is
pub record IsOfItsStripe (loaded : Rows) (seat : ℕ) (story : List Event) (block : Block) : Type 0 where
  pub stripe : ℕ
  pub there : stripe < STRIPES
  pub its : seat ≡ stripe_seat stripe
  pub own : IsOwn loaded stripe story block

-- rows have the block left over: it waits to be deleted
abbrev pub IsLeftOver : Rows → Block → Type 0
IsLeftOver rows block = IsInADeletedRow rows block

-- rows name the local id: a block of one has it, or the key of one does
abbrev pub NamesLocal : Rows → ℕ → Type 0
NamesLocal rows local =
    ((block : Block) × IsInARow rows block × (block.local ≡ local))
    ⊎ ((key : RowKey) × IsSome (rows key) × (local_in key ≡ Some local))

-- a loaded row of the stripe named it, or a block has it that a Decide of the stripe handed out
abbrev pub IsOwnLocal : Rows → ℕ → List Event → ℕ → Type 0
IsOwnLocal loaded stripe story local =
    NamesLocal (only stripe loaded) local ⊎ ((block : Block) × Contains (handed_out stripe story) block × (block.local ≡ local))
