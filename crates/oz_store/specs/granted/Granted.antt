-- Grants, the blocks that a stripe hands out of them, and what it has free.
use Rattle.std.specs.Prelude.{◌≡◌, ◌⊎◌, ℕ, ◌≤◌, ◌<◌, List, Some, IsSome, Contains, slice_get}
use Rattle.std.specs.FinMap.{get}
use Rattle.oz_fields.specs.declared.block.Block.{Block}
use Rattle.oz_requests.specs.declared.request.Exclude.{Exclude}
use Rattle.oz_core.specs.declared.event.Event.{Event}
use Rattle.oz_core.specs.declared.event.EventKind.TheVariants.{Grant}
use Rattle.oz_core.specs.Grants.{IsExcluded}
use Rattle.oz_core.specs.Manager.{granted_block}
use Rattle.oz_core.specs.Scm.{Containers, IsOfGrant}
use Rattle.oz_core.specs.Seats.{stripe_seat}
use Rattle.oz_core.specs.Stories.{all_told, mine}
use Rattle.oz_rows.specs.declared.key.RowKey.{RowKey}
use Rattle.oz_rows.specs.RowMaps.{Rows}
use Rattle.oz_sound.specs.Sound.{StandsIn}
use Rattle.oz_store.specs.Store.{IsInARow}

-- a Grant stands at this place
pub record IsGrantAt (story : List Event) (place stripe container pipeline first count : ℕ) : Type 0 where
  pub seat : ℕ
  pub there : slice_get story place
      ≡ Some (record { seat = seat; kind = Grant stripe container pipeline first count })

-- containers are numbered from 1 on, below the next id
abbrev pub AreNumbered : Containers → ℕ → Type 0
AreNumbered all next = (number : ℕ) → IsSome (get all number) → (1 ≤ number) × (number < next)

-- the blocks that a stripe's own Decides granted
abbrev pub handed_out : ℕ → List Event → List Block
handed_out stripe story = all_told granted_block (mine (stripe_seat stripe) story)

-- A stripe has a block free: it is of a Grant to the stripe, on this pipeline, and the stripe didn't hand it out.
pub record IsFree (story : List Event) (stripe : ℕ) (block : Block) (pipeline : ℕ) : Type 0 where
  pub granted : IsOfGrant story stripe block pipeline
  pub unused : Contains (handed_out stripe story) block → ⊥

-- each block that the stripe was granted is handed out, or excluded
abbrev pub NoneIsFree : List Event → ℕ → Exclude → Type 0
NoneIsFree story stripe exclude =
    (block : Block) (pipeline : ℕ) → IsOfGrant story stripe block pipeline
    → Contains (handed_out stripe story) block ⊎ IsExcluded exclude block pipeline

-- each block that these rows name is named by the loaded ones, or is one of those that were handed out
abbrev pub AreOld : Rows → List Block → Rows → Type 0
AreOld loaded handed now =
    (block : Block) (key : RowKey) → StandsIn now block key → IsInARow loaded block ⊎ Contains handed block
