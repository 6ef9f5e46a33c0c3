-- What a stripe keeps of the homes of its blocks, and what a sweep of it leaves none of.
use Rattle.std.specs.Prelude.{◌≡◌, ◌⊎◌, ℕ, true, List, Contains}
use Rattle.oz_fields.specs.declared.block.Block.{Block}
use Rattle.oz_namespace.specs.declared.namespace.Namespace.{Namespace}
use Rattle.oz_rows.specs.RowMaps.{Rows}
use Rattle.oz_sound.specs.Kept.{HasHome}
use Rattle.oz_model.specs.Reach.{IsReached}
use Rattle.oz_core.specs.declared.event.Event.{Event}
use Rattle.oz_core.specs.declared.opening.Opening.{Opening}
use Rattle.oz_core.specs.Scm.{is_logged}
use Rattle.oz_owned.specs.Own.{IsOwn}

-- each block of the stripe's own has a home in its rows, or is logged
abbrev pub HomesAreKept : Opening → Rows → ℕ → List Event → Rows → Type 0
HomesAreKept opening loaded stripe story rows =
    (block : Block) → IsOwn loaded stripe story block
    → HasHome rows block ⊎ (is_logged opening story block ≡ true)

-- each block that has a home in the rows is reached, is pinned, or was let go
abbrev pub NoneIsLeft : Rows → Namespace → List Block → (Block → Type 0) → Type 0
NoneIsLeft rows namespace pins IsLet =
    (block : Block) → HasHome rows block → IsReached namespace block ⊎ (Contains pins block ⊎ IsLet block)
