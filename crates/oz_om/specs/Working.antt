-- What was to be done next with deleted snapshots, stripe by stripe.
use Rattle.std.specs.Prelude.{ℕ, ◌<◌, List, Option, None, Some}
use Rattle.oz_core.specs.declared.event.Event.{Event}
use Rattle.oz_core.specs.declared.opening.Opening.{Opening}
use Rattle.oz_names.specs.declared.limits.TheConstants.{STRIPES}
use Rattle.oz_reclaim.specs.Work.{IsChainWork}
use Rattle.oz_requests.specs.declared.request.Request.{Request}
use Rattle.oz_rows.specs.RowMaps.{Rows}
use Rattle.oz_turn.specs.Told.{BeginsWith}
use Rattle.oz_owned.specs.Stood.{HasStood}

-- As this story ended, of the deleted snapshots of the stripe's rows the request worked off the first, or they had none.
pub record HadWork (opening : Opening) (loaded : Rows) (stripe : ℕ) (story : List Event) (request : Option Request) : Type 0 where
  pub rows : Rows
  pub stood : HasStood opening loaded stripe story rows
  pub work : IsChainWork rows request

-- the stripe had none as some story ended, behind what was seen before
pub record HadNone (opening : Opening) (loaded : Rows) (stripe : ℕ) (before after : List Event) : Type 0 where
  pub story : List Event
  pub behind : BeginsWith story before
  pub seen : BeginsWith after story
  pub none : HadWork opening loaded stripe story None

abbrev pub NoneBelow : Opening → Rows → ℕ → List Event → List Event → Type 0
NoneBelow opening loaded end before after = (stripe : ℕ) → stripe < end → HadNone opening loaded stripe before after

-- the request of the first stripe that had one
abbrev pub IsFirstWork : Opening → Rows → List Event → List Event → Option Request → Type 0
IsFirstWork opening loaded before after None = NoneBelow opening loaded STRIPES before after
IsFirstWork opening loaded before after (Some request) =
    (stripe : ℕ) × (stripe < STRIPES) × NoneBelow opening loaded stripe before after
    × HadWork opening loaded stripe after (Some request)
