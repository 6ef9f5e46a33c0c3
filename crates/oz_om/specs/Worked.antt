-- Whether anything of the stripes' rows was left to be worked off.
use Rattle.std.specs.Prelude.{◌⊎◌, ℕ, ◌<◌, Bool, true, false, List, None, Some, Contains}
use Rattle.oz_core.specs.declared.event.Event.{Event}
use Rattle.oz_core.specs.declared.opening.Opening.{Opening}
use Rattle.oz_core.specs.Manager.{durable_index}
use Rattle.oz_core.specs.Seats.{stripe_seat}
use Rattle.oz_core.specs.Stories.{mine}
use Rattle.oz_locks.specs.Writes.{Write, writes_of}
use Rattle.oz_names.specs.declared.limits.TheConstants.{STRIPES}
use Rattle.oz_owned.specs.Stood.{HasStood}
use Rattle.oz_reclaim.specs.Work.{IsChainWork}
use Rattle.oz_requests.specs.declared.request.Request.{Request}
use Rattle.oz_rows.specs.declared.key.RowKey.{RowKey}
use Rattle.oz_rows.specs.RowMaps.{Rows}
use Rattle.oz_turn.specs.Told.{BeginsWith}
use Rattle.oz_om.specs.Purging.{AreFlushed, MayGo}
use Rattle.oz_om.specs.Working.{HadWork}

-- the stripe wrote this, and it isn't flushed as the story ends
pub record IsUnflushed (opening : Opening) (stripe : ℕ) (story : List Event) (write : Write) : Type 0 where
  pub written : Contains (writes_of (mine (stripe_seat stripe) story)) write
  pub above : durable_index opening story < write.index

-- As the story ended the stripe's rows were worked off: all that it wrote was flushed, so its newest rows were those of its tables; no
-- snapshot among them was deleted, and none of the deleted rows might go.
pub record IsWorkedOff (opening : Opening) (loaded : Rows) (stripe : ℕ) (story : List Event) : Type 0 where
  pub all_flushed : (write : Write) → IsUnflushed opening stripe story write → ⊥
  pub rows : Rows
  pub stood : HasStood opening loaded stripe story rows
  pub flushed : AreFlushed opening loaded stripe story rows
  pub unmarked : IsChainWork rows None
  pub none_may_go : (key : RowKey) → MayGo opening story rows key → ⊥

-- Something of the stripe was left: a write that wasn't flushed, a deleted snapshot, or a flushed deleted row that might go.
abbrev pub IsLeft : Opening → Rows → ℕ → List Event → Type 0
IsLeft opening loaded stripe story =
    ((write : Write) × IsUnflushed opening stripe story write)
    ⊎ (((request : Request) × HadWork opening loaded stripe story (Some request))
    ⊎ ((tables : Rows) × AreFlushed opening loaded stripe story tables × (key : RowKey) × MayGo opening story tables key))

-- the one or the other
abbrev pub IsAnswered : Opening → Rows → ℕ → List Event → Bool → Type 0
IsAnswered opening loaded stripe story true = IsWorkedOff opening loaded stripe story
IsAnswered opening loaded stripe story false = IsLeft opening loaded stripe story

-- ---- of several stripes

-- the stripe's rows were worked off as some story ended, behind what was seen before
pub record WasWorkedOff (opening : Opening) (loaded : Rows) (stripe : ℕ) (before after : List Event) : Type 0 where
  pub story : List Event
  pub behind : BeginsWith story before
  pub seen : BeginsWith after story
  pub worked_off : IsWorkedOff opening loaded stripe story

abbrev pub WereWorkedOff : Opening → Rows → ℕ → List Event → List Event → Type 0
WereWorkedOff opening loaded end before after = (stripe : ℕ) → stripe < end → WasWorkedOff opening loaded stripe before after

-- Each stripe's rows were worked off; or something was left of a stripe as all ended, and those before it were worked off.
abbrev pub AreAnswered : Opening → Rows → List Event → List Event → Bool → Type 0
AreAnswered opening loaded before after true = WereWorkedOff opening loaded STRIPES before after
AreAnswered opening loaded before after false =
    (stripe : ℕ) × (stripe < STRIPES) × WereWorkedOff opening loaded stripe before after × IsLeft opening loaded stripe after
