-- What is kept of a stripe that nobody works on: its rows stand for what the namespace has of it.
use Rattle.std.specs.Prelude.{◌≡◌, ℕ, List, Contains, All}
use Rattle.oz_core.specs.declared.event.Event.{Event}
use Rattle.oz_core.specs.declared.opening.Opening.{Opening}
use Rattle.oz_core.specs.Manager.{IsUsed, namespace_of}
use Rattle.oz_core.specs.Seats.{stripe_seat}
use Rattle.oz_core.specs.Stories.{mine}
use Rattle.oz_decision.specs.Meets.{AreInGrammar}
use Rattle.oz_fields.specs.declared.block.Block.{Block}
use Rattle.oz_locks.specs.Purges.{AreAskedWhole, HaveWholeRows, asked_by}
use Rattle.oz_model.specs.Reach.{IsReached}
use Rattle.oz_owned.specs.Own.{IsOwn}
use Rattle.oz_owned.specs.Stood.{HasStood, StandAt}
use Rattle.oz_rows.specs.declared.entry.RowEntry.{RowEntry}
use Rattle.oz_rows.specs.RowMaps.{AreRows, Rows}
use Rattle.oz_sound.specs.stripes.Stripes.{only}
use Rattle.oz_turn.specs.Told.{BeginsWith}

-- The stripe's rows stood at each place of a beginning of the story, up to these, and the rest has no event of its seat.
pub record HasRun (opening : Opening) (loaded : Rows) (story : List Event) (stripe : ℕ) (rows : Rows) : Type 0 where
  pub seen : List Event
  pub begins : BeginsWith story seen
  pub stood : HasStood opening loaded stripe seen rows
  pub given : mine (stripe_seat stripe) story ≡ mine (stripe_seat stripe) seen

-- There are only so many rows.
pub record AreListed (rows : Rows) : Type 0 where
  pub all : List RowEntry
  pub are : AreRows all rows

-- The blocks that the stripe asked to be deleted are its own, and a deleted row has all of those of a PurgeAsk or none.
pub record AreAsked (loaded : Rows) (stripe : ℕ) (given seen : List Event) (rows : Rows) : Type 0 where
  pub own : (blocks : List Block) → Contains (asked_by given) blocks → All (IsOwn loaded stripe seen) blocks
  pub whole : AreAskedWhole rows given

-- Each of the blocks was used, and nothing reaches it as the story ends.
abbrev pub AreOutOfReach : Opening → List Event → List Block → Type 0
AreOutOfReach opening story blocks =
    (block : Block) → Contains blocks block → IsUsed opening story block × (IsReached (namespace_of opening story) block → ⊥)

-- Where blocks were out of reach as a beginning of the story ended, and each deleted row of the stripe had all of them or none there, so
-- it is in these rows.
abbrev pub StayWhole : Opening → Rows → ℕ → List Event → Rows → Type 0
StayWhole opening loaded stripe story rows =
    (before : List Event) (was : Rows) (blocks : List Block) → BeginsWith story before → HasStood opening loaded stripe before was
    → AreOutOfReach opening before blocks → HaveWholeRows was blocks → HaveWholeRows rows blocks

-- What the stripe's seat gave are its events in what it has seen. The rows are in the grammar, and only so many were loaded;
-- where the opening is coherent they stand, and so they did at each place before, and what was asked to be deleted stays in whole rows,
-- as all that is out of reach does.
pub record KeepsRows (Coherent : Type 0) (opening : Opening) (loaded : Rows) (stripe : ℕ) (given seen : List Event)
    (rows : Rows) : Type 0 where
  pub own : mine (stripe_seat stripe) seen ≡ given
  pub fit : AreInGrammar rows
  pub listed : AreListed (only stripe loaded)
  pub stands : Coherent → StandAt opening loaded stripe seen rows
  pub stood : Coherent → HasStood opening loaded stripe seen rows
  pub asked : Coherent → AreAsked loaded stripe given seen rows
  pub whole : Coherent → StayWhole opening loaded stripe seen rows
