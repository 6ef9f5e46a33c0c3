-- The service job: what contracts see of it, what it keeps, and how its seat goes on.
use Rattle.std.specs.Prelude.{◌≡◌, ℕ, ◌++◌, Bool, if◌then◌else◌, List, Option, None, Some, map}
use Rattle.oz_core.specs.declared.event.Event.{Event}
use Rattle.oz_core.specs.declared.opening.Opening.{Opening}
use Rattle.oz_core.specs.Asks.{pending}
use Rattle.oz_core.specs.Law.{PurgesLogged}
use Rattle.oz_names.specs.declared.limits.TheConstants.{STRIPES}
use Rattle.oz_om.specs.Purging.{NoneHadAny}
use Rattle.oz_om.specs.Served.{WaitsForNoOther, service_ask, service_id}
use Rattle.oz_om.specs.Working.{NoneBelow}
use Rattle.oz_requests.specs.declared.request.Family.TheVariants.{Service}
use Rattle.oz_requests.specs.declared.request.Request.{Request}
use Rattle.oz_requests.specs.Families.{family_of}
use Rattle.oz_rows.specs.RowMaps.{Rows}
use Rattle.oz_service.specs.declared.pass.passing.Passed.{Passed}
use Rattle.oz_service.specs.declared.pass.passing.Passed.TheVariants.{Idle, WentOn, Waits}
use Rattle.oz_service.specs.Sending.{NoneIsToSend}
use Rattle.oz_turn.specs.Told.{BeginsWith}

-- What its seat has seen and given, what it asks that it hasn't seen decided, and the transaction index up to which rows were purged
-- for it.
pub record ServiceView : Type 0 where
  pub seen : List Event
  pub mine : List Event
  pub waiting : Option Request
  pub purged_to : ℕ

-- what it asks may be asked by it
abbrev pub IsOfService : Option Request → Type 0
IsOfService None = Unit {0}
IsOfService (Some request) = family_of request ≡ Service

-- As the story ends it may ask this, and nothing else that it has asked is undecided.
abbrev pub Awaits : List Event → Option Request → Type 0
Awaits story None = pending service_id story ≡ None
Awaits story (Some request) = PurgesLogged story request × WaitsForNoOther story request

-- It has asked some more of what it may ask, and given nothing else.
pub record AskedMore (before after : List Event) : Type 0 where
  pub requests : List Request
  pub added : after ≡ before ++ map service_ask requests

-- It has seen more of the story, and asked some more.
pub record GoesOn (old new : ServiceView) : Type 0 where
  pub seen : BeginsWith new.seen old.seen
  pub mine : AskedMore old.mine new.mine

-- It has only seen more of it.
pub record LooksOn (old new : ServiceView) : Type 0 where
  pub seen : BeginsWith new.seen old.seen
  pub mine : new.mine ≡ old.mine
  pub waiting : new.waiting ≡ old.waiting
  pub purged_to : new.purged_to ≡ old.purged_to

-- Between two places of the story nothing was to be done: no stripe had deleted rows that might go, nor deleted snapshots, and no
-- transaction was to be sent.
pub record FoundNothing (Coherent : Type 0) (opening : Opening) (loaded : Rows) (before after : List Event) : Type 0 where
  pub rows : NoneHadAny Coherent opening loaded STRIPES before after
  pub snapshots : NoneBelow opening loaded STRIPES before after
  pub transactions : NoneIsToSend opening before after

-- For private calls: what was found to do next with deleted snapshots is for the service job, and where nothing was, no stripe had any.
abbrev pub FoundWork : Opening → Rows → List Event → List Event → Option Request → Type 0
FoundWork opening loaded before after None = NoneBelow opening loaded STRIPES before after
FoundWork opening loaded before after (Some request) = family_of request ≡ Service

-- For private calls: what came of a pass, by whether anything was done, and whether what was purged before it was flushed.
abbrev pub outcome_of : Bool → Bool → Passed
outcome_of any flushed = if any then WentOn else (if flushed then Idle else Waits)
