-- What comes of a request that the service job asks.
use Rattle.std.specs.Prelude.{◌≡◌, ◌⊎◌, ℕ, ◌≤◌, true, List, [], ◌∷◌, ◌++◌, length, None, Some, slice_get}
use Rattle.oz_core.specs.declared.event.Event.{Event}
use Rattle.oz_core.specs.declared.event.EventKind.TheVariants.{Ask, Decide}
use Rattle.oz_core.specs.declared.event.Node.TheVariants.{Manager}
use Rattle.oz_core.specs.declared.limits.TheConstants.{SERVICE_CLIENT}
use Rattle.oz_core.specs.declared.opening.Opening.{Opening}
use Rattle.oz_core.specs.Asks.{own_id, pending}
use Rattle.oz_core.specs.Manager.{asked_late, halt_of}
use Rattle.oz_core.specs.Seats.{service_seat}
use Rattle.oz_requests.specs.declared.reply.Reply.{Reply}
use Rattle.oz_requests.specs.declared.request.AskId.{AskId}
use Rattle.oz_requests.specs.declared.request.Request.{Request}
use Rattle.oz_turn.specs.Told.{BeginsWith}
use Rattle.oz_om.specs.Decided.{IsDecided}

-- the one id by which the service job asks
abbrev pub service_id : AskId
service_id = own_id SERVICE_CLIENT 0

abbrev pub service_ask : Request → Event
service_ask request = record { seat = service_seat; kind = Ask service_id request }

-- If anything, this is what the service job has asked and isn't decided.
abbrev pub WaitsForNoOther : List Event → Request → Type 0
WaitsForNoOther story request = (other : Request) → pending service_id story ≡ Some other → other ≡ request

-- The service job's seat added the Ask to the story, at a place where nothing that it had asked was undecided.
pub record AddsAsk (story before after : List Event) (request : Request) : Type 0 where
  pub added : after ≡ before ++ service_ask request ∷ []
  pub place : List Event
  pub there : BeginsWith story (place ++ service_ask request ∷ [])
  pub apart : pending service_id place ≡ None

-- it was decided with this index
abbrev pub IsServed : Opening → List Event → List Event → Request → ℕ → Type 0
IsServed opening seen story request index =
    (reply : Reply) × (decided : IsDecided opening seen story service_id request reply) × (decided.index ≡ index)

-- The manager has halted with this count, and what the service job asked last is decided or was asked behind that.
pub record CannotServe (story : List Event) (count : ℕ) : Type 0 where
  pub halted : halt_of Manager story ≡ Some count
  pub none_waits : (pending service_id story ≡ None) ⊎ (asked_late service_id story ≡ true)

-- For private calls: an id was decided with this index, with so many events before that.
abbrev pub IsDecidedBehind : List Event → ℕ → AskId → ℕ → Type 0
IsDecidedBehind story length id index =
    (place seat : ℕ) × (reply : Reply) × (batch : List ℕ) × (length ≤ place)
    × (slice_get story place ≡ Some (record { seat = seat; kind = Decide id index reply batch }))
