-- Which refusals come from where.
use Rattle.std.specs.Prelude.{◌≡◌, ℕ, false, List, Result, Err}
use Rattle.oz_asker.specs.declared.fault.AskFault.{AskFault}
use Rattle.oz_asker.specs.declared.fault.AskFault.TheVariants as faults
use Rattle.oz_asker.specs.Asked.{IsAskAt}
use Rattle.oz_core.specs.declared.event.Event.{Event}
use Rattle.oz_core.specs.declared.opening.Opening.{Opening}
use Rattle.oz_core.specs.Manager.{asked_late}
use Rattle.oz_requests.specs.declared.reply.Reply.{Reply}
use Rattle.oz_requests.specs.declared.request.AskId.{AskId}
use Rattle.oz_requests.specs.declared.request.Request.{Request}
use Rattle.oz_om.specs.declared.refusal.Refusal.{Refusal}
use Rattle.oz_om.specs.declared.refusal.Refusal.TheVariants.{OtherBlocks, Early, Stopped, PoolEmpty, Later, OutOfMemory}
use Rattle.oz_om.specs.Decided.{IsTooMuch}
use Rattle.oz_store.specs.granted.Empty.{IsPoolEmpty}

-- from making room
abbrev pub IsOfRoom : Refusal → Type 0
IsOfRoom OtherBlocks = ⊥
IsOfRoom Early = ⊥
IsOfRoom (Stopped count) = ⊥
IsOfRoom (PoolEmpty stripe) = ⊥
IsOfRoom (Later held asked) = Unit {0}
IsOfRoom OutOfMemory = Unit {0}

-- what is so at the end of a story where the stripe refuses an id
abbrev pub RefusalHolds : Type 0 → Opening → List Event → AskId → Refusal → Type 0
RefusalHolds Coherent opening story id OtherBlocks = ⊥
RefusalHolds Coherent opening story id Early = ⊥
RefusalHolds Coherent opening story id (Stopped count) = ⊥
RefusalHolds Coherent opening story id (PoolEmpty stripe) =
    (asked_late id story ≡ false) × (Coherent → IsPoolEmpty opening story id stripe)
RefusalHolds Coherent opening story id (Later held asked) =
    (asked_late id story ≡ false) × IsTooMuch Coherent opening story id held asked
RefusalHolds Coherent opening story id OutOfMemory = Unit {0}

-- from asking for the service job
abbrev pub IsOfAsking : Refusal → Type 0
IsOfAsking OtherBlocks = ⊥
IsOfAsking Early = ⊥
IsOfAsking (Stopped count) = Unit {0}
IsOfAsking (PoolEmpty stripe) = ⊥
IsOfAsking (Later held asked) = ⊥
IsOfAsking OutOfMemory = Unit {0}

-- how an asker's seat is refused
abbrev pub refusal_of : AskFault → Refusal
refusal_of faults.OtherBlocks = OtherBlocks
refusal_of faults.Early = Early
refusal_of (faults.Stopped count) = Stopped count
refusal_of faults.OutOfMemory = OutOfMemory

-- The stripe had no block, or the buffer no room.
abbrev pub IsOfStripe : Refusal → Type 0
IsOfStripe OtherBlocks = ⊥
IsOfStripe Early = ⊥
IsOfStripe (Stopped count) = ⊥
IsOfStripe (PoolEmpty stripe) = Unit {0}
IsOfStripe (Later held asked) = Unit {0}
IsOfStripe OutOfMemory = ⊥

-- The Ask stands in the story, but where other things were said of its line's blocks, where it was early, and perhaps where
-- there was no memory.
abbrev pub AskStands : List Event → AskId → Request → Result Reply Refusal → Type 0
AskStands story id request (Err OtherBlocks) = Unit {0}
AskStands story id request (Err Early) = Unit {0}
AskStands story id request (Err OutOfMemory) = Unit {0}
AskStands story id request result = (place : ℕ) × IsAskAt story place id request
