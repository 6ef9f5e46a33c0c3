-- Which event comes of a grant, and what a refusal says of the story.
use Rattle.std.specs.Prelude.{◌≡◌, ℕ, ◌+◌, ◌<◌, Bool, List, [], ◌∷◌, ◌++◌, Option, Some, None, Result, Ok, Err, if◌then◌else◌}
use Rattle.oz_core.specs.declared.event.Event.{Event}
use Rattle.oz_core.specs.declared.event.EventKind.{EventKind}
use Rattle.oz_core.specs.declared.event.EventKind.TheVariants as events
use Rattle.oz_core.specs.declared.event.Node.TheVariants.{Scm}
use Rattle.oz_core.specs.declared.limits.TheConstants.{GRANTED_IDS}
use Rattle.oz_core.specs.declared.opening.Opening.{Opening}
use Rattle.oz_core.specs.Manager.{halt_of}
use Rattle.oz_core.specs.Scm.{next_id, ups}
use Rattle.oz_core.specs.Seats.{scm_seat}
use Rattle.oz_fields.specs.declared.block.TheConstants.{GREATEST_BLOCK_NUMBER}
use Rattle.oz_scm.specs.declared.grants.entry.Grant.{Grant}
use Rattle.oz_nodes.specs.Pipelines.{IsAnyUp, IsFree}
use Rattle.oz_requests.specs.declared.request.Exclude.{Exclude}
use Rattle.oz_scm.specs.declared.fault.GrantFault.{GrantFault}
use Rattle.oz_scm.specs.declared.fault.GrantFault.TheVariants.{Stopped, NoPipeline, Excluded, IdsSpent, OutOfMemory}

-- an event of the storage container manager, and what it gave with it, if it told anything
abbrev pub by_scm : EventKind → Event
by_scm kind = record { seat = scm_seat; kind = kind }

abbrev pub with_told : Option EventKind → List Event → List Event
with_told None mine = mine
with_told (Some kind) mine = mine ++ by_scm kind ∷ []

-- what is told of a call that is to grant ids to a stripe: the Grant, or that the disk failed
abbrev pub told_of : ℕ → Result Grant GrantFault → Option EventKind
told_of stripe (Ok grant) = Some (events.Grant stripe grant.container grant.pipeline grant.first grant.count)
told_of stripe (Err (Stopped count)) = Some (events.Halt Scm count)
told_of stripe (Err NoPipeline) = None
told_of stripe (Err Excluded) = None
told_of stripe (Err (IdsSpent next count)) = None
told_of stripe (Err OutOfMemory) = None

-- the events that it gave, after such a call; where it had stopped before, nothing is told
abbrev pub own_after : Bool → ℕ → List Event → Result Grant GrantFault → List Event
own_after stopped stripe mine result = if stopped then mine else with_told (told_of stripe result) mine

-- A pipeline is up that isn't excluded.
abbrev pub IsAnyFree : Opening → List Event → Exclude → Type 0
IsAnyFree opening story exclude = (pipeline : ℕ) × IsFree (ups opening story) exclude.pipelines pipeline

-- What a refusal says of the story, a row a refusal: the storage container manager halted with this count; or it didn't,
-- and no pipeline is up; some are, and all of them are excluded; one is free, and so many ids, which a grant has, would
-- pass the greatest. That memory is wanted says nothing.
abbrev pub IsRefusal : Opening → List Event → Exclude → GrantFault → Type 0
IsRefusal opening story exclude (Stopped count) = halt_of Scm story ≡ Some count
IsRefusal opening story exclude NoPipeline = (halt_of Scm story ≡ None) × (IsAnyUp (ups opening story) → ⊥)
IsRefusal opening story exclude Excluded =
    (halt_of Scm story ≡ None) × IsAnyUp (ups opening story) × (IsAnyFree opening story exclude → ⊥)
IsRefusal opening story exclude (IdsSpent next count) =
    (halt_of Scm story ≡ None) × IsAnyFree opening story exclude
    × (next ≡ next_id opening story) × (count ≡ GRANTED_IDS) × (GREATEST_BLOCK_NUMBER < next + count)
IsRefusal opening story exclude OutOfMemory = Unit {0}
