-- Words for private calls: what one event makes of a container, what a step of it wants, and which ids an ask needs.
use Rattle.std.specs.Prelude.{◌≡◌, ◌≢◌, ◌⊎◌, ◌↔◌, ℕ, ◌+◌, ◌≤◌, ◌<◌, false, true, ◌==◌, max, List, length, take, drop}
use Rattle.std.specs.Prelude.{Contains, All}
use Rattle.std.specs.Prelude.{Option, None, Some, if◌then◌else◌}
use Rattle.std.specs.Option.{option_and, unwrap_or}
use Rattle.oz_container.specs.declared.state.State.{State}
use Rattle.oz_container.specs.declared.state.State.TheVariants as states
use Rattle.oz_container.specs.declared.state.Event.{Event as Step}
use Rattle.oz_container.specs.declared.state.Event.TheVariants as step
use Rattle.oz_container.specs.Steps.{next}
use Rattle.oz_fields.specs.declared.block.Block.{Block}
use Rattle.oz_fields.specs.declared.block.Piece.{Piece}
use Rattle.oz_fields.specs.declared.block.TheConstants.{GREATEST_BLOCK_NUMBER}
use Rattle.oz_model.specs.Reach.{IsReached}
use Rattle.oz_names.specs.Names.{stripe_of}
use Rattle.oz_requests.specs.declared.request.Exclude.{Exclude}
use Rattle.oz_requests.specs.declared.request.Request.{Request}
use Rattle.oz_requests.specs.declared.request.Request.TheVariants.{AllocateBlock}
use Rattle.oz_core.specs.declared.event.Event.{Event}
use Rattle.oz_core.specs.declared.event.EventKind.{EventKind}
use Rattle.oz_core.specs.declared.event.EventKind.TheVariants.{Ask, Grant, Put, Copy, Closed}
use Rattle.oz_core.specs.declared.limits.TheConstants.{GRANTED_IDS}
use Rattle.oz_core.specs.declared.opening.Container.{Container}
use Rattle.oz_core.specs.declared.opening.NodeOpening.{NodeOpening}
use Rattle.oz_core.specs.declared.opening.Opening.{Opening}
use Rattle.oz_core.specs.Grants.{IsSpent}
use Rattle.oz_core.specs.Law.{HoldAlike, AllowsStep}
use Rattle.oz_core.specs.Manager.{IsUsed}
use Rattle.oz_core.specs.Nodes.{is_closed, holds}
use Rattle.oz_core.specs.Scm.{is_up, is_logged, next_id}
use Rattle.oz_core.specs.Seats.{scm_seat}
use Rattle.oz_scm_law.specs.declared.held.Wanted.{Wanted}
use Rattle.oz_scm_law.specs.declared.held.Wanted.TheVariants.{Alike, Unheld}

-- ---- a container

-- the state that a container is in
abbrev pub state_in : Option Container → Option State
state_in None = None
state_in (Some container) = Some container.state

abbrev pub state_after : ℕ → Option State → EventKind → Option State
state_after number before (Grant stripe container pipeline first count) =
    if container == number then Some (unwrap_or before states.Open) else before
state_after number before (Closed container state) =
    if container == number then option_and before (Some state) else before
state_after number before _ = before

-- the step that leads from one state to another: there is at most one
abbrev pub step_between : State → State → Option Step
step_between states.Open states.Closing = Some step.Finalize
step_between states.Closing states.QuasiClosed = Some step.QuasiClose
step_between states.Closing states.Closed = Some step.Close
step_between states.QuasiClosed states.Closed = Some step.ForceClose
step_between states.Closed states.Deleting = Some step.Delete
step_between states.Deleting states.Deleted = Some step.Cleanup
step_between _ _ = None

-- ---- its blocks

-- the block that an event gave a datanode
abbrev pub given : EventKind → Option Block
given (Put dn block id first count) = Some block
given (Copy source target block) = Some block
given _ = None

-- a block is as is wanted, and it is so where it is of this container
abbrev pub IsSo : Opening → List Event → Wanted → Block → Type 0
IsSo opening story (Alike dn other) block =
    is_logged opening story block ≡ false → holds opening story dn block ≡ holds opening story other block
IsSo opening story (Unheld dn) block = holds opening story dn block ≡ false

abbrev pub IsWanted : Opening → List Event → ℕ → Wanted → Block → Type 0
IsWanted opening story number wanted block = block.container ≡ number → IsSo opening story wanted block

-- each block that a datanode's disks had is
unfoldable pub HadWanted : Opening → List Event → ℕ → Wanted → NodeOpening → Type 0
HadWanted opening story number wanted node =
    All (λ (piece : Piece). IsWanted opening story number wanted piece.block) node.held

-- ---- what steps want, of these datanodes

-- two hold the same blocks of the container, but for those that are being deleted; one holds none of it
unfoldable pub AreAlike : Opening → List Event → ℕ → ℕ → ℕ → Type 0
AreAlike opening story number dn other = HoldAlike opening story number dn other

unfoldable pub HoldsNothing : Opening → List Event → ℕ → ℕ → Type 0
HoldsNothing opening story number dn = (block : Block) → block.container ≡ number → holds opening story dn block ≡ false

-- one is up, has closed its replica, and holds what these hold
pub record AgreesWith (opening : Opening) (story : List Event) (number : ℕ) (dns : List ℕ) (dn : ℕ) : Type 0 where
  pub up : is_up dn story ≡ true
  pub closed : is_closed opening story dn number ≡ true
  pub alike : All (AreAlike opening story number dn) dns

pub record AreAgreedInPart (opening : Opening) (story : List Event) (number : ℕ) (dns : List ℕ) : Type 0 where
  pub dn : ℕ
  pub member : Contains dns dn
  pub up : is_up dn story ≡ true
  pub closed : All (λ dn. is_up dn story ≡ true → is_closed opening story dn number ≡ true) dns
  pub apart : All (AgreesWith opening story number dns) dns → ⊥

-- one is up and holds nothing
pub record IsEmpty (opening : Opening) (story : List Event) (number dn : ℕ) : Type 0 where
  pub up : is_up dn story ≡ true
  pub empty : HoldsNothing opening story number dn

abbrev pub IsAllowedBy : Opening → List Event → ℕ → List ℕ → Step → Type 0
IsAllowedBy opening story number dns step.Finalize = Unit {0}
IsAllowedBy opening story number dns step.QuasiClose = AreAgreedInPart opening story number dns
IsAllowedBy opening story number dns step.Close = All (AgreesWith opening story number dns) dns
IsAllowedBy opening story number dns step.ForceClose = All (AgreesWith opening story number dns) dns
IsAllowedBy opening story number dns step.Delete = All (IsEmpty opening story number) dns
IsAllowedBy opening story number dns step.Cleanup = Unit {0}

-- ---- where it held

-- at a place behind which the storage container manager did nothing more, and at some such place
pub record MayStepAt (opening : Opening) (story : List Event) (number : ℕ) (by : Step) (place : ℕ) : Type 0 where
  pub others : All (λ (event : Event). event.seat ≢ scm_seat) (drop place story)
  pub allowed : AllowsStep opening (take place story) number by

pub record MayStep (opening : Opening) (story : List Event) (number : ℕ) (by : Step) : Type 0 where
  pub place : ℕ
  pub within : place ≤ length story
  pub may : MayStepAt opening story number by place

-- a step leads from the one state to the other
pub record ComesTo (opening : Opening) (story : List Event) (number : ℕ) (from to : State) : Type 0 where
  pub by : Step
  pub leads : next from by ≡ Some to
  pub may : MayStep opening story number by

-- ---- ids

-- how many were granted in a container
abbrev pub granted_to : Option Container → ℕ
granted_to None = 0
granted_to (Some container) = container.granted

abbrev pub granted_after : ℕ → ℕ → EventKind → ℕ
granted_after number before (Grant stripe container pipeline first count) =
    if container == number then before + count else before
granted_after number before _ = before

-- the greatest number of a container
abbrev pub greatest_after : ℕ → EventKind → ℕ
greatest_after before (Grant stripe container pipeline first count) = max before container
greatest_after before _ = before

-- the next ones, as many as a grant has
pub record AreNext (opening : Opening) (story : List Event) (first count : ℕ) : Type 0 where
  pub next : first ≡ next_id opening story
  pub whole : count ≡ GRANTED_IDS
  pub within : first + count ≤ GREATEST_BLOCK_NUMBER

abbrev pub block_at : ℕ → ℕ → Block
block_at container local = record { container = container; local = local }

-- these are the blocks that the opening's namespace reaches
abbrev pub AreReached : Opening → List Block → Type 0
AreReached opening blocks = (block : Block) → Contains blocks block ↔ IsReached opening.namespace block

-- ---- which asks need more

abbrev pub Excludes : Exclude → ℕ → ℕ → Type 0
Excludes exclude container pipeline = Contains exclude.containers container ⊎ Contains exclude.pipelines pipeline

-- each of so many ids from there on is used, or excluded; those of a Grant are, where it is one to the stripe
abbrev pub AreSpent : Opening → List Event → Exclude → ℕ → ℕ → ℕ → ℕ → Type 0
AreSpent opening story exclude container pipeline first count =
    (place : ℕ) → place < count
    → IsUsed opening story (block_at container (first + place)) ⊎ Excludes exclude container pipeline

abbrev pub IsSpentIn : Opening → List Event → ℕ → Exclude → EventKind → Type 0
IsSpentIn opening story stripe exclude (Grant to container pipeline first count) =
    to ≡ stripe → AreSpent opening story exclude container pipeline first count
IsSpentIn opening story stripe exclude _ = Unit {0}

-- an ask with this exclusion needs more, in this container and on this pipeline; a request does, and an event's
pub record NeedsMoreTo (opening : Opening) (story : List Event) (stripe container pipeline : ℕ) (exclude : Exclude)
    : Type 0 where
  pub container_allowed : Contains exclude.containers container → ⊥
  pub pipeline_allowed : Contains exclude.pipelines pipeline → ⊥
  pub none_left : IsSpent opening story stripe exclude

abbrev pub NeedsMoreIn : Opening → List Event → ℕ → ℕ → ℕ → Request → Type 0
NeedsMoreIn opening story stripe container pipeline (AllocateBlock volume bucket key session exclude) =
    (stripe_of volume ≡ stripe) × NeedsMoreTo opening story stripe container pipeline exclude
NeedsMoreIn opening story stripe container pipeline _ = ⊥

abbrev pub NeedsMore : Opening → List Event → ℕ → ℕ → ℕ → EventKind → Type 0
NeedsMore opening story stripe container pipeline (Ask id request) =
    NeedsMoreIn opening story stripe container pipeline request
NeedsMore opening story stripe container pipeline _ = ⊥
