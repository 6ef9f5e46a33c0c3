-- What is due by a view of a container: which copies, and which event.
use Rattle.std.specs.Prelude.{◌≡◌, ℕ, ◌<◌, Bool, true, List, [], Some, Contains, All, slice_get}
use Rattle.std.specs.List.{slice_index_or}
use Rattle.std.specs.List.Sorted.{IsStrictlyIncreasing}
use Rattle.oz_container.specs.declared.state.State.{State}
use Rattle.oz_container.specs.declared.state.Event.{Event}
use Rattle.oz_container.specs.declared.state.Event.TheVariants as step
use Rattle.oz_container.specs.Steps.{next}
use Rattle.oz_core.specs.Law.{may_be_copied}
use Rattle.oz_repl.specs.declared.repl.view.View.{View}
use Rattle.oz_repl.specs.declared.repl.view.CopyOrder.{CopyOrder}

-- its lists of local ids rise
pub record AreRising (view : View) : Type 0 where
  pub held : All IsStrictlyIncreasing view.held
  pub logged : IsStrictlyIncreasing view.logged

-- ---- copies

-- the blocks that the member at a place holds, counted from 0
abbrev pub held_at : View → ℕ → List ℕ
held_at view place = slice_index_or view.held place []

-- that member is up and holds the block; it is up and lacks it
pub record HoldsAt (view : View) (local place : ℕ) : Type 0 where
  pub up : slice_get view.up place ≡ Some true
  pub held : Contains (held_at view place) local

pub record LacksAt (view : View) (local place : ℕ) : Type 0 where
  pub up : slice_get view.up place ≡ Some true
  pub lacking : Contains (held_at view place) local → ⊥

-- A copy is due where the container is quasi-closed or closed, of a block that isn't being deleted: from the first member
-- that is up and holds it to one that is up and lacks it.
pub record IsDueCopy (view : View) (order : CopyOrder) : Type 0 where
  pub copied : may_be_copied view.state ≡ true
  pub unlogged : Contains view.logged order.local → ⊥
  pub from : ℕ
  pub source : slice_get view.members from ≡ Some order.source
  pub holds : HoldsAt view order.local from
  pub first : (place : ℕ) → place < from → HoldsAt view order.local place → ⊥
  pub to : ℕ
  pub target : slice_get view.members to ≡ Some order.target
  pub lacks : LacksAt view order.local to

-- ---- events

-- what the one holds the other holds too, but for what is being deleted
abbrev pub HoldsWithin : List ℕ → List ℕ → List ℕ → Type 0
HoldsWithin logged held other = (local : ℕ) → (Contains logged local → ⊥) → Contains held local → Contains other local

-- all members are up, have closed their replica, and hold the same but for what is being deleted
pub record Agree (view : View) : Type 0 where
  pub up : All (λ up. up ≡ true) view.up
  pub closed : All (λ closed. closed ≡ true) view.closed
  pub alike : All (λ held. All (λ other. HoldsWithin view.logged held other) view.held) view.held

-- the members that are up have closed their replica
abbrev pub UpAreClosed : List Bool → List Bool → Type 0
UpAreClosed up closed = (place : ℕ) → slice_get up place ≡ Some true → slice_get closed place ≡ Some true

-- some are up, these have closed their replica, and not all agree
pub record AgreeInPart (view : View) : Type 0 where
  pub some : Contains view.up true
  pub closed : UpAreClosed view.up view.closed
  pub apart : Agree view → ⊥

-- all are up and hold nothing
pub record AreEmpty (view : View) : Type 0 where
  pub up : All (λ up. up ≡ true) view.up
  pub empty : All (λ held. held ≡ []) view.held

-- what an event wants of the members
abbrev pub Allows : View → Event → Type 0
Allows view step.Finalize = Unit {0}
Allows view step.QuasiClose = AgreeInPart view
Allows view step.Close = Agree view
Allows view step.ForceClose = Agree view
Allows view step.Delete = AreEmpty view
Allows view step.Cleanup = Unit {0}

-- The event leads from the state of the container, and the members are as it wants.
pub record IsNext (view : View) (event : Event) : Type 0 where
  pub state : State
  pub leads : next view.state event ≡ Some state
  pub allowed : Allows view event
