-- That nothing is left to do with containers that were closed where a drain started.
use Rattle.std.specs.Prelude.{◌≡◌, ℕ, List, Some}
use Rattle.std.specs.FinMap.{get}
use Rattle.oz_container.specs.declared.state.Event.{Event as Step}
use Rattle.oz_container.specs.declared.state.State.TheVariants as states
use Rattle.oz_core.specs.declared.event.Event.{Event}
use Rattle.oz_core.specs.declared.opening.Container.{Container}
use Rattle.oz_core.specs.declared.opening.Opening.{Opening}
use Rattle.oz_core.specs.Scm.{containers}
use Rattle.oz_repl.specs.declared.repl.view.View.{View}
use Rattle.oz_repl.specs.repl.View.{IsNext}
use Rattle.oz_repl.specs.views.View.{IsViewOf}

-- by a view of the container no event of it comes next
pub record IsDone (opening : Opening) (story : List Event) (number : ℕ) : Type 0 where
  pub view : View
  pub is_view : IsViewOf opening story number view
  pub none_next : (by : Step) → IsNext view by → ⊥

-- so it is of each that was closed at the start
abbrev pub ClosedAreDone : Opening → List Event → List Event → Type 0
ClosedAreDone opening start story =
    (number : ℕ) (before : Container) → get (containers opening start) number ≡ Some before
    → before.state ≡ states.Closed → IsDone opening story number
