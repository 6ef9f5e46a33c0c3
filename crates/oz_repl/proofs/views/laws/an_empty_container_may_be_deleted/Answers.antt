use Rattle.std.proofs.Common.{ap}
use Rattle.oz_container.specs.declared.state.State.{State}
use Rattle.oz_container.specs.declared.state.State.TheVariants.{Deleting}
use Rattle.oz_container.specs.declared.state.Event.TheVariants.{Delete}
use Rattle.oz_container.specs.Steps.{next}
use Rattle.oz_repl.specs.views.laws.Shown.{comes_next, is_empty}
use Rattle.oz_repl.proofs.views.laws.an_empty_container_may_be_deleted.Goals as goal

pub returns : goal.returns
returns c = λ opening story number view is closed. (
  λ then. is_empty opening story number view is then.allowed,
  λ empty. comes_next opening story number view is
      Delete Deleting (ap (λ (s : State). next s Delete) closed) empty,
)
