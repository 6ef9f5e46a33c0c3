-- Where no event of a container comes next that was closed at a drain's start, the empty ones are deleted.
use Rattle.std.proofs.Common.{◌≡◌, List, sym, ◌∙◌, ap, subst}
use Rattle.std.proofs.lemmas.Option.{same_Some}
use Rattle.oz_container.specs.declared.state.State.TheVariants as states
use Rattle.oz_script.specs.declared.lines.script.Line.{Line}
use Rattle.oz_core.specs.declared.event.Event.{Event}
use Rattle.oz_core.specs.declared.opening.Container.{Container}
use Rattle.oz_core.specs.declared.opening.Opening.{Opening}
use Rattle.oz_core.specs.Due.{EmptyAreDeleted}
use Rattle.oz_core.specs.Law.{AreEmpty, IsLegal}
use Rattle.oz_core.specs.Lines.{IsStart}
use Rattle.oz_repl.specs.views.View.{IsViewOf}
use Rattle.oz_repl.specs.views.laws.Later.{deleted_or_not}
use Rattle.oz_service.specs.Emptied.{ClosedAreDone}

pub empty_are_deleted : (opening : Opening) (story start : List Event) (line : Line) → IsLegal opening story → IsStart story line start
    → ClosedAreDone opening start story → EmptyAreDeleted opening story line
empty_are_deleted opening story start line legal is done = record {
  start = start;
  is_start = is;
  deleted = λ number before container was there closed empty.
      let it = done number before was closed in
      let same : it.is_view.container ≡ container = same_Some it.is_view.container container (sym it.is_view.made ∙ there) in
      let gone : it.view.state ≡ states.Deleted =
      (deleted_or_not opening start is.behind number before it.view (subst (IsLegal opening) is.parts legal) was closed
      (subst (λ (l : List Event). IsViewOf opening l number it.view) is.parts it.is_view) it.none_next
      (subst (λ (l : List Event). AreEmpty opening l number) is.parts empty)) in
      ap (λ (c : Container). c.state) (sym same) ∙ sym it.is_view.state ∙ gone;
}
