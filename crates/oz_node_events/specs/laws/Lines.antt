-- A line that has started, and may have something done to a datanode, has so in each story that goes on.
use Rattle.std.proofs.Common.{◌≡◌, ℕ, ◌-◌, Bool, true, ◌||◌, List, Option, None, Some, sym, ap, ◌∙◌, subst}
use Rattle.std.proofs.lemmas.List.Folds.{list_any-append}
use Rattle.std.specs.Prelude.{is_some}
use Rattle.oz_core.specs.declared.event.Event.{Event}
use Rattle.oz_core.specs.Asks.{answer_to, is_told}
use Rattle.oz_core.specs.Lines.{AfterIsTold, HasStarted}
use Rattle.oz_script.specs.declared.lines.script.Line.{Line}
use Rattle.oz_script.specs.declared.lines.script.Script.{Script}
use Rattle.oz_turn.specs.Told.{BeginsWith}
use Rattle.oz_node_events.specs.declared.command.NodeCommand.{NodeCommand}
use Rattle.oz_node_events.specs.Led.{HasItDone}

told_later : (client line : ℕ) (story later : List Event) → BeginsWith later story → is_told client line story ≡ true → is_told client line later ≡ true
told_later client line story later (more, parts) told =
    subst (λ (l : List Event). is_told client line l ≡ true) (sym parts)
    (list_any-append (λ (event : Event). is_some (answer_to client line event.kind)) story more ∙ ap (λ (b : Bool). b || is_told client line more) told)

after_later : (story later : List Event) → BeginsWith later story → (after : Option (ℕ × ℕ)) → AfterIsTold story after → AfterIsTold later after
after_later story later begins None told = tt
after_later story later begins (Some named) told = told_later named.0 named.1 story later begins told

pub started_later : (story later : List Event) (line : Line) → BeginsWith later story → HasStarted story line → HasStarted later line
started_later story later line begins started = record {
  before_it = λ second. told_later line.client (line.number - 1) story later begins (started.before_it second);
  after_it = after_later story later begins line.after started.after_it;
}

pub done_later : (script : Script) (story later : List Event) (dn : ℕ) (done : NodeCommand) (line : Line) → BeginsWith later story
    → HasItDone script story dn done line → HasItDone script later dn done line
done_later script story later dn done line begins by = record {
  there = by.there;
  so = by.so;
  started = started_later story later line begins by.started;
}
