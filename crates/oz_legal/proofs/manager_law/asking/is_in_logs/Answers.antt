use Rattle.std.proofs.Common.{List, sym, ◌∙◌}
use Rattle.oz_core.specs.declared.event.Event.{Event}
use Rattle.oz_core.specs.Scm.{logged, names_block}
use Rattle.oz_legal.proofs.manager_law_lemmas.Asked.{any-told}
use Rattle.oz_legal.proofs.manager_law.asking.is_in_logs.Goals as goal

pub returns : goal.returns
returns c = c.came_logged.ensures ∙ sym (any-told (names_block c.args.block) (λ (event : Event). logged event.kind) c.args.story.now)
