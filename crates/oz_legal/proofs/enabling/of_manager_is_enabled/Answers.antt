use Rattle.std.proofs.Common.{◌↔◌, IsTrue, IfOk, List, ℕ, sym, subst}
use Rattle.oz_core.specs.declared.event.EventKind.TheVariants.{Decide, PurgeAsk}
use Rattle.oz_core.specs.Law.{KindIsEnabled}
use Rattle.oz_fields.specs.declared.block.Block.{Block}
use Rattle.oz_legal.proofs.enabling.of_manager_is_enabled.Goals as goal

pub returns-in-Decide : goal.returns-in-Decide
returns-in-Decide c =
    subst (λ kind. IfOk c.decide_is_enabled.result (λ is. IsTrue is ↔ KindIsEnabled c.args.opening.now c.args.story.now c.args.seat kind))
    (sym c.in-Decide.is)
    (subst (λ (batch : List ℕ). IfOk c.decide_is_enabled.result (λ is. IsTrue is ↔ KindIsEnabled c.args.opening.now c.args.story.now c.args.seat (Decide c.in-Decide.id c.in-Decide.index c.in-Decide.reply batch)))
    c.items-batch.ensures c.decide_is_enabled.ensures)

pub returns-in-PurgeAsk : goal.returns-in-PurgeAsk
returns-in-PurgeAsk c =
    subst (λ kind. IfOk c.purge_ask_is_enabled.result (λ is. IsTrue is ↔ KindIsEnabled c.args.opening.now c.args.story.now c.args.seat kind))
    (sym c.in-PurgeAsk.is)
    (subst (λ (blocks : List Block). IfOk c.purge_ask_is_enabled.result (λ is. IsTrue is ↔ KindIsEnabled c.args.opening.now c.args.story.now c.args.seat (PurgeAsk blocks)))
    c.items.ensures c.purge_ask_is_enabled.ensures)
