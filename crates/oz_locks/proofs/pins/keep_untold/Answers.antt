use Rattle.std.proofs.Common.{rules, not}
use Rattle.std.proofs.lemmas.Fn.{filter_same}
use Rattle.oz_core.specs.Asks.{is_told}
use Rattle.oz_locks.specs.declared.pins.Pin.{Pin}
use Rattle.oz_locks.proofs.pins.keep_untold.Goals as goal

pub returns-clause-items : goal.returns-clause-items
returns-clause-items g c =
    filter_same _ (λ (pin : Pin). not (is_told pin.client pin.line (g.S.ToldLines.story c.args.lines.now))) _ (λ x b f' k. search rules) _ _ c.retain.ensures.filtered
