use Rattle.std.proofs.Common.{sym, ◌∙◌}
use Rattle.oz_asker.specs.telling.laws.Stopped.{stopped_halted}
use Rattle.oz_asker.proofs.telling.settlement.settlement_of.Goals as goal

pub unreachable-requires : goal.unreachable-requires
unreachable-requires g c =
    stopped_halted c.args.ledger.now.story c.args.last (c.had_stopped.ensures.0 c.if-not-had_stopped.false) (sym c.halt-halt.ensures ∙ c.in-None-halt.is)
