use Rattle.std.proofs.Common.{is_some, sym, ap, ◌∙◌}
use Rattle.std.proofs.lemmas.Bool.{false≢true}
use Rattle.oz_asker.specs.laws.Halts.{late_means_halted}
use Rattle.oz_asker.proofs.asking.in_time.Goals as goal

pub unreachable-requires : goal.unreachable-requires
unreachable-requires g c =
    let halted = late_means_halted c.args.id c.args.ledger.now.story (sym c.asked_late.ensures ∙ c.if-not-asked_late.false) in
    false≢true (sym (ap is_some (sym c.halt.ensures ∙ c.in-None.is)) ∙ halted)
