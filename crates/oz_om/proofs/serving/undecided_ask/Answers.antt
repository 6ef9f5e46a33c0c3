use Rattle.std.proofs.Common.{List, Contains, is_some, sym, ap, ◌∙◌, subst}
use Rattle.std.proofs.lemmas.Bool.{false≢true}
use Rattle.oz_asker.specs.laws.Halts.{late_means_halted}
use Rattle.oz_core.specs.declared.event.Event.{Event}
use Rattle.oz_core.specs.declared.event.EventKind.TheVariants.{Ask}
use Rattle.oz_om.specs.Served.{service_id}
use Rattle.oz_om.proofs.LastAsk.{found_then}
use Rattle.oz_om.proofs.serving.undecided_ask.Goals as goal

pub unreachable-requires : goal.unreachable-requires
unreachable-requires g c =
    found_then service_id c.args.ledger.now.story c.requires
    (λ seat other there. c.in_default.ensures.none seat other
    (subst (λ (l : List Event). Contains l (record { seat = seat; kind = Ask service_id other })) (sym c.entries.ensures) there))

pub unreachable-requires-in-None : goal.unreachable-requires-in-None
unreachable-requires-in-None g c =
    let halted = late_means_halted service_id c.args.ledger.now.story (sym c.asked_late.ensures ∙ c.if-not-asked_late.false) in
    false≢true (sym (ap is_some (sym c.halt.ensures ∙ c.in-None.is)) ∙ halted)
