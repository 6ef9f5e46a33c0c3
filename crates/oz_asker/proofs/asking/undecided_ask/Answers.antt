use Rattle.std.proofs.Common.{ℕ, List, Contains, sym, ◌∙◌, subst}
use Rattle.oz_core.specs.declared.event.Event.{Event}
use Rattle.oz_core.specs.declared.event.EventKind.TheVariants.{Ask}
use Rattle.oz_core.specs.Asks.{pending}
use Rattle.oz_requests.specs.declared.request.Request.{Request}
use Rattle.oz_asker.proofs.Standing.{some_of}
use Rattle.oz_asker.specs.laws.Asks.{none_pending}
use Rattle.oz_asker.proofs.asking.undecided_ask.Goals as goal

pub unreachable-requires : goal.unreachable-requires
unreachable-requires g c =
    let id = c.args.id in
    let story = c.args.ledger.now.story in
    let request = some_of (pending id story) (sym c.is_pending.ensures ∙ c.if-not-is_pending.false) in
    let none = subst (λ (l : List Event). (seat : ℕ) (other : Request) → Contains l (record { seat = seat; kind = Ask id other }) → ⊥) c.entries.ensures c.in-None.ensures.none in
    none_pending id request.0 story none request.1
