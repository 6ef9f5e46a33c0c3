use Rattle.std.proofs.Common.{◌≡◌, List, sym, ◌∙◌, subst}
use Rattle.oz_core.specs.declared.event.Event.{Event}
use Rattle.oz_turn.specs.Seat.{seen_of}
use Rattle.oz_asker.specs.Decided.{IsDecideAt}
use Rattle.oz_asker.proofs.seeing.sees.Goals as goal

pub returns-clause-seen : goal.returns-clause-seen
returns-clause-seen g c is =
    let same : c.entries.result.now ≡ seen_of c.give_back.new.seat = c.entries.ensures ∙ sym (c.give_back.ensures.seen ∙ c.take-ledger.ensures.seen) in
    subst (λ (l : List Event). IsDecideAt l c.args.place c.args.id c.args.reply.now) same (c.is_decided_at-decided.ensures.0 is)
