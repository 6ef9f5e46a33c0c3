use Rattle.std.proofs.Common.{[], ◌∷◌, ◌++◌, sym, ap, ◌∙◌, append-nil}
use Rattle.oz_core.specs.declared.event.Event.{Event}
use Rattle.oz_turn.specs.Seat.{seen_of}
use Rattle.oz_node_events.proofs.appending.append.Goals as goal

pub returns-clause-told : goal.returns-clause-told
returns-clause-told g c =
    let begins = c.take-ledger.ensures.begins in
    let other = c.show.ensures.begins in
    let event : Event = record { seat = c.args.by; kind = c.args.kind } in
    record {
      before = seen_of c.take-ledger.new.seat;
      begins = (begins.0, c.take-ledger.ensures.seen ∙ begins.1);
      begins_other = (other.0, ap (λ share. share.seen) (sym c.show.ensures.holder_share) ∙ (sym c.show.ensures.seen ∙ other.1));
      goes_on = (
        [],
        c.give.ensures.seen ∙ (c.note.ensures.story ∙ (ap (λ l. l ++ event ∷ []) (sym c.take-ledger.ensures.seen) ∙ sym (append-nil (seen_of c.take-ledger.new.seat ++ event ∷ [])))),
      );
    }
