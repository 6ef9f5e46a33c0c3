use Rattle.std.proofs.Common.{◌≡◌, inr, List, [], ◌∷◌, ◌++◌, append-nil, sym, ap, ◌∙◌, subst}
use Rattle.oz_asker.specs.laws.Asks.{legal_of_follow}
use Rattle.oz_core.specs.declared.event.Event.{Event}
use Rattle.oz_core.specs.Asks.{pending}
use Rattle.oz_core.specs.Law.{AskIsEnabled, PurgesLogged}
use Rattle.oz_core.specs.Seats.{service_seat}
use Rattle.oz_turn.specs.Seat.{mine_of, number_of, seen_of}
use Rattle.oz_om.specs.Served.{WaitsForNoOther, service_ask, service_id}
use Rattle.oz_om.proofs.Service.{ask_fits, asked_of, for_any, logged_still, may_ask, none_of, own_of, waits_on}
use Rattle.oz_om.proofs.serving.put_ask.Goals as goal

pub returns-then-is_pending-clause-ok : goal.returns-then-is_pending-clause-ok
returns-then-is_pending-clause-ok g c = λ coherent.
    let O = g.O.Opened in
    let took = c.take-ledger.ensures in
    let story = c.take-ledger.result.0.story in
    let seen : seen_of c.give_back.new.seat ≡ story = c.give_back.ensures.seen ∙ took.seen in
    let waits = waits_on O.opening (seen_of c.args.seat.now) story (mine_of c.args.seat.now) took.begins
    (legal_of_follow O.coherent O.opening O.bytes O.script story coherent c.all_follow.ensures)
    (own_of (number_of c.args.seat.now) (seen_of c.args.seat.now) (mine_of c.args.seat.now) c.requires.ready.numbered c.knows_own.ensures)
    (own_of (number_of c.take-ledger.new.seat) story (mine_of c.args.seat.now) (took.seat.1 ∙ c.requires.ready.numbered) (took.own ∙ took.mine))
    c.args.request (c.requires.same coherent) in
    for_any _ c.undecided_ask-answer.result
    (ap (pending service_id) seen ∙ asked_of story c.args.request waits (sym c.is_pending.ensures ∙ c.if-is_pending.true))

pub returns-then-is_pending-clause-same : goal.returns-then-is_pending-clause-same
returns-then-is_pending-clause-same g c = λ coherent.
    let O = g.O.Opened in
    let took = c.take-ledger.ensures in
    let story = c.take-ledger.result.0.story in
    let seen : seen_of c.give_back.new.seat ≡ story = c.give_back.ensures.seen ∙ took.seen in
    subst (λ (l : List Event). WaitsForNoOther l c.args.request) (sym seen)
    (waits_on O.opening (seen_of c.args.seat.now) story (mine_of c.args.seat.now) took.begins
    (legal_of_follow O.coherent O.opening O.bytes O.script story coherent c.all_follow.ensures)
    (own_of (number_of c.args.seat.now) (seen_of c.args.seat.now) (mine_of c.args.seat.now) c.requires.ready.numbered c.knows_own.ensures)
    (own_of (number_of c.take-ledger.new.seat) story (mine_of c.args.seat.now) (took.seat.1 ∙ c.requires.ready.numbered) (took.own ∙ took.mine))
    c.args.request (c.requires.same coherent))

pub note-requires-clause-follows : goal.note-requires-clause-follows
note-requires-clause-follows g c =
    let O = g.O.Opened in
    let took = c.take-ledger.ensures in
    let story = c.take-ledger.result.0.story in
    record {
      of_seat = tt;
      enabled = λ coherent. subst (λ (l : List Event). AskIsEnabled O.opening l service_seat service_id c.args.request) (sym c.make_room.ensures.story)
          (may_ask O.opening story c.args.request (subst (λ (l : List Event). PurgesLogged l c.args.request) (sym took.begins.1)
          (logged_still (seen_of c.args.seat.now) took.begins.0 c.args.request (c.requires.logged coherent))));
      fits = λ coherent. ask_fits O.opening O.bytes O.script c.make_room.new.ledger.story c.args.request c.requires.of_service;
    }

pub returns-clause-own : goal.returns-clause-own
returns-clause-own g c =
    let took = c.take-ledger.ensures in
    let story = c.take-ledger.result.0.story in
    let event = service_ask c.args.request in
    let whole : seen_of c.give.new.seat ≡ story ++ event ∷ [] =
    c.give.ensures.seen ∙ (c.note.ensures.story ∙ ap (λ (l : List Event). l ++ event ∷ []) c.make_room.ensures.story) in
    inr (record {
      added =
          c.give.ensures.mine event (c.note.ensures.story ∙ ap (λ (l : List Event). l ++ event ∷ []) (c.make_room.ensures.story ∙ sym took.seen))
          ∙ ap (λ (l : List Event). l ++ event ∷ []) took.mine;
      place = story;
      there = ([], whole ∙ sym (append-nil (story ++ event ∷ [])));
      apart = none_of (pending service_id story) (sym c.is_pending.ensures ∙ c.if-is_pending.false);
    })
