use Rattle.std.proofs.Common.{refl, sym, ◌∙◌}
use Rattle.std.proofs.lemmas.List.Elements.{All-contains}
use Rattle.oz_turn.specs.Seat.{seen_of}
use Rattle.oz_service.specs.Purges.{ArePurgedOf}
use Rattle.oz_service.proofs.Going.{begins_same}
use Rattle.oz_service.proofs.Logging.{asked_still, begins_through, in_all, in_more, none_in}
use Rattle.oz_service.proofs.pass.logging.log_txns.Goals as goal

pub loop-txn-init : goal.loop-txn-init
loop-txn-init g c = record {
  shown = record { ready = c.requires.ready; room = refl; mine = refl; goes_on = begins_same (seen_of c.args.seat.now); follow = c.requires.follow };
  logged = none_in (seen_of c.args.seat.now) c.args.txns.now;
}

pub log_one-requires-clause-ready : goal.log_one-requires-clause-ready
log_one-requires-clause-ready g c = c.loop-txn.invariant.shown.ready

pub log_one-requires-clause-purged : goal.log_one-requires-clause-purged
log_one-requires-clause-purged g c =
    asked_still (seen_of c.args.seat.now) (seen_of c.loop-txn.seat) c.loop-txn.invariant.shown.goes_on c.txn-item.result
    (All-contains (ArePurgedOf (seen_of c.args.seat.now)) c.args.txns.now c.txn-item.result c.requires.purged
    (c.loop-txn.txn-index, c.loop-txn-test.true, sym c.txn-item.is))

pub returns-in_err-log_one-clause-shown : goal.returns-in_err-log_one-clause-shown
returns-in_err-log_one-clause-shown g c =
    let was = c.loop-txn.invariant.shown in
    let now = c.in_err-log_one.ensures.shown in record {
      ready = now.ready;
      room = now.room ∙ was.room;
      mine = now.mine ∙ was.mine;
      goes_on = begins_through (seen_of c.args.seat.now) (seen_of c.loop-txn.seat) (seen_of c.log_one.new.seat) was.goes_on now.goes_on;
      follow = now.follow;
    }

pub loop-txn-preserved : goal.loop-txn-preserved
loop-txn-preserved g c =
    let was = c.loop-txn.invariant.shown in
    let now = c.in_ok-log_one.ensures.shown in record {
      shown = record {
        ready = now.ready;
        room = now.room ∙ was.room;
        mine = now.mine ∙ was.mine;
        goes_on = begins_through (seen_of c.args.seat.now) (seen_of c.loop-txn.seat) (seen_of c.log_one.new.seat) was.goes_on now.goes_on;
        follow = now.follow;
      };
      logged = in_more (seen_of c.loop-txn.seat)
          (seen_of c.log_one.new.seat) now.goes_on c.args.txns.now c.loop-txn.txn-index c.txn-item.result c.loop-txn-test.true c.txn-item.is
          c.loop-txn.invariant.logged c.in_ok-log_one.ensures.logged;
    }

pub returns-clause-shown : goal.returns-clause-shown
returns-clause-shown g c = c.loop-txn.invariant.shown

pub returns-clause-logged : goal.returns-clause-logged
returns-clause-logged g c = in_all (seen_of c.loop-txn.seat) c.args.txns.now c.loop-txn.txn-index c.loop-txn-test.false c.loop-txn.invariant.logged
