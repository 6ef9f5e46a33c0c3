use Rattle.std.proofs.Common.{List, All, refl, sym, subst}
use Rattle.std.specs.Prelude.{OnOk}
use Rattle.oz_dellog.specs.declared.txn.Txn.{Txn}
use Rattle.oz_turn.specs.Seat.{seen_of}
use Rattle.oz_service.specs.Purges.{ArePurgedOf, IsInLog}
use Rattle.oz_service.proofs.Going.{begins_same}
use Rattle.oz_service.proofs.Logs.{each_of, logged_if, names_purged}
use Rattle.oz_service.proofs.pass.logging.log_locked.Goals as goal

pub log_txns-requires-clause-purged : goal.log_txns-requires-clause-purged
log_txns-requires-clause-purged g c =
    let seen = seen_of c.args.seat.now in
    let txns = c.in_ok-txns.txns.items in
    subst (All (ArePurgedOf seen)) (sym c.as_slice.ensures.value)
    (each_of (ArePurgedOf seen) txns (names_purged c.args.blocks.now txns c.in_ok-txns.ensures.whole seen c.requires.purged))

pub returns-clause-logged : goal.returns-clause-logged
returns-clause-logged g c =
    let seen = seen_of c.log_txns.new.seat in
    logged_if c.log_txns.result c.args.blocks.now c.in_ok-txns.txns.items c.in_ok-txns.ensures.whole seen
    (subst (λ (l : List Txn). OnOk c.log_txns.result (All (IsInLog seen) l)) c.as_slice.ensures.value c.log_txns.ensures.logged)

pub returns-in_err-txns-clause-shown : goal.returns-in_err-txns-clause-shown
returns-in_err-txns-clause-shown g c =
    record { ready = c.requires.ready; room = refl; mine = refl; goes_on = begins_same (seen_of c.args.seat.now); follow = c.requires.follow }
