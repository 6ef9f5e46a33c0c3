use Rattle.std.proofs.lemmas.Result.{err_from_is_err_and}
use Rattle.oz_rows.specs.Reading.{items_at, piece_at}
use Rattle.oz_rows.proofs.Loop.{one_more, stops, is_done}
use Rattle.oz_rows.proofs.decoding.more_pieces.Goals as goal

pub returns-in_err-piece : goal.returns-in_err-piece
returns-in_err-piece c =
    let p = err_from_is_err_and c.from_residual.result c.from_residual.ensures.1 in
    rw (p.1, p.2) (stops piece_at c.in_err-piece.field-0.0 c.loop.pieces.items c.args.count c.loop.counter c.loop.rest.now (items_at piece_at c.args.count c.args.bytes.now) c.loop-test.true c.in_err-piece.ensures c.loop.invariant)

pub loop-preserved : goal.loop-preserved
loop-preserved c =
    rw c.in_ok-push.ensures.items (one_more piece_at c.loop.pieces.items c.args.count c.loop.counter c.loop.rest.now c.in_ok-piece.piece c.in_ok-piece.after.now (items_at piece_at c.args.count c.args.bytes.now) c.loop-test.true c.in_ok-piece.ensures c.loop.invariant)

pub returns : goal.returns
returns c = is_done piece_at c.loop.pieces.items c.args.count c.loop.counter c.loop.rest.now (items_at piece_at c.args.count c.args.bytes.now) c.loop-test.false c.loop.invariant
