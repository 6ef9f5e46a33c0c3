use Rattle.std.proofs.Common.{[]}
use Rattle.std.proofs.lemmas.Result.{err_from_is_err_and}
use Rattle.oz_entries.specs.Held.{node_of}
use Rattle.oz_entries.specs.Node.{is_used}
use Rattle.oz_entries.specs.Reading.{each_at, next_chunk_at}
use Rattle.oz_entries.proofs.Loop.{one_more, stops, is_done}
use Rattle.oz_entries.proofs.reading.chunks_of.Goals as goal

pub returns-in_err-chunk : goal.returns-in_err-chunk
returns-in_err-chunk c =
    let p = err_from_is_err_and c.from_residual.result c.from_residual.ensures.1 in
    rw (p.1, p.2) (stops (next_chunk_at (is_used (node_of c.args.held.now))) c.in_err-chunk.field-0.0 c.loop.chunks.items c.args.count c.loop.counter c.loop.rest.now (each_at (next_chunk_at (is_used (node_of c.args.held.now))) [] c.args.count c.args.bytes.now) c.loop-test.true (rw c.deref.ensures.value at c.in_err-chunk.ensures) c.loop.invariant)

pub loop-preserved : goal.loop-preserved
loop-preserved c =
    rw c.in_ok-push.ensures.items (one_more (next_chunk_at (is_used (node_of c.args.held.now))) c.loop.chunks.items c.args.count c.loop.counter c.loop.rest.now c.in_ok-chunk.chunk c.in_ok-chunk.after.now (each_at (next_chunk_at (is_used (node_of c.args.held.now))) [] c.args.count c.args.bytes.now) c.loop-test.true (rw c.deref.ensures.value at c.in_ok-chunk.ensures) c.loop.invariant)

pub returns : goal.returns
returns c = is_done (next_chunk_at (is_used (node_of c.args.held.now))) c.loop.chunks.items c.args.count c.loop.counter c.loop.rest.now (each_at (next_chunk_at (is_used (node_of c.args.held.now))) [] c.args.count c.args.bytes.now) c.loop-test.false c.loop.invariant
