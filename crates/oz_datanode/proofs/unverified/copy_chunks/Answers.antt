use Rattle.std.proofs.Common.{arith, refl}
use Rattle.oz_datanode.proofs.Chunks.{reads_then, chunk_within}
use Rattle.oz_datanode.proofs.Copied.{copied_more, copied_all}
use Rattle.oz_datanode.proofs.unverified.copy_chunks.Goals as goal

pub read_slot-requires-clause-within : goal.read_slot-requires-clause-within
read_slot-requires-clause-within g c = chunk_within _ _ c.args.chunks.now c.loop-chunk.chunk-index _ (omega arith) c.loop-chunk.invariant.reads.told c.requires.within

pub loop-chunk-preserved : goal.loop-chunk-preserved
loop-chunk-preserved g c = record {
  running = c.in-Ok.ensures.failed;
  reads = reads_then _ _ _ _ _ _ c.loop-chunk.invariant.reads c.in-Ok.ensures.reads;
  so_far = copied_more _ _ _ c.args.chunks.now c.loop-chunk.chunk-index _ _ (omega arith) _ _ _ _ _ c.loop-chunk.invariant.so_far c.loop-chunk.invariant.reads.told c.in-Ok.ensures.bytes c.min.ensures refl c.saturating_sub-left.ensures c.in-Ok-push.ensures.items;
}

pub returns-clause-copied : goal.returns-clause-copied
returns-clause-copied g c = λ slots tells. copied_all _ _ _ _ c.loop-chunk.chunk-index _ c.loop-chunk.invariant.so_far (omega arith) slots tells
