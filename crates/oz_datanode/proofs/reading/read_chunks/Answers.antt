use Rattle.std.proofs.Common.{List, ℕ, ◌++◌, ap, ◌∙◌, arith}
use Rattle.oz_datanode.proofs.Chunks.{reads_then, chunk_within, read_more, read_bad, read_all, read_digests}
use Rattle.oz_datanode.proofs.reading.read_chunks.Goals as goal

pub read_chunk-requires-clause-within : goal.read_chunk-requires-clause-within
read_chunk-requires-clause-within g c = chunk_within _ _ c.args.chunks.now c.loop-chunk.chunk-index _ (omega arith) c.loop-chunk.invariant.reads.told c.requires.within

pub returns-in-Err-clause-bad : goal.returns-in-Err-clause-bad
returns-in-Err-clause-bad g c = λ kept found is slots tells. read_bad _ _ _ c.args.chunks.now c.loop-chunk.chunk-index _ _ (omega arith) _ kept found slots c.loop-chunk.invariant.so_far c.loop-chunk.invariant.reads.told (c.in-Err.ensures.bad kept found is) tells

pub loop-chunk-preserved : goal.loop-chunk-preserved
loop-chunk-preserved g c = record {
  running = c.in-Ok.ensures.failed;
  reads = reads_then _ _ _ _ _ _ c.loop-chunk.invariant.reads c.in-Ok.ensures.reads;
  so_far = read_more _ _ _ c.args.chunks.now c.loop-chunk.chunk-index _ _ (omega arith) _ _ _ _ c.loop-chunk.invariant.so_far c.loop-chunk.invariant.reads.told c.in-Ok.ensures.bytes c.in-Ok.ensures.digest c.saturating_sub-left.ensures
      (c.in-Ok-extend_from_slice.ensures.items ∙ ap (λ (l : List ℕ). c.loop-chunk.bytes.items ++ l) c.deref.ensures.value);
}

pub returns-clause-bytes : goal.returns-clause-bytes
returns-clause-bytes g c = λ slots tells. read_all _ _ _ _ c.loop-chunk.chunk-index _ c.loop-chunk.invariant.so_far (omega arith) slots tells

pub returns-clause-digests : goal.returns-clause-digests
returns-clause-digests g c = λ slots tells. read_digests _ _ _ _ c.loop-chunk.chunk-index _ c.loop-chunk.invariant.so_far (omega arith) slots tells
