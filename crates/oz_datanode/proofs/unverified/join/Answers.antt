use Rattle.std.proofs.Common.{List, ℕ, ◌++◌, ap, ◌∙◌, arith}
use Rattle.oz_datanode.specs.declared.unverified.Unverified.{Unverified}
use Rattle.oz_datanode.proofs.Copied.{join_more, join_all}
use Rattle.oz_datanode.proofs.unverified.join.Goals as goal

pub loop-chunk-preserved : goal.loop-chunk-preserved
loop-chunk-preserved c = join_more c.args.chunks.now c.loop-chunk.chunk-index c.chunk-item.result c.loop-chunk.bytes.items _ c.loop-chunk-test.true c.loop-chunk.invariant
    (c.in_ok-extend_from_slice.ensures.items ∙ ap (λ (l : List ℕ). c.loop-chunk.bytes.items ++ l) (c.deref.ensures.value ∙ ap (λ (chunk : Unverified). chunk.bytes.items) c.chunk-item.is))

pub returns : goal.returns
returns c = join_all c.args.chunks.now c.loop-chunk.chunk-index c.loop-chunk.bytes.items c.loop-chunk.invariant (omega arith)
