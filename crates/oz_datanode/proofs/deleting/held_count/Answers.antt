use Rattle.std.proofs.Common.{◌≡◌, List, ℕ, get_or, drop, ◌+◌, refl, ap, ◌∙◌, arith}
use Rattle.oz_block.specs.Blocks.{node_in}
use Rattle.oz_datanode.proofs.Named.{count_more, few, one}
use Rattle.oz_datanode.proofs.deleting.held_count.Goals as goal

pub loop-i-preserved : goal.loop-i-preserved
loop-i-preserved g c =
    let node = node_in c.args.blocks.now in
    let local = get_or c.args.locals.now c.loop-i.i 0 in
    let later = drop (c.loop-i.i + 1) c.args.locals.now in
    let more : c.counted-count.result ≡ one node c.args.container local later = c.counted-count.ensures ∙ ap (λ (items : List ℕ). one node c.args.container local items) c.split_at.ensures.back in
    let least = few node c.args.container local later in record {
      sum = count_more node c.args.container c.args.locals.now c.loop-i.i c.loop-i.count local c.counted-count.result c.loop-i-test.true refl more c.loop-i.invariant.sum;
      small = omega (arith, least, more, c.loop-i.invariant.small);
    }
