use Rattle.std.proofs.Common.{refl, arith}
use Rattle.oz_running.proofs.Counts.{bit_of, bit_few, line_next}
use Rattle.oz_running.proofs.counting.line_count.Goals as goal

pub loop-line-preserved : goal.loop-line-preserved
loop-line-preserved c =
    let bit = bit_of c.from-count.result _ _ c.from-count.ensures refl in
    let next = line_next c.args.client c.args.lines.now c.loop-line.line-index c.line-item.result c.loop-line-test.true c.line-item.is in
    record {
      counted = omega (arith, c.loop-line.invariant.counted, bit, next);
      few = omega (arith, c.loop-line.invariant.few, bit_few c.from-count.result _ c.from-count.ensures);
    }

pub overflow_add-count : goal.overflow_add-count
overflow_add-count c = omega (arith, c.loop-line.invariant.few, bit_few c.from-count.result _ c.from-count.ensures, c.loop-line-test.true)
