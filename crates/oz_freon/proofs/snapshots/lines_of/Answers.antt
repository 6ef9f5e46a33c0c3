use Rattle.std.proofs.Common.{arith}
use Rattle.oz_freon.proofs.Loops.{lines_grow, words_go_on}
use Rattle.oz_freon.proofs.snapshots.lines_of.Goals as goal

pub loop-key-preserved : goal.loop-key-preserved
loop-key-preserved c =
    let number = c.args.number in
    let key = c.loop-key.key in
    let are = c.loop-key.invariant.2 in
    let more = c.lines_here-lines in (
      lines_grow number c.args.client key c.loop-key.lines more.result c.loop-key.words c.draw-drawn.result.deed are
          c.draw-drawn.ensures.deed c.loop-key.invariant.0 more.ensures.lines,
      omega (arith, c.loop-key.invariant.1, more.ensures.few),
      words_go_on number key c.loop-key.words c.draw-drawn.new.words are c.draw-drawn.ensures.words,
    )
