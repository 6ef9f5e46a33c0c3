use Rattle.std.proofs.Common.{ap, arith, length, length-drop}
use Rattle.std.proofs.lemmas.List.{take_rest}
use Rattle.oz_cluster.proofs.Reading.{write_more}
use Rattle.oz_cluster.proofs.streams.write_all.Goals as goal

pub loop-at-preserved : goal.loop-at-preserved
loop-at-preserved g c =
    let rest = take_rest c.args.bytes.now c.loop-at.at in
    record {
      within = omega (arith, c.in-Ok.ensures.fits, ap length rest, length-drop c.loop-at.at c.args.bytes.now);
      held = write_more _ _ _ c.args.bytes.now _ c.loop-at.at c.in-Ok.count rest c.loop-at.invariant.held c.in-Ok.ensures.appended;
      faults = omega (arith, c.write.ensures.cause.never_falls);
    }
