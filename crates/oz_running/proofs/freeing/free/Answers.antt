use Rattle.oz_running.proofs.Freed.{freed_then}
use Rattle.oz_running.proofs.freeing.free.Goals as goal

pub returns-then-is_err : goal.returns-then-is_err
returns-then-is_err g c =
    freed_then c.args.service.now c.loop.service c.pass-passed.new.self c.loop.invariant.goes_on c.pass-passed.ensures.goes_on

pub loop-preserved : goal.loop-preserved
loop-preserved g c = record {
  goes_on = freed_then c.args.service.now c.loop.service c.pass-passed.new.self c.loop.invariant.goes_on c.pass-passed.ensures.goes_on;
}
