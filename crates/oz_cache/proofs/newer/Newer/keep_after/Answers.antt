use Rattle.std.proofs.Common.{ℕ, Bool, cond, ◌∙◌, ap, arith}
use Rattle.oz_cache.proofs.newer.Newer.keep_after.Goals as goal

pub loop-preserved : goal.loop-preserved
loop-preserved g c = record {
  rows = λ key. c.evict.ensures.rows key ∙ c.loop.invariant.rows key;
  ends = λ limit all. c.evict.ensures.ends limit (c.loop.invariant.ends limit all);
  spare = omega arith;
  steps = omega (arith, ap (λ (t : Bool). cond {A = ℕ} t 1 0) c.loop-test.true);
}

pub returns-clause-ends : goal.returns-clause-ends
returns-clause-ends g c = λ limit all. c.evict.ensures.ends limit (c.loop.invariant.ends limit all)
