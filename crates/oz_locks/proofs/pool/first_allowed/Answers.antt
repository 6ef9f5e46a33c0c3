use Rattle.std.proofs.Common.{List, ◌+◌, ◌++◌, All, ap, drop, subst, sym, take, ◌∙◌}
use mathlib.Core.Bool.{false≢true}
use Rattle.std.proofs.lemmas.List.{drop_more, take_all, take-append-drop}
use Rattle.std.proofs.lemmas.List.Elements.{All-more}
use Rattle.oz_core.specs.Grants.{IsExcluded}
use Rattle.oz_locks.specs.declared.pool.FreeBlock.{FreeBlock}
use Rattle.oz_locks.proofs.pool.first_allowed.Goals as goal

pub loop-free-preserved : goal.loop-free-preserved
loop-free-preserved c =
    let P = λ (free : FreeBlock). IsExcluded c.args.exclude.now free.block free.pipeline in
    All-more P c.args.pool.now c.loop-free.free-index _ c.loop-free-test.true c.loop-free.invariant (c.is_excluded.ensures.0 c.if-not-is_excluded.false)

pub returns : goal.returns
returns c =
    let P = λ (free : FreeBlock). IsExcluded c.args.exclude.now free.block free.pipeline in
    subst (All P) (take_all c.loop-free.free-index c.args.pool.now c.loop-free-test.false) c.loop-free.invariant

pub returns-then-not-is_excluded : goal.returns-then-not-is_excluded
returns-then-not-is_excluded c =
    let i = c.loop-free.free-index in
    let pool = c.args.pool.now in record {
      before = take i pool;
      behind = drop (i + 1) pool;
      parts = sym (take-append-drop i pool) ∙ ap (λ (l : List FreeBlock). take i pool ++ l) (drop_more pool i _ c.loop-free-test.true);
      excluded = c.loop-free.invariant;
      allowed = λ excluded. false≢true (sym c.if-not-is_excluded.true ∙ c.is_excluded.ensures.1 excluded);
    }
