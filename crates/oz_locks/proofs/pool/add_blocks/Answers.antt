use Rattle.std.proofs.Common.{rules, ◌≡◌, List, ◌+◌, ap, ◌++◌, ◌∷◌, [], ◌∙◌}
use Rattle.oz_locks.specs.declared.pool.FreeBlock.{FreeBlock}
use Rattle.oz_locks.proofs.Pools.{one_more_of_grant}
use Rattle.oz_locks.proofs.pool.add_blocks.Goals as goal

pub loop-place-preserved : goal.loop-place-preserved
loop-place-preserved c = record {
  items = λ fits.
      let local : c.saturating_add-local.result ≡ c.args.first + c.loop-place.place = search rules in
      c.push_reserved.ensures.items
      ∙ ap (λ (l : List FreeBlock). l ++ record { block = record { container = c.args.container; local = c.saturating_add-local.result }; pipeline = c.args.pipeline } ∷ []) (c.loop-place.invariant.items fits)
      ∙ one_more_of_grant _ _ _ _ _ _ local;
  count = search rules;
  room = search rules;
}
