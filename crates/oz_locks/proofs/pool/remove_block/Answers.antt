use Rattle.std.proofs.Common.{rules, not}
use Rattle.std.proofs.lemmas.Fn.{filter_same}
use Rattle.oz_core.specs.Nodes.{is_block}
use Rattle.oz_locks.specs.declared.pool.FreeBlock.{FreeBlock}
use Rattle.oz_locks.proofs.pool.remove_block.Goals as goal

pub returns : goal.returns
returns c = filter_same _ (λ (free : FreeBlock). not (is_block c.args.block free.block)) _ (λ x b f' k. search rules) _ _ c.retain.ensures.filtered
