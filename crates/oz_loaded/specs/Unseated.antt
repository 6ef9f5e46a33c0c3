-- What is seen of a manager that has no seats yet.
use Rattle.std.specs.Prelude.{ℕ, List}
use Rattle.oz_cache.specs.Cache.{CacheView}
use Rattle.oz_fields.specs.declared.block.Block.{Block}

-- its rows in parts, their last index, the greatest local id in them, and the blocks of deleted rows
pub record UnseatedView : Type 0 where
  pub parts : List CacheView
  pub last_index : ℕ
  pub greatest_id : ℕ
  pub left : List Block
