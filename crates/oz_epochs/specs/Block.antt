-- What the contracts of private calls see of a block.
use Rattle.std.specs.Prelude.{ℕ, List}

-- the items that it holds, from the index 0 on, and how many it has room for
pub record BlockView (T : Type 0) : Type 0 where
  pub items : List T
  pub capacity : ℕ
