-- Which deleted rows may go.
use Rattle.std.specs.Prelude.{◌≡◌, ◌⊎◌, ℕ, List, length, Some}
use Rattle.std.specs.List.{AllByRecursion, Contains}
use Rattle.oz_fields.specs.declared.block.Block.{Block}
use Rattle.oz_model.specs.Reach.{IsReached}
use Rattle.oz_namespace.specs.declared.namespace.Namespace.{Namespace}
use Rattle.oz_rows.specs.declared.key.RowKey.{RowKey}
use Rattle.oz_rows.specs.declared.row.Row.TheVariants as rows
use Rattle.oz_rows.specs.RowMaps.{Rows, IsBelow}

-- a deleted row none of whose blocks is in reach or pinned
pub record IsReclaimable (all : Rows) (namespace : Namespace) (pinned : List Block) (key : RowKey) : Type 0 where
  pub blocks : List Block
  pub row : all key ≡ Some (rows.Deleted blocks)
  pub unreached : (block : Block) → Contains blocks block → IsReached namespace block → ⊥
  pub unpinned : (block : Block) → Contains blocks block → Contains pinned block → ⊥

-- the key is one of these, or there are so many and each of them is below it
abbrev pub IsAmongFirst : ℕ → List RowKey → RowKey → Type 0
IsAmongFirst most found key =
    Contains found key ⊎ ((length found ≡ most) × AllByRecursion (λ other. IsBelow other key) found)
