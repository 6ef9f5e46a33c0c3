-- How blocks that are to be deleted are put into transactions.
use Rattle.std.specs.Prelude.{◌≡◌, ◌⊎◌, ◌==◌, ℕ, ◌+◌, ◌<◌, List, [], Option, None, Some, if◌then◌else◌, length, slice_get, All, filter_map, ◌++◌}
use Rattle.std.specs.List.{flat_map}
use Rattle.oz_dellog.specs.declared.txn.Txn.{Txn}
use Rattle.oz_dellog.specs.declared.txn.TheConstants.{MOST_LOCALS}
use Rattle.oz_fields.specs.declared.block.Block.{Block}
use Rattle.oz_scm.specs.grants.Log.{IsLocalCount}

-- the local id of a block in a container
abbrev pub local_in : ℕ → Block → Option ℕ
local_in container block = if container == block.container then Some block.local else None

-- those of all blocks in it, in their order
abbrev pub locals_in : ℕ → List Block → List ℕ
locals_in container blocks = filter_map (local_in container) blocks

-- those that transactions name of a container
abbrev pub named_by : ℕ → Txn → List ℕ
named_by container txn = if container == txn.container then txn.locals else []

abbrev pub named_in : ℕ → List Txn → List ℕ
named_in container txns = flat_map (named_by container) txns

-- A transaction stands right before another: it is of a lower container, or of the same one and full.
abbrev pub StandsBefore : Txn → Txn → Type 0
StandsBefore one next =
    (one.container < next.container) ⊎ ((one.container ≡ next.container) × (length one.locals ≡ MOST_LOCALS))

-- Behind the last number they have the next ones. Their containers rise, a container has another one only where the one before
-- is full, and each has as many ids as it may have.
pub record AreInOrder (last : ℕ) (txns : List Txn) : Type 0 where
  pub numbered : (k : ℕ) (txn : Txn) → slice_get txns k ≡ Some txn → txn.number ≡ last + 1 + k
  pub rise : (k : ℕ) (one next : Txn) → slice_get txns k ≡ Some one → slice_get txns (k + 1) ≡ Some next
      → StandsBefore one next
  pub counted : All (λ txn. IsLocalCount txn.locals) txns

-- They name the blocks, and no others.
pub record AreTransactionsOf (last : ℕ) (blocks : List Block) (txns : List Txn) : Type 0 where
  pub in_order : AreInOrder last txns
  pub whole : (container : ℕ) → named_in container txns ≡ locals_in container blocks

-- For private calls: a block is of a lower container, or not below the one that was found.
abbrev pub IsPassed : ℕ → Option ℕ → Block → Type 0
IsPassed least None block = block.container < least
IsPassed least (Some found) block = (block.container < least) ⊎ (found < block.container + 1)

-- For private calls: more of them are of one container, and name these ids of it.
pub record AddsOf (container : ℕ) (locals : List ℕ) (before after : List Txn) : Type 0 where
  pub more : List Txn
  pub is : after ≡ before ++ more
  pub of_it : All (λ txn. txn.container ≡ container) more
  pub named : flat_map (λ txn. txn.locals) more ≡ locals
