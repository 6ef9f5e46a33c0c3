-- The local ids of blocks that the manager and the datanodes have.
use Rattle.std.specs.Prelude.{◌≡◌, ◌⊎◌, ℕ, ◌<◌, ◌≤◌, true, List, Any}
use Rattle.oz_entries.specs.Node.{Node, is_held}
use Rattle.oz_fields.specs.declared.block.Block.{Block}

-- the datanode holds a block of this local id
abbrev pub HoldsId : ℕ → Node → Type 0
HoldsId id node = (block : Block) × (is_held node block ≡ true) × (block.local ≡ id)

-- it is the manager's greatest, or a datanode holds a block of it
abbrev pub IsSeen : ℕ → List Node → ℕ → Type 0
IsSeen greatest nodes id = (id ≡ greatest) ⊎ Any (HoldsId id) nodes

-- all of them are below this one
abbrev pub AreBelow : ℕ → List Node → ℕ → Type 0
AreBelow greatest nodes next = (id : ℕ) → IsSeen greatest nodes id → id < next

pub record IsGreatestSeen (greatest : ℕ) (nodes : List Node) (id : ℕ) : Type 0 where
  pub is_seen : IsSeen greatest nodes id
  pub none_above : (other : ℕ) → IsSeen greatest nodes other → other ≤ id
