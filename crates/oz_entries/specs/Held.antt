-- What is held in memory, as the maps for which it stands.
use Rattle.std.specs.Prelude.{◌≡◌, ℕ, Bool, true, false, List, Option, None, Some, is_some, ◌==◌}
use Rattle.std.specs.List.{slice_index_or, list_any}
use Rattle.std.specs.Map.{lookup}
use Rattle.std.specs.Option.{option_map_or}
use Rattle.std.specs.Ordering.{nat_cmp, ordering_then, is_eq}
use Rattle.std.specs.declared.cmp.Ordering.{Ordering}
use Rattle.oz_container.specs.declared.state.State.{State}
use Rattle.oz_container.specs.declared.state.State.TheVariants as states
use Rattle.oz_fields.specs.declared.block.Block.{Block}
use Rattle.oz_entries.specs.declared.row.BlockRow.{BlockRow}
use Rattle.oz_entries.specs.declared.row.Chunk.{Chunk}
use Rattle.oz_entries.specs.declared.replica.Replica.{Replica}
use Rattle.oz_entries.specs.Node.{Node, is_same_block, has_slot}

-- the rows in the order of their blocks, nothing where there is only room for one, the replicas that were named in the
-- order of their containers, and for each slot the block that uses it
pub record HeldView : Type 0 where
  pub rows : List (Block × Option BlockRow)
  pub replicas : List (ℕ × Replica)
  pub users : List (Option Block)

-- blocks in the order of their containers, and then of their own numbers
abbrev pub block_order : Block → Block → Ordering
block_order a b = ordering_then (nat_cmp a.container b.container) (nat_cmp a.local b.local)

abbrev pub place_of : List (Block × Option BlockRow) → Block → Option (Option BlockRow)
place_of rows block = lookup (λ other. is_eq (block_order block other)) rows

abbrev pub row_of : List (Block × Option BlockRow) → Block → Option BlockRow
row_of rows block = option_map_or (λ (row : Option BlockRow). row) (place_of rows block) None

abbrev pub replica_of : List (ℕ × Replica) → ℕ → Option Replica
replica_of replicas container = lookup (λ other. is_eq (nat_cmp container other)) replicas

abbrev pub user_of : List (Option Block) → ℕ → Option Block
user_of users slot = slice_index_or users slot None

-- what these replicas stand for: one that wasn't named is open, and no transaction was applied to it
abbrev pub state_in : List (ℕ × Replica) → ℕ → State
state_in replicas container =
    option_map_or (λ (replica : Replica). replica.state) (replica_of replicas container) states.Open

abbrev pub greatest_in : List (ℕ × Replica) → ℕ → ℕ
greatest_in replicas container =
    option_map_or (λ (replica : Replica). replica.greatest) (replica_of replicas container) 0

abbrev pub node_of : HeldView → Node
node_of held = record {
  rows = λ block. row_of held.rows block;
  states = λ container. state_in held.replicas container;
  greatest = λ container. greatest_in held.replicas container;
  users = λ slot. user_of held.users slot;
}

-- the replica was named
abbrev pub IsNamed : HeldView → ℕ → Type 0
IsNamed held container = is_some (replica_of held.replicas container) ≡ true

-- there is room for the block's row
abbrev pub HasRoom : HeldView → Block → Type 0
HasRoom held block = is_some (place_of held.rows block) ≡ true

-- two nodes hold the same
pub record AreSame (node other : Node) : Type 0 where
  pub rows : (block : Block) → other.rows block ≡ node.rows block
  pub states : (container : ℕ) → other.states container ≡ node.states container
  pub greatest : (container : ℕ) → other.greatest container ≡ node.greatest container
  pub users : (slot : ℕ) → other.users slot ≡ node.users slot

abbrev pub belongs_to : Option Block → Block → Bool
belongs_to None block = false
belongs_to (Some user) block = is_same_block block user

abbrev pub row_has : Option BlockRow → ℕ → Bool
row_has None slot = false
row_has (Some row) slot = has_slot row slot

-- the slot is that of a block that goes
abbrev pub is_freed : (Block → Bool) → Option Block → Bool
is_freed is_gone None = false
is_freed is_gone (Some block) = is_gone block

-- a block uses the slots of its row, and no other slots are used
abbrev pub IsSound : Node → Type 0
IsSound node = (slot : ℕ) (block : Block) → belongs_to (node.users slot) block ≡ row_has (node.rows block) slot

-- one of the chunks is in the slot
abbrev pub any_in : List Chunk → ℕ → Bool
any_in chunks slot = list_any (λ (chunk : Chunk). chunk.slot == slot) chunks
