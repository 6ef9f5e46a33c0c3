-- What a datanode holds, what an entry makes of it, and which entries may follow.
use Rattle.std.specs.Prelude.{◌≡◌, ℕ, zero, suc, ◌+◌, ◌-◌, ◌/◌, ◌^◌, ◌<◌, ◌≤◌, ◌==◌, nat_lt, max, Bool, true, false, ◌&&◌, ◌||◌}
use Rattle.std.specs.Prelude.{List, [], ◌∷◌, length, Option, None, Some, is_some, if◌then◌else◌}
use Rattle.std.specs.List.{list_any, AllByRecursion}
use Rattle.std.specs.Option.{option_map_or}
use Rattle.oz_chunk.specs.declared.table.TheConstants.{SLOTS, SLOT_SIZE}
use Rattle.oz_container.specs.declared.state.State.{State}
use Rattle.oz_container.specs.declared.state.State.TheVariants as states
use Rattle.oz_dellog.specs.declared.txn.TheConstants.{MOST_LOCALS}
use Rattle.oz_dellog.specs.declared.txn.Txn.{Txn}
use Rattle.oz_fields.specs.declared.block.Block.{Block}
use Rattle.oz_fields.specs.declared.block.TheConstants.{LONGEST_PIECE}
use Rattle.oz_rows.specs.Rows.{IsBlock}
use Rattle.oz_entries.specs.declared.row.Chunk.{Chunk}
use Rattle.oz_entries.specs.declared.row.BlockRow.{BlockRow}
use Rattle.oz_entries.specs.declared.entry.Entry.{Entry}
use Rattle.oz_entries.specs.declared.entry.Entry.TheVariants.{Put, SetState, Apply, Drop}

-- the row of each block that is held, the state and the greatest transaction of each container's replica, and of each
-- slot that is in use the block to which it belongs
pub record Node : Type 0 where
  pub rows : Block → Option BlockRow
  pub states : ℕ → State
  pub greatest : ℕ → ℕ
  pub users : ℕ → Option Block

-- nothing is held, each replica is open, and no transaction was applied
abbrev pub empty_node : Node
empty_node = record {
  rows = λ block. None;
  states = λ container. states.Open;
  greatest = λ container. 0;
  users = λ slot. None;
}

abbrev pub is_same_block : Block → Block → Bool
is_same_block a b = (a.container == b.container) && (a.local == b.local)

abbrev pub is_deleted : State → Bool
is_deleted states.Deleted = true
is_deleted states.Open = false
is_deleted states.Closing = false
is_deleted states.QuasiClosed = false
is_deleted states.Closed = false
is_deleted states.Deleting = false

abbrev pub is_held : Node → Block → Bool
is_held node block = is_some (node.rows block)

abbrev pub is_used : Node → ℕ → Bool
is_used node slot = is_some (node.users slot)

-- a row has a chunk in the slot
abbrev pub has_slot : BlockRow → ℕ → Bool
has_slot row slot = list_any (λ (chunk : Chunk). chunk.slot == slot) row.chunks

-- these are local ids of a container, and the block's is one of them
abbrev pub names_some : ℕ → List ℕ → Block → Bool
names_some container locals block = (container == block.container) && list_any (λ local. local == block.local) locals

-- the transaction names the block
abbrev pub names : Txn → Block → Bool
names txn = names_some txn.container txn.locals

-- the transaction names a block that is held
abbrev pub names_held : Node → Txn → Bool
names_held node txn = list_any (λ local. is_held node (record { container = txn.container; local = local })) txn.locals

abbrev pub is_in : ℕ → Block → Bool
is_in container block = container == block.container

-- a block of the container uses one of the slots below this one
unfoldable pub uses_below : (ℕ → Option Block) → ℕ → ℕ → Bool
uses_below users container zero = false
uses_below users container (suc slot) =
    option_map_or (is_in container) (users slot) false || uses_below users container slot

-- a block of the container uses a slot
abbrev pub uses_a_slot : Node → ℕ → Bool
uses_a_slot node container = uses_below node.users container SLOTS

-- what is left of what stands for a block, where some blocks go
abbrev pub unless_gone : (Block → Bool) → Option Block → Option Block
unless_gone is_gone None = None
unless_gone is_gone (Some block) = if is_gone block then None else Some block

-- some blocks are gone
abbrev pub without : (Block → Bool) → Node → Node
without is_gone node = record {
  rows = λ block. if is_gone block then None else node.rows block;
  states = node.states;
  greatest = node.greatest;
  users = λ slot. unless_gone is_gone (node.users slot);
}

abbrev pub with_row : Block → BlockRow → Node → Node
with_row block row node = record {
  rows = λ other. if is_same_block block other then Some row else node.rows other;
  states = node.states;
  greatest = node.greatest;
  users = λ slot. if has_slot row slot then Some block else node.users slot;
}

abbrev pub with_state : ℕ → State → Node → Node
with_state container state node = record {
  rows = node.rows;
  states = λ other. if container == other then state else node.states other;
  greatest = node.greatest;
  users = node.users;
}

-- a transaction was applied: the greatest of its container is the greatest so far
abbrev pub with_number : ℕ → ℕ → Node → Node
with_number container number node = record {
  rows = node.rows;
  states = node.states;
  greatest = λ other. if container == other then max (node.greatest other) number else node.greatest other;
  users = node.users;
}

abbrev pub after_entry : Entry → Node → Node
after_entry (Put block row) node = with_row block row node
after_entry (SetState container state) node = with_state container state node
after_entry (Apply txn) node = with_number txn.container txn.number (without (names txn) node)
after_entry (Drop container) node = with_state container states.Deleted (without (is_in container) node)

-- how many chunks so many bytes have
abbrev pub chunk_count : ℕ → ℕ
chunk_count size = (size + (SLOT_SIZE - 1)) / SLOT_SIZE

-- one slot more is in use
abbrev pub or_slot : (ℕ → Bool) → ℕ → ℕ → Bool
or_slot used slot other = used other || (slot == other)

-- so are those of chunks
abbrev pub or_slots : (ℕ → Bool) → List Chunk → ℕ → Bool
or_slots used [] = used
or_slots used (chunk ∷ chunks) = or_slots (or_slot used chunk.slot) chunks

-- each chunk has a slot of its own, of those that there are, which isn't in use
abbrev pub HaveFreeSlots : (ℕ → Bool) → List Chunk → Type 0
HaveFreeSlots used [] = Unit {0}
HaveFreeSlots used (chunk ∷ chunks) =
    (chunk.slot < SLOTS) × (used chunk.slot ≡ false) × (length chunk.digest ≡ 32)
    × HaveFreeSlots (or_slot used chunk.slot) chunks

-- the length is that of a block, the chunks are as many as that takes, and their slots are free
pub record RowFits (used : ℕ → Bool) (row : BlockRow) : Type 0 where
  pub least : 1 ≤ row.length
  pub most : row.length ≤ LONGEST_PIECE
  pub count : length row.chunks ≡ chunk_count row.length
  pub chunks : HaveFreeSlots used row.chunks

-- A put: the block isn't held, the replica isn't deleted, and no other block uses a slot of the row. A transaction: it
-- has a number and as many blocks as one may have, and its number is above the greatest of its container, or it names a
-- block that is held. The states of replicas may follow each other in any way. A drop: no block of the replica uses a
-- slot, so none is held.
abbrev pub MayFollow : Node → Entry → Type 0
MayFollow node (Put block row) =
    IsBlock block × (is_deleted (node.states block.container) ≡ false) × (is_held node block ≡ false)
    × RowFits (is_used node) row
MayFollow node (SetState container state) = container < 2 ^ 64
MayFollow node (Apply txn) =
    (txn.container < 2 ^ 64) × (1 ≤ txn.number) × (txn.number < 2 ^ 64)
    × (1 ≤ length txn.locals) × (length txn.locals ≤ MOST_LOCALS) × AllByRecursion (λ local. local < 2 ^ 64) txn.locals
    × ((nat_lt (node.greatest txn.container) txn.number || names_held node txn) ≡ true)
MayFollow node (Drop container) = (container < 2 ^ 64) × (uses_a_slot node container ≡ false)
