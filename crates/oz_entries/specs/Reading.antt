-- Reading an entry from left to right, over what was held before it. What isn't read says how many bytes are left from
-- the first bad field on.
use Rattle.std.specs.Prelude.{ℕ, zero, suc, Bool, true, ◌&&◌, ◌||◌, not, ◌==◌, nat_lt, nat_le, List, [], ◌∷◌}
use Rattle.std.specs.Prelude.{◌++◌, length, take, drop, Option, None, Some, Result, Ok, Err, if◌then◌else◌}
use Rattle.oz_chunk.specs.declared.table.TheConstants.{SLOTS}
use Rattle.oz_container.specs.declared.state.State.{State}
use Rattle.oz_container.specs.declared.state.State.TheVariants as states
use Rattle.oz_dellog.specs.declared.txn.TheConstants.{MOST_LOCALS}
use Rattle.oz_dellog.specs.declared.txn.Txn.{Txn}
use Rattle.oz_fields.specs.declared.block.Block.{Block}
use Rattle.oz_fields.specs.Number.{u8_at, u16_at, u32_at, u64_at}
use Rattle.oz_rows.specs.Reading.{◌>>=◌, done, field, is_block_number, owner_at, number_at, length_at}
use Rattle.oz_entries.specs.declared.row.Chunk.{Chunk}
use Rattle.oz_entries.specs.declared.row.BlockRow.{BlockRow}
use Rattle.oz_entries.specs.declared.entry.Entry.{Entry}
use Rattle.oz_entries.specs.declared.entry.Entry.TheVariants.{Put, SetState, Apply, Drop}
use Rattle.oz_entries.specs.Node.{Node, is_deleted, is_held, is_used, uses_a_slot, names_held, chunk_count, or_slots}

-- 32 bytes
unfoldable pub digest_at : List ℕ → Option (List ℕ × List ℕ)
digest_at bytes = if nat_lt (length bytes) 32 then None else Some (take 32 bytes, drop 32 bytes)

-- a slot that isn't in use
abbrev pub slot_at : (ℕ → Bool) → List ℕ → Result (ℕ × List ℕ) ℕ
slot_at used bytes = field u32_at (λ slot. nat_lt slot SLOTS && not (used slot)) bytes

unfoldable pub chunk_at : (ℕ → Bool) → List ℕ → Result (Chunk × List ℕ) ℕ
chunk_at used = do
  slot ← slot_at used
  digest ← field digest_at (λ digest. true)
  done (record { slot = slot; digest = digest })

-- so many items behind those that were read before; how the next one is read may rest on them
unfoldable pub each_at : {A : Type 0} → (List A → List ℕ → Result (A × List ℕ) ℕ) → List A → ℕ → List ℕ
    → Result (List A × List ℕ) ℕ
each_at item front zero = done front
each_at item front (suc count) = do
  next ← item front
  each_at item (front ++ next ∷ []) count

-- the next chunk, in a slot that none of those before it has
abbrev pub next_chunk_at : (ℕ → Bool) → List Chunk → List ℕ → Result (Chunk × List ℕ) ℕ
next_chunk_at used before = chunk_at (or_slots used before)

unfoldable pub count_at : ℕ → List ℕ → Result (ℕ × List ℕ) ℕ
count_at size bytes = field u8_at (λ count. count == chunk_count size) bytes

unfoldable pub row_at : (ℕ → Bool) → List ℕ → Result (BlockRow × List ℕ) ℕ
row_at used = do
  size ← length_at
  count ← count_at size
  chunks ← each_at (next_chunk_at used) [] count
  done (record { length = size; chunks = chunks })

-- a block that isn't held, in a replica that isn't deleted
unfoldable pub container_at : Node → List ℕ → Result (ℕ × List ℕ) ℕ
container_at node bytes = field u64_at (λ n. is_block_number n && not (is_deleted (node.states n))) bytes

unfoldable pub local_at : Node → ℕ → List ℕ → Result (ℕ × List ℕ) ℕ
local_at node container bytes =
    field u64_at (λ n. is_block_number n && not (is_held node (record { container = container; local = n }))) bytes

unfoldable pub new_block_at : Node → List ℕ → Result (Block × List ℕ) ℕ
new_block_at node = do
  container ← container_at node
  local ← local_at node container
  done (record { container = container; local = local })

unfoldable pub put_at : Node → List ℕ → Result (Entry × List ℕ) ℕ
put_at node = do
  block ← new_block_at node
  row ← row_at (is_used node)
  done (Put block row)

abbrev pub state_of : ℕ → State
state_of n =
    if n == 1 then states.Open
    else (if n == 2 then states.Closing
    else (if n == 3 then states.QuasiClosed
    else (if n == 4 then states.Closed
    else (if n == 5 then states.Deleting else states.Deleted))))

unfoldable pub state_at : List ℕ → Result (State × List ℕ) ℕ
state_at = do
  number ← field u8_at (λ n. nat_le 1 n && nat_le n 6)
  done (state_of number)

unfoldable pub set_state_at : List ℕ → Result (Entry × List ℕ) ℕ
set_state_at = do
  container ← owner_at
  state ← state_at
  done (SetState container state)

-- from 1 to as many as a transaction may have
unfoldable pub locals_at : List ℕ → Result (List ℕ × List ℕ) ℕ
locals_at = do
  count ← field u16_at (λ n. nat_le 1 n && nat_le n MOST_LOCALS)
  each_at (λ before. owner_at) [] count

unfoldable pub numbered_at : ℕ → List ℕ → Result (Txn × List ℕ) ℕ
numbered_at container = do
  number ← number_at
  locals ← locals_at
  done (record { number = number; container = container; locals = locals })

-- what was read keeps a rule, else its first field is bad
abbrev pub checked : {A : Type 0} → (A → Bool) → ℕ → Result (A × List ℕ) ℕ → Result (A × List ℕ) ℕ
checked rule left (Ok found) = if rule found.0 then Ok found else Err left
checked rule left (Err other) = Err other

-- the number is above the greatest of the container, or one of the blocks is held
abbrev pub is_due : Node → Txn → Bool
is_due node txn = nat_lt (node.greatest txn.container) txn.number || names_held node txn

unfoldable pub due_at : Node → ℕ → List ℕ → Result (Txn × List ℕ) ℕ
due_at node container bytes = checked (is_due node) (length bytes) (numbered_at container bytes)

unfoldable pub apply_at : Node → List ℕ → Result (Entry × List ℕ) ℕ
apply_at node = do
  container ← owner_at
  txn ← due_at node container
  done (Apply txn)

-- a container no block of which uses a slot
unfoldable pub emptied_at : Node → List ℕ → Result (ℕ × List ℕ) ℕ
emptied_at node bytes = field u64_at (λ n. not (uses_a_slot node n)) bytes

unfoldable pub dropped_at : Node → List ℕ → Result (Entry × List ℕ) ℕ
dropped_at node = do
  container ← emptied_at node
  done (Drop container)

-- the fields of an entry, nothing where there is no such entry
abbrev pub entry_of_tag_at : Node → ℕ → ℕ → List ℕ → Result (Entry × List ℕ) ℕ
entry_of_tag_at node left tag =
    if tag == 1 then put_at node
    else (if tag == 2 then set_state_at
    else (if tag == 3 then apply_at node
    else (if tag == 4 then dropped_at node else (λ bytes. Err left))))

unfoldable pub entry_at : Node → List ℕ → Result (Entry × List ℕ) ℕ
entry_at node [] = Err 0
entry_at node (tag ∷ bytes) = entry_of_tag_at node (suc (length bytes)) tag bytes
