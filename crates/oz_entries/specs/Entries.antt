-- The entries of a datanode's journal in bytes. A body is one entry.
use Rattle.std.specs.Prelude.{ℕ, List, ◌++◌, length}
use Rattle.std.specs.List.{flat_map}
use Rattle.oz_container.specs.declared.state.State.{State}
use Rattle.oz_container.specs.declared.state.State.TheVariants as states
use Rattle.oz_fields.specs.Number.{u8_bytes, u16_bytes, u32_bytes, u64_bytes}
use Rattle.oz_rows.specs.Rows.{block_bytes}
use Rattle.oz_entries.specs.declared.row.Chunk.{Chunk}
use Rattle.oz_entries.specs.declared.row.BlockRow.{BlockRow}
use Rattle.oz_entries.specs.declared.entry.Entry.{Entry}
use Rattle.oz_entries.specs.declared.entry.Entry.TheVariants.{Put, SetState, Apply, Drop}

abbrev pub state_number : State → ℕ
state_number states.Open = 1
state_number states.Closing = 2
state_number states.QuasiClosed = 3
state_number states.Closed = 4
state_number states.Deleting = 5
state_number states.Deleted = 6

abbrev pub chunk_bytes : Chunk → List ℕ
chunk_bytes chunk = u32_bytes chunk.slot ++ chunk.digest

abbrev pub chunks_bytes : List Chunk → List ℕ
chunks_bytes chunks = flat_map chunk_bytes chunks

abbrev pub row_bytes : BlockRow → List ℕ
row_bytes row = u32_bytes row.length ++ u8_bytes (length row.chunks) ++ chunks_bytes row.chunks

abbrev pub locals_bytes : List ℕ → List ℕ
locals_bytes locals = u16_bytes (length locals) ++ flat_map u64_bytes locals

abbrev pub entry_bytes : Entry → List ℕ
entry_bytes (Put block row) = u8_bytes 1 ++ block_bytes block ++ row_bytes row
entry_bytes (SetState container state) = u8_bytes 2 ++ u64_bytes container ++ u8_bytes (state_number state)
entry_bytes (Apply txn) = u8_bytes 3 ++ u64_bytes txn.container ++ u64_bytes txn.number ++ locals_bytes txn.locals
entry_bytes (Drop container) = u8_bytes 4 ++ u64_bytes container
