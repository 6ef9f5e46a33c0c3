-- How long entries are, and that a journal takes each.
use Rattle.std.proofs.Common.{◌≡◌, ℕ, suc, ◌+◌, ◌*◌, ◌≤◌, List, [], ◌∷◌, ◌++◌, length, Bool, refl, ◌∙◌, ap, arith, length-append}
use Rattle.std.specs.List.{flat_map}
use Rattle.oz_block.specs.Frames.{IsFrameOf}
use Rattle.oz_entries.specs.declared.entry.Entry.{Entry}
use Rattle.oz_entries.specs.declared.entry.Entry.TheVariants.{Put, SetState, Apply, Drop}
use Rattle.oz_entries.specs.declared.row.Chunk.{Chunk}
use Rattle.oz_entries.specs.Entries.{entry_bytes, chunk_bytes, chunks_bytes, locals_bytes, row_bytes, state_number}
use Rattle.oz_entries.specs.Node.{Node, MayFollow, HaveFreeSlots, or_slot, is_used, chunk_count}
use Rattle.oz_fields.specs.Number.{u16_bytes, u32_bytes, u64_bytes}
use Rattle.oz_journal.specs.Journal.{body_of}

length-u16 : (n : ℕ) → length (u16_bytes n) ≡ 2
unfolding u16_bytes
length-u16 n = refl

length-u32 : (n : ℕ) → length (u32_bytes n) ≡ 4
unfolding u32_bytes
length-u32 n = refl

length-u64 : (n : ℕ) → length (u64_bytes n) ≡ 8
unfolding u64_bytes
length-u64 n = refl

length-locals : (locals : List ℕ) → length (flat_map u64_bytes locals) ≡ 8 * length locals
length-locals [] = refl
length-locals (local ∷ locals) = omega (arith, length-append (u64_bytes local) (flat_map u64_bytes locals), length-u64 local, length-locals locals)

length-chunks : (used : ℕ → Bool) (chunks : List Chunk) → HaveFreeSlots used chunks → length (chunks_bytes chunks) ≡ 36 * length chunks
length-chunks used [] free = refl
length-chunks used (chunk ∷ chunks) free =
    omega (arith, length-append (chunk_bytes chunk) (chunks_bytes chunks), length-append (u32_bytes chunk.slot) chunk.digest, length-u32 chunk.slot, free.2, length-chunks (or_slot used chunk.slot) chunks free.3)

few_chunks : (size : ℕ) → size ≤ 65536 → chunk_count size ≤ 4
few_chunks size most = omega arith

-- an entry that may follow is short
short : (node : Node) (entry : Entry) → MayFollow node entry → length (entry_bytes entry) ≤ 8211
unfolding u32_bytes u64_bytes u16_bytes
short node (Put block row) follows =
    let few = few_chunks row.length follows.3.most in
    let all : length (entry_bytes (Put block row)) ≡ suc (length ((u64_bytes block.container ++ u64_bytes block.local) ++ row_bytes row)) = refl in
    let parts : length ((u64_bytes block.container ++ u64_bytes block.local) ++ row_bytes row) ≡ length (u64_bytes block.container ++ u64_bytes block.local) + length (row_bytes row) = length-append (u64_bytes block.container ++ u64_bytes block.local) (row_bytes row) in
    let blocks : length (u64_bytes block.container ++ u64_bytes block.local) ≡ length (u64_bytes block.container) + length (u64_bytes block.local) = length-append (u64_bytes block.container) (u64_bytes block.local) in
    let rows : length (row_bytes row) ≡ length (u32_bytes row.length) + suc (length (chunks_bytes row.chunks)) = length-append (u32_bytes row.length) (length row.chunks ∷ chunks_bytes row.chunks) in
    omega (arith, few, follows.3.count, length-chunks (is_used node) row.chunks follows.3.chunks, all, parts, blocks, rows, length-u64 block.container, length-u64 block.local, length-u32 row.length)
short node (SetState container state) follows =
    let all : length (entry_bytes (SetState container state)) ≡ suc (length (u64_bytes container) + 1) = ap suc (length-append (u64_bytes container) (state_number state ∷ [])) in
    omega (arith, all, length-u64 container)
short node (Apply txn) follows =
    let all : length (entry_bytes (Apply txn)) ≡ suc (length (u64_bytes txn.container) + length (u64_bytes txn.number ++ locals_bytes txn.locals)) = ap suc (length-append (u64_bytes txn.container) (u64_bytes txn.number ++ locals_bytes txn.locals)) in
    let parts : length (u64_bytes txn.number ++ locals_bytes txn.locals) ≡ length (u64_bytes txn.number) + length (locals_bytes txn.locals) = length-append (u64_bytes txn.number) (locals_bytes txn.locals) in
    let locals : length (locals_bytes txn.locals) ≡ length (u16_bytes (length txn.locals)) + length (flat_map u64_bytes txn.locals) = length-append (u16_bytes (length txn.locals)) (flat_map u64_bytes txn.locals) in
    omega (arith, follows.4, length-locals txn.locals, all, parts, locals, length-u64 txn.container, length-u64 txn.number, length-u16 (length txn.locals))
short node (Drop container) follows =
    let all : length (entry_bytes (Drop container)) ≡ suc (length (u64_bytes container)) = refl in
    omega (arith, all, length-u64 container)

pub is_frame : (node : Node) (entry : Entry) (bytes body frame : List ℕ) → MayFollow node entry → bytes ≡ entry_bytes entry → body ≡ bytes → body_of frame ≡ body → length frame ≡ length body + 5 → IsFrameOf entry frame
is_frame node entry bytes body frame follows spelled is framed size =
    let all : body ≡ entry_bytes entry = is ∙ spelled in
    let within = short node entry follows in
    let long = ap length all in
    record { body = framed ∙ all; least = omega (arith, size); most = omega (arith, size, within, long) }
