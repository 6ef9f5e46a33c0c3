-- What the disk of slots has of blocks, where some of its slots stay as they are.
use Rattle.std.proofs.Common.{◌≡◌, ◌⊎◌, inl, inr, ℕ, ◌+◌, ◌-◌, ◌*◌, eqb, min, Bool, true, List, [], ◌∷◌, ◌++◌, take, drop, Option, None, Some, is_some, IsSome, IfSome, refl, sym, ap, ◌∙◌, subst, arith, eq-eqb}
use Rattle.std.proofs.lemmas.Bool.{false≢true, or_left, or_right}
use Rattle.std.proofs.lemmas.List.{take-take}
use Rattle.sha2.specs.Sha256.{sha256}
use Rattle.oz_block.specs.Blocks.{StandsFor}
use Rattle.oz_chunk.specs.Slots.{slot_bytes, IsWithin}
use Rattle.oz_entries.specs.Held.{any_in, IsSound, belongs_to, row_has}
use Rattle.oz_entries.specs.Node.{Node, empty_node, has_slot, is_used}
use Rattle.oz_entries.specs.laws.Journals.{sound_made, empty_sound}
use Rattle.oz_entries.specs.declared.row.BlockRow.{BlockRow}
use Rattle.oz_entries.specs.declared.row.Chunk.{Chunk}
use Rattle.oz_fields.specs.declared.block.Block.{Block}
use Rattle.oz_block.specs.shelf.Shelf.{HaveSame, AreSettled, KeepsTold}
use Rattle.oz_world.specs.Disk.{Seen, TellsAsBefore}
use Rattle.oz_datanode.specs.Pairs.{Content, Has, HaveAll, HaveDigests, PairHolds, part_of, parts_of}
use Rattle.oz_datanode.specs.Steps.{is_in_use}
use Rattle.oz_datanode.proofs.Ranges.{in_use, stands_below}

-- these slots have on both what they have on the first
abbrev AreAlike : List Chunk → List ℕ → List ℕ → Type 0
AreAlike chunks one other = (slot : ℕ) → any_in chunks slot ≡ true → slot_bytes slot other ≡ slot_bytes slot one

here : (chunk : Chunk) (chunks : List Chunk) → any_in (chunk ∷ chunks) chunk.slot ≡ true
here chunk chunks = or_left (eqb chunk.slot chunk.slot) (any_in chunks chunk.slot) (eq-eqb chunk.slot chunk.slot refl)

behind : (chunk : Chunk) (chunks : List Chunk) (slot : ℕ) → any_in chunks slot ≡ true → any_in (chunk ∷ chunks) slot ≡ true
behind chunk chunks slot has = or_right (eqb chunk.slot slot) (any_in chunks slot) has

-- a chunk is the beginning of its slot
pub part_begins : (size : ℕ) (chunk : Chunk) (disk : List ℕ) → part_of size chunk disk ≡ take (min size 16384) (slot_bytes chunk.slot disk)
part_begins size chunk disk =
    let from = chunk.slot * 16384 in
    let short : from + min size 16384 - from ≡ min size 16384 = omega arith in
    let whole : from + 16384 - from ≡ 16384 = omega arith in
    ap (λ (n : ℕ). take n (drop from disk)) short
    ∙ (sym (take-take (min size 16384) 16384 (drop from disk) (omega arith)) ∙ ap (λ (n : ℕ). take (min size 16384) (take n (drop from disk))) (sym whole))

part_alike : (size : ℕ) (chunk : Chunk) (one other : List ℕ) → slot_bytes chunk.slot other ≡ slot_bytes chunk.slot one → part_of size chunk other ≡ part_of size chunk one
part_alike size chunk one other same = part_begins size chunk other ∙ (ap (take (min size 16384)) same ∙ sym (part_begins size chunk one))

parts_alike : (size : ℕ) (chunks : List Chunk) (one other : List ℕ) → AreAlike chunks one other → parts_of size chunks other ≡ parts_of size chunks one
unfolding parts_of
parts_alike size [] one other alike = refl
parts_alike size (chunk ∷ chunks) one other alike =
    ap (λ (l : List ℕ). l ++ parts_of (size - 16384) chunks other) (part_alike size chunk one other (alike chunk.slot (here chunk chunks)))
    ∙ ap (λ (l : List ℕ). part_of size chunk one ++ l) (parts_alike (size - 16384) chunks one other (λ slot has. alike slot (behind chunk chunks slot has)))

digests_alike : (size : ℕ) (chunks : List Chunk) (one other : List ℕ) → AreAlike chunks one other → HaveDigests size chunks one → HaveDigests size chunks other
unfolding HaveDigests
digests_alike size [] one other alike have = tt
digests_alike size (chunk ∷ chunks) one other alike have =
    (have.0 ∙ ap sha256 (sym (part_alike size chunk one other (alike chunk.slot (here chunk chunks)))), digests_alike (size - 16384) chunks one other (λ slot has. alike slot (behind chunk chunks slot has)) have.1)

-- a block is there too where its slots are the same
pub has_alike : (content : Content) (row : BlockRow) (one other : List ℕ) → Has content row one → ((slot : ℕ) → has_slot row slot ≡ true → IsWithin slot other × (slot_bytes slot other ≡ slot_bytes slot one)) → Has content row other
has_alike content row one other has same = record {
  within = λ slot is. (same slot is).0;
  bytes = parts_alike row.length row.chunks one other (λ slot is. (same slot is).1) ∙ has.bytes;
  digests = λ are. digests_alike row.length row.chunks one other (λ slot is. (same slot is).1) (has.digests are);
}

-- ---- the slots that rows have

abbrev pub UsesOnly : (ℕ → Bool) → Node → Type 0
UsesOnly kept node = (block : Block) (row : BlockRow) → node.rows block ≡ Some row → (slot : ℕ) → has_slot row slot ≡ true → kept slot ≡ true

-- the blocks of a journal have slots that are in use
pub stands_uses : (bytes : List ℕ) (node : Node) → StandsFor bytes node → UsesOnly (is_in_use node) node
stands_uses bytes node stands block row is slot has =
    let sound : IsSound node = sound_made stands.0 empty_node node empty_sound stands.2 in
    let used : is_used node slot ≡ true = user (node.users slot) (sound slot block ∙ (ap (λ (o : Option BlockRow). row_has o slot) is ∙ has)) in
    in_use node slot used (stands_below bytes node stands slot used)
  where
    user : (o : Option Block) → belongs_to o block ≡ true → is_some o ≡ true
    user None never = absurd (false≢true never)
    user (Some other) is = refl

-- ---- what a stop leaves

-- what a stop leaves of the journal stands for one of these alone
abbrev pub LeavesNodes : Node → Node → Seen → Type 0
LeavesNodes first second journal = (left : List ℕ) (kept : Node) → journal.image journal.clock left → StandsFor left kept → (kept ≡ first) ⊎ (kept ≡ second)

-- both disks tell, and what is read has all blocks of a node, which have these slots
pub record Reads (contents : Block → Content) (kept : ℕ → Bool) (node : Node) (slots : Option (List ℕ)) : Type 0 where
  pub uses : UsesOnly kept node
  pub has : IfSome slots (HaveAll contents node)

pub pair_holds : (contents : Block → Content) (node first second : Node) (kept : ℕ → Bool) (journal slots : Seen) → (IsSome journal.told → LeavesNodes first second journal) → AreSettled kept slots → (IsSome journal.told → Reads contents kept first slots.told) → (IsSome journal.told → Reads contents kept second slots.told)
    → (IsSome journal.told → IfSome slots.told (HaveAll contents node)) → PairHolds contents node journal slots
pair_holds contents node first second kept journal slots leaves settled one other read = record {
  read = read;
  left = λ told telling bytes disk here there found stands. elim (leaves told bytes found here stands) [
    | inl same ↦ subst (λ (n : Node). HaveAll contents n disk) (sym same) (all (one told) telling disk there)
    | inr same ↦ subst (λ (n : Node). HaveAll contents n disk) (sym same) (all (other told) telling disk there)
  ];
} where
  all : {n : Node} → Reads contents kept n slots.told → IsSome slots.told → (disk : List ℕ) → slots.image slots.clock disk → HaveAll contents n disk
  all {n} reads telling disk there = by slots.told settled reads.has telling
    where
      by : (o : Option (List ℕ)) → IfSome o (λ bytes. (left : List ℕ) → slots.image slots.clock left → HaveSame kept bytes left) → IfSome o (HaveAll contents n) → IsSome o → HaveAll contents n disk
      by None settled has none = absurd (false≢true none)
      by (Some bytes) settled has some = λ block row is. has_alike (contents block) row bytes disk (has block row is) (λ slot in_row. let same = settled disk there slot (reads.uses block row is slot in_row) in (same.1, same.2))

-- ---- what is read

-- a write that keeps the slots of blocks keeps what is read of them
pub read_kept : (contents : Block → Content) (node : Node) (kept : ℕ → Bool) (before after : Option (List ℕ)) → UsesOnly kept node → KeepsTold kept before after → TellsAsBefore before after → IfSome before (HaveAll contents node) → IfSome after (HaveAll contents node)
read_kept contents node kept before None uses keeps telling has = tt
read_kept contents node kept None (Some bytes) uses keeps telling has = absurd (never (telling.0 refl))
  where
    never : Some bytes ≡ None → ⊥
    never e = cc
read_kept contents node kept (Some old) (Some bytes) uses keeps telling has = λ block row is. let was = has block row is in has_alike (contents block) row old bytes was (λ slot in_row. keeps slot (uses block row is slot in_row) (was.within slot in_row))
