-- What pairs of images hold once a call has changed one of the two disks.
use Rattle.std.proofs.Common.{◌≡◌, ◌⊎◌, inl, inr, ℕ, ◌<◌, ◌≤◌, eqb, ltb, Bool, true, false, cond, ◌||◌, ◌&&◌, List, [], ◌∷◌, Option, None, Some, is_some, IsSome, IfSome, refl, sym, ap, ◌∙◌, subst, arith}
use Rattle.std.proofs.lemmas.Bool.{false≢true, or_left, or_right, or_cases, lt-ltb}
use Rattle.oz_block.specs.Blocks.{StandsFor}
use Rattle.oz_entries.specs.Held.{any_in}
use Rattle.oz_entries.specs.Node.{Node, is_same_block, is_held, has_slot, with_row, HaveFreeSlots, or_slot, or_slots}
use Rattle.oz_entries.specs.laws.Blocks.{same_block}
use Rattle.oz_entries.specs.declared.row.BlockRow.{BlockRow}
use Rattle.oz_entries.specs.declared.row.Chunk.{Chunk}
use Rattle.oz_fields.specs.declared.block.Block.{Block}
use Rattle.oz_block.specs.shelf.Shelf.{HaveSame, AreSettled, KeepsTold}
use Rattle.oz_world.specs.Disk.{Seen, TellsAsBefore}
use Rattle.oz_world.specs.Moments.{LeavesOnly}
use Rattle.oz_datanode.specs.Pairs.{Content, Has, HaveAll, PairHolds, with_content}
use Rattle.oz_datanode.specs.Steps.{is_in_use, AtRest}
use Rattle.oz_datanode.proofs.Holding.{UsesOnly, Reads, LeavesNodes, stands_uses, pair_holds, read_kept}
use Rattle.oz_datanode.proofs.Ranges.{free_below}

abbrev pub OneNode : Type 0
OneNode = (bytes : List ℕ) (node other : Node) → StandsFor bytes node → StandsFor bytes other → node ≡ other

told_some : (told : Option (List ℕ)) → IsSome told → (bytes : List ℕ) × (told ≡ Some bytes)
told_some None never = absurd (false≢true never)
told_some (Some bytes) is = (bytes, refl)

pub rest_leaves : (node : Node) (journal : Seen) → OneNode → AtRest node journal → IsSome journal.told → LeavesNodes node node journal
rest_leaves node journal one rest is left kept here stands =
    let told = told_some journal.told is in
    let both = rest told.0 told.1 in
    inl (one left kept node stands (subst (λ (l : List ℕ). StandsFor l node) (sym (both.1 left here)) both.0))

pub rest_uses : (node : Node) (journal : Seen) → AtRest node journal → IsSome journal.told → UsesOnly (is_in_use node) node
rest_uses node journal rest is = let told = told_some journal.told is in stands_uses told.0 node (rest told.0 told.1).0

-- the journal is as it was
pub pair_at_rest : (contents : Block → Content) (node : Node) (journal slots : Seen) → OneNode → AtRest node journal → AreSettled (is_in_use node) slots → (IsSome journal.told → IfSome slots.told (HaveAll contents node)) → PairHolds contents node journal slots
pair_at_rest contents node journal slots one rest settled read =
    let reads : IsSome journal.told → Reads contents (is_in_use node) node slots.told = λ is. record { uses = rest_uses node journal rest is; has = read is } in
    pair_holds contents node node node (is_in_use node) journal slots (rest_leaves node journal one rest) settled reads reads read

-- the journal has one body more, or may have
pub pair_changed : (contents : Block → Content) (now node other : Node) (kept : ℕ → Bool) (before journal slots : Seen) → OneNode → (before.told ≡ None → journal.told ≡ None) → before.clock ≤ journal.clock → IfSome before.told (λ bytes. LeavesOnly (λ left. StandsFor left node ⊎ StandsFor left other) before.clock journal.clock journal.image) → AreSettled kept slots
    → (IsSome before.told → Reads contents kept node slots.told) → (IsSome before.told → Reads contents kept other slots.told) → (IsSome before.told → IfSome slots.told (HaveAll contents now)) → PairHolds contents now journal slots
pair_changed contents now node other kept before journal slots one telling later leaves settled first second read =
    pair_holds contents now node other kept journal slots (λ is. found before.told (told is) leaves) settled (λ is. first (told is)) (λ is. second (told is)) (λ is. read (told is))
  where
    told : IsSome journal.told → IsSome before.told
    told is = by before.told telling
      where
        by : (o : Option (List ℕ)) → (o ≡ None → journal.told ≡ None) → IsSome o
        by None none = absurd (false≢true (subst (λ (o : Option (List ℕ)). IsSome o) (none refl) is))
        by (Some bytes) none = refl

    found : (o : Option (List ℕ)) → IsSome o → IfSome o (λ bytes. LeavesOnly (λ left. StandsFor left node ⊎ StandsFor left other) before.clock journal.clock journal.image) → LeavesNodes node other journal
    found None never only left kept here stands = absurd (false≢true never)
    found (Some bytes) is only left kept here stands = elim (only journal.clock left later (omega arith) here) [
      | inl old ↦ inl (one left kept node stands old)
      | inr new ↦ inr (one left kept other stands new)
    ]

-- ---- a block more

-- a block that isn't held may have any content
pub others_have : (contents : Block → Content) (block : Block) (content : Content) (node : Node) (slots : Option (List ℕ)) → is_held node block ≡ false → IfSome slots (HaveAll contents node) → IfSome slots (HaveAll (with_content block content contents) node)
others_have contents block content node None absent has = tt
others_have contents block content node (Some disk) absent has = λ other row is. by other row is (is_same_block block other) refl
  where
    by : (other : Block) (row : BlockRow) → node.rows other ≡ Some row → (b : Bool) → b ≡ is_same_block block other → Has (with_content block content contents other) row disk
    by other row is false apart = subst (λ (b : Bool). Has (cond b content (contents other)) row disk) apart (has other row is)
    by other row is true same = absurd (false≢true (sym absent ∙ (ap (λ (b : Block). is_held node b) (same_block block other (sym same)) ∙ ap is_some is)))

pub with_row_has : (contents : Block → Content) (block : Block) (content : Content) (row : BlockRow) (node : Node) (slots : Option (List ℕ)) → IfSome slots (Has content row) → IfSome slots (HaveAll contents node) → IfSome slots (HaveAll (with_content block content contents) (with_row block row node))
with_row_has contents block content row node None this has = tt
with_row_has contents block content row node (Some disk) this has = λ other found is. by other found (is_same_block block other) is
  where
    by : (other : Block) (found : BlockRow) (b : Bool) → cond b (Some row) (node.rows other) ≡ Some found → Has (cond b content (contents other)) found disk
    by other found true is = subst (λ (r : BlockRow). Has content r disk) (inside is) this
      where
        inside : Some row ≡ Some found → row ≡ found
        inside e = cc
    by other found false is = has other found is

-- the slots in use then
pub used_more : (block : Block) (row : BlockRow) (node : Node) (used : ℕ → Bool) → HaveFreeSlots used row.chunks → (slot : ℕ) → is_in_use (with_row block row node) slot ≡ (is_in_use node slot || any_in row.chunks slot)
used_more block row node used free slot = by (any_in row.chunks slot) refl
  where
    no : (b : Bool) → b ≡ (b || false)
    no true = refl
    no false = refl

    yes : (b : Bool) → true ≡ (b || true)
    yes true = refl
    yes false = refl

    by : (has : Bool) → has ≡ any_in row.chunks slot → (is_some (cond has (Some block) (node.users slot)) && ltb slot 16384) ≡ (is_in_use node slot || has)
    by true is = lt-ltb slot 16384 (free_below used row.chunks free slot (sym is)) ∙ yes (is_in_use node slot)
    by false is = no (is_in_use node slot)

pub with_row_uses : (block : Block) (row : BlockRow) (node : Node) (kept : ℕ → Bool) → UsesOnly kept node → ((slot : ℕ) → has_slot row slot ≡ true → kept slot ≡ true) → UsesOnly kept (with_row block row node)
with_row_uses block row node kept uses own other found is slot has = by (is_same_block block other) is
  where
    by : (b : Bool) → cond b (Some row) (node.rows other) ≡ Some found → kept slot ≡ true
    by true is = own slot (subst (λ (r : BlockRow). has_slot r slot ≡ true) (sym (inside is)) has)
      where
        inside : Some row ≡ Some found → row ≡ found
        inside e = cc
    by false is = uses other found is slot has

pub uses_more : (kept more : ℕ → Bool) (node : Node) → ((slot : ℕ) → kept slot ≡ true → more slot ≡ true) → UsesOnly kept node → UsesOnly more node
uses_more kept more node wider uses block row is slot has = wider slot (uses block row is slot has)

pub settled_fewer : (kept fewer : ℕ → Bool) (disk : Seen) → ((slot : ℕ) → fewer slot ≡ true → kept slot ≡ true) → AreSettled kept disk → AreSettled fewer disk
settled_fewer kept fewer disk less settled = by disk.told settled
  where
    by : (o : Option (List ℕ)) → IfSome o (λ bytes. (left : List ℕ) → disk.image disk.clock left → HaveSame kept bytes left) → IfSome o (λ bytes. (left : List ℕ) → disk.image disk.clock left → HaveSame fewer bytes left)
    by None settled = tt
    by (Some bytes) settled = λ left here slot is. settled left here slot (less slot is)

-- slots that aren't in use aren't used
pub free_unused : (node : Node) (used real : ℕ → Bool) (chunks : List Chunk) → ((slot : ℕ) → slot < 16384 → used slot ≡ false → real slot ≡ false) → HaveFreeSlots used chunks → HaveFreeSlots real chunks
free_unused node used real [] less free = tt
free_unused node used real (chunk ∷ chunks) less free =
    (free.0, less chunk.slot free.0 free.1, free.2, free_unused node (or_slot used chunk.slot) (or_slot real chunk.slot) chunks (λ slot small none. both (used slot) (real slot) (eqb chunk.slot slot) (less slot small) none) free.3)
  where
    both : (u r s : Bool) → (u ≡ false → r ≡ false) → (u || s) ≡ false → (r || s) ≡ false
    both true r s less none = absurd (false≢true (sym none))
    both false r s less none = ap (λ (b : Bool). b || s) (less refl) ∙ none

-- ---- what the calls do

-- slots were written that no block uses
pub written_pairs : (contents : Block → Content) (node : Node) (taken : ℕ → Bool) (journal before after : Seen) → OneNode → AtRest node journal → AreSettled (is_in_use node) after → ((slot : ℕ) → is_in_use node slot ≡ true → taken slot ≡ true) → KeepsTold taken before.told after.told → TellsAsBefore before.told after.told → PairHolds contents node journal before
    → PairHolds contents node journal after
written_pairs contents node taken journal before after one rest settled wider keeps telling holds =
    pair_at_rest contents node journal after one rest settled (λ is. read_kept contents node taken before.told after.told (uses_more (is_in_use node) taken node wider (rest_uses node journal rest is)) keeps telling (holds.read is))

-- the slots were made stable, or not, and the journal is as it was
pub synced_pairs : (contents : Block → Content) (block : Block) (content : Content) (node : Node) (journal before after : Seen) → OneNode → AtRest node journal → AreSettled (is_in_use node) after → after.told ≡ before.told → is_held node block ≡ false → PairHolds contents node journal before → PairHolds (with_content block content contents) node journal after
synced_pairs contents block content node journal before after one rest settled told absent holds =
    pair_at_rest (with_content block content contents) node journal after one rest settled (λ is. subst (λ (o : Option (List ℕ)). IfSome o (HaveAll (with_content block content contents) node)) (sym told) (others_have contents block content node before.told absent (holds.read is)))

-- the slots were made stable, and the journal has one body more, or may have
pub put_pairs : (contents : Block → Content) (block : Block) (content : Content) (row : BlockRow) (node now : Node) (taken : ℕ → Bool) (before journal slots after : Seen) → OneNode → AtRest node before → (before.told ≡ None → journal.told ≡ None) → before.clock ≤ journal.clock
    → IfSome before.told (λ bytes. LeavesOnly (λ left. StandsFor left node ⊎ StandsFor left (with_row block row node)) before.clock journal.clock journal.image) → AreSettled taken after → after.told ≡ slots.told → ((slot : ℕ) → is_in_use node slot ≡ true → taken slot ≡ true) → ((slot : ℕ) → has_slot row slot ≡ true → taken slot ≡ true)
    → is_held node block ≡ false → IfSome slots.told (Has content row) → PairHolds contents node before slots → (now ≡ node) ⊎ (now ≡ with_row block row node) → PairHolds (with_content block content contents) now journal after
put_pairs contents block content row node now taken before journal slots after one rest telling later leaves settled told wider own absent this holds is =
    pair_changed all now node (with_row block row node) taken before journal after one telling later leaves settled (λ some. record { uses = uses some; has = was some }) (λ some. record { uses = with_row_uses block row node taken (uses some) own; has = new some }) (λ some. elim is [
      | inl same ↦ subst (λ (n : Node). IfSome after.told (HaveAll all n)) (sym same) (was some)
      | inr same ↦ subst (λ (n : Node). IfSome after.told (HaveAll all n)) (sym same) (new some)
    ])
  where
    all : Block → Content
    all = with_content block content contents

    uses : IsSome before.told → UsesOnly taken node
    uses some = uses_more (is_in_use node) taken node wider (rest_uses node before rest some)

    was : IsSome before.told → IfSome after.told (HaveAll all node)
    was some = subst (λ (o : Option (List ℕ)). IfSome o (HaveAll all node)) (sym told) (others_have contents block content node slots.told absent (holds.read some))

    new : IsSome before.told → IfSome after.told (HaveAll all (with_row block row node))
    new some = subst (λ (o : Option (List ℕ)). IfSome o (HaveAll all (with_row block row node))) (sym told) (with_row_has contents block content row node slots.told this (holds.read some))

-- ---- slots that are taken

pub used_taken : (used : ℕ → Bool) (chunks : List Chunk) (slot : ℕ) → used slot ≡ true → or_slots used chunks slot ≡ true
used_taken used [] slot is = is
used_taken used (chunk ∷ chunks) slot is = used_taken (or_slot used chunk.slot) chunks slot (or_left (used slot) (eqb chunk.slot slot) is)

pub any_taken : (used : ℕ → Bool) (chunks : List Chunk) (slot : ℕ) → any_in chunks slot ≡ true → or_slots used chunks slot ≡ true
any_taken used [] slot never = absurd (false≢true never)
any_taken used (chunk ∷ chunks) slot has = elim (or_cases (eqb chunk.slot slot) (any_in chunks slot) has) [
  | inl this ↦ used_taken (or_slot used chunk.slot) chunks slot (or_right (used slot) (eqb chunk.slot slot) this)
  | inr later ↦ any_taken (or_slot used chunk.slot) chunks slot later
]

-- a slot that is taken is that of a block or of a chunk
pub taken_whose : (used : ℕ → Bool) (chunks : List Chunk) (slot : ℕ) → or_slots used chunks slot ≡ true → (used slot || any_in chunks slot) ≡ true
taken_whose used [] slot is = or_left (used slot) false is
taken_whose used (chunk ∷ chunks) slot is = by (used slot) (eqb chunk.slot slot) (any_in chunks slot) (taken_whose (or_slot used chunk.slot) chunks slot is)
  where
    by : (u e a : Bool) → ((u || e) || a) ≡ true → (u || (e || a)) ≡ true
    by true e a is = refl
    by false e a is = is
