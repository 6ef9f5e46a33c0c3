-- No slot is used by a block of a container exactly where none of its blocks is held.
use Rattle.std.proofs.Common.{
  ◌≡◌,
  inl,
  inr,
  ℕ,
  zero,
  suc,
  ◌≤◌,
  ◌<◌,
  ◌^◌,
  eqb,
  ◌||◌,
  Bool,
  true,
  false,
  cond,
  List,
  [],
  ◌∷◌,
  length,
  Option,
  None,
  Some,
  is_some,
  refl,
  sym,
  ap,
  subst,
  ◌∙◌,
  eqb-true,
  eq-eqb,
  arith,
}
use Rattle.std.proofs.lemmas.Bool.{false≢true, cases_lt, or_left, or_right, and_parts}
use Rattle.std.specs.Option.{option_map_or}
use Rattle.oz_fields.specs.declared.block.Block.{Block}
use Rattle.oz_entries.specs.declared.entry.Entry.{Entry}
use Rattle.oz_entries.specs.declared.entry.Entry.TheVariants.{Put, SetState, Apply, Drop}
use Rattle.oz_entries.specs.declared.row.BlockRow.{BlockRow}
use Rattle.oz_entries.specs.declared.row.Chunk.{Chunk}
use Rattle.oz_entries.specs.Build.{MakesFrom}
use Rattle.oz_entries.specs.Held.{IsSound, belongs_to, row_has}
use Rattle.oz_entries.specs.Node.{
  Node,
  empty_node,
  after_entry,
  chunk_count,
  has_slot,
  is_held,
  is_in,
  is_same_block,
  is_used,
  HaveFreeSlots,
  MayFollow,
  RowFits,
  uses_below,
  with_row,
  without,
  names,
}
use Rattle.oz_entries.specs.laws.Blocks.{itself}

-- the slot is used by a block of the container
abbrev pub is_theirs : ℕ → Option Block → Bool
is_theirs container user = option_map_or (is_in container) user false

-- ---- looking through the slots

pub uses_none : (users : ℕ → Option Block) (container count : ℕ) → ((slot : ℕ) → is_theirs container (users slot) ≡ false)
    → uses_below users container count ≡ false
unfolding uses_below
uses_none users container zero none = refl
uses_none users container (suc count) none = ap (λ (b : Bool). b || uses_below users container count) (none count) ∙ uses_none users container count none

pub uses_one : (users : ℕ → Option Block) (container slot count : ℕ) → slot < count → is_theirs container (users slot) ≡ true
    → uses_below users container count ≡ true
unfolding uses_below
uses_one users container slot zero less is = absurd (omega (arith, less))
uses_one users container slot (suc count) less is = elim (cases_lt slot count) [
  | inl lower ↦ or_right (is_theirs container (users count)) (uses_below users container count) (uses_one users container slot count lower is)
  | inr last ↦
      let same : slot ≡ count = omega (arith, less, last) in
      or_left (is_theirs container (users count)) (uses_below users container count) (subst (λ (n : ℕ). is_theirs container (users n) ≡ true) same is)
]

-- ---- where none is held

pub nobody : (container : ℕ) (node : Node) → IsSound node → ((local : ℕ) → is_held node (record { container = container; local = local }) ≡ false)
    → (slot : ℕ) → is_theirs container (node.users slot) ≡ false
nobody container node sound none slot = by (node.users slot) refl
  where
    not_there : (block : Block) (row : Option BlockRow) → row ≡ node.rows block → container ≡ block.container → is_some row ≡ false
    not_there block row is same = ap is_some is ∙ (ap (λ (c : ℕ). is_held node (record { container = c; local = block.local })) (sym same) ∙ none block.local)

    nothing : (row : Option BlockRow) → is_some row ≡ false → row_has row slot ≡ false
    nothing None is = refl
    nothing (Some row) is = absurd (false≢true (sym is))

    by : (user : Option Block) → user ≡ node.users slot → is_theirs container user ≡ false
    by None is = refl
    by (Some block) is = apart (eqb container block.container) refl
      where
        apart : (b : Bool) → b ≡ eqb container block.container → b ≡ false
        apart false e = refl
        apart true e =
            let has : row_has (node.rows block) slot ≡ true = sym (sound slot block)
            ∙ (ap (λ (u : Option Block). belongs_to u block) (sym is) ∙ itself block) in
            sym has ∙ nothing (node.rows block) (not_there block (node.rows block) refl (eqb-true container block.container (sym e)))

-- a drop may follow
pub unheld_drops : (container : ℕ) (node : Node) → IsSound node → container < 2 ^ 64
    → ((local : ℕ) → is_held node (record { container = container; local = local }) ≡ false) → MayFollow node (Drop container)
unheld_drops container node sound small none = (small, uses_none node.users container 16384 (nobody container node sound none))

-- ---- each block that is held uses one of the slots that there are

abbrev pub HaveSlots : Node → Type 0
HaveSlots node = (block : Block) (row : BlockRow) → node.rows block ≡ Some row → (slot : ℕ) × (slot < 16384) × (has_slot row slot ≡ true)

some_chunks : (size : ℕ) → 1 ≤ size → 1 ≤ chunk_count size
some_chunks size least = omega arith

first_slot : (used : ℕ → Bool) (row : BlockRow) → RowFits used row → (slot : ℕ) × (slot < 16384) × (has_slot row slot ≡ true)
first_slot used row fits = by row.chunks refl fits.chunks
  where
    by : (chunks : List Chunk) → chunks ≡ row.chunks → HaveFreeSlots used chunks → (slot : ℕ) × (slot < 16384) × (has_slot row slot ≡ true)
    by [] is free = let none = ap length is in let some = some_chunks row.length fits.least in absurd (omega (arith, none, some, fits.count))
    by (chunk ∷ chunks) is free = (
      chunk.slot,
      free.0,
      ap (λ (l : List Chunk). has_slot (record { length = row.length; chunks = l }) chunk.slot) (sym is)
          ∙ or_left (eqb chunk.slot chunk.slot) (has_slot (record { length = row.length; chunks = chunks }) chunk.slot) (eq-eqb chunk.slot chunk.slot refl),
    )

slots_without : (is_gone : Block → Bool) (node : Node) → HaveSlots node → HaveSlots (without is_gone node)
slots_without is_gone node have block row is = by (is_gone block) is
  where
    by : (gone : Bool) → cond gone None (node.rows block) ≡ Some row → (slot : ℕ) × (slot < 16384) × (has_slot row slot ≡ true)
    by true e = absurd cc
    by false e = have block row e

slots_with : (block : Block) (row : BlockRow) (node : Node) → HaveSlots node → RowFits (is_used node) row → HaveSlots (with_row block row node)
slots_with block row node have fits other found is = by (is_same_block block other) is
  where
    by : (same : Bool) → cond same (Some row) (node.rows other) ≡ Some found → (slot : ℕ) × (slot < 16384) × (has_slot found slot ≡ true)
    by true e = let same : row ≡ found =
        cc e in subst (λ (r : BlockRow). (slot : ℕ) × (slot < 16384) × (has_slot r slot ≡ true)) same (first_slot (is_used node) row fits)
    by false e = have other found e

slots_after : (node : Node) (entry : Entry) → HaveSlots node → MayFollow node entry → HaveSlots (after_entry entry node)
slots_after node (Put block row) have follows = slots_with block row node have follows.3
slots_after node (SetState container state) have follows = have
slots_after node (Apply txn) have follows = slots_without (names txn) node have
slots_after node (Drop container) have follows = slots_without (is_in container) node have

pub slots_made : (bodies : List (List ℕ)) (before after : Node) → HaveSlots before → MakesFrom before bodies after → HaveSlots after
unfolding MakesFrom
slots_made [] before after have makes = subst HaveSlots (sym makes) have
slots_made (bytes ∷ bodies) before after have (one, is, makes) = slots_made bodies (after_entry one before) after (slots_after before one have is.follows) makes

pub empty_slots : HaveSlots empty_node
empty_slots block row is = absurd cc

-- where a drop may follow none is held
pub dropped_unheld : (container : ℕ) (node : Node) → IsSound node → HaveSlots node → MayFollow node (Drop container) → (local : ℕ)
    → is_held node (record { container = container; local = local }) ≡ false
dropped_unheld container node sound have follows local = by (node.rows block) refl
  where
    block : Block
    block = record { container = container; local = local }

    theirs : (user : Option Block) → belongs_to user block ≡ true → is_theirs container user ≡ true
    theirs None never = absurd (false≢true never)
    theirs (Some user) is = (and_parts (eqb container user.container) (eqb local user.local) is).0

    by : (row : Option BlockRow) → row ≡ node.rows block → is_some row ≡ false
    by None is = refl
    by (Some row) is =
        let one = have block row (sym is) in
        let used : belongs_to (node.users one.0) block ≡ true = sound one.0 block ∙ (ap (λ (o : Option BlockRow). row_has o one.0) (sym is) ∙ one.2) in
        absurd (false≢true (sym follows.1 ∙ uses_one node.users container one.0 16384 one.1 (theirs (node.users one.0) used)))
