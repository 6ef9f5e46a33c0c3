-- The slots of all blocks in one list, counted in two ways.
use Rattle.std.proofs.Common.{
  ◌≡◌,
  ℕ,
  ◌+◌,
  ◌-◌,
  ◌<◌,
  ◌≤◌,
  eqb,
  Bool,
  true,
  false,
  ◌||◌,
  List,
  [],
  ◌∷◌,
  ◌++◌,
  map,
  length,
  sum,
  Option,
  None,
  Some,
  is_some,
  refl,
  sym,
  ◌∙◌,
  ap,
  subst,
  arith,
}
use Rattle.std.proofs.lemmas.Bool.{false≢true}
use Rattle.std.proofs.lemmas.Bool.Decides.{Decides-eqb}
use Rattle.std.proofs.lemmas.List.{length-append, length-map}
use Rattle.std.proofs.lemmas.List.Folds.{list_any-append}
use Rattle.std.proofs.lemmas.List.Sums.{sum_by-cons}
use Rattle.std.proofs.lemmas.Map.Keys.{IsDistinct-cons}
use Rattle.std.proofs.lemmas.Map.Made.{IsDistinct-from_AllPairs}
use Rattle.std.proofs.lemmas.Map.Steps.{le-length_from_below, length-le_from_distinct_below}
use Rattle.std.specs.List.{AllByRecursion, IsDistinct, list_any}
use Rattle.std.specs.Option.{option_map_or}
use Rattle.std.specs.Set.{is_member}
use Rattle.oz_chunk.specs.declared.table.TheConstants.{SLOTS}
use Rattle.oz_entries.specs.Held.{any_in, belongs_to, row_has}
use Rattle.oz_entries.specs.Node.{Node, HaveFreeSlots, chunk_count, RowFits, is_same_block, is_used, or_slot}
use Rattle.oz_entries.specs.declared.row.BlockRow.{BlockRow}
use Rattle.oz_entries.specs.declared.row.Chunk.{Chunk}
use Rattle.oz_entries.specs.laws.Blocks.{itself, same_block}
use Rattle.oz_fields.specs.declared.block.Block.{Block}
use Rattle.oz_node_events.specs.filled.Filled.{AreHeldIn, BlocksHaveSlots, slots_in}
use Rattle.oz_node_events.specs.filled.laws.Lists.{distinct_append, each_fails, eqb_turned, fails_where, or_left, or_right, same_decides}
use Rattle.oz_node_events.specs.filled.laws.Rows.{member_is}

-- ---- the slots of chunks

abbrev places : List Chunk → List ℕ
places chunks = map (λ (chunk : Chunk). chunk.slot) chunks

place_in : (chunks : List Chunk) (slot : ℕ) → list_any (eqb slot) (places chunks) ≡ any_in chunks slot
place_in [] slot = refl
place_in (chunk ∷ chunks) slot =
    ap (λ (t : Bool). t || list_any (eqb slot) (places chunks)) (eqb_turned slot chunk.slot)
    ∙ ap (λ (t : Bool). eqb chunk.slot slot || t) (place_in chunks slot)

-- none of them is in use
place_unused : (used : ℕ → Bool) (chunks : List Chunk) → HaveFreeSlots used chunks → (slot : ℕ) → used slot ≡ true → list_any (eqb slot) (places chunks) ≡ false
place_unused used [] free slot is = refl
place_unused used (chunk ∷ chunks) free slot is =
    let other = fails_where (eqb slot chunk.slot) (λ same. false≢true (sym free.1 ∙ (ap used (sym ((Decides-eqb slot chunk.slot).0 same)) ∙ is))) in
    ap (λ (t : Bool). t || list_any (eqb slot) (places chunks)) other
    ∙ place_unused (or_slot used chunk.slot) chunks free.3 slot (or_left (used slot) (eqb chunk.slot slot) is)

places_apart : (used : ℕ → Bool) (chunks : List Chunk) → HaveFreeSlots used chunks → IsDistinct eqb (places chunks)
unfolding IsDistinct
places_apart used [] free = tt
places_apart used (chunk ∷ chunks) free =
    let now = or_right (used chunk.slot) (eqb chunk.slot chunk.slot) ((Decides-eqb chunk.slot chunk.slot).1 refl) in
    IsDistinct-cons eqb chunk.slot (places chunks)
    (each_fails (eqb chunk.slot) (places chunks) (place_unused (or_slot used chunk.slot) chunks free.3 chunk.slot now))
    (places_apart (or_slot used chunk.slot) chunks free.3)

places_within : (used : ℕ → Bool) (chunks : List Chunk) → HaveFreeSlots used chunks → (slot : ℕ) → list_any (eqb slot) (places chunks) ≡ true → slot < SLOTS
places_within used [] free slot among = absurd (false≢true among)
places_within used (chunk ∷ chunks) free slot among = by (eqb slot chunk.slot) refl among (places_within (or_slot used chunk.slot) chunks free.3 slot)
  where
    by : (t : Bool) → eqb slot chunk.slot ≡ t → (t || list_any (eqb slot) (places chunks)) ≡ true
        → (list_any (eqb slot) (places chunks) ≡ true → slot < SLOTS) → slot < SLOTS
    by true same e others = subst (λ (n : ℕ). n < SLOTS) (sym ((Decides-eqb slot chunk.slot).0 same)) free.0
    by false other e others = others e

-- ---- those of a block

abbrev places_of : Option BlockRow → List ℕ
places_of None = []
places_of (Some row) = places row.chunks

abbrev Fits : Option BlockRow → Type 0
Fits o = (row : BlockRow) → o ≡ Some row → RowFits (λ slot. false) row

so_many : (o : Option BlockRow) → Fits o → length (places_of o) ≡ option_map_or (λ (row : BlockRow). chunk_count row.length) o 0
so_many None fits = refl
so_many (Some row) fits = length-map row.chunks (λ (chunk : Chunk). chunk.slot) ∙ (fits row refl).count

place_of_row : (o : Option BlockRow) (slot : ℕ) → list_any (eqb slot) (places_of o) ≡ row_has o slot
place_of_row None slot = refl
place_of_row (Some row) slot = place_in row.chunks slot

apart_in_row : (o : Option BlockRow) → Fits o → IsDistinct eqb (places_of o)
unfolding IsDistinct
apart_in_row None fits = tt
apart_in_row (Some row) fits = places_apart (λ slot. false) row.chunks (fits row refl).chunks

within_row : (o : Option BlockRow) → Fits o → (slot : ℕ) → list_any (eqb slot) (places_of o) ≡ true → slot < SLOTS
within_row None fits slot among = absurd (false≢true among)
within_row (Some row) fits slot among = places_within (λ slot. false) row.chunks (fits row refl).chunks slot among

-- ---- those of all blocks

all_places : Node → List Block → List ℕ
all_places node [] = []
all_places node (block ∷ blocks) = places_of (node.rows block) ++ all_places node blocks

user_is : (user : Option Block) (block : Block) → belongs_to user block ≡ true → user ≡ Some block
user_is None block belongs = absurd (false≢true belongs)
user_is (Some user) block belongs = ap (λ (b : Block). Some b) (sym (same_block block user belongs))

module _ (node : Node) (has : BlocksHaveSlots node) where
  so_many_all : (blocks : List Block) → length (all_places node blocks) ≡ sum (map (slots_in node) blocks)
  unfolding all_places
  so_many_all [] = refl
  so_many_all (block ∷ blocks) =
      let first = so_many (node.rows block) (has.fit block) in
      let rest = so_many_all blocks in
      let both = length-append (places_of (node.rows block)) (all_places node blocks) in
      both ∙ (ap (λ (n : ℕ). n + length (all_places node blocks)) first
      ∙ (ap (λ (n : ℕ). slots_in node block + n) rest ∙ sym (sum_by-cons (λ x. x) (slots_in node block) (map (slots_in node) blocks))))

  -- a slot of one block isn't among those of others
  of_one_block : (block : Block) (blocks : List Block) → AllByRecursion (λ other. is_same_block block other ≡ false) blocks → (slot : ℕ)
      → row_has (node.rows block) slot ≡ true → list_any (eqb slot) (all_places node blocks) ≡ true → ⊥
  unfolding all_places
  of_one_block block [] apart slot its among = false≢true among
  of_one_block block (other ∷ blocks) apart slot its among =
      by (list_any (eqb slot) (places_of (node.rows other))) refl
      (sym (list_any-append (eqb slot) (places_of (node.rows other)) (all_places node blocks)) ∙ among) (of_one_block block blocks apart.1 slot its)
    where
      by : (t : Bool) → list_any (eqb slot) (places_of (node.rows other)) ≡ t → (t || list_any (eqb slot) (all_places node blocks)) ≡ true
          → (list_any (eqb slot) (all_places node blocks) ≡ true → ⊥) → ⊥
      by true is e others =
          let one = user_is (node.users slot) block (has.sound slot block ∙ its) in
          let two = user_is (node.users slot) other (has.sound slot other ∙ (sym (place_of_row (node.rows other) slot) ∙ is)) in
          let both : Some block ≡ Some other = sym one ∙ two in
          let same : block ≡ other = cc both in
          false≢true (sym apart.0 ∙ (same_decides block other).1 same)
      by false is e others = others e

  all_apart : (blocks : List Block) → IsDistinct is_same_block blocks → IsDistinct eqb (all_places node blocks)
  unfolding all_places IsDistinct
  all_apart [] distinct = tt
  all_apart (block ∷ blocks) distinct =
      distinct_append (places_of (node.rows block)) (all_places node blocks) (apart_in_row (node.rows block) (has.fit block)) (all_apart blocks distinct.1)
      (λ slot one two. of_one_block block blocks distinct.0 slot (sym (place_of_row (node.rows block) slot) ∙ one) two)

  all_within : (blocks : List Block) (slot : ℕ) → list_any (eqb slot) (all_places node blocks) ≡ true → slot < SLOTS
  unfolding all_places
  all_within [] slot among = absurd (false≢true among)
  all_within (block ∷ blocks) slot among =
      by (list_any (eqb slot) (places_of (node.rows block))) refl
      (sym (list_any-append (eqb slot) (places_of (node.rows block)) (all_places node blocks)) ∙ among) (all_within blocks slot)
    where
      by : (t : Bool) → list_any (eqb slot) (places_of (node.rows block)) ≡ t → (t || list_any (eqb slot) (all_places node blocks)) ≡ true
          → (list_any (eqb slot) (all_places node blocks) ≡ true → slot < SLOTS) → slot < SLOTS
      by true is e others = within_row (node.rows block) (has.fit block) slot is
      by false is e others = others e

  -- the slot of a block is among them
  place_among : (blocks : List Block) (block : Block) (slot : ℕ) → is_member is_same_block blocks block ≡ true → row_has (node.rows block) slot ≡ true
      → list_any (eqb slot) (all_places node blocks) ≡ true
  unfolding all_places
  place_among [] block slot among its = absurd (false≢true among)
  place_among (other ∷ blocks) block slot among its = list_any-append (eqb slot) (places_of (node.rows other)) (all_places node blocks)
      ∙ by (is_same_block block other) refl among (λ e. place_among blocks block slot e its)
    where
      by : (t : Bool) → is_same_block block other ≡ t → (t || is_member is_same_block blocks block) ≡ true
          → (is_member is_same_block blocks block ≡ true → list_any (eqb slot) (all_places node blocks) ≡ true)
          → (list_any (eqb slot) (places_of (node.rows other)) || list_any (eqb slot) (all_places node blocks)) ≡ true
      by true same e others = or_left (list_any (eqb slot) (places_of (node.rows other))) (list_any (eqb slot) (all_places node blocks))
          (place_of_row (node.rows other) slot ∙ (ap (λ (b : Block). row_has (node.rows b) slot) (sym (same_block block other same)) ∙ its))
      by false same e others = or_right (list_any (eqb slot) (places_of (node.rows other))) (list_any (eqb slot) (all_places node blocks)) (others e)

  used_among : (blocks : List Block) → AreHeldIn node blocks → (slot : ℕ) → is_used node slot ≡ true → list_any (eqb slot) (all_places node blocks) ≡ true
  used_among blocks held slot used = by (node.users slot) refl used
    where
      has_row : (o : Option BlockRow) → row_has o slot ≡ true → is_some o ≡ true
      has_row None e = e
      has_row (Some row) e = refl

      by : (user : Option Block) → node.users slot ≡ user → is_some user ≡ true → list_any (eqb slot) (all_places node blocks) ≡ true
      by None is e = absurd (false≢true e)
      by (Some block) is e =
          let its : row_has (node.rows block) slot ≡ true = sym (has.sound slot block) ∙ (ap (λ (o : Option Block). belongs_to o block) is ∙ itself block) in
          place_among blocks block slot (member_is node blocks held block ∙ has_row (node.rows block) its) its

  pub within_all : (blocks : List Block) → AreHeldIn node blocks → sum (map (slots_in node) blocks) ≤ SLOTS
  within_all blocks held =
      let apart = all_apart blocks (IsDistinct-from_AllPairs same_decides blocks held.apart) in
      subst (λ (n : ℕ). n ≤ SLOTS) (so_many_all blocks) (length-le_from_distinct_below (all_places node blocks) SLOTS apart (all_within blocks))

  pub counted : (blocks : List Block) (chunks : List Chunk) → AreHeldIn node blocks
      → ((slot : ℕ) → slot < SLOTS → (is_used node slot || any_in chunks slot) ≡ true) → (others : ℕ) × (others ≤ length chunks)
      × (SLOTS ≡ sum (map (slots_in node) blocks) + others)
  counted blocks chunks held full =
      let within = within_all blocks held in
      let all = le-length_from_below (all_places node blocks ++ places chunks) SLOTS
      (λ slot below. list_any-append (eqb slot) (all_places node blocks) (places chunks) ∙ each slot (is_used node slot) refl (full slot below)) in
      let long = length-append (all_places node blocks) (places chunks) in
      let some = length-map chunks (λ (chunk : Chunk). chunk.slot) in
      let many = so_many_all blocks in
      (SLOTS - sum (map (slots_in node) blocks), omega (arith, within, all, long, some, many), omega (arith, within))
    where
      each : (slot : ℕ) (t : Bool) → is_used node slot ≡ t → (t || any_in chunks slot) ≡ true
          → (list_any (eqb slot) (all_places node blocks) || list_any (eqb slot) (places chunks)) ≡ true
      each slot true used e = or_left (list_any (eqb slot) (all_places node blocks)) (list_any (eqb slot) (places chunks)) (used_among blocks held slot used)
      each slot false used e = or_right (list_any (eqb slot) (all_places node blocks)) (list_any (eqb slot) (places chunks)) (place_in chunks slot ∙ e)
