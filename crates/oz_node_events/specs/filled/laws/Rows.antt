-- The blocks that are held and their rows, as entries come.
use Rattle.std.proofs.Common.{
  ◌≡◌,
  ◌≢◌,
  ℕ,
  eqb,
  Bool,
  true,
  false,
  not,
  ◌&&◌,
  ◌||◌,
  cond,
  List,
  [],
  ◌∷◌,
  filter,
  Option,
  None,
  Some,
  is_some,
  AllPairs,
  refl,
  sym,
  ◌∙◌,
  ap,
  subst,
  arith,
}
use Rattle.std.proofs.lemmas.Bool.{false≢true}
use Rattle.std.proofs.lemmas.Bool.Decides.{same_from_decides}
use Rattle.std.proofs.lemmas.List.Kept.{AllPairs-filter}
use Rattle.std.proofs.lemmas.Map.Keys.{IsDistinct-cons}
use Rattle.std.proofs.lemmas.Map.Made.{AllPairs-from_IsDistinct, IsDistinct-from_AllPairs, is_member-Decides, is_member-filter}
use Rattle.std.specs.Set.{is_member}
use Rattle.oz_container.specs.declared.state.State.{State}
use Rattle.oz_container.specs.declared.state.State.TheVariants as states
use Rattle.oz_entries.specs.Build.{MakesFrom}
use Rattle.oz_entries.specs.Node.{
  Node,
  HaveFreeSlots,
  MayFollow,
  RowFits,
  after_entry,
  empty_node,
  is_held,
  is_in,
  is_same_block,
  names,
  or_slot,
  with_number,
  with_row,
  with_state,
  without,
}
use Rattle.oz_entries.specs.declared.entry.Entry.{Entry}
use Rattle.oz_entries.specs.declared.entry.Entry.TheVariants.{Put, SetState, Apply, Drop}
use Rattle.oz_entries.specs.declared.row.BlockRow.{BlockRow}
use Rattle.oz_entries.specs.declared.row.Chunk.{Chunk}
use Rattle.oz_entries.specs.laws.Journals.{empty_sound}
use Rattle.oz_entries.specs.laws.Sound.{sound_with, sound_without}
use Rattle.oz_fields.specs.declared.block.Block.{Block}
use Rattle.oz_node_events.specs.filled.Filled.{AreHeldIn, BlocksHaveSlots}
use Rattle.oz_node_events.specs.filled.laws.Lists.{blocks_alike, each_fails, or_false, same_decides}

-- ---- the blocks that are held

-- whether a block is among them is whether it is held
held_by : (node : Node) (blocks : List Block) → AllPairs (λ a b. a ≢ b) blocks
    → ((block : Block) → is_member is_same_block blocks block ≡ is_held node block) → AreHeldIn node blocks
held_by node blocks apart is = record {
  apart = apart;
  each = λ block.
      let decides = is_member-Decides same_decides blocks block in
      (λ among. sym (is block) ∙ decides.1 among, λ held. decides.0 (is block ∙ held));
}

pub member_is : (node : Node) (blocks : List Block) → AreHeldIn node blocks → (block : Block) → is_member is_same_block blocks block ≡ is_held node block
member_is node blocks held block =
    let each = held.each block in
    same_from_decides (is_member is_same_block blocks block) (is_held node block) (is_member-Decides same_decides blocks block) (each.1, each.0)

none_held : AreHeldIn empty_node []
none_held = held_by empty_node [] (λ i j d before within. absurd (omega (arith, within))) (λ block. refl)

held_with : (block : Block) (row : BlockRow) (node : Node) (blocks : List Block) → AreHeldIn node blocks → is_held node block ≡ false
    → AreHeldIn (with_row block row node) (block ∷ blocks)
held_with block row node blocks held absent = held_by (with_row block row node) (block ∷ blocks)
    (AllPairs-from_IsDistinct same_decides (block ∷ blocks)
    (IsDistinct-cons is_same_block block blocks (each_fails (is_same_block block) blocks (member_is node blocks held block ∙ absent))
    (IsDistinct-from_AllPairs same_decides blocks held.apart)))
    (λ other. ap (λ (t : Bool). t || is_member is_same_block blocks other) (blocks_alike.symm other block)
    ∙ by (is_same_block block other) other (member_is node blocks held other))
  where
    by : (t : Bool) (other : Block) → is_member is_same_block blocks other ≡ is_held node other
        → (t || is_member is_same_block blocks other) ≡ is_some (cond t (Some row) (node.rows other))
    by true other is = refl
    by false other is = is

held_without : (is_gone : Block → Bool) (node : Node) (blocks : List Block) → AreHeldIn node blocks
    → AreHeldIn (without is_gone node) (filter (λ block. not (is_gone block)) blocks)
held_without is_gone node blocks held = held_by (without is_gone node) (filter (λ block. not (is_gone block)) blocks)
    (AllPairs-filter (λ a b. a ≢ b) (λ block. not (is_gone block)) blocks held.apart)
    (λ other.
    is_member-filter blocks_alike (λ block. not (is_gone block)) other
    (λ block same. ap (λ (b : Block). not (is_gone b)) ((same_decides other block).0 same)) blocks
    ∙ (ap (λ (t : Bool). t && not (is_gone other)) (member_is node blocks held other) ∙ by (is_gone other) (node.rows other)))
  where
    by : (gone : Bool) (row : Option BlockRow) → (is_some row && not gone) ≡ is_some (cond gone None row)
    by true None = refl
    by true (Some row) = refl
    by false None = refl
    by false (Some row) = refl

-- ---- their rows

RowsFit : Node → Type 0
RowsFit node = (block : Block) (row : BlockRow) → node.rows block ≡ Some row → RowFits (λ slot. false) row

-- slots that are free are so where fewer are in use
free_anyway : (used fewer : ℕ → Bool) (chunks : List Chunk) → ((slot : ℕ) → used slot ≡ false → fewer slot ≡ false) → HaveFreeSlots used chunks
    → HaveFreeSlots fewer chunks
free_anyway used fewer [] less free = tt
free_anyway used fewer (chunk ∷ chunks) less free = (
  free.0,
  less chunk.slot free.1,
  free.2,
  free_anyway (or_slot used chunk.slot) (or_slot fewer chunk.slot) chunks
      (λ slot unused. let both = or_false (used slot) (eqb chunk.slot slot) unused in ap (λ (t : Bool). t || eqb chunk.slot slot) (less slot both.0)
      ∙ both.1) free.3,
)

fits_anyway : (used : ℕ → Bool) (row : BlockRow) → RowFits used row → RowFits (λ slot. false) row
fits_anyway used row fits = record {
  least = fits.least;
  most = fits.most;
  count = fits.count;
  chunks = free_anyway used (λ slot. false) row.chunks (λ slot unused. refl) fits.chunks;
}

fit_with : (block : Block) (row : BlockRow) (node : Node) → RowsFit node → RowFits (λ slot. false) row → RowsFit (with_row block row node)
unfolding RowsFit
fit_with block row node fit its other found is = by (is_same_block block other) is
  where
    by : (t : Bool) → cond t (Some row) (node.rows other) ≡ Some found → RowFits (λ slot. false) found
    by true e = let same : row ≡ found = cc e in subst (λ (r : BlockRow). RowFits (λ slot. false) r) same its
    by false e = fit other found e

fit_without : (is_gone : Block → Bool) (node : Node) → RowsFit node → RowsFit (without is_gone node)
unfolding RowsFit
fit_without is_gone node fit other found is = by (is_gone other) is
  where
    by : (t : Bool) → cond t None (node.rows other) ≡ Some found → RowFits (λ slot. false) found
    by true e = absurd cc
    by false e = fit other found e

-- ---- all of it

pub none_have_slots : BlocksHaveSlots empty_node
none_have_slots = record {
  blocks = [];
  held = none_held;
  fit = λ block row e. absurd cc;
  sound = empty_sound;
}

none_of : (o : Option BlockRow) → is_some o ≡ false → o ≡ None
none_of None is = refl
none_of (Some row) is = absurd (false≢true (sym is))

have_without : (is_gone : Block → Bool) (node : Node) → BlocksHaveSlots node → BlocksHaveSlots (without is_gone node)
unfolding RowsFit
have_without is_gone node has = record {
  blocks = filter (λ block. not (is_gone block)) has.blocks;
  held = held_without is_gone node has.blocks has.held;
  fit = fit_without is_gone node has.fit;
  sound = sound_without is_gone node has.sound;
}

-- the same rows
with_states : (node : Node) (states : ℕ → State) (greatest : ℕ → ℕ) → BlocksHaveSlots node
    → BlocksHaveSlots (record node { states = states; greatest = greatest })
with_states node states greatest has = record {
  blocks = has.blocks;
  held = record { apart = has.held.apart; each = has.held.each };
  fit = has.fit;
  sound = has.sound;
}

pub slots_with_state : (container : ℕ) (state : State) (node : Node) → BlocksHaveSlots node → BlocksHaveSlots (with_state container state node)
slots_with_state container state node has = with_states node (with_state container state node).states node.greatest has

pub slots_without : (container number : ℕ) (is_gone : Block → Bool) (node : Node) → BlocksHaveSlots node
    → BlocksHaveSlots (with_number container number (without is_gone node))
slots_without container number is_gone node has =
    with_states (without is_gone node) node.states (with_number container number (without is_gone node)).greatest (have_without is_gone node has)

pub slots_dropped : (container : ℕ) (is_gone : Block → Bool) (node : Node) → BlocksHaveSlots node
    → BlocksHaveSlots (with_state container states.Deleted (without is_gone node))
slots_dropped container is_gone node has = slots_with_state container states.Deleted (without is_gone node) (have_without is_gone node has)

pub slots_after : (node : Node) (entry : Entry) → BlocksHaveSlots node → MayFollow node entry → BlocksHaveSlots (after_entry entry node)
unfolding RowsFit
slots_after node (Put block row) has follows = record {
  blocks = block ∷ has.blocks;
  held = held_with block row node has.blocks has.held follows.2;
  fit = fit_with block row node has.fit (fits_anyway _ row follows.3);
  sound = sound_with block row node has.sound (none_of (node.rows block) follows.2) follows.3.chunks;
}
slots_after node (SetState container state) has follows = slots_with_state container state node has
slots_after node (Apply txn) has follows = slots_without txn.container txn.number (names txn) node has
slots_after node (Drop container) has follows = slots_dropped container (is_in container) node has

pub slots_made : (bodies : List (List ℕ)) (before after : Node) → BlocksHaveSlots before → MakesFrom before bodies after → BlocksHaveSlots after
unfolding MakesFrom
slots_made [] before after has makes = subst BlocksHaveSlots (sym makes) has
slots_made (bytes ∷ bodies) before after has (one, is, makes) = slots_made bodies (after_entry one before) after (slots_after before one has is.follows) makes
