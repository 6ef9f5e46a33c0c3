-- The slots that a story counts are those that a datanode has in use.
use Rattle.std.proofs.Common.{
  ◌≡◌,
  ℕ,
  zero,
  suc,
  ◌+◌,
  ◌<◌,
  ◌≤◌,
  true,
  ◌||◌,
  List,
  [],
  ◌∷◌,
  map,
  length,
  sum,
  Option,
  None,
  Some,
  is_some,
  Contains,
  refl,
  sym,
  ◌∙◌,
  ap,
  arith,
}
use Rattle.std.proofs.lemmas.Bool.{false≢true}
use Rattle.std.proofs.lemmas.List.Sums.{sum_by-cons}
use Rattle.std.specs.Option.{option_map_or}
use Rattle.oz_chunk.specs.declared.table.TheConstants.{SLOTS}
use Rattle.oz_core.specs.declared.event.Event.{Event}
use Rattle.oz_core.specs.declared.opening.Opening.{Opening}
use Rattle.oz_core.specs.Law.{IsFull}
use Rattle.oz_core.specs.Nodes.{AreHeld, slots_for, slots_of}
use Rattle.oz_datanode.specs.Datanode.{State, node_in}
use Rattle.oz_entries.specs.Held.{any_in}
use Rattle.oz_entries.specs.Node.{Node, chunk_count, is_held, is_used}
use Rattle.oz_entries.specs.declared.row.BlockRow.{BlockRow}
use Rattle.oz_entries.specs.declared.row.Chunk.{Chunk}
use Rattle.oz_fields.specs.declared.block.Block.{Block}
use Rattle.oz_fields.specs.declared.block.TheConstants.{LONGEST_PIECE}
use Rattle.oz_node_events.specs.filled.Filled.{AreHeldIn, BlocksHaveSlots, slots_in}
use Rattle.oz_node_events.specs.full.Full.{RowsAreHeld}
use Rattle.oz_replicas.specs.Outcomes.{IsFull as IsFilled}

-- sums of what is the same at each element
same_sum : (f g : Block → ℕ) (blocks : List Block) → ((block : Block) → Contains blocks block → f block ≡ g block) → sum (map f blocks) ≡ sum (map g blocks)
same_sum f g [] same = refl
same_sum f g (block ∷ blocks) same =
    let first = same block (zero, omega arith, refl) in
    let rest = same_sum f g blocks (λ other among. same other (suc among.0, omega (arith, among.1), among.2)) in
    sum_by-cons (λ x. x) (f block) (map f blocks)
    ∙ (ap (λ (n : ℕ). n + sum (map f blocks)) first ∙ (ap (λ (n : ℕ). g block + n) rest ∙ sym (sum_by-cons (λ x. x) (g block) (map g blocks))))

pub few_chunks : (count size : ℕ) → size ≤ LONGEST_PIECE → count < chunk_count size → count ≤ 3
few_chunks count size most fewer = omega (arith, most, fewer)

module _ (opening : Opening) (story : List Event) (dn : ℕ) (node : Node) (rows : RowsAreHeld opening story dn node) where
  held_each : (blocks : List Block) → AreHeldIn node blocks → AreHeld opening story dn blocks
  held_each blocks held = record {
    apart = held.apart;
    each = λ block. let each = held.each block in (λ among. rows.held block ∙ each.0 among, λ is. each.1 (sym (rows.held block) ∙ is));
  }

  slots_same : (block : Block) → is_held node block ≡ true → slots_in node block ≡ slots_of opening story block
  slots_same block held = by (node.rows block) refl held
    where
      by : (o : Option BlockRow) → node.rows block ≡ o → is_some o ≡ true
          → option_map_or (λ (row : BlockRow). chunk_count row.length) o 0 ≡ slots_of opening story block
      by None is some = absurd (false≢true some)
      by (Some row) is some = ap (λ (o : Option ℕ). option_map_or slots_for o 0) (sym (rows.lengths block row is))

  pub sums_same : (blocks : List Block) → AreHeldIn node blocks → sum (map (slots_in node) blocks) ≡ sum (map (slots_of opening story) blocks)
  sums_same blocks held = same_sum (slots_in node) (slots_of opening story) blocks (λ block among. slots_same block ((held.each block).0 among))

abbrev Counts : Node → Type 0
Counts node =
    (blocks : List Block) (chunks : List Chunk) → AreHeldIn node blocks → ((slot : ℕ) → slot < SLOTS → (is_used node slot || any_in chunks slot) ≡ true)
    → (others : ℕ) × (others ≤ length chunks) × (SLOTS ≡ sum (map (slots_in node) blocks) + others)

pub filled_full : {D : Type 0} (faults : D → ℕ) (opening : Opening) (story : List Event) (dn : ℕ) (node : State D) (block : Block) (bytes : List ℕ)
    (used asked capacity : ℕ)
    → BlocksHaveSlots (node_in node) → Counts (node_in node) → RowsAreHeld opening story dn (node_in node) → length bytes ≤ LONGEST_PIECE
    → IsFilled faults block bytes node used asked capacity
    → IsFull opening story dn used asked capacity
filled_full faults opening story dn node block bytes used asked capacity has counts rows most filled =
    let count = counts has.blocks filled.chunks has.held filled.full in
    let few = few_chunks (length filled.chunks) (length bytes) most filled.fewer in
    let within = count.1 in
    let all = count.2 in
    let in_use = filled.used in
    let wanted = filled.asked in
    let whole = filled.capacity in
    let slots = sum (map (slots_in (node_in node)) has.blocks) in
    record {
      whole = whole;
      one_slot = wanted;
      over = omega (arith, in_use, wanted, whole);
      in_use = record {
        slots = slots;
        others = count.0;
        taken = (
          has.blocks,
          held_each opening story dn (node_in node) rows has.blocks has.held,
          sums_same opening story dn (node_in node) rows has.blocks has.held,
        );
        few = omega (arith, few, within);
        are = omega (arith, in_use, all);
      };
    }
