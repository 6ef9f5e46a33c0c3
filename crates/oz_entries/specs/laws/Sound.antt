-- What stays of the slots of blocks where rows come and go.
use Rattle.std.proofs.Common.{◌≡◌, ℕ, eqb, Bool, true, false, cond, ◌||◌, List, [], ◌∷◌, Option, None, Some, refl, sym, ap, subst, ◌∙◌, eqb-true}
use Rattle.std.proofs.lemmas.Bool.{false≢true}
use Rattle.oz_fields.specs.declared.block.Block.{Block}
use Rattle.oz_entries.specs.declared.row.Chunk.{Chunk}
use Rattle.oz_entries.specs.declared.row.BlockRow.{BlockRow}
use Rattle.oz_entries.specs.Node.{Node, is_same_block, has_slot, unless_gone, without, with_row, is_used, HaveFreeSlots, or_slot}
use Rattle.oz_entries.specs.Held.{IsSound, belongs_to, row_has, AreSame}
use Rattle.oz_entries.specs.laws.Blocks.{same_block, itself}

-- the same node is as sound
pub sound_same : (node other : Node) → AreSame node other → IsSound node → IsSound other
sound_same node other same sound slot block =
    ap (λ (o : Option Block). belongs_to o block) (same.users slot) ∙ (sound slot block ∙ sym (ap (λ (o : Option BlockRow). row_has o slot) (same.rows block)))

-- some blocks are gone
pub sound_without : (is_gone : Block → Bool) (node : Node) → IsSound node → IsSound (without is_gone node)
sound_without is_gone node sound slot block = by (node.users slot) refl (is_gone block) refl
  where
    by : (user : Option Block) → user ≡ node.users slot → (g : Bool) → g ≡ is_gone block
        → belongs_to (unless_gone is_gone user) block ≡ row_has (cond g None (node.rows block)) slot
    by None is true gone = refl
    by None is false gone = ap (λ (o : Option Block). belongs_to o block) is ∙ sound slot block
    by (Some user) is g gone = each (is_gone user) refl g gone
      where
        here : is_same_block block user ≡ row_has (node.rows block) slot
        here = ap (λ (o : Option Block). belongs_to o block) is ∙ sound slot block

        alike : is_same_block block user ≡ true → is_gone block ≡ is_gone user
        alike same = ap is_gone (same_block block user same)

        each : (u : Bool) → u ≡ is_gone user → (g : Bool) → g ≡ is_gone block
            → belongs_to (cond u None (Some user)) block ≡ row_has (cond g None (node.rows block)) slot
        each true user_gone true gone = refl
        each false user_gone false gone = here
        each true user_gone false gone = sym (sym here ∙ apart (is_same_block block user) (λ same. user_gone ∙ (sym (alike same) ∙ sym gone)))
          where
            apart : (b : Bool) → (b ≡ true → true ≡ false) → b ≡ false
            apart true never = never refl
            apart false never = refl
        each false user_gone true gone = apart (is_same_block block user) (λ same. gone ∙ (alike same ∙ sym user_gone))
          where
            apart : (b : Bool) → (b ≡ true → true ≡ false) → b ≡ false
            apart true never = never refl
            apart false never = refl

-- a free slot isn't in use
pub free_slot : (used : ℕ → Bool) (chunks : List Chunk) → HaveFreeSlots used chunks → (slot : ℕ)
    → has_slot (record { length = 0; chunks = chunks }) slot ≡ true → used slot ≡ false
free_slot used [] free slot has = absurd (false≢true has)
free_slot used (chunk ∷ chunks) free slot has = by (eqb chunk.slot slot) refl (free_slot (or_slot used chunk.slot) chunks free.3 slot)
  where
    first : (b t : Bool) → (b || t) ≡ false → b ≡ false
    first true t never = never
    first false t never = refl

    by : (b : Bool) → b ≡ eqb chunk.slot slot → (has_slot (record { length = 0; chunks = chunks }) slot ≡ true → or_slot used chunk.slot slot ≡ false)
        → used slot ≡ false
    by true is others = let same : chunk.slot ≡ slot = eqb-true chunk.slot slot (sym is) in subst (λ (n : ℕ). used n ≡ false) same free.1
    by false is others =
        first (used slot) (eqb chunk.slot slot) (others (ap (λ (b : Bool). b || has_slot (record { length = 0; chunks = chunks }) slot) is ∙ has))

-- a row comes to a block that had none, in slots that weren't in use
pub sound_with : (block : Block) (row : BlockRow) (node : Node) → IsSound node → node.rows block ≡ None → HaveFreeSlots (is_used node) row.chunks
    → IsSound (with_row block row node)
sound_with block row node sound none free slot other = by (has_slot row slot) refl (is_same_block block other) refl
  where
    by : (h : Bool) → h ≡ has_slot row slot → (s : Bool) → s ≡ is_same_block block other
        → belongs_to (cond h (Some block) (node.users slot)) other ≡ row_has (cond s (Some row) (node.rows other)) slot
    by true has true same = subst (λ (b : Block). is_same_block b block ≡ has_slot row slot) (same_block block other (sym same)) (itself block ∙ has)
    by true has false same = not_other ∙ sym (unused (node.users slot) refl)
      where
        turned : (b : Bool) → (b ≡ true → true ≡ false) → b ≡ false
        turned true never = never refl
        turned false never = refl

        not_other : is_same_block other block ≡ false
        not_other = turned (is_same_block other block)
            (λ is. sym (itself block) ∙ (ap (λ (b : Block). is_same_block block b) (sym (same_block other block is)) ∙ sym same))

        unused : (user : Option Block) → user ≡ node.users slot → row_has (node.rows other) slot ≡ false
        unused None is = sym (sound slot other) ∙ ap (λ (o : Option Block). belongs_to o other) (sym is)
        unused (Some user) is =
            absurd (false≢true (sym (free_slot (is_used node) row.chunks free slot (sym has)) ∙ ap (λ (o : Option Block). used_by o) (sym is)))
          where
            used_by : Option Block → Bool
            used_by None = false
            used_by (Some u) = true
    by false has true same = nothing ∙ has
      where
        nothing : belongs_to (node.users slot) other ≡ false
        nothing = sound slot other ∙ ap (λ (o : Option BlockRow). row_has o slot) (ap node.rows (sym (same_block block other (sym same))) ∙ none)
    by false has false same = sound slot other

-- the slots of a block that goes are those of its row
pub released : (block : Block) (node : Node) → IsSound node → (slot : ℕ)
    → cond (row_has (node.rows block) slot) None (node.users slot) ≡ unless_gone (is_same_block block) (node.users slot)
released block node sound slot = by (node.users slot) refl
  where
    by : (user : Option Block) → user ≡ node.users slot → cond (row_has (node.rows block) slot) None user ≡ unless_gone (is_same_block block) user
    by None is = none (row_has (node.rows block) slot)
      where
        none : (b : Bool) → cond b None None ≡ unless_gone (is_same_block block) None
        none true = refl
        none false = refl
    by (Some user) is = ap (λ (b : Bool). cond b None (Some user)) (sym (sound slot block) ∙ ap (λ (o : Option Block). belongs_to o block) (sym is))
