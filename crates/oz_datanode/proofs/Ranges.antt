-- The slots that the blocks of a journal use are among those that there are.
use Rattle.std.proofs.Common.{◌≡◌, ℕ, ◌<◌, eqb, ltb, Bool, true, false, cond, ◌||◌, ◌&&◌, List, [], ◌∷◌, Option, None, Some, is_some, refl, sym, ap, subst, ◌∙◌, eqb-true, ltb-true}
use Rattle.std.proofs.lemmas.Bool.{false≢true, lt-ltb, and_parts}
use Rattle.oz_block.specs.Blocks.{StandsFor}
use Rattle.oz_fields.specs.declared.block.Block.{Block}
use Rattle.oz_entries.specs.declared.row.Chunk.{Chunk}
use Rattle.oz_entries.specs.declared.entry.Entry.{Entry}
use Rattle.oz_entries.specs.declared.entry.Entry.TheVariants as entries
use Rattle.oz_entries.specs.Build.{MakesFrom}
use Rattle.oz_entries.specs.Held.{any_in}
use Rattle.oz_entries.specs.Node.{Node, MayFollow, after_entry, empty_node, HaveFreeSlots, or_slot, has_slot, names, is_in, unless_gone, is_used}
use Rattle.oz_datanode.specs.Steps.{is_in_use}

abbrev pub AreInRange : Node → Type 0
AreInRange node = (slot : ℕ) → is_used node slot ≡ true → slot < 16384

pub free_below : (used : ℕ → Bool) (chunks : List Chunk) → HaveFreeSlots used chunks → (slot : ℕ) → any_in chunks slot ≡ true → slot < 16384
free_below used [] free slot has = absurd (false≢true has)
free_below used (chunk ∷ chunks) free slot has = by (eqb chunk.slot slot) refl (free_below (or_slot used chunk.slot) chunks free.3 slot)
  where
    by : (b : Bool) → b ≡ eqb chunk.slot slot → (any_in chunks slot ≡ true → slot < 16384) → slot < 16384
    by true is others = subst (λ (n : ℕ). n < 16384) (eqb-true chunk.slot slot (sym is)) free.0
    by false is others = others (ap (λ (b : Bool). b || any_in chunks slot) is ∙ has)

remains : (is_gone : Block → Bool) (user : Option Block) → is_some (unless_gone is_gone user) ≡ true → is_some user ≡ true
remains is_gone None is = is
remains is_gone (Some user) is = refl

below_after : (entry : Entry) (node : Node) → MayFollow node entry → AreInRange node → AreInRange (after_entry entry node)
below_after (entries.Put block row) node follows below slot used = by (has_slot row slot) refl used
  where
    by : (b : Bool) → b ≡ has_slot row slot → is_some (cond b (Some block) (node.users slot)) ≡ true → slot < 16384
    by true has is = free_below (is_used node) row.chunks follows.3.chunks slot (sym has)
    by false has is = below slot is
below_after (entries.SetState container state) node follows below slot used = below slot used
below_after (entries.Apply txn) node follows below slot used = below slot (remains (names txn) (node.users slot) used)
below_after (entries.Drop container) node follows below slot used = below slot (remains (is_in container) (node.users slot) used)

made_below : (before : Node) (bodies : List (List ℕ)) (after : Node) → AreInRange before → MakesFrom before bodies after → AreInRange after
unfolding MakesFrom
made_below before [] after below made = subst AreInRange (sym made) below
made_below before (bytes ∷ bodies) after below made = made_below (after_entry made.0 before) bodies after (below_after made.0 before made.1.follows below) made.2

pub stands_below : (bytes : List ℕ) (node : Node) → StandsFor bytes node → AreInRange node
stands_below bytes node stands = made_below empty_node stands.0 node (λ slot used. absurd (false≢true used)) stands.2

-- a slot that is used and among those that there are
pub in_use : (node : Node) (slot : ℕ) → is_used node slot ≡ true → slot < 16384 → is_in_use node slot ≡ true
in_use node slot used small = ap (λ (b : Bool). b && ltb slot 16384) used ∙ lt-ltb slot 16384 small

pub in_use_parts : (node : Node) (slot : ℕ) → is_in_use node slot ≡ true → (is_used node slot ≡ true) × (slot < 16384)
in_use_parts node slot is = let both = and_parts (is_used node slot) (ltb slot 16384) is in (both.0, ltb-true slot 16384 both.1)
