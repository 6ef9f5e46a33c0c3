-- What a wipe leaves.
use Rattle.std.proofs.Common.{◌≡◌, ℕ, true, false, List, [], Option, None, Some, IsSome, is_some, IfSome, Ok, refl, sym, ap, subst, ◌∙◌}
use Rattle.std.proofs.lemmas.Bool.{false≢true}
use Rattle.oz_block.specs.Blocks.{State as Blocks, node_in as node_in_blocks, StandsFor}
use Rattle.oz_block.specs.Changes.{Wipes}
use Rattle.oz_chunk.specs.Slots.{IsWithin}
use Rattle.oz_chunk.specs.Taken.{is_taken}
use Rattle.oz_entries.specs.Node.{Node, empty_node, HaveFreeSlots, or_slots}
use Rattle.oz_entries.specs.laws.Journals.{none_made}
use Rattle.oz_fields.specs.declared.block.Block.{Block}
use Rattle.oz_journal.specs.Grammar.{IsJournal, TellsBodies}
use Rattle.oz_block.specs.declared.shelf.written.Written.{Written}
use Rattle.oz_block.specs.shelf.Shelf.{ShelfView, Rests, HaveSame}
use Rattle.oz_block.specs.shelf.Written.{chunks_in}
use Rattle.oz_world.specs.Disk.{Seen, IsStable, TellsAsBefore}
use Rattle.oz_datanode.specs.Pairs.{Content, HaveAll, PairHolds}
use Rattle.oz_datanode.specs.Steps.{is_in_use}
use Rattle.oz_datanode.proofs.Journaling.{OneNode}

-- slots of which none is taken are in order
pub rests_empty : {D : Type 0} (node : Node) (shelf : ShelfView D) (disk : Seen) → node ≡ empty_node → ((slot : ℕ) → is_taken shelf.slots.taken slot ≡ false) → shelf.written ≡ [] → Rests (is_in_use node) shelf disk
rests_empty node shelf disk none free nothing = subst (λ (n : Node). Rests (is_in_use n) shelf disk) (sym none) (record {
  free = subst (λ (l : List Written). HaveFreeSlots (is_in_use empty_node) (chunks_in l)) (sym nothing) tt;
  taken = λ slot. free slot ∙ ap (λ (l : List Written). or_slots (is_in_use empty_node) (chunks_in l) slot) (sym nothing);
  within = within disk.told;
  settled = settled disk.told;
}) where
  within : (told : Option (List ℕ)) → IfSome told (λ bytes. (slot : ℕ) → is_taken shelf.slots.taken slot ≡ true → IsWithin slot bytes)
  within None = tt
  within (Some bytes) = λ slot is. absurd (false≢true (sym (free slot) ∙ is))

  settled : (told : Option (List ℕ)) → IfSome told (λ bytes. (left : List ℕ) → disk.image disk.clock left → HaveSame (is_in_use empty_node) bytes left)
  settled None = tt
  settled (Some bytes) = λ left here slot is. absurd (false≢true is)

nothing_held : (contents : Block → Content) (slots : List ℕ) → HaveAll contents empty_node slots
nothing_held contents slots block row is = absurd cc

was_told : (before after : Option (List ℕ)) → TellsAsBefore before after → IsSome after → (first : List ℕ) × (before ≡ Some first)
was_told None after telling tells = absurd (false≢true (sym (ap is_some (telling.0 refl)) ∙ tells))
was_told (Some first) after telling tells = (first, refl)

tells_of : (told : Option (List ℕ)) (bytes : List ℕ) (bodies : List (List ℕ)) → told ≡ Some bytes → IsJournal bytes bodies → TellsBodies told bodies
tells_of told bytes bodies is journal = subst (λ (o : Option (List ℕ)). TellsBodies o bodies) (sym is) journal

-- what is stable has no bodies, and stands for nothing that is held
left_empty : (contents : Block → Content) (after : Seen) (bytes other : List ℕ) (kept : Node) → OneNode → after.image after.clock bytes → StandsFor bytes kept → (told : Option (List ℕ)) → TellsBodies told [] → IfSome told (IsStable after.image after.clock) → HaveAll contents kept other
left_empty contents after bytes other kept one there stands None tells stable = absurd tells
left_empty contents after bytes other kept one there stands (Some second) tells stable =
    let same : bytes ≡ second = stable bytes there in
    let empty : StandsFor bytes empty_node = ([], subst (λ (b : List ℕ). IsJournal b []) (sym same) tells, none_made empty_node refl) in
    subst (λ (n : Node). HaveAll contents n other) (one bytes empty_node kept empty stands) (nothing_held contents other)

-- what the journal tells then stands for nothing that is held
pub stands_wiped : {D T : Type 0} (old new : Blocks D) (before after : Seen) (x : T) → Wipes {D = D} {T = T} old new before after (Ok x) → ((bytes : List ℕ) → before.told ≡ Some bytes → StandsFor bytes (node_in_blocks old)) → (bytes : List ℕ) → after.told ≡ Some bytes → StandsFor bytes (node_in_blocks new)
stands_wiped old new before after x wiped keeps bytes is =
    let first = was_told before.told after.told wiped.telling (subst (λ (o : Option (List ℕ)). IsSome o) (sym is) refl) in
    let was : StandsFor first.0 (node_in_blocks old) = keeps first.0 first.1 in
    let none : TellsBodies (Some bytes) [] = subst (λ (o : Option (List ℕ)). TellsBodies o []) is (wiped.tells was.0 (tells_of before.told first.0 was.0 first.1 was.1)) in
    subst (λ (n : Node). StandsFor bytes n) (sym wiped.made) ([], none, none_made empty_node refl)

all_empty : (contents : Block → Content) (told : Option (List ℕ)) → IfSome told (HaveAll contents empty_node)
all_empty contents None = tt
all_empty contents (Some bytes) = nothing_held contents bytes

pub pairs_wiped : {D T : Type 0} (contents : Block → Content) (old new : Blocks D) (before after slots : Seen) (x : T) → Wipes {D = D} {T = T} old new before after (Ok x) → OneNode → ((bytes : List ℕ) → before.told ≡ Some bytes → StandsFor bytes (node_in_blocks old))
    → PairHolds contents (node_in_blocks new) after slots
pairs_wiped contents old new before after slots x wiped one keeps = record {
  read = λ tells. subst (λ (n : Node). IfSome slots.told (HaveAll contents n)) (sym wiped.made) (all_empty contents slots.told);
  left = λ tells slots_tell bytes other there beside kept stands.
      let first = was_told before.told after.told wiped.telling tells in
      let was : StandsFor first.0 (node_in_blocks old) = keeps first.0 first.1 in
      left_empty contents after bytes other kept one there stands after.told (wiped.tells was.0 (tells_of before.told first.0 was.0 first.1 was.1)) wiped.stable;
}
