-- The slots that a datanode's blocks take, by a walk over what its disks had and what it was given.
use Rattle.std.proofs.Common.{◌≡◌, ℕ, ◌+◌, ◌<◌, Bool, true, false, ◌&&◌, List, ◌++◌, length, drop, get_or, Option, Some, None, refl, sym, ◌∙◌, ap, zero-add}
use Rattle.std.proofs.lemmas.List.{drop_more}
use Rattle.std.specs.List.{cons_option}
use Rattle.std.specs.Option.{option_map_or}
use Rattle.oz_fields.specs.declared.block.Block.{Block}
use Rattle.oz_fields.specs.declared.block.Piece.{Piece}
use Rattle.oz_model.specs.Reach.{blocks_of}
use Rattle.oz_core.specs.declared.event.Event.{Event}
use Rattle.oz_core.specs.declared.opening.Opening.{Opening}
use Rattle.oz_core.specs.Nodes.{holds, slots_of, AreHeld, TakesSlots}
use Rattle.oz_core.specs.Stories.{all_told}
use Rattle.oz_node_law.specs.Words.{given, had_or_given, fresh, sum_once, taken_slots}
use Rattle.oz_node_law.specs.laws.Held.{held_among}
use Rattle.oz_node_law.proofs.Found.{among, among-finds}
use Rattle.oz_node_law.proofs.Once.{has, total, total-sum, once, once-has, once-apart, once-sum, same_sum}

-- ---- one step of the walk

told-step : (count : Block → ℕ) (o : Option Block) (blocks : List Block) → sum_once count (cons_option o blocks) ≡ option_map_or (fresh count blocks) o 0 + sum_once count blocks
told-step count None blocks = sym (zero-add (sum_once count blocks))
told-step count (Some block) blocks = refl

pub event_step : (count : Block → ℕ) (dn : ℕ) (story : List Event) (i : ℕ) (d : Event) → i < length story → sum_once count (all_told (given dn) (drop i story)) ≡ option_map_or (fresh count (all_told (given dn) (drop (i + 1) story))) (given dn (get_or story i d).kind) 0 + sum_once count (all_told (given dn) (drop (i + 1) story))
event_step count dn story i d within =
    ap (λ (s : List Event). sum_once count (all_told (given dn) s)) (drop_more story i d within)
    ∙ told-step count (given dn (get_or story i d).kind) (all_told (given dn) (drop (i + 1) story))

pub piece_step : (count : Block → ℕ) (pieces : List Piece) (more : List Block) (i : ℕ) (d : Piece) → i < length pieces → sum_once count (blocks_of (drop i pieces) ++ more) ≡ fresh count (blocks_of (drop (i + 1) pieces) ++ more) (get_or pieces i d).block + sum_once count (blocks_of (drop (i + 1) pieces) ++ more)
piece_step count pieces more i d within = ap (λ (ps : List Piece). sum_once count (blocks_of ps ++ more)) (drop_more pieces i d within)

pub event_left : (count : Block → ℕ) (dn : ℕ) (story : List Event) (i : ℕ) (event : Event) (slots : ℕ) → i < length story → event ≡ get_or story i event → slots ≡ option_map_or (fresh count (all_told (given dn) (drop (i + 1) story))) (given dn event.kind) 0 → sum_once count (all_told (given dn) (drop i story)) ≡ slots + sum_once count (all_told (given dn) (drop (i + 1) story))
event_left count dn story i event slots within is are =
    event_step count dn story i event within
    ∙ ap (λ (n : ℕ). n + sum_once count (all_told (given dn) (drop (i + 1) story))) (ap (λ (e : Event). option_map_or (fresh count (all_told (given dn) (drop (i + 1) story))) (given dn e.kind) 0) (sym is) ∙ sym are)

-- ---- the slots are those

held-so : (a b : Bool) → (b ≡ true → a ≡ true) → (a && b) ≡ b
held-so true b h = refl
held-so false true h = h refl
held-so false false h = refl

held_once : (opening : Opening) (story : List Event) (dn : ℕ) → List Block
held_once opening story dn = once (holds opening story dn) (had_or_given opening story dn)

held_once-has : (opening : Opening) (story : List Event) (dn : ℕ) (block : Block) → has block (held_once opening story dn) ≡ holds opening story dn block
unfolding held_once
held_once-has opening story dn block =
    once-has (holds opening story dn) block (had_or_given opening story dn) ∙ held-so (has block (had_or_given opening story dn)) (holds opening story dn block) (held_among opening story dn block)

are_held : (opening : Opening) (story : List Event) (dn : ℕ) → AreHeld opening story dn (held_once opening story dn)
unfolding held_once
are_held opening story dn = record {
  apart = once-apart (holds opening story dn) (had_or_given opening story dn);
  each = λ block. (
    λ there. sym (held_once-has opening story dn block) ∙ among-finds block (held_once opening story dn) there,
    λ held. among block (held_once opening story dn) (held_once-has opening story dn block ∙ held),
  );
}

taken-total : (opening : Opening) (story : List Event) (dn : ℕ) → taken_slots opening story dn (had_or_given opening story dn) ≡ total (slots_of opening story) (held_once opening story dn)
unfolding held_once
taken-total opening story dn = once-sum (holds opening story dn) (slots_of opening story) (had_or_given opening story dn)

pub taken : (opening : Opening) (story : List Event) (dn : ℕ) → TakesSlots opening story dn (taken_slots opening story dn (had_or_given opening story dn))
taken opening story dn = (
  held_once opening story dn,
  are_held opening story dn,
  taken-total opening story dn ∙ sym (total-sum (slots_of opening story) (held_once opening story dn)),
)

-- lists that hold the same have the same blocks
same-has-go : (opening : Opening) (story : List Event) (dn : ℕ) (blocks : List Block) → AreHeld opening story dn blocks → (block : Block) (s t : Bool) → has block blocks ≡ s → holds opening story dn block ≡ t → s ≡ t
same-has-go opening story dn blocks are block true t e f = sym ((are.each block).0 (among block blocks e)) ∙ f
same-has-go opening story dn blocks are block false true e f = sym e ∙ among-finds block blocks ((are.each block).1 f)
same-has-go opening story dn blocks are block false false e f = refl

pub takes_so_many : (opening : Opening) (story : List Event) (dn slots : ℕ) → TakesSlots opening story dn slots → slots ≡ taken_slots opening story dn (had_or_given opening story dn)
takes_so_many opening story dn slots takes =
    takes.2
    ∙ (total-sum (slots_of opening story) takes.0
    ∙ (same_sum (slots_of opening story) takes.0 (held_once opening story dn) takes.1.apart (are_held opening story dn).apart
    (λ block. same-has-go opening story dn takes.0 takes.1 block (has block takes.0) (holds opening story dn block) refl refl ∙ sym (held_once-has opening story dn block))
    ∙ sym (taken-total opening story dn)))
