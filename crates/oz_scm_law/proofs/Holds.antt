-- What a datanode holds, a disk had, or an event gave it: so what these are, each block is that is held.
use Rattle.std.proofs.Common.{◌≡◌, ℕ, Bool, true, false, ◌&&◌, ◌||◌, ◌==◌, cond, List, [], ◌∷◌, get_or, Option, Some, None, refl, sym, ◌∙◌, ap, subst, ◌⊎◌, inl, inr}
use Rattle.std.proofs.lemmas.List.Elements.{All-contains}
use Rattle.std.proofs.lemmas.Option.{slice_get_cases}
use Rattle.std.specs.List.{list_any, slice_get, All}
use Rattle.std.specs.Option.{option_map_or, IfSome}
use Rattle.oz_dellog.specs.declared.txn.Txn.{Txn}
use Rattle.oz_fields.specs.declared.block.Block.{Block}
use Rattle.oz_fields.specs.declared.block.Piece.{Piece}
use Rattle.oz_core.specs.declared.event.Event.{Event}
use Rattle.oz_core.specs.declared.event.EventKind.{EventKind}
use Rattle.oz_core.specs.declared.event.EventKind.TheVariants as kind
use Rattle.oz_core.specs.declared.opening.NodeOpening.{NodeOpening}
use Rattle.oz_core.specs.declared.opening.Opening.{Opening}
use Rattle.oz_core.specs.Nodes.{is_block, has_piece, was_held, deletes, held_after, holds}
use Rattle.oz_core.specs.Scm.{logs}
use Rattle.oz_core.specs.Stories.{last_told, newer}
use Rattle.oz_replay.specs.laws.Found.{false-true, Found, found, same_block}
use Rattle.oz_scm_law.specs.Words.{given, HadWanted, IsWanted}
use Rattle.oz_scm_law.specs.declared.held.Wanted.{Wanted}
use Rattle.oz_scm_law.specs.declared.held.Wanted.TheVariants.{Alike, Unheld}

or-left : (a b : Bool) → a ≡ true → (a || b) ≡ true
or-left a b h = ap (λ (c : Bool). c || b) h

or-right : (a b : Bool) → b ≡ true → (a || b) ≡ true
or-right true b h = refl
or-right false b h = h

-- ---- one event

gave-go : (c s was : Bool) → newer (cond (c && s) (Some true) None) was ≡ true → (was ≡ true) ⊎ (s ≡ true)
gave-go true true was h = inr refl
gave-go true false was h = inl h
gave-go false s was h = inl h

took-go : (c was : Bool) → newer (cond c (Some false) None) was ≡ true → was ≡ true
took-go true was h = false-true h
took-go false was h = h

held-step : (txns : List Txn) (dn : ℕ) (block : Block) (was : Bool) (kind : EventKind) → newer (held_after txns dn block kind) was ≡ true → (was ≡ true) ⊎ (option_map_or (is_block block) (given kind) false ≡ true)
held-step txns dn block was (kind.Put other put id first count) h = gave-go (other == dn) (is_block block put) was h
held-step txns dn block was (kind.Copy source target copied) h = gave-go (target == dn) (is_block block copied) was h
held-step txns dn block was (kind.Delete other number locals) h = inl (took-go (other == dn && deletes txns number locals block) was h)
held-step txns dn block was (kind.Wipe other) h = inl (took-go (other == dn) was h)
held-step txns dn block was _ h = inl h

-- ---- a story

abbrev gives : Block → Event → Bool
gives block event = option_map_or (is_block block) (given event.kind) false

held-story : (txns : List Txn) (dn : ℕ) (block : Block) (was : Bool) (story : List Event) → last_told (held_after txns dn block) was story ≡ true → (was ≡ true) ⊎ (list_any (gives block) story ≡ true)
held-story txns dn block was [] h = inl h
held-story txns dn block was (event ∷ story) h =
    elim (held-story txns dn block (newer (held_after txns dn block event.kind) was) story h) as (λ r. (was ≡ true) ⊎ (list_any (gives block) (event ∷ story) ≡ true)) [
      | inl now ↦ elim (held-step txns dn block was event.kind now) as (λ r. (was ≡ true) ⊎ (list_any (gives block) (event ∷ story) ≡ true)) [
        | inl w ↦ inl w
        | inr g ↦ inr (or-left (gives block event) (list_any (gives block) story) g)
      ]
      | inr later ↦ inr (or-right (gives block event) (list_any (gives block) story) later)
    ]

-- ---- what is so of each block that a disk had and that an event gave

abbrev OfNodes : (Block → Type 0) → List NodeOpening → Type 0
OfNodes P nodes = All (λ (node : NodeOpening). All (λ (piece : Piece). P piece.block) node.held) nodes

abbrev OfStory : (Block → Type 0) → List Event → Type 0
OfStory P story = All (λ (event : Event). IfSome (given event.kind) P) story

of_node : (P : Block → Type 0) (block : Block) (node : NodeOpening) → All (λ (piece : Piece). P piece.block) node.held → has_piece block node ≡ true → P block
of_node P block node all h =
    let f : Found (λ (piece : Piece). is_block block piece.block) node.held = found (λ (piece : Piece). is_block block piece.block) node.held h in
    subst P (sym (same_block block f.item.block f.so)) (All-contains (λ (piece : Piece). P piece.block) node.held f.item all f.there)

of_disks : (P : Block → Type 0) (block : Block) (nodes : List NodeOpening) (dn : ℕ) → OfNodes P nodes → option_map_or (has_piece block) (slice_get nodes dn) false ≡ true → P block
of_disks P block nodes dn all h =
    elim (slice_get_cases nodes dn).1 as (λ r. P block) [
      | inl w ↦ of_node P block w.0 (subst (λ (node : NodeOpening). All (λ (piece : Piece). P piece.block) node.held) w.3 (all dn w.0 w.1)) (sym (ap (λ (o : Option NodeOpening). option_map_or (has_piece block) o false) w.2) ∙ h)
      | inr w ↦ false-true (sym (ap (λ (o : Option NodeOpening). option_map_or (has_piece block) o false) w.1) ∙ h)
    ]

of_option : (P : Block → Type 0) (block : Block) (o : Option Block) → IfSome o P → option_map_or (is_block block) o false ≡ true → P block
of_option P block None p h = false-true h
of_option P block (Some put) p h = subst P (sym (same_block block put h)) p

of_events : (P : Block → Type 0) (block : Block) (story : List Event) → OfStory P story → list_any (gives block) story ≡ true → P block
of_events P block story all h =
    let f : Found (gives block) story = found (gives block) story h in
    of_option P block (given f.item.kind) (All-contains (λ (event : Event). IfSome (given event.kind) P) story f.item all f.there) f.so

of_held : (P : Block → Type 0) (opening : Opening) (story : List Event) (dn : ℕ) (block : Block) → OfNodes P opening.nodes → OfStory P story → holds opening story dn block ≡ true → P block
of_held P opening story dn block had came h =
    elim (held-story (logs opening story) dn block (was_held opening dn block) story h) as (λ r. P block) [
      | inl was ↦ of_disks P block opening.nodes dn had was
      | inr gave ↦ of_events P block story came gave
    ]

-- ---- so each block is as is wanted

unheld-go : (a : Bool) → (a ≡ true → a ≡ false) → a ≡ false
unheld-go true f = f refl
unheld-go false f = refl

alike-go : (a b : Bool) → (a ≡ true → a ≡ b) → (b ≡ true → a ≡ b) → a ≡ b
alike-go true b f g = f refl
alike-go false true f g = g refl
alike-go false false f g = refl

each_so : (opening : Opening) (story : List Event) (number : ℕ) (wanted : Wanted) → OfNodes (IsWanted opening story number wanted) opening.nodes → OfStory (IsWanted opening story number wanted) story → (block : Block) → IsWanted opening story number wanted block
each_so opening story number (Alike dn other) had came block of_it = λ unlogged.
    alike-go (holds opening story dn block) (holds opening story other block)
    (λ h. of_held (IsWanted opening story number (Alike dn other)) opening story dn block had came h of_it unlogged)
    (λ h. of_held (IsWanted opening story number (Alike dn other)) opening story other block had came h of_it unlogged)
each_so opening story number (Unheld dn) had came block of_it =
    unheld-go (holds opening story dn block)
    (λ h. of_held (IsWanted opening story number (Unheld dn)) opening story dn block had came h of_it)

pub each_wanted : (opening : Opening) (story : List Event) (number : ℕ) (wanted : Wanted) → All (HadWanted opening story number wanted) opening.nodes → OfStory (IsWanted opening story number wanted) story → (block : Block) → IsWanted opening story number wanted block
unfolding HadWanted
each_wanted opening story number wanted had came = each_so opening story number wanted had came

given_so : (P : Block → Type 0) (o : Option Block) → ((block : Block) → P block) → IfSome o P
given_so P None each = tt
given_so P (Some block) each = each block

pub wanted_nodes : (opening : Opening) (story : List Event) (number : ℕ) (wanted : Wanted) → ((block : Block) → IsWanted opening story number wanted block) → All (HadWanted opening story number wanted) opening.nodes
unfolding HadWanted
wanted_nodes opening story number wanted each k d below = λ j e within. each (get_or (get_or opening.nodes k d).held j e).block

pub wanted_story : (P : Block → Type 0) (story : List Event) → ((block : Block) → P block) → OfStory P story
wanted_story P story each k d below = given_so P (given (get_or story k d).kind) each
