-- What a datanode holds, its disks had, or it was given it.
use Rattle.std.proofs.Common.{◌≡◌, ℕ, Bool, true, false, ◌&&◌, ◌||◌, ◌==◌, cond, List, [], ◌∷◌, map, Option, Some, None, refl, sym, ◌∙◌, ap, ◌⊎◌, inl, inr}
use Rattle.std.proofs.lemmas.Bool.{eqb-true}
use Rattle.std.proofs.lemmas.List.Folds.{list_any-append}
use Rattle.std.proofs.lemmas.Map.Views.{Contains-from_any}
use Rattle.std.specs.List.{list_any, filter_map, cons_option, Contains, slice_get}
use Rattle.std.specs.Option.{option_map_or}
use Rattle.oz_dellog.specs.declared.txn.Txn.{Txn}
use Rattle.oz_fields.specs.declared.block.Block.{Block}
use Rattle.oz_fields.specs.declared.block.Piece.{Piece}
use Rattle.oz_model.specs.Reach.{blocks_of}
use Rattle.oz_core.specs.declared.event.Event.{Event}
use Rattle.oz_core.specs.declared.event.EventKind.{EventKind}
use Rattle.oz_core.specs.declared.event.EventKind.TheVariants as kind
use Rattle.oz_core.specs.declared.opening.NodeOpening.{NodeOpening}
use Rattle.oz_core.specs.declared.opening.Opening.{Opening}
use Rattle.oz_core.specs.Nodes.{is_block, has_piece, was_held, deletes, held_after, holds}
use Rattle.oz_core.specs.Scm.{logs}
use Rattle.oz_core.specs.Stories.{all_told, last_told, newer}
use Rattle.oz_node_law.specs.Words.{given, had_blocks, had_or_given}

abbrev has : Block → List Block → Bool
has block blocks = list_any (is_block block) blocks

false-true : {X : Type 0} → false ≡ true → X
false-true h = absurd (cc)

-- ---- parts of a list

any-cons : {Y : Type 0} (p : Y → Bool) (o : Option Y) (ys : List Y) → list_any p (cons_option o ys) ≡ (option_map_or p o false || list_any p ys)
any-cons p None ys = refl
any-cons p (Some y) ys = refl

pub any_told : {X Y : Type 0} (p : Y → Bool) (h : X → Option Y) (xs : List X) → list_any p (filter_map h xs) ≡ list_any (λ x. option_map_or p (h x) false) xs
any_told p h [] = refl
any_told p h (x ∷ xs) = any-cons p (h x) (filter_map h xs) ∙ ap (λ (b : Bool). option_map_or p (h x) false || b) (any_told p h xs)

pub any_map : {X Y : Type 0} (p : Y → Bool) (f : X → Y) (xs : List X) → list_any p (map f xs) ≡ list_any (λ x. p (f x)) xs
any_map p f [] = refl
any_map p f (x ∷ xs) = ap (λ (b : Bool). p (f x) || b) (any_map p f xs)

-- ---- what a datanode holds was on its disks, or it was given it

or-left : (a b : Bool) → a ≡ true → (a || b) ≡ true
or-left a b h = ap (λ (c : Bool). c || b) h

or-right : (a b : Bool) → b ≡ true → (a || b) ≡ true
or-right true b h = refl
or-right false b h = h

gave-go : (c s : Bool) (was : Bool) → newer (cond (c && s) (Some true) None) was ≡ true → (was ≡ true)
    ⊎ (option_map_or (λ (b : Bool). b) (cond c (Some s) None) false ≡ true)
gave-go true true was h = inr refl
gave-go true false was h = inl h
gave-go false s was h = inl h

took-go : (c was : Bool) → newer (cond c (Some false) None) was ≡ true → was ≡ true
took-go true was h = false-true h
took-go false was h = h

same-test : (block other : Block) (c : Bool)
    → option_map_or (is_block block) (cond c (Some other) None) false ≡ option_map_or (λ (b : Bool). b) (cond c (Some (is_block block other)) None) false
same-test block other true = refl
same-test block other false = refl

gave-one : (block other : Block) (c was : Bool) → newer (cond (c && is_block block other) (Some true) None) was ≡ true → (was ≡ true)
    ⊎ (option_map_or (is_block block) (cond c (Some other) None) false ≡ true)
gave-one block other c was h =
    elim (gave-go c (is_block block other) was h) as
    (λ r. (was ≡ true) ⊎ (option_map_or (is_block block) (cond c (Some other) None) false ≡ true)) [
      | inl w ↦ inl w
      | inr g ↦ inr
          (same-test block other c ∙ g)
    ]

held-step : (txns : List Txn) (dn : ℕ) (block : Block) (was : Bool) (kind : EventKind) → newer (held_after txns dn block kind) was ≡ true → (was ≡ true)
    ⊎ (option_map_or (is_block block) (given dn kind) false ≡ true)
held-step txns dn block was (kind.Put other put id first count) h = gave-one block put (other == dn) was h
held-step txns dn block was (kind.Copy source target copied) h = gave-one block copied (target == dn) was h
held-step txns dn block was (kind.Delete other number locals) h = inl (took-go (other == dn && deletes txns number locals block) was h)
held-step txns dn block was (kind.Wipe other) h = inl (took-go (other == dn) was h)
held-step txns dn block was _ h = inl h

held-story : (txns : List Txn) (dn : ℕ) (block : Block) (was : Bool) (story : List Event) → last_told (held_after txns dn block) was story ≡ true
    → (was ≡ true) ⊎ (list_any (λ (event : Event). option_map_or (is_block block) (given dn event.kind) false) story ≡ true)
held-story txns dn block was [] h = inl h
held-story txns dn block was (event ∷ story) h =
    elim (held-story txns dn block (newer (held_after txns dn block event.kind) was) story h) as
    (λ r. (was ≡ true) ⊎ (list_any (λ (e : Event). option_map_or (is_block block) (given dn e.kind) false) (event ∷ story) ≡ true)) [
      | inl now ↦ elim (held-step txns dn block was event.kind now) as
          (λ r. (was ≡ true) ⊎ (list_any (λ (e : Event). option_map_or (is_block block) (given dn e.kind) false) (event ∷ story) ≡ true)) [
            | inl w ↦ inl w
            | inr g ↦ inr (or-left (option_map_or (is_block block) (given dn event.kind) false)
                (list_any (λ (e : Event). option_map_or (is_block block) (given dn e.kind) false) story) g)
          ]
      | inr later ↦ inr (or-right (option_map_or (is_block block) (given dn event.kind) false)
          (list_any (λ (e : Event). option_map_or (is_block block) (given dn e.kind) false) story) later)
    ]

had-go : (block : Block) (o : Option NodeOpening)
    → option_map_or (has_piece block) o false ≡ has block (option_map_or (λ (node : NodeOpening). blocks_of node.held) o [])
had-go block None = refl
had-go block (Some node) = sym (any_map (is_block block) (λ (piece : Piece). piece.block) node.held)

pub held_among : (opening : Opening) (story : List Event) (dn : ℕ) (block : Block) → holds opening story dn block ≡ true
    → has block (had_or_given opening story dn) ≡ true
held_among opening story dn block h =
    list_any-append (is_block block) (had_blocks opening dn) (all_told (given dn) story)
    ∙ (elim (held-story (logs opening story) dn block (was_held opening dn block) story h) as
    (λ r. (has block (had_blocks opening dn) || has block (all_told (given dn) story)) ≡ true) [
      | inl was ↦ or-left (has block (had_blocks opening dn)) (has block (all_told (given dn) story)) (sym (had-go block (slice_get opening.nodes dn)) ∙ was)
      | inr came ↦ or-right (has block (had_blocks opening dn)) (has block (all_told (given dn) story))
          (any_told (is_block block) (λ (event : Event). given dn event.kind) story ∙ came)
    ])

-- ---- blocks that a test takes for one are one

both : (a b : Bool) → (a && b) ≡ true → (a ≡ true) × (b ≡ true)
both true true h = (refl, refl)
both true false h = false-true h
both false b h = false-true h

abbrev a_block : ℕ → ℕ → Block
a_block container local = record { container = container; local = local }

same_block : (block other : Block) → is_block block other ≡ true → block ≡ other
same_block block other h =
    let two : ((other.container == block.container) ≡ true)
    × ((other.local == block.local) ≡ true) = both (other.container == block.container) (other.local == block.local) h in
    ap (λ (n : ℕ). a_block n block.local) (sym (eqb-true other.container block.container two.0))
    ∙ ap (λ (n : ℕ). a_block other.container n) (sym (eqb-true other.local block.local two.1))

pub may_hold : (opening : Opening) (story : List Event) (dn : ℕ) (block : Block) → holds opening story dn block ≡ true
    → Contains (had_or_given opening story dn) block
may_hold opening story dn block h = Contains-from_any same_block block (had_or_given opening story dn) (held_among opening story dn block h)
