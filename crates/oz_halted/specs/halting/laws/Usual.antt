-- An opening with another state of one replica of a datanode.
use Rattle.std.proofs.Common.{◌≡◌, ◌≢◌, ℕ, zero, suc, ◌==◌, max, Bool, true, false, not, ◌&&◌, ◌||◌, List, [], ◌∷◌}
use Rattle.std.proofs.Common.{map, fold, Option, None, Some, cond, refl, sym, ◌∙◌, ap, subst}
use mathlib.Core.Bool.{false≢true}
use Rattle.std.proofs.lemmas.Bool.{eqb-true, eq-eqb, ne_eqb}
use Rattle.std.specs.List.{list_any, slice_get}
use Rattle.std.specs.Option.{option_map, option_map_or}
use Rattle.oz_container.specs.declared.state.State.{State}
use Rattle.oz_fields.specs.declared.block.Block.{Block}
use Rattle.oz_entries.specs.declared.row.BlockRow.{BlockRow}
use Rattle.oz_entries.specs.Node.{Node, is_held}
use Rattle.oz_core.specs.declared.opening.NodeOpening.{NodeOpening}
use Rattle.oz_core.specs.declared.opening.Opening.{Opening}
use Rattle.oz_core.specs.declared.opening.Replica.{Replica}
use Rattle.oz_core.specs.Contents.{OpeningBytes}
use Rattle.oz_core.specs.Nodes.{is_open, closes_at_opening, was_closed}
use Rattle.oz_kept.specs.reopened.Left.{greatest_in, was_greatest}
use Rattle.oz_halted.specs.Further.{IsSameButForAState}
use Rattle.oz_halted.specs.halting.Leaves.{GivenBytes, IsOpenedOf}
use Rattle.oz_halted.specs.halting.Story.{AreSameButForAState}
use Rattle.oz_halted.specs.laws.Lasting.{held_as}

-- ---- one item of a list

unfoldable pub replaced : {A : Type 0} → List A → ℕ → A → List A
replaced [] k x = []
replaced (y ∷ l) zero x = x ∷ l
replaced (y ∷ l) (suc k) x = y ∷ replaced l k x

get_replaced : {A : Type 0} (l : List A) (k : ℕ) (x y : A) → slice_get l k ≡ Some y → slice_get (replaced l k x) k ≡ Some x
unfolding replaced
get_replaced [] k x y there = absurd cc
get_replaced (z ∷ l) zero x y there = refl
get_replaced (z ∷ l) (suc k) x y there = get_replaced l k x y there

-- ---- the state of a replica

module _ (container : ℕ) (state : State) where
  abbrev pub with_state : Replica → Replica
  with_state replica = cond (replica.container == container) (record replica { state = state }) replica

  abbrev pub new_replicas : List Replica → List Replica
  new_replicas replicas = record { container = container; state = state; greatest = 0 } ∷ map with_state replicas

  abbrev shuts : ℕ → Replica → Bool
  shuts number replica = replica.container == number && not (is_open replica.state)

  other_state : (number : ℕ) → number ≢ container → (replica : Replica) → shuts number (with_state replica) ≡ shuts number replica
  other_state number apart replica = by (replica.container == container) refl
    where
      by : (t : Bool) → (replica.container == container) ≡ t → shuts number (cond t (record replica { state = state }) replica) ≡ shuts number replica
      by false e = refl
      by true e =
          let none : (replica.container == number) ≡ false = ne_eqb replica.container number (λ same. apart (sym same
          ∙ eqb-true replica.container container e)) in
          ap (λ (t : Bool). t && not (is_open state)) none ∙ sym (ap (λ (t : Bool). t && not (is_open replica.state)) none)

  others_shut : (number : ℕ) → number ≢ container → (replicas : List Replica)
      → list_any (shuts number) (new_replicas replicas) ≡ list_any (shuts number) replicas
  others_shut number apart replicas =
      ap (λ (t : Bool). (t && not (is_open state)) || list_any (shuts number) (map with_state replicas)) (ne_eqb container number (λ same. apart (sym same)))
      ∙ each replicas
    where
      each : (l : List Replica) → list_any (shuts number) (map with_state l) ≡ list_any (shuts number) l
      each [] = refl
      each (replica ∷ l) =
          ap (λ (t : Bool). t || list_any (shuts number) (map with_state l)) (other_state number apart replica)
          ∙ ap (λ (t : Bool). shuts number replica || t) (each l)

  own_state : (replica : Replica) → not (is_open state) ≡ false → shuts container (with_state replica) ≡ false
  own_state replica opens = by (replica.container == container) refl
    where
      none : (t : Bool) → (t && not (is_open state)) ≡ false
      none true = opens
      none false = refl

      by : (t : Bool) → (replica.container == container) ≡ t → shuts container (cond t (record replica { state = state }) replica) ≡ false
      by true e = none (replica.container == container)
      by false e = ap (λ (t : Bool). t && not (is_open replica.state)) e

  own_shut : (replicas : List Replica) → list_any (shuts container) (new_replicas replicas) ≡ not (is_open state)
  own_shut replicas = by (not (is_open state)) refl
    where
      each : not (is_open state) ≡ false → (l : List Replica) → list_any (shuts container) (map with_state l) ≡ false
      each opens [] = refl
      each opens (replica ∷ l) = ap (λ (t : Bool). t || list_any (shuts container) (map with_state l)) (own_state replica opens) ∙ each opens l

      first : (t : Bool) → list_any (shuts container) (new_replicas replicas) ≡ (not (is_open state)) || list_any (shuts container) (map with_state replicas)
      first t = ap (λ (t : Bool). (t && not (is_open state)) || list_any (shuts container) (map with_state replicas)) (eq-eqb container container refl)

      by : (t : Bool) → not (is_open state) ≡ t → list_any (shuts container) (new_replicas replicas) ≡ not (is_open state)
      by true e = first true ∙ ap (λ (t : Bool). t || list_any (shuts container) (map with_state replicas)) e ∙ sym e
      by false e = first true ∙ ap (λ (t : Bool). t || list_any (shuts container) (map with_state replicas)) e ∙ each e replicas ∙ sym e

  abbrev step : ℕ → ℕ → Replica → ℕ
  step number most replica = cond (replica.container == number) (max most replica.greatest) most

  greatest_same : (number : ℕ) (replicas : List Replica) → fold (step number) 0 (new_replicas replicas) ≡ fold (step number) 0 replicas
  greatest_same number replicas = ap (λ (n : ℕ). fold (step number) n (map with_state replicas)) (nothing (container == number)) ∙ each replicas 0
    where
      nothing : (t : Bool) → cond t (max 0 0) 0 ≡ 0
      nothing true = refl
      nothing false = refl

      one : (most : ℕ) (replica : Replica) → step number most (with_state replica) ≡ step number most replica
      one most replica = by (replica.container == container)
        where
          by : (t : Bool) → step number most (cond t (record replica { state = state }) replica) ≡ step number most replica
          by true = refl
          by false = refl

      each : (l : List Replica) (most : ℕ) → fold (step number) most (map with_state l) ≡ fold (step number) most l
      each [] most = refl
      each (replica ∷ l) most = each l (step number most (with_state replica)) ∙ ap (λ (n : ℕ). fold (step number) n l) (one most replica)

-- ---- the opening

module _ (left : Opening) (bytes : OpeningBytes) (dn container : ℕ) (was node : Node) (given : GivenBytes)
    (opened : IsOpenedOf left bytes dn node given) (same : AreSameButForAState container was node) where
  abbrev state : State
  state = was.states container

  abbrev new_node : NodeOpening
  new_node = record opened.opened { replicas = new_replicas container state opened.opened.replicas }

  -- the same, but that the replica has the state of the other node
  abbrev pub usual : Opening
  usual = record left { nodes = replaced left.nodes dn new_node }

  there : slice_get usual.nodes dn ≡ Some new_node
  there = get_replaced left.nodes dn new_node opened.opened opened.there

  pieces : option_map (λ (node : NodeOpening). node.held) (slice_get left.nodes dn) ≡ option_map (λ (node : NodeOpening). node.held) (slice_get usual.nodes dn)
  pieces =
      ap (option_map (λ (node : NodeOpening). node.held)) opened.there
      ∙ sym (ap (option_map (λ (node : NodeOpening). node.held)) there)

  closed_others : (other : ℕ) → other ≢ container → was_closed left dn other ≡ was_closed usual dn other
  closed_others other apart =
      ap (λ (o : Option NodeOpening). option_map_or (closes_at_opening other) o false) opened.there
      ∙ sym (ap (λ (o : Option NodeOpening). option_map_or (closes_at_opening other) o false) there
      ∙ others_shut container state other apart opened.opened.replicas)

  closed_own : was_closed usual dn container ≡ not (is_open state)
  closed_own =
      ap (λ (o : Option NodeOpening). option_map_or (closes_at_opening container) o false) there
      ∙ own_shut container state opened.opened.replicas

  greatest_all : (other : ℕ) → was_greatest left dn other ≡ was_greatest usual dn other
  greatest_all other =
      ap (λ (o : Option NodeOpening). option_map_or (greatest_in other) o 0) opened.there
      ∙ sym (ap (λ (o : Option NodeOpening). option_map_or (greatest_in other) o 0) there
      ∙ greatest_same container state other opened.opened.replicas)

  pub is_same : IsSameButForAState dn container usual left
  is_same = record { held = pieces; closed = closed_others; greatest = greatest_all }

  held_alike : (block : Block) → is_held node block ≡ is_held was block
  held_alike block = ap is_there (same.rows block)
    where
      is_there : Option BlockRow → Bool
      is_there None = false
      is_there (Some row) = true

  pub usual_is_opened : IsOpenedOf usual bytes dn was given
  usual_is_opened = record {
    opened = new_node;
    there = there;
    held = λ block. sym (held_as dn block left usual pieces) ∙ opened.held block ∙ held_alike block;
    lengths = λ piece row among found. opened.lengths piece row among (same.rows piece.block ∙ found);
    closed = λ other. by other (other == container) refl;
    greatest = λ other. sym (greatest_all other) ∙ opened.greatest other ∙ same.greatest other;
    gives = λ block held. opened.gives block (held_alike block ∙ held);
  }
    where
      by : (other : ℕ) (t : Bool) → (other == container) ≡ t → was_closed usual dn other ≡ not (is_open (was.states other))
      by other true e =
          subst (λ (n : ℕ). was_closed usual dn n ≡ not (is_open (was.states n))) (sym (eqb-true other container e)) closed_own
      by other false e =
          let apart : other ≢ container = λ is. false≢true (sym e ∙ eq-eqb other container is) in
          sym (closed_others other apart) ∙ opened.closed other ∙ ap (λ (s : State). not (is_open s)) (same.states other apart)
