-- The greatest transactions of an opening are those of the datanodes.
use Rattle.std.proofs.Common.{◌≡◌, ℕ, eqb, eqb-true, Bool, true, false, ◌||◌, cond, fold, max, List, [], ◌∷◌}
use Rattle.std.proofs.Common.{Option, None, Some, is_some, refl, sym, ◌∙◌, ap, arith}
use Rattle.std.proofs.Math.Nat.{le-max_right, max-eq_left, max-eq_right}
use Rattle.std.proofs.lemmas.Bool.{eq-eqb, false≢true}
use Rattle.std.specs.List.{list_any}
use Rattle.std.specs.Option.{option_map_or}
use Rattle.oz_core.specs.declared.opening.Replica.{Replica}
use Rattle.oz_entries.specs.Held.{HeldView, node_of, replica_of}
use Rattle.oz_entries.specs.Node.{Node}
use Rattle.oz_entries.specs.declared.replica.Replica.{Replica as KeptReplica}
use Rattle.oz_kept.specs.reopened.Left.{greatest_in}
use Rattle.oz_nodes_loaded.specs.store_opening.Openings.{opened_node, replicas_of}
use Rattle.oz_nodes_loaded.specs.store_opening.laws.Named.{containers_in, replica_listed}

module _ (node : Node) (container : ℕ) where
  abbrev greater : ℕ → Replica → ℕ
  greater most replica = cond (eqb replica.container container) (max most replica.greatest) most

  twice : (t : Bool) (most : ℕ) → cond t (max (max most (node.greatest container)) (node.greatest container)) (max most (node.greatest container))
      ≡ max most (node.greatest container)
  twice true most = max-eq_left (le-max_right most (node.greatest container))
  twice false most = refl

  -- however often its replica is listed, it is the same
  all_listed : (containers : List ℕ) (most : ℕ) → fold greater most (replicas_of node containers)
      ≡ cond (list_any (λ (other : ℕ). eqb container other) containers) (max most (node.greatest container)) most
  all_listed [] most = refl
  all_listed (other ∷ containers) most = by (eqb other container) refl (eqb container other) refl
      (all_listed containers (max most (node.greatest container))) (all_listed containers most)
    where
      others : List ℕ → Bool
      others l = list_any (λ (o : ℕ). eqb container o) l

      by : (t : Bool) → eqb other container ≡ t → (u : Bool) → eqb container other ≡ u
          → fold greater (max most (node.greatest container)) (replicas_of node containers)
          ≡ cond (others containers) (max (max most (node.greatest container)) (node.greatest container)) (max most (node.greatest container))
          → fold greater most (replicas_of node containers) ≡ cond (others containers) (max most (node.greatest container)) most
          → fold greater (cond (eqb other container) (max most (node.greatest other)) most) (replicas_of node containers)
          ≡ cond (eqb container other || list_any (λ (o : ℕ). eqb container o) containers) (max most (node.greatest container)) most
      by true same true also here there =
          ap (λ (t : Bool). fold greater (cond t (max most (node.greatest other)) most) (replicas_of node containers)) same
          ∙ (ap (λ (n : ℕ). fold greater (max most (node.greatest n)) (replicas_of node containers)) (eqb-true other container same)
          ∙ (here
          ∙ (twice (others containers) most
          ∙ sym (ap (λ (t : Bool). cond (t || others containers) (max most (node.greatest container)) most) also))))
      by true same false not here there = absurd (false≢true (sym not ∙ eq-eqb container other (sym (eqb-true other container same))))
      by false not true same here there = absurd (false≢true (sym not ∙ eq-eqb other container (sym (eqb-true container other same))))
      by false not false also here there =
          ap (λ (t : Bool). fold greater (cond t (max most (node.greatest other)) most) (replicas_of node containers)) not
          ∙ (there
          ∙ sym (ap (λ (t : Bool). cond (t || others containers) (max most (node.greatest container)) most) also))

-- one that isn't listed has none
none_listed : (held : HeldView) (container : ℕ) (o : Option KeptReplica) → replica_of held.replicas container ≡ o
    → list_any (λ (other : ℕ). eqb container other) (containers_in held.replicas) ≡ false → (node_of held).greatest container ≡ 0
none_listed held container None is none = ap (λ (o : Option KeptReplica). option_map_or (λ (replica : KeptReplica). replica.greatest) o 0) is
none_listed held container (Some replica) is none =
    absurd (false≢true (sym none ∙ replica_listed held.replicas container (ap (λ (o : Option KeptReplica). is_some o) is)))

pub greatest_as : (held : HeldView) (container : ℕ) → greatest_in container (opened_node held) ≡ (node_of held).greatest container
greatest_as held container =
    all_listed (node_of held) container (containers_in held.replicas) 0
    ∙ by (list_any (λ (other : ℕ). eqb container other) (containers_in held.replicas)) refl
  where
    by : (t : Bool) → list_any (λ (other : ℕ). eqb container other) (containers_in held.replicas) ≡ t
        → cond t (max 0 ((node_of held).greatest container)) 0 ≡ (node_of held).greatest container
    by true is = max-eq_right (omega arith)
    by false is = sym (none_listed held container (replica_of held.replicas container) refl is)
