-- What links lead through stays where other nodes change, falls into two parts, and is joined again.
use Rattle.std.proofs.Common.{◌≡◌, ◌≢◌, ℕ, suc, cond, true, List, [], ◌∷◌, ◌++◌, length, refl, sym, ap, ◌∙◌, subst, Option, Some, None, is_some}
use Rattle.std.proofs.lemmas.Option.{same_Some, slice_get_within}
use Rattle.std.proofs.lemmas.List.{length-set}
use Rattle.std.specs.List.{slice_get}
use Rattle.oz_epochs.specs.declared.node.Node.{Node}
use Rattle.oz_epochs.specs.declared.node.Node.TheVariants.{Used, Spare}
use Rattle.oz_epochs.specs.declared.node.Linked.{Linked}
use Rattle.oz_epochs.specs.Epochs.{EpochEntry, IsAway, NoSlotTwice}
use Rattle.oz_epochs.specs.Links.{IsChain, entry_of, entries_from, linked, with_next, with_prev, IsUsed}
use Rattle.oz_epochs.specs.Nodes.{Keeps}
use Rattle.oz_epochs.proofs.Lists.{slice_get-set_same, slice_get-set_other}

module _ {K : Type 0} where
  -- the nodes of the entries are the same
  abbrev pub Agree : List (Node K) → List (Node K) → List (EpochEntry K) → Type 0
  Agree nodes after es = (s : ℕ) → (IsAway s es → ⊥) → slice_get after s ≡ slice_get nodes s

  pub chain_same : (nodes after : List (Node K)) (before here : Option ℕ) (es : List (EpochEntry K)) (last end : Option ℕ)
      → Agree nodes after es → IsChain nodes before here es last end → IsChain after before here es last end
  chain_same nodes after before here [] last end agree c = c
  chain_same nodes after before here (e ∷ es) last end agree c =
      (c.0, (c.1.0, agree e.slot (λ away. away.0 refl) ∙ c.1.1, chain_same nodes after (Some e.slot) c.1.0 es last end (λ s among. agree s (λ away. among away.1)) c.1.2))

  pub chain_kept : (nodes after : List (Node K)) (before here : Option ℕ) (es : List (EpochEntry K)) (last end : Option ℕ)
      → Keeps nodes after → IsChain nodes before here es last end → IsChain after before here es last end
  chain_kept nodes after before here [] last end keeps c = c
  chain_kept nodes after before here (e ∷ es) last end keeps c =
      (c.0, (c.1.0, keeps e.slot _ c.1.1, chain_kept nodes after (Some e.slot) c.1.0 es last end keeps c.1.2))

  pub spare_is_away : (nodes : List (Node K)) (before here : Option ℕ) (es : List (EpochEntry K)) (last end : Option ℕ) (s : ℕ) (next : Option ℕ)
      → IsChain nodes before here es last end → slice_get nodes s ≡ Some (Spare next) → IsAway s es
  spare_is_away nodes before here [] last end s next c at = tt
  spare_is_away nodes before here (e ∷ es) last end s next c at =
      ((λ is. let used = c.1.1 in let same : slice_get nodes e.slot ≡ slice_get nodes s = ap (slice_get nodes) is in cc), spare_is_away nodes (Some e.slot) c.1.0 es last end s next c.1.2 at)

  pub chain_split : (nodes : List (Node K)) (before here : Option ℕ) (xs ys : List (EpochEntry K)) (last end : Option ℕ)
      → IsChain nodes before here (xs ++ ys) last end → (m : Option ℕ) × (n : Option ℕ) × IsChain nodes before here xs m n × IsChain nodes m n ys last end
  chain_split nodes before here [] ys last end c = (before, here, (refl, refl), c)
  chain_split nodes before here (e ∷ xs) ys last end c =
      let rest = chain_split nodes (Some e.slot) c.1.0 xs ys last end c.1.2 in (rest.0, rest.1, (c.0, (c.1.0, c.1.1, rest.2)), rest.3)

  pub chain_join : (nodes : List (Node K)) (before here : Option ℕ) (xs ys : List (EpochEntry K)) (m n last end : Option ℕ)
      → IsChain nodes before here xs m n → IsChain nodes m n ys last end → IsChain nodes before here (xs ++ ys) last end
  chain_join nodes before here [] ys m n last end c d =
      subst (λ k. IsChain nodes k here ys last end) c.1 (subst (λ k. IsChain nodes m k ys last end) (sym c.0) d)
  chain_join nodes before here (e ∷ xs) ys m n last end c d =
      (c.0, (c.1.0, c.1.1, chain_join nodes (Some e.slot) c.1.0 xs ys m n last end c.1.2 d))

  pub entries_from_chain : (nodes : List (Node K)) (before here : Option ℕ) (es : List (EpochEntry K)) (last end : Option ℕ)
      → IsChain nodes before here es last end → entries_from nodes (length es) here ≡ es
  entries_from_chain nodes before here [] last end c = refl
  entries_from_chain nodes before here (e ∷ es) last end c =
      ap (entries_from nodes (suc (length es))) c.0
      ∙ ap (λ o. entry_of e.slot o (entries_from nodes (length es))) c.1.1
      ∙ ap (λ rest. e ∷ rest) (entries_from_chain nodes (Some e.slot) c.1.0 es last end c.1.2)

  -- the last of the entries is among them, and its node is in use
  last_among : (nodes : List (Node K)) (before here : Option ℕ) (e : EpochEntry K) (es : List (EpochEntry K)) (last end : Option ℕ) (s : ℕ)
      → IsChain nodes before here (e ∷ es) last end → last ≡ Some s → IsUsed nodes s × (IsAway s (e ∷ es) → ⊥)
  last_among nodes before here e [] last end s c is =
      let same : e.slot ≡ s = same_Some e.slot s (sym c.1.2.1 ∙ is) in
      ((_, ap (slice_get nodes) (sym same) ∙ c.1.1), (λ away. away.0 same))
  last_among nodes before here e (f ∷ es) last end s c is =
      let rest = last_among nodes (Some e.slot) c.1.0 f es last end s c.1.2 is in (rest.0, (λ away. rest.1 away.1))

  pub last_used : (nodes : List (Node K)) (here : Option ℕ) (es : List (EpochEntry K)) (last end : Option ℕ) (s : ℕ)
      → IsChain nodes None here es last end → last ≡ Some s → IsUsed nodes s × (IsAway s es → ⊥)
  last_used nodes here [] last end s c is = let none = c.1 in cc
  last_used nodes here (e ∷ es) last end s c is = last_among nodes None here e es last end s c is

  last_is_some : (nodes : List (Node K)) (before here : Option ℕ) (e : EpochEntry K) (es : List (EpochEntry K)) (last end : Option ℕ)
      → IsChain nodes before here (e ∷ es) last end → is_some last ≡ true
  last_is_some nodes before here e [] last end c = ap is_some c.1.2.1
  last_is_some nodes before here e (f ∷ es) last end c = last_is_some nodes (Some e.slot) c.1.0 f es last end c.1.2

  pub first_used : (nodes : List (Node K)) (before here : Option ℕ) (es : List (EpochEntry K)) (last : Option ℕ) (s : ℕ)
      → IsChain nodes before here es last None → here ≡ Some s → IsUsed nodes s × (IsAway s es → ⊥)
  first_used nodes before here [] last s c is = let none = c.0 in cc
  first_used nodes before here (e ∷ es) last s c is =
      let same : e.slot ≡ s = same_Some e.slot s (sym c.0 ∙ is) in
      ((_, ap (slice_get nodes) (sym same) ∙ c.1.1), (λ away. away.0 same))

  linked_other : (nodes : List (Node K)) (s t : ℕ) (o : Option (Node K)) (f : Linked K → Linked K) → s ≢ t → slice_get (linked nodes s o f) t ≡ slice_get nodes t
  linked_other nodes s t (Some (Used n)) f other = slice_get-set_other nodes s t _ other
  linked_other nodes s t (Some (Spare next)) f other = refl
  linked_other nodes s t None f other = refl

  length-linked : (nodes : List (Node K)) (s : ℕ) (o : Option (Node K)) (f : Linked K → Linked K) → length (linked nodes s o f) ≡ length nodes
  length-linked nodes s (Some (Used n)) f = length-set nodes s _
  length-linked nodes s (Some (Spare next)) f = refl
  length-linked nodes s None f = refl

  pub with_next_other : (nodes : List (Node K)) (m n : Option ℕ) (s : ℕ) → (m ≡ Some s → ⊥) → slice_get (with_next nodes m n) s ≡ slice_get nodes s
  with_next_other nodes None n s other = refl
  with_next_other nodes (Some p) n s other = linked_other nodes p s (slice_get nodes p) _ (λ is. other (ap Some is))

  pub with_prev_other : (nodes : List (Node K)) (m n : Option ℕ) (s : ℕ) → (m ≡ Some s → ⊥) → slice_get (with_prev nodes m n) s ≡ slice_get nodes s
  with_prev_other nodes None n s other = refl
  with_prev_other nodes (Some p) n s other = linked_other nodes p s (slice_get nodes p) _ (λ is. other (ap Some is))

  pub length-with_next : (nodes : List (Node K)) (m n : Option ℕ) → length (with_next nodes m n) ≡ length nodes
  length-with_next nodes None n = refl
  length-with_next nodes (Some p) n = length-linked nodes p (slice_get nodes p) _

  pub length-with_prev : (nodes : List (Node K)) (m n : Option ℕ) → length (with_prev nodes m n) ≡ length nodes
  length-with_prev nodes None n = refl
  length-with_prev nodes (Some p) n = length-linked nodes p (slice_get nodes p) _

  -- the node at the slot, linked anew
  with_next_at : (nodes : List (Node K)) (s : ℕ) (n : Option ℕ) (l : Linked K) → slice_get nodes s ≡ Some (Used l) → slice_get (with_next nodes (Some s) n) s ≡ Some (Used (record l { next = n }))
  with_next_at nodes s n l at =
      let f : Linked K → Linked K = λ k. record k { next = n } in
      ap (λ o. slice_get (linked nodes s o f) s) at ∙ slice_get-set_same nodes s _ (slice_get_within nodes s _ at)

  with_prev_at : (nodes : List (Node K)) (s : ℕ) (n : Option ℕ) (l : Linked K) → slice_get nodes s ≡ Some (Used l) → slice_get (with_prev nodes (Some s) n) s ≡ Some (Used (record l { prev = n }))
  with_prev_at nodes s n l at =
      let f : Linked K → Linked K = λ k. record k { prev = n } in
      ap (λ o. slice_get (linked nodes s o f) s) at ∙ slice_get-set_same nodes s _ (slice_get_within nodes s _ at)

  -- the last of some entries leads elsewhere
  next_of_some : (nodes : List (Node K)) (before here : Option ℕ) (e : EpochEntry K) (es : List (EpochEntry K)) (last end n : Option ℕ)
      → IsChain nodes before here (e ∷ es) last end → NoSlotTwice (e ∷ es) → IsChain (with_next nodes last n) before here (e ∷ es) last n
  next_of_some nodes before here e [] last end n c once =
      let is : last ≡ Some e.slot = c.1.2.1 in
      (c.0, (n, ap (λ k. slice_get (with_next nodes k n) e.slot) is ∙ with_next_at nodes e.slot n _ c.1.1, (refl, is)))
  next_of_some nodes before here e (f ∷ es) last end n c once =
      let other : last ≡ Some e.slot → ⊥ = λ is. (last_among nodes (Some e.slot) c.1.0 f es last end e.slot c.1.2 is).1 once.0 in
      (c.0, (c.1.0, with_next_other nodes last n e.slot other ∙ c.1.1, next_of_some nodes (Some e.slot) c.1.0 f es last end n c.1.2 once.1))

  pub chain_next : (nodes : List (Node K)) (here : Option ℕ) (es : List (EpochEntry K)) (last end n : Option ℕ)
      → IsChain nodes None here es last end → NoSlotTwice es → IsChain (with_next nodes last n) None (cond (is_some last) here n) es last n
  chain_next nodes here [] last end n c once = let none : last ≡ None = c.1 in (ap (λ k. cond (is_some k) here n) none, none)
  chain_next nodes here (e ∷ es) last end n c once =
      subst (λ b. IsChain (with_next nodes last n) None (cond b here n) (e ∷ es) last n) (sym (last_is_some nodes None here e es last end c))
      (next_of_some nodes None here e es last end n c once)

  -- the first of some entries leads back elsewhere
  pub chain_prev : (nodes : List (Node K)) (before here : Option ℕ) (es : List (EpochEntry K)) (last m : Option ℕ)
      → IsChain nodes before here es last None → NoSlotTwice es → IsChain (with_prev nodes here m) m here es (cond (is_some here) last m) None
  chain_prev nodes before here [] last m c once = let none : here ≡ None = c.0 in (none, ap (λ k. cond (is_some k) last m) none)
  chain_prev nodes before here (e ∷ es) last m c once =
      let after : List (Node K) = with_prev nodes here m in
      let agree : Agree nodes after es = λ s among. with_prev_other nodes here m s (λ is. among (subst (λ k. IsAway k es) (same_Some e.slot s (sym c.0 ∙ is)) once.0)) in
      subst (λ b. IsChain after m here (e ∷ es) (cond b last m) None) (sym (ap is_some c.0))
      (c.0, (c.1.0, ap (λ k. slice_get (with_prev nodes k m) e.slot) c.0 ∙ with_prev_at nodes e.slot m _ c.1.1, chain_same nodes after (Some e.slot) c.1.0 es last None agree c.1.2))
