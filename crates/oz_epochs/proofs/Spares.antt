-- Spare nodes stay spare where other nodes change.
use Rattle.std.proofs.Common.{◌≡◌, ℕ, suc, ◌≤◌, List, [], ◌∷◌, ◌++◌, length, refl, sym, ap, ◌∙◌, subst, Option, Some, None, is_some, arith}
use Rattle.std.proofs.lemmas.Option.{same_Some, slice_get_past}
use Rattle.std.specs.List.{slice_get}
use Rattle.std.specs.Prelude.{IsSome}
use Rattle.oz_epochs.specs.declared.node.Node.{Node}
use Rattle.oz_epochs.specs.declared.node.Node.TheVariants.{Spare}
use Rattle.oz_epochs.specs.Links.{AreSpare, IsUsed, IsNoneOf, NoneTwice}
use Rattle.oz_epochs.specs.Nodes.{HasSpare, Keeps}
use Rattle.oz_epochs.proofs.Lists.{slice_get-front, slice_get-end}

module _ {K : Type 0} where
  pub spare_same : (nodes after : List (Node K)) (here : Option ℕ) (ss : List ℕ)
      → ((s : ℕ) → (IsNoneOf s ss → ⊥) → slice_get after s ≡ slice_get nodes s) → AreSpare nodes here ss → AreSpare after here ss
  spare_same nodes after here [] same c = c
  spare_same nodes after here (t ∷ ss) same c =
      (c.0, (c.1.0, same t (λ none. none.0 refl) ∙ c.1.1, spare_same nodes after c.1.0 ss (λ s among. same s (λ none. among none.1)) c.1.2))

  pub spare_kept : (nodes after : List (Node K)) (here : Option ℕ) (ss : List ℕ) → Keeps nodes after → AreSpare nodes here ss → AreSpare after here ss
  spare_kept nodes after here [] keeps c = c
  spare_kept nodes after here (t ∷ ss) keeps c = (c.0, (c.1.0, keeps t _ c.1.1, spare_kept nodes after c.1.0 ss keeps c.1.2))

  pub used_is_none : (nodes : List (Node K)) (here : Option ℕ) (ss : List ℕ) (s : ℕ) → AreSpare nodes here ss → IsUsed nodes s → IsNoneOf s ss
  used_is_none nodes here [] s c used = tt
  used_is_none nodes here (t ∷ ss) s c used =
      ((λ is. let spare = c.1.1 in let at = used.1 in let same : slice_get nodes t ≡ slice_get nodes s = ap (slice_get nodes) is in cc), used_is_none nodes c.1.0 ss s c.1.2 used)

  past_is_none : (nodes : List (Node K)) (here : Option ℕ) (ss : List ℕ) (s : ℕ) → AreSpare nodes here ss → slice_get nodes s ≡ None → IsNoneOf s ss
  past_is_none nodes here [] s c none = tt
  past_is_none nodes here (t ∷ ss) s c none =
      ((λ is. let spare = c.1.1 in let same : slice_get nodes t ≡ slice_get nodes s = ap (slice_get nodes) is in cc), past_is_none nodes c.1.0 ss s c.1.2 none)

  -- the first spare node, and the others
  pub record Taken (nodes : List (Node K)) (slot : ℕ) (next : Option ℕ) (spare : ℕ) : Type 0 where
    pub slots : List ℕ
    pub linked : AreSpare nodes next slots
    pub once : NoneTwice slots
    pub apart : IsNoneOf slot slots
    pub count : suc (length slots) ≡ spare

  first_taken : (nodes : List (Node K)) (here : Option ℕ) (spare slot : ℕ) (next : Option ℕ) (ss : List ℕ)
      → here ≡ Some slot → slice_get nodes slot ≡ Some (Spare next) → AreSpare nodes here ss → NoneTwice ss → length ss ≡ spare → Taken nodes slot next spare
  first_taken nodes here spare slot next [] is at c once count = absurd (let none : here ≡ None = c in cc)
  first_taken nodes here spare slot next (t ∷ ss) is at c once count =
      let same : t ≡ slot = same_Some t slot (sym c.0 ∙ is) in
      let spare_at = c.1.1 in
      let moved : slice_get nodes t ≡ slice_get nodes slot = ap (slice_get nodes) same in
      let onward : c.1.0 ≡ next = cc in
      record {
        slots = ss;
        linked = subst (λ k. AreSpare nodes k ss) onward c.1.2;
        once = once.1;
        apart = subst (λ k. IsNoneOf k ss) same once.0;
        count = count;
      }

  pub taken : (nodes : List (Node K)) (here : Option ℕ) (spare slot : ℕ) (next : Option ℕ)
      → HasSpare nodes here spare → here ≡ Some slot → slice_get nodes slot ≡ Some (Spare next) → Taken nodes slot next spare
  taken nodes here spare slot next h is at = first_taken nodes here spare slot next h.slots is at h.linked h.once h.count

  first_there : (nodes : List (Node K)) (here : Option ℕ) (ss : List ℕ) → AreSpare nodes here ss → 1 ≤ length ss → (s : ℕ) × (next : Option ℕ) × (here ≡ Some s) × (slice_get nodes s ≡ Some (Spare next))
  first_there nodes here [] c some = absurd (omega arith)
  first_there nodes here (t ∷ ss) c some = (t, c.1.0, c.0, c.1.1)

  -- where there is a spare node, the first slot names one
  pub spare_there : (nodes : List (Node K)) (here : Option ℕ) (spare : ℕ) → HasSpare nodes here spare → 1 ≤ spare → IsSome here
  spare_there nodes here spare h some =
      let count = h.count in let first = first_there nodes here h.slots h.linked (omega arith) in ap is_some first.2

  pub spare_first : (nodes : List (Node K)) (here : Option ℕ) (spare slot : ℕ) → HasSpare nodes here spare → 1 ≤ spare → here ≡ Some slot
      → (next : Option ℕ) × (slice_get nodes slot ≡ Some (Spare next))
  spare_first nodes here spare slot h some is =
      let count = h.count in let first = first_there nodes here h.slots h.linked (omega arith) in
      (first.1, ap (slice_get nodes) (same_Some slot first.0 (sym is ∙ first.2)) ∙ first.3)

  pub spare_pushed : (nodes : List (Node K)) (here : Option ℕ) (spare : ℕ) → HasSpare nodes here spare → HasSpare (nodes ++ Spare here ∷ []) (Some (length nodes)) (suc spare)
  spare_pushed nodes here spare h =
      let keeps : Keeps nodes (nodes ++ Spare here ∷ []) = λ s n at. slice_get-front nodes (Spare here ∷ []) s n at in
      record {
        slots = length nodes ∷ h.slots;
        linked = (refl, (here, slice_get-end nodes (Spare here), spare_kept nodes (nodes ++ Spare here ∷ []) here h.slots keeps h.linked));
        once = (past_is_none nodes here h.slots (length nodes) h.linked (slice_get_past nodes (length nodes) (omega arith)), h.once);
        count = ap suc h.count;
      }
