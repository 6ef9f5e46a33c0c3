-- How the nodes of a block are linked, for private calls and the invariant of a list.
use Rattle.std.specs.Prelude.{◌≡◌, ◌≢◌, ℕ, zero, suc, ⊤, List, [], ◌∷◌, slice_get, slice_set, Option, Some, None}
use Rattle.oz_epochs.specs.declared.node.Node.{Node}
use Rattle.oz_epochs.specs.declared.node.Node.TheVariants.{Used, Spare}
use Rattle.oz_epochs.specs.declared.node.Linked.{Linked}
use Rattle.oz_epochs.specs.Epochs.{EpochEntry, entry}

module _ {K : Type 0} where
  abbrev pub node : Option ℕ → Option ℕ → ℕ → K → Node K
  node prev next epoch key = Used (record { prev = prev; next = next; epoch = epoch; key = key })

  -- From the slot `here` on the links lead through the entries, and at the last of them to the slot `after`;
  -- the slot before the first is `before`.
  abbrev pub IsChain : List (Node K) → Option ℕ → Option ℕ → List (EpochEntry K) → Option ℕ → Option ℕ → Type 0
  IsChain nodes before here [] last after = (here ≡ after) × (last ≡ before)
  IsChain nodes before here (e ∷ es) last after =
      (here ≡ Some e.slot) × ((next : Option ℕ) × (slice_get nodes e.slot ≡ Some (node before next e.epoch e.key))
      × IsChain nodes (Some e.slot) next es last after)

  -- From the slot `here` on the links lead through spare nodes, and then to none.
  abbrev pub AreSpare : List (Node K) → Option ℕ → List ℕ → Type 0
  AreSpare nodes here [] = here ≡ None
  AreSpare nodes here (slot ∷ slots) =
      (here ≡ Some slot) × ((next : Option ℕ) × (slice_get nodes slot ≡ Some (Spare next)) × AreSpare nodes next slots)

  -- the entry of a node in use, and those that its next leads to
  abbrev pub entry_of : ℕ → Option (Node K) → (Option ℕ → List (EpochEntry K)) → List (EpochEntry K)
  entry_of slot (Some (Used n)) rest = entry slot n.epoch n.key ∷ rest n.next
  entry_of slot (Some (Spare next)) rest = []
  entry_of slot None rest = []

  -- so many entries, read along the links
  abbrev pub entries_from : List (Node K) → ℕ → Option ℕ → List (EpochEntry K)
  entries_from nodes zero here = []
  entries_from nodes (suc n) None = []
  entries_from nodes (suc n) (Some slot) = entry_of slot (slice_get nodes slot) (entries_from nodes n)

  -- the nodes with one of them linked anew, where it is in use
  abbrev pub linked : List (Node K) → ℕ → Option (Node K) → (Linked K → Linked K) → List (Node K)
  linked nodes slot (Some (Used n)) f = slice_set nodes slot (Used (f n))
  linked nodes slot (Some (Spare next)) f = nodes
  linked nodes slot None f = nodes

  abbrev pub with_next : List (Node K) → Option ℕ → Option ℕ → List (Node K)
  with_next nodes None next = nodes
  with_next nodes (Some slot) next = linked nodes slot (slice_get nodes slot) (λ n. record n { next = next })

  abbrev pub with_prev : List (Node K) → Option ℕ → Option ℕ → List (Node K)
  with_prev nodes None prev = nodes
  with_prev nodes (Some slot) prev = linked nodes slot (slice_get nodes slot) (λ n. record n { prev = prev })

  abbrev pub IsUsed : List (Node K) → ℕ → Type 0
  IsUsed nodes slot = (n : Linked K) × (slice_get nodes slot ≡ Some (Used n))

-- no slot of the list is this one
abbrev pub IsNoneOf : ℕ → List ℕ → Type 0
IsNoneOf slot [] = ⊤
IsNoneOf slot (s ∷ ss) = (s ≢ slot) × IsNoneOf slot ss

abbrev pub NoneTwice : List ℕ → Type 0
NoneTwice [] = ⊤
NoneTwice (s ∷ ss) = IsNoneOf s ss × NoneTwice ss
