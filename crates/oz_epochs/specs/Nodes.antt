-- What holds of the nodes of a list at every moment, for private calls and the invariant of a list.
use Rattle.std.specs.Prelude.{◌≡◌, ℕ, ◌+◌, ◌-◌, ◌^◌, ◌<◌, List, length, slice_get, Option, Some, None}
use Rattle.oz_epochs.specs.declared.node.Node.{Node}
use Rattle.oz_epochs.specs.Epochs.{EpochEntry, AreInOrder}
use Rattle.oz_epochs.specs.Links.{IsChain, AreSpare, NoneTwice, entries_from}

module _ {K : Type 0} where
  -- so many spare nodes hang at the slot
  pub record HasSpare (nodes : List (Node K)) (spare_front : Option ℕ) (spare : ℕ) : Type 0 where
    pub slots : List ℕ
    pub linked : AreSpare nodes spare_front slots
    pub once : NoneTwice slots
    pub count : length slots ≡ spare

  -- each node is either in the list, at the place of its entry, or spare
  pub record IsLinked (nodes : List (Node K)) (front back spare_front : Option ℕ) (spare : ℕ)
      (entries : List (EpochEntry K)) : Type 0 where
    pub chain : IsChain nodes None front entries back None
    pub spares : HasSpare nodes spare_front spare
    pub all : length entries + spare ≡ length nodes
    pub fits : length nodes < 2 ^ 64
    pub order : AreInOrder entries

  abbrev pub entries_of : List (Node K) → Option ℕ → ℕ → List (EpochEntry K)
  entries_of nodes front spare = entries_from nodes (length nodes - spare) front

  -- each node that is there stays what it is
  abbrev pub Keeps : List (Node K) → List (Node K) → Type 0
  Keeps nodes after = (slot : ℕ) (n : Node K) → slice_get nodes slot ≡ Some n → slice_get after slot ≡ Some n
