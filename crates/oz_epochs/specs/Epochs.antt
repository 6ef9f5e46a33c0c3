-- What a contract sees of a list of epochs.
use Rattle.std.specs.Prelude.{◌≢◌, ℕ, ◌≤◌, ◌==◌, not, nat_le, if◌then◌else◌, ⊤}
use Rattle.std.specs.Prelude.{List, [], ◌∷◌, Option, Some, None, filter}

pub record EpochEntry (K : Type 0) : Type 0 where
  pub slot : ℕ
  pub epoch : ℕ
  pub key : K

-- the entries from the front to the back, and how many more there may be without taking memory
pub record Epochs (K : Type 0) : Type 0 where
  pub entries : List (EpochEntry K)
  pub spare : ℕ

module _ {K : Type 0} where
  abbrev pub entry : ℕ → ℕ → K → EpochEntry K
  entry slot epoch key = record { slot = slot; epoch = epoch; key = key }

  -- what the entry of a slot holds
  abbrev pub found : ℕ → List (EpochEntry K) → Option (ℕ × K)
  found slot [] = None
  found slot (e ∷ es) = if e.slot == slot then Some (e.epoch, e.key) else found slot es

  -- the entries of all other slots
  abbrev pub without : ℕ → List (EpochEntry K) → List (EpochEntry K)
  without slot es = filter (λ e. not (e.slot == slot)) es

  -- no entry has the slot
  abbrev pub IsAway : ℕ → List (EpochEntry K) → Type 0
  IsAway slot [] = ⊤
  IsAway slot (e ∷ es) = (e.slot ≢ slot) × IsAway slot es

  abbrev pub NoSlotTwice : List (EpochEntry K) → Type 0
  NoSlotTwice [] = ⊤
  NoSlotTwice (e ∷ es) = IsAway e.slot es × NoSlotTwice es

  -- the last entry's epoch is at most this one
  abbrev pub EndsBy : ℕ → List (EpochEntry K) → Type 0
  EndsBy epoch [] = ⊤
  EndsBy epoch (e ∷ []) = e.epoch ≤ epoch
  EndsBy epoch (e ∷ f ∷ es) = EndsBy epoch (f ∷ es)

  -- no epoch is above the next one
  abbrev pub EpochsRise : List (EpochEntry K) → Type 0
  EpochsRise [] = ⊤
  EpochsRise (e ∷ []) = ⊤
  EpochsRise (e ∷ f ∷ es) = (e.epoch ≤ f.epoch) × EpochsRise (f ∷ es)

  -- what holds of the entries of a list at every moment
  pub record AreInOrder (es : List (EpochEntry K)) : Type 0 where
    pub slots : NoSlotTwice es
    pub epochs : EpochsRise es

  -- the epoch and the key at the front
  abbrev pub first : List (EpochEntry K) → Option (ℕ × K)
  first [] = None
  first (e ∷ es) = Some (e.epoch, e.key)

  -- the same, where the epoch isn't above the one given
  abbrev pub first_by : ℕ → List (EpochEntry K) → Option (ℕ × K)
  first_by epoch [] = None
  first_by epoch (e ∷ es) = if nat_le e.epoch epoch then Some (e.epoch, e.key) else None

  -- all but the front
  abbrev pub behind : List (EpochEntry K) → List (EpochEntry K)
  behind [] = []
  behind (e ∷ es) = es
