-- What the bodies of a datanode's journal make, and where they are damaged.
use Rattle.std.specs.Prelude.{◌≡◌, ℕ, zero, suc, ◌-◌, ◌≤◌, List, [], ◌∷◌, length, Result, Ok, Err}
use Rattle.oz_entries.specs.declared.entry.Entry.{Entry}
use Rattle.oz_entries.specs.Entries.{entry_bytes}
use Rattle.oz_entries.specs.Node.{Node, empty_node, after_entry, MayFollow}
use Rattle.oz_entries.specs.Reading.{entry_at}

-- the bytes are an entry that may follow
pub record IsNext (before : Node) (bytes : List ℕ) (entry : Entry) : Type 0 where
  pub spelled : bytes ≡ entry_bytes entry
  pub follows : MayFollow before entry

-- bodies lead from a node to a node
unfoldable pub MakesFrom : Node → List (List ℕ) → Node → Type 0
MakesFrom before [] after = after ≡ before
MakesFrom before (bytes ∷ bodies) after =
    (entry : Entry) × IsNext before bytes entry × MakesFrom (after_entry entry before) bodies after

-- what the bodies of a journal make
abbrev pub Makes : List (List ℕ) → Node → Type 0
Makes bodies node = MakesFrom empty_node bodies node

-- a field of the entry is bad, or bytes follow the entry
abbrev pub EntryEnds : List ℕ → ℕ → Result (Entry × List ℕ) ℕ → Type 0
EntryEnds bytes place (Err left) = place ≡ length bytes - left
EntryEnds bytes place (Ok found) = (1 ≤ length found.1) × (place ≡ length bytes - length found.1)

-- a body that may not follow is damaged at this place of its bytes
abbrev pub IsDamagedBody : Node → List ℕ → ℕ → Type 0
IsDamagedBody before bytes place = EntryEnds bytes place (entry_at before bytes)

-- behind so many good bodies stands one that is damaged at this place of its bytes
unfoldable pub FailsFrom : Node → List (List ℕ) → ℕ → ℕ → Type 0
FailsFrom before [] count place = ⊥
FailsFrom before (bytes ∷ bodies) zero place = IsDamagedBody before bytes place
FailsFrom before (bytes ∷ bodies) (suc count) place =
    (entry : Entry) × IsNext before bytes entry × FailsFrom (after_entry entry before) bodies count place

-- the bodies of a journal are damaged at this place of the bytes of this body, counted from 0
abbrev pub FailsAt : List (List ℕ) → ℕ → ℕ → Type 0
FailsAt bodies count place = FailsFrom empty_node bodies count place
