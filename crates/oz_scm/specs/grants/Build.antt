-- What the bodies of the storage container manager's journal make, and where they are damaged.
use Rattle.std.specs.Prelude.{◌≡◌, ℕ, suc, ◌-◌, List, [], ◌∷◌, length, Option, None, Result, Ok, Err}
use Rattle.oz_scm.specs.declared.grants.entry.Entry.{Entry}
use Rattle.oz_scm.specs.grants.Made.{Made, after_entry}
use Rattle.oz_scm.specs.grants.Reading.{entry_at}

-- where bodies are damaged: how many good ones stand before, and the place of the first bad field in the bytes of the body
pub record Fault : Type 0 where
  pub body : ℕ
  pub at : ℕ

-- an entry with nothing behind it, or the place of the first bad field, or of the first byte behind an entry
abbrev pub whole : ℕ → Result (Entry × List ℕ) ℕ → Result Entry ℕ
whole size (Err left) = Err (size - left)
whole size (Ok (entry, [])) = Ok entry
whole size (Ok (entry, byte ∷ rest)) = Err (size - suc (length rest))

-- the entry that a body is
abbrev pub body_at : Option Made → List ℕ → Result Entry ℕ
body_at found bytes = whole (length bytes) (entry_at found bytes)

-- one body stands before the damaged one besides
abbrev pub behind_one : Result (Option Made) Fault → Result (Option Made) Fault
behind_one (Ok found) = Ok found
behind_one (Err fault) = Err (record { body = suc fault.body; at = fault.at })

abbrev pub followed_by : Result Entry ℕ → (Entry → Result (Option Made) Fault) → Result (Option Made) Fault
followed_by (Ok entry) next = behind_one (next entry)
followed_by (Err at) next = Err (record { body = 0; at = at })

-- what bodies make of what was made before, one after another
unfoldable pub made_from : Option Made → List (List ℕ) → Result (Option Made) Fault
made_from found [] = Ok found
made_from found (bytes ∷ bodies) = followed_by (body_at found bytes) (λ entry. made_from (after_entry entry found) bodies)

-- what the bodies of a journal make
abbrev pub Makes : List (List ℕ) → Option Made → Type 0
Makes bodies found = made_from None bodies ≡ Ok found

-- where they are damaged
abbrev pub FailsAt : List (List ℕ) → ℕ → ℕ → Type 0
FailsAt bodies body at = made_from None bodies ≡ Err (record { body = body; at = at })
