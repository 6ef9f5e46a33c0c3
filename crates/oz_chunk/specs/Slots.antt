-- What is seen of the slots of a disk, and where they stand on it.
use Rattle.std.specs.Prelude.{◌≡◌, ℕ, ◌+◌, ◌-◌, ◌*◌, ◌<◌, ◌≤◌, Bool, true, List, ◌++◌, length, replicate, slice_range}
use Rattle.std.specs.Prelude.{All, Contains, Result, Ok, Err}
use Rattle.oz_chunk.specs.declared.table.TheConstants.{SLOT_SIZE}
use Rattle.oz_chunk.specs.declared.fault.SlotFault.{SlotFault}

-- the disk, and which slots are taken
pub record State (D : Type 0) : Type 0 where
  pub disk : D
  pub taken : List Bool

-- the place at which a slot begins, and the one behind its last byte
abbrev pub start_of : ℕ → ℕ
start_of slot = slot * SLOT_SIZE

abbrev pub end_of : ℕ → ℕ
end_of slot = slot * SLOT_SIZE + SLOT_SIZE

-- a slot doesn't pass the end of these bytes
abbrev pub IsWithin : ℕ → List ℕ → Type 0
IsWithin slot bytes = end_of slot ≤ length bytes

-- what stands in a slot
abbrev pub slot_bytes : ℕ → List ℕ → List ℕ
slot_bytes slot bytes = slice_range bytes (start_of slot) (end_of slot)

-- a chunk, with zeros behind it up to the end of its slot
abbrev pub padded : List ℕ → List ℕ
padded chunk = chunk ++ replicate (SLOT_SIZE - length chunk) 0

-- some slots that don't pass the end are as they were
abbrev pub Keeps : (ℕ → Bool) → List ℕ → List ℕ → Type 0
Keeps kept before after =
    (slot : ℕ) → kept slot ≡ true → IsWithin slot before
    → IsWithin slot after × (slot_bytes slot after ≡ slot_bytes slot before)

-- the place is the beginning of the lowest of the held slots that pass the end
pub record IsLowestPast (held : List ℕ) (size : ℕ) (place : ℕ) : Type 0 where
  pub slot : ℕ
  pub is_held : Contains held slot
  pub past : size < end_of slot
  pub lowest : All (λ other. size < end_of other → slot ≤ other) held
  pub begins : place ≡ start_of slot

-- the disk after a load: that of the slots, or the one that comes back
abbrev pub disk_after : {D : Type 0} → Result (State D) (D × SlotFault) → D
disk_after (Ok slots) = slots.disk
disk_after (Err refused) = refused.0
