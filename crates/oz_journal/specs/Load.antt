-- What loading asks of a disk, and what it leaves.
use Rattle.std.specs.Prelude.{◌≡◌, ◌⊎◌, ℕ, ◌+◌, ◌≤◌, nat_le, List, length, Result, Ok, Err, Vec, if◌then◌else◌}
use Rattle.std.specs.declared.alloc.Global.{Global}
use Rattle.oz_journal.specs.declared.body.Body.{Body}
use Rattle.oz_journal.specs.declared.load_fault.LoadFault.{LoadFault}
use Rattle.oz_journal.specs.Journal.{State}

-- where a read gives at most one byte, so does a stop
abbrev pub IsLoadable : List ℕ → (List ℕ → Type 0) → Type 0
IsLoadable bytes image = length bytes ≤ 1 → (left : List ℕ) → image left → length left ≤ 1

-- the same bytes, or at most one byte in the place of at most one
abbrev pub IsLeftAlone : List ℕ → List ℕ → Type 0
IsLeftAlone before after = (after ≡ before) ⊎ ((length before ≤ 1) × (length after ≤ 1))

-- the disk after a load: the journal's, or the one that comes back
abbrev pub disk_after : {D : Type 0} → Result (State D × Vec Body Global) (D × LoadFault) → D
disk_after (Ok loaded) = loaded.0.disk
disk_after (Err refused) = refused.0

-- The moment at which loading ends, by that at which it begins and the disk's bytes: at most one byte is written over
-- and synced, which takes two moments, and more are synced, which takes one.
abbrev pub loaded_at : ℕ → List ℕ → ℕ
loaded_at clock bytes = clock + (if nat_le (length bytes) 1 then 2 else 1)
