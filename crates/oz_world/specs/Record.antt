-- What a memory disk keeps of what it did, and what a stop may leave by it.
use Rattle.std.specs.Prelude.{◌≡◌, ℕ, ◌+◌, ◌-◌, ◌/◌, Bool, true, false, nat_lt, nat_le, List, [], ◌∷◌, ◌++◌, length}
use Rattle.std.specs.Prelude.{take, filter, replicate, if◌then◌else◌}
use Rattle.oz_world.specs.declared.history.Change.{Change}
use Rattle.oz_world.specs.declared.history.Change.TheVariants.{Write, Cut, Sync}
use Rattle.oz_world.specs.declared.history.TimedChange.{TimedChange}
use Rattle.oz_world.specs.Disk.{Images, overwritten, Torn, CutShort}

-- what a change makes of the bytes
abbrev pub done : Change → List ℕ → List ℕ
done (Write pos others) bytes = overwritten pos others.items bytes
done (Cut size) bytes = take size bytes
done Sync bytes = bytes

-- what a stop may leave after a change, by what a read gave and what a stop might have left before it
abbrev pub MayLeave : Change → List ℕ → (List ℕ → Type 0) → List ℕ → Type 0
MayLeave (Write pos others) bytes might after =
    (before : List ℕ) × might before × Torn pos (length others.items) before after
MayLeave (Cut size) bytes might after = (before : List ℕ) × might before × CutShort size before after
MayLeave Sync bytes might after = after ≡ bytes

-- what a stop may leave after these entries
unfoldable pub images : List ℕ → (List ℕ → Type 0) → List TimedChange → List ℕ → Type 0
images bytes might [] = might
images bytes might (entry ∷ entries) = images (done entry.change bytes) (MayLeave entry.change bytes might) entries

-- the entries up to a moment
abbrev pub until : ℕ → List TimedChange → List TimedChange
until moment entries = filter (λ entry. nat_le entry.moment moment) entries

-- what a stop at a moment may leave of a disk that began with these bytes, all of them stable
abbrev pub images_since : List ℕ → List TimedChange → Images
images_since first entries moment = images first (λ left. left ≡ first) (until moment entries)

abbrev pub is_sync : Change → Bool
is_sync (Write pos others) = false
is_sync (Cut size) = false
is_sync Sync = true

-- how many entries there are up to the last sync
unfoldable pub synced_count : List TimedChange → ℕ
synced_count [] = 0
synced_count (entry ∷ entries) =
    if nat_lt 0 (synced_count entries) then synced_count entries + 1 else if is_sync entry.change then 1 else 0

-- what is left where each change that a sync followed was done, and of each other one this part
unfoldable pub left_by : (Change → List ℕ → List ℕ) → List ℕ → List TimedChange → List ℕ
left_by part bytes [] = bytes
left_by part bytes (entry ∷ entries) =
    left_by part (if nat_lt 0 (synced_count entries) then done entry.change bytes else part entry.change bytes) entries

-- no part of a change
abbrev pub none_of : Change → List ℕ → List ℕ
none_of change bytes = bytes

-- these bytes, with zeros up to a length where they are shorter
abbrev pub padded : ℕ → List ℕ → List ℕ
padded size bytes = bytes ++ replicate (size - length bytes) 0

-- the first half of a write, in its place, and the whole of a cut
abbrev pub half_of : Change → List ℕ → List ℕ
half_of (Write pos others) bytes = overwritten pos (take (length others.items / 2) others.items) (padded pos bytes)
half_of (Cut size) bytes = take size bytes
half_of Sync bytes = bytes
