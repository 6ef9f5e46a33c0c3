-- What is to be done next with the snapshots that were deleted.
use Rattle.std.specs.Prelude.{◌≡◌, ◌⊎◌, ℕ, ◌<◌, ◌≤◌, Bool, true, false, List, Option, None, Some, IsSome}
use Rattle.oz_requests.specs.declared.request.Request.{Request}
use Rattle.oz_requests.specs.declared.request.Request.TheVariants.{MoveDeleted, PurgeSnapshot}
use Rattle.oz_rows.specs.declared.key.RowKey.TheVariants as keys
use Rattle.oz_rows.specs.declared.row.Row.{Row}
use Rattle.oz_rows.specs.declared.row.Row.TheVariants as rows
use Rattle.oz_rows.specs.declared.row.SnapshotState.TheVariants.{Live, Marked}
use Rattle.oz_rows.specs.RowMaps.{Rows, IsBelow}

-- the row of a snapshot that was deleted
abbrev pub is_marked : Option Row → Bool
is_marked (Some (rows.Snapshot name previous Marked)) = true
is_marked (Some (rows.Snapshot name previous Live)) = false
is_marked (Some rows.Volume) = false
is_marked (Some rows.Bucket) = false
is_marked (Some (rows.Key number pieces)) = false
is_marked (Some (rows.Open blocks)) = false
is_marked (Some (rows.Deleted blocks)) = false
is_marked (Some (rows.SnapshotKey number pieces)) = false
is_marked (Some (rows.Renamed key)) = false
is_marked (Some (rows.Stripe number)) = false
is_marked None = false

-- the bucket's snapshot of this number was deleted, and its row is still there
abbrev pub IsMarked : Rows → List ℕ → List ℕ → ℕ → Type 0
IsMarked all volume bucket number = is_marked (all (keys.Snapshot volume bucket number)) ≡ true

-- of all such snapshots this one has the least key
pub record IsFirstMarked (all : Rows) (volume bucket : List ℕ) (number : ℕ) : Type 0 where
  pub marked : IsMarked all volume bucket number
  pub least : (of_volume of_bucket : List ℕ) (other : ℕ) → IsMarked all of_volume of_bucket other
      → IsBelow (keys.Snapshot of_volume of_bucket other) (keys.Snapshot volume bucket number) → ⊥

-- a deleted or a renamed row of the bucket has this owner
abbrev pub OwnsRow : Rows → List ℕ → List ℕ → ℕ → Type 0
OwnsRow all volume bucket owner =
    ((key : List ℕ) × (local : ℕ) × IsSome (all (keys.Deleted volume bucket owner key local)))
    ⊎ ((local : ℕ) × IsSome (all (keys.Renamed volume bucket owner local)))

-- the bucket has a snapshot of a greater number, live or marked
abbrev pub IsLater : Rows → List ℕ → List ℕ → ℕ → ℕ → Type 0
IsLater all volume bucket number later = (number < later) × IsSome (all (keys.Snapshot volume bucket later))

-- the number of the bucket's next snapshot, live or marked, and 0 where there is none
abbrev pub IsNextOwner : Rows → List ℕ → List ℕ → ℕ → ℕ → Type 0
IsNextOwner all volume bucket number to =
    ((to ≡ 0) × ((later : ℕ) → IsLater all volume bucket number later → ⊥))
    ⊎ (IsLater all volume bucket number to
    × ((later : ℕ) → IsLater all volume bucket number later → to ≤ later))

-- What a deleted snapshot owns goes on to the next owner. Once it owns nothing, its own rows go.
abbrev pub WorksOff : Rows → List ℕ → List ℕ → ℕ → Request → Type 0
WorksOff all volume bucket number request =
    ((to : ℕ) × (request ≡ MoveDeleted volume bucket number to) × OwnsRow all volume bucket number
    × IsNextOwner all volume bucket number to)
    ⊎ ((request ≡ PurgeSnapshot volume bucket number) × (OwnsRow all volume bucket number → ⊥))

-- the request that works off the first of the deleted snapshots, none where there is none
abbrev pub IsChainWork : Rows → Option Request → Type 0
IsChainWork all None = (volume bucket : List ℕ) (number : ℕ) → IsMarked all volume bucket number → ⊥
IsChainWork all (Some request) =
    (volume : List ℕ) × (bucket : List ℕ) × (number : ℕ) × IsFirstMarked all volume bucket number
    × WorksOff all volume bucket number request
