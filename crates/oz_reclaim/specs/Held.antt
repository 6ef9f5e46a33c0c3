-- A pass down the snapshot rows of a bucket, from the greatest number to the least, tells whether a live one has a block of
-- a key.
use Rattle.std.specs.Prelude.{◌≡◌, ℕ, Bool, true, false, ◌&&◌, ◌||◌, List, [], ◌∷◌, Option, None, Some, IsSome}
use Rattle.std.specs.List.{list_any}
use Rattle.oz_decision.specs.Walking.{is_live}
use Rattle.oz_fields.specs.declared.block.Block.{Block}
use Rattle.oz_rows.specs.declared.key.RowKey.TheVariants as keys
use Rattle.oz_rows.specs.declared.row.Row.{Row}
use Rattle.oz_rows.specs.declared.row.Row.TheVariants as rows
use Rattle.oz_rows.specs.RowMaps.{Rows, is_block}
use Rattle.oz_sound.specs.Sound.{blocks_of}
use Rattle.oz_sound.specs.StandsFor.{NumbersRise, is_among}

-- the name in a renamed row, or the one that is carried where there is none
abbrev pub name_or : Option Row → List ℕ → List ℕ
name_or (Some (rows.Renamed name)) carried = name
name_or row carried = carried

-- The name that the pass has once it went down over these numbers, which rise: at first that in the bucket's own renamed row,
-- or the key's.
abbrev pub name_carried : Rows → List ℕ → List ℕ → ℕ → List ℕ → List ℕ → List ℕ
name_carried all volume bucket local key [] = name_or (all (keys.Renamed volume bucket 0 local)) key
name_carried all volume bucket local key (number ∷ numbers) =
    name_or (all (keys.Renamed volume bucket number local)) (name_carried all volume bucket local key numbers)

-- the row is there, and has the block
abbrev pub has_there : Block → Option Row → Bool
has_there block None = false
has_there block (Some row) = list_any (is_block block) (blocks_of row)

-- a live snapshot of these has the block under the name that the pass carries to it
abbrev pub is_held : Rows → List ℕ → List ℕ → Block → List ℕ → List ℕ → Bool
is_held all volume bucket block key [] = false
is_held all volume bucket block key (number ∷ numbers) =
    is_held all volume bucket block key numbers
    || (is_live (all (keys.Snapshot volume bucket number))
    && has_there block (all (keys.SnapshotKey volume bucket number (name_carried all volume bucket block.local key numbers))))

-- the numbers of all snapshot rows of the bucket, live or marked, in order
pub record AreNumbers (all : Rows) (volume bucket numbers : List ℕ) : Type 0 where
  pub rise : NumbersRise numbers
  pub every : (number : ℕ) → IsSome (all (keys.Snapshot volume bucket number)) → is_among number numbers ≡ true
