-- Rows that changed in one bucket alone.
use Rattle.std.specs.Prelude.{◌≡◌, ℕ, ◌≤◌, Bool, false, List, Option, None, Some, IsSome, if◌then◌else◌}
use Rattle.oz_fields.specs.declared.block.Block.{Block}
use Rattle.oz_rows.specs.declared.key.RowKey.{RowKey}
use Rattle.oz_rows.specs.declared.key.RowKey.TheVariants as keys
use Rattle.oz_rows.specs.RowMaps.{Rows, is_bucket}
use Rattle.oz_sound.specs.Sound.{StandsIn, bucket_of_row}
use Rattle.oz_sound.specs.StandsFor.{drawn_in}
use Rattle.oz_sound.specs.frames.Buckets.{IsOutside}
use Rattle.oz_sound.specs.frames.Sessions.{StripesAreBare}

abbrev pub is_this : List ℕ → List ℕ → Option (List ℕ × List ℕ) → Bool
is_this volume name None = false
is_this volume name (Some (of_volume, of_name)) = is_bucket volume name of_volume of_name

-- the rows of one bucket alone, and those of stripes
abbrev pub only_in : List ℕ → List ℕ → Rows → Rows
only_in volume name rows (keys.Stripe stripe) = rows (keys.Stripe stripe)
only_in volume name rows key = if is_this volume name (bucket_of_row key) then rows key else None

-- No row of another bucket changed, and the bucket's blocks stand in no other, nor does one with the local id of one of
-- them. Stripes have drawn no fewer numbers, and the volume has no bucket more.
pub record ChangedInOne (all now : Rows) (volume name : List ℕ) : Type 0 where
  pub outside : (key : RowKey) → IsOutside volume name key → now key ≡ all key
  pub apart : (block twin : Block) (key other : RowKey)
      → StandsIn now block key → bucket_of_row key ≡ Some (volume, name)
      → StandsIn all twin other → IsOutside volume name other → block.local ≡ twin.local → ⊥
  pub bare : StripesAreBare now
  pub drawn : (stripe : ℕ) → drawn_in (all (keys.Stripe stripe)) ≤ drawn_in (now (keys.Stripe stripe))
  pub no_bucket_more : IsSome (now (keys.Bucket volume name)) → IsSome (all (keys.Bucket volume name))
