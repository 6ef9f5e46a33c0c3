-- Rows parted into sixteen: each part has those of one stripe alone.
use Rattle.std.specs.Prelude.{◌≡◌, ℕ, List, [], length, Some, slice_get}
use Rattle.oz_cache.specs.Cache.{CacheView}
use Rattle.oz_names.specs.declared.limits.TheConstants.{STRIPES}
use Rattle.oz_rows.specs.declared.entry.RowEntry.{RowEntry}
use Rattle.oz_rows.specs.declared.key.RowKey.{RowKey}
use Rattle.oz_rows.specs.RowMaps.{row_of}
use Rattle.oz_sound.specs.stripes.Stripes.{only}

-- of all rows those of the stripe in tables, with this last index, and nothing above them
pub record IsPart (all : List RowEntry) (last_index stripe : ℕ) (part : CacheView) : Type 0 where
  pub rows : (key : RowKey) → row_of part.durable.rows key ≡ only stripe (row_of all) key
  pub last_index_is : part.durable.last_index ≡ last_index
  pub entered : part.entered ≡ []

-- one part for each stripe, in the order of their numbers
pub record AreParts (all : List RowEntry) (last_index : ℕ) (parts : List CacheView) : Type 0 where
  pub sixteen : length parts ≡ STRIPES
  pub each : (stripe : ℕ) (part : CacheView) → slice_get parts stripe ≡ Some part → IsPart all last_index stripe part
