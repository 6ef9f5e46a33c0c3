-- The namespace that the rows of sixteen parts show.
use Rattle.std.specs.Prelude.{List, map, slice_get}
use Rattle.std.specs.List.{fold}
use Rattle.std.specs.FinMap.{empty, entries, from_entries}
use Rattle.oz_cache.specs.Cache.{CacheView}
use Rattle.oz_namespace.specs.declared.namespace.Bucket.{Bucket}
use Rattle.oz_namespace.specs.declared.namespace.Namespace.{Namespace}
use Rattle.oz_namespace.specs.Namespace.{ByName, sixteen}
use Rattle.oz_rows.specs.declared.entry.RowEntry.{RowEntry}
use Rattle.oz_rows.specs.declared.key.RowKey.{RowKey}
use Rattle.oz_rows.specs.declared.row.Row.{Row}
use Rattle.oz_rows.specs.Order.{key_order}
use Rattle.oz_loaded.specs.standing.Made.{entered, volume_in}
use Rattle.oz_loaded.specs.standing.Standing.{drawn_at}

-- a row under its key, and back
abbrev pub row_under : RowEntry → RowKey × Row
row_under entry = (entry.key, entry.row)

abbrev pub entry_of : RowKey × Row → RowEntry
entry_of (key, row) = record { key = key; row = row }

-- rows in the order of their keys, of those that have one key the first alone
abbrev pub in_order : List RowEntry → List RowEntry
in_order all = map entry_of (entries (from_entries {R = key_order} (map row_under all)))

-- the volumes of rows, put into a map one after another
abbrev pub with_volumes : List RowEntry → ByName (ByName Bucket) → ByName (ByName Bucket)
with_volumes all before = fold (λ made (entry : RowEntry). entered made (volume_in all entry.key)) before all

-- the volumes of all parts, and how many numbers were drawn in each stripe
unfoldable pub namespace_shown : List CacheView → Namespace
namespace_shown parts = record {
  volumes = fold (λ made (part : CacheView). with_volumes (in_order part.durable.rows) made) empty parts;
  stripes = map (λ stripe. drawn_at stripe (slice_get parts stripe)) sixteen;
}
