-- Each row stands in the part of its stripe.
use Rattle.std.proofs.Common.{◌≡◌, ◌==◌, ℕ, ◌<◌, true, List, Option, None, Some, IsSome, cond, slice_get, sum, refl, ◌∙◌, ap, subst, arith}
use mathlib.Core.Bool.{false≢true}
use Rattle.std.proofs.lemmas.Bool.Decides.{nat_tests}
use Rattle.std.proofs.lemmas.Nat.{mod_below}
use Rattle.oz_cache.specs.Cache.{CacheView, batched_changes, newest}
use Rattle.oz_names.specs.Names.{stripe_of}
use Rattle.oz_names.specs.declared.limits.TheConstants.{STRIPES}
use Rattle.oz_rows.specs.declared.key.RowKey.{RowKey}
use Rattle.oz_rows.specs.declared.key.RowKey.TheVariants as keys
use Rattle.oz_rows.specs.declared.row.Row.{Row}
use Rattle.oz_rows.specs.declared.entry.RowEntry.{RowEntry}
use Rattle.oz_rows.specs.RowMaps.{row_after, row_of}
use Rattle.oz_rows.specs.Rows.{KeyFits, RowFits}
use Rattle.oz_sound.specs.stripes.Stripes.{stripe_of_key}
use Rattle.oz_loaded.specs.Parts.{AreParts}

one_of_sixteen : (volume : List ℕ) → stripe_of volume < STRIPES
one_of_sixteen volume = mod_below (sum volume) 16 (omega arith)

stripe_fits : (key : RowKey) → KeyFits key → stripe_of_key key < STRIPES
stripe_fits (keys.Volume volume) fits = one_of_sixteen volume
stripe_fits (keys.Bucket volume bucket) fits = one_of_sixteen volume
stripe_fits (keys.Key volume bucket key) fits = one_of_sixteen volume
stripe_fits (keys.Open volume bucket key number) fits = one_of_sixteen volume
stripe_fits (keys.Deleted volume bucket owner key local) fits = one_of_sixteen volume
stripe_fits (keys.Snapshot volume bucket number) fits = one_of_sixteen volume
stripe_fits (keys.SnapshotKey volume bucket snapshot key) fits = one_of_sixteen volume
stripe_fits (keys.Renamed volume bucket owner local) fits = one_of_sixteen volume
stripe_fits (keys.Stripe stripe) fits = fits

pub there : (all : List RowEntry) → ((key : RowKey) (row : Row) → row_of all key ≡ Some row → RowFits key row) → (key : RowKey) → IsSome (row_of all key) → stripe_of_key key < STRIPES
there all fit key has = by (row_of all key) refl
  where
    by : (o : Option Row) → row_of all key ≡ o → stripe_of_key key < STRIPES
    by None e = absurd (false≢true (subst IsSome e has))
    by (Some row) e = stripe_fits key (fit key row e).0

pub same : (all : List RowEntry) (last_index : ℕ) (parts : List CacheView) → AreParts all last_index parts → (key : RowKey) (part : CacheView) → slice_get parts (stripe_of_key key) ≡ Some part → newest part key ≡ row_of all key
same all last_index parts are key part is =
    let it = are.each (stripe_of_key key) part is in
    let own : (stripe_of_key key == stripe_of_key key) ≡ true = grind (arith, nat_tests) in
    ap (λ (batches : _). row_after (batched_changes batches) key (row_of part.durable.rows key)) it.entered
    ∙ it.rows key ∙ ap (λ t. cond t (row_of all key) None) own
