-- What making room leaves of a stripe's rows.
use Rattle.std.proofs.Common.{◌≡◌, ◌≢◌, ℕ, Bool, true, false, List, [], ◌↔◌, refl}
use Rattle.oz_cache.specs.Cache.{CacheView, batched_changes, epoch_after, last_epoch, newest}
use Rattle.oz_rows.specs.RowMaps.{row_after, row_of}

pub newest_same : (a b : CacheView) → a.durable.rows ≡ b.durable.rows → a.entered ≡ b.entered → newest a ≡ newest b
newest_same a b rows entered = λ i key. row_after (batched_changes (entered i)) key (row_of (rows i) key)

pub last_same : (a b : CacheView) → a.durable.last_index ≡ b.durable.last_index → a.entered ≡ b.entered → last_epoch a ≡ last_epoch b
last_same a b last entered = λ i. epoch_after (last i) (entered i)

pub not_empty : (bytes : List ℕ) (b : Bool) → (b ≡ true) ↔ (bytes ≡ []) → bytes ≢ [] → b ≡ false
not_empty bytes true says some = absurd (some (says.0 refl))
not_empty bytes false says some = refl
