-- The rows that parts show are all that were loaded.
use Rattle.std.proofs.Common.{◌≡◌, ℕ, zero, suc, ◌<◌, List, [], ◌∷◌, length, Option, None, Some, IsSome, refl, sym, subst, arith}
use Rattle.std.specs.List.{slice_get}
use Rattle.oz_cache.specs.Cache.{CacheView, newest}
use Rattle.oz_running.specs.disk_run.Shown.{row_in, rows_shown}
use Rattle.oz_loaded.specs.Loads.{IsLoaded}
use Rattle.oz_loaded.specs.Unseated.{UnseatedView}
use Rattle.oz_names.specs.declared.limits.TheConstants.{STRIPES}
use Rattle.oz_headline.specs.Seated.{ArePartsOf}
use Rattle.oz_rows.specs.declared.key.RowKey.{RowKey}
use Rattle.oz_rows.specs.declared.row.Row.{Row}
use Rattle.oz_rows.specs.RowMaps.{row_of}
use Rattle.oz_loaded.specs.standing.Standing.{AreStripesOf}
use Rattle.oz_sound.specs.stripes.Stripes.{stripe_of_key}

none_there : {A : Type 0} (items : List A) (k : ℕ) → k < length items → slice_get items k ≡ None → ⊥
none_there [] k within none = omega (arith, within)
none_there (first ∷ items) zero within none = absurd (cc none)
none_there (first ∷ items) (suc k) within none = none_there items k (omega (arith, within)) none

module _ (bodies : List (List ℕ)) (unseated : UnseatedView) (this : IsLoaded bodies unseated)
    (there : (key : RowKey) → IsSome (row_of this.all key) → stripe_of_key key < STRIPES)
    (same : (key : RowKey) (part : CacheView) → slice_get unseated.parts (stripe_of_key key) ≡ Some part → newest part key ≡ row_of this.all key) where
  absent : (key : RowKey) → slice_get unseated.parts (stripe_of_key key) ≡ None → (row : Option Row) → row_of this.all key ≡ row → None ≡ row
  absent key none None is = refl
  absent key none (Some row) is =
      let few = there key (subst IsSome (sym is) refl) in
      absurd (none_there unseated.parts (stripe_of_key key) (subst (λ (n : ℕ). stripe_of_key key < n) (sym this.parts.sixteen) few) none)

  by_part : (key : RowKey) (part : Option CacheView) → slice_get unseated.parts (stripe_of_key key) ≡ part → row_in part key ≡ row_of this.all key
  by_part key None none = absent key none (row_of this.all key) refl
  by_part key (Some part) is = same key part is

  each : (key : RowKey) → rows_shown unseated.parts key ≡ row_of this.all key
  each key = by_part key (slice_get unseated.parts (stripe_of_key key)) refl

  pub rows_are : rows_shown unseated.parts ≡ row_of this.all
  rows_are = λ i key. each key i

  pub are_parts : ArePartsOf (rows_shown unseated.parts) unseated.last_index unseated.parts
  are_parts = record { all = this.all; are = this.parts; rows_are = λ key. sym (each key) }

  pub are_stripes : AreStripesOf (row_of this.all) unseated.parts
  are_stripes = record { sixteen = this.parts.sixteen; each = λ stripe part is. (this.parts.each stripe part is).rows }
