-- What is looked up in the buckets of a volume, and in the row of a key.
use Rattle.std.proofs.Common.{◌≡◌, ℕ, true, List, [], ◌∷◌, length, Option, None, Some, IsSome, is_some, refl, sym, arith}
use mathlib.Core.Bool.{false≢true}
use Rattle.std.specs.FinMap.{get, get-empty}
use Rattle.std.specs.Cmp.Lexicographic.{slice_cmp}
use Rattle.std.specs.Ordering.{nat_cmp}
use Rattle.std.specs.Option.{option_and_then}
use Rattle.oz_model.specs.Buckets.{buckets_in}
use Rattle.oz_namespace.specs.declared.namespace.Bucket.{Bucket}
use Rattle.oz_namespace.specs.Namespace.{ByName}
use Rattle.oz_rows.specs.Counts.{IsBetween, AreKeys, IsCount}
use Rattle.oz_rows.specs.RowMaps.{Rows}
use Rattle.oz_rows.specs.declared.key.RowKey.{RowKey}
use Rattle.oz_rows.specs.declared.key.RowKey.TheVariants as keys
use Rattle.oz_rows.specs.declared.row.Row.{Row}
use Rattle.oz_rows.specs.declared.row.Row.TheVariants as rows
use Rattle.oz_rows.specs.Rows.{ValueFits}
use Rattle.oz_sound.specs.StandsFor.{pieces_in}

-- a bucket is looked up in the buckets of its volume
pub looked_up : (o : Option (ByName Bucket)) (b : List ℕ) → option_and_then (λ buckets. get buckets b) o ≡ get (buckets_in o) b
looked_up (Some buckets) b = refl
looked_up None b = sym (get-empty (slice_cmp nat_cmp) b)

-- the buckets of a volume that is there
pub there_are : (o : Option (ByName Bucket)) → is_some o ≡ true → o ≡ Some (buckets_in o)
there_are (Some buckets) e = refl
there_are None e = absurd (false≢true e)

pub has_pieces : (v b k : List ℕ) (row : Row) → ValueFits (keys.Key v b k) row → is_some (pieces_in (Some row)) ≡ true
has_pieces v b k (rows.Key n pieces) fits = refl
has_pieces v b k row fits = absurd fits

pub absent_from : {A : Type 0} (o : Option A) → (IsSome o → ⊥) → o ≡ None
absent_from None none = refl
absent_from (Some a) none = absurd (none refl)

-- where none is counted none stands
pub none_counted : (all : Rows) (from to : RowKey) (n : ℕ) → IsCount all from to n → n ≡ 0 → (key : RowKey) → IsBetween all from to key → ⊥
none_counted all from to n (ks, are, size) zero key is = by_list ks are size
  where
    by_list : (ks : List RowKey) → AreKeys all from to ks → n ≡ length ks → ⊥
    by_list [] are size = false≢true (are.every key is)
    by_list (x ∷ ks) are size = omega (arith, zero, size)
