-- A key with empty names and numbers 0 is the first of its kind.
use Rattle.std.proofs.Common.{◌≡◌, ℕ, zero, suc, ◌+◌, ◌<◌, false, List, [], ◌∷◌, get_or, refl, sym, ◌∙◌, ap, arith}
use mathlib.Core.Bool.{false≢true}
use Rattle.std.specs.Prelude.{nat_eq}
use Rattle.std.specs.Ordering.{nat_cmp, is_gt, ordering_then}
use Rattle.std.specs.declared.cmp.Ordering.{Ordering}
use Rattle.std.specs.declared.cmp.Ordering.TheVariants.{Less, Equal, Greater}
use Rattle.std.specs.Cmp.Lexicographic.{slice_cmp}
use Rattle.std.proofs.lemmas.Bool.Decides.{nat_tests}
use Rattle.oz_rows.specs.declared.key.RowKey.{RowKey}
use Rattle.oz_rows.specs.declared.key.RowKey.TheVariants as keys
use Rattle.oz_rows.specs.Rows.{kind_of}
use Rattle.oz_rows.specs.Order.{key_order}
use Rattle.oz_rows.specs.laws.Order.{below_above}
use Rattle.oz_loaded.specs.Walks.{IsFirstOfKind, first_keys}

abbrev names : List ℕ → List ℕ → Ordering
names = slice_cmp nat_cmp

-- how an empty name, and 0, stand to others, and what stands behind
name_then : (k : List ℕ) (behind : Ordering) → is_gt behind ≡ false → is_gt (ordering_then (names [] k) behind) ≡ false
name_then [] behind e = e
name_then (x ∷ k) behind e = refl

number_then : (n : ℕ) (behind : Ordering) → is_gt behind ≡ false → is_gt (ordering_then (names (0 ∷ []) (n ∷ [])) behind) ≡ false
number_then n behind e = by (nat_cmp 0 n) (grind (arith, nat_tests))
  where
    by : (o : Ordering) → is_gt o ≡ false → is_gt (ordering_then (ordering_then o Equal) behind) ≡ false
    by Less not_above = refl
    by Equal not_above = e
    by Greater not_above = absurd (false≢true (sym not_above))

not_below : (start : RowKey) → ((other : RowKey) → kind_of other ≡ kind_of start → is_gt (key_order start other) ≡ false) → IsFirstOfKind start
not_below start not_above other same below = false≢true (sym (not_above other same) ∙ ap is_gt (below_above other start below))

volume : (other : RowKey) → kind_of other ≡ 1 → is_gt (key_order (keys.Volume []) other) ≡ false
volume (keys.Volume w) e = name_then w Equal refl
volume other e = absurd (false≢true (ap (nat_eq 1) e))

bucket : (other : RowKey) → kind_of other ≡ 2 → is_gt (key_order (keys.Bucket [] []) other) ≡ false
bucket (keys.Bucket w c) e = name_then w _ (name_then c Equal refl)
bucket other e = absurd (false≢true (ap (nat_eq 2) e))

own_key : (other : RowKey) → kind_of other ≡ 3 → is_gt (key_order (keys.Key [] [] []) other) ≡ false
own_key (keys.Key w c k) e = name_then w _ (name_then c _ (name_then k Equal refl))
own_key other e = absurd (false≢true (ap (nat_eq 3) e))

session : (other : RowKey) → kind_of other ≡ 4 → is_gt (key_order (keys.Open [] [] [] 0) other) ≡ false
session (keys.Open w c k n) e = name_then w _ (name_then c _ (name_then k _ (number_then n Equal refl)))
session other e = absurd (false≢true (ap (nat_eq 4) e))

deleted : (other : RowKey) → kind_of other ≡ 5 → is_gt (key_order (keys.Deleted [] [] 0 [] 0) other) ≡ false
deleted (keys.Deleted w c o k l) e = name_then w _ (name_then c _ (number_then o _ (name_then k _ (number_then l Equal refl))))
deleted other e = absurd (false≢true (ap (nat_eq 5) e))

snapshot : (other : RowKey) → kind_of other ≡ 6 → is_gt (key_order (keys.Snapshot [] [] 0) other) ≡ false
snapshot (keys.Snapshot w c n) e = name_then w _ (name_then c _ (number_then n Equal refl))
snapshot other e = absurd (false≢true (ap (nat_eq 6) e))

snapshot_key : (other : RowKey) → kind_of other ≡ 7 → is_gt (key_order (keys.SnapshotKey [] [] 0 []) other) ≡ false
snapshot_key (keys.SnapshotKey w c n k) e = name_then w _ (name_then c _ (number_then n _ (name_then k Equal refl)))
snapshot_key other e = absurd (false≢true (ap (nat_eq 7) e))

renamed : (other : RowKey) → kind_of other ≡ 8 → is_gt (key_order (keys.Renamed [] [] 0 0) other) ≡ false
renamed (keys.Renamed w c o l) e = name_then w _ (name_then c _ (number_then o _ (number_then l Equal refl)))
renamed other e = absurd (false≢true (ap (nat_eq 8) e))

stripe : (other : RowKey) → kind_of other ≡ 9 → is_gt (key_order (keys.Stripe 0) other) ≡ false
stripe (keys.Stripe n) e = number_then n Equal refl
stripe other e = absurd (false≢true (ap (nat_eq 9) e))

-- the keys that begin the kinds, one after another
pub kind_at : (i : ℕ) (d : RowKey) → i < 9 → kind_of (get_or first_keys i d) ≡ i + 1
kind_at zero d lt = refl
kind_at (suc zero) d lt = refl
kind_at (suc (suc zero)) d lt = refl
kind_at (suc (suc (suc zero))) d lt = refl
kind_at (suc (suc (suc (suc zero)))) d lt = refl
kind_at (suc (suc (suc (suc (suc zero))))) d lt = refl
kind_at (suc (suc (suc (suc (suc (suc zero)))))) d lt = refl
kind_at (suc (suc (suc (suc (suc (suc (suc zero))))))) d lt = refl
kind_at (suc (suc (suc (suc (suc (suc (suc (suc zero)))))))) d lt = refl
kind_at (suc (suc (suc (suc (suc (suc (suc (suc (suc i))))))))) d lt = absurd (omega (arith, lt))

pub first_at : (i : ℕ) (d : RowKey) → i < 9 → IsFirstOfKind (get_or first_keys i d)
first_at zero d lt = not_below (keys.Volume []) volume
first_at (suc zero) d lt = not_below (keys.Bucket [] []) bucket
first_at (suc (suc zero)) d lt = not_below (keys.Key [] [] []) own_key
first_at (suc (suc (suc zero))) d lt = not_below (keys.Open [] [] [] 0) session
first_at (suc (suc (suc (suc zero)))) d lt = not_below (keys.Deleted [] [] 0 [] 0) deleted
first_at (suc (suc (suc (suc (suc zero))))) d lt = not_below (keys.Snapshot [] [] 0) snapshot
first_at (suc (suc (suc (suc (suc (suc zero)))))) d lt = not_below (keys.SnapshotKey [] [] 0 []) snapshot_key
first_at (suc (suc (suc (suc (suc (suc (suc zero))))))) d lt = not_below (keys.Renamed [] [] 0 0) renamed
first_at (suc (suc (suc (suc (suc (suc (suc (suc zero)))))))) d lt = not_below (keys.Stripe 0) stripe
first_at (suc (suc (suc (suc (suc (suc (suc (suc (suc i))))))))) d lt = absurd (omega (arith, lt))
