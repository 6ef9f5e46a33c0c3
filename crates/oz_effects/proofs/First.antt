-- A key of a part with empty names and numbers 0 behind its front is the first of the part.
use Rattle.std.proofs.Common.{◌≡◌, ℕ, false, List, [], ◌∷◌, Result, Ok, Err, IfOk, refl, sym, ◌∙◌, ap, subst, arith}
use mathlib.Core.Bool.{false≢true}
use Rattle.std.specs.Ordering.{nat_cmp, is_eq, is_gt, ordering_then}
use Rattle.std.specs.declared.cmp.Ordering.{Ordering}
use Rattle.std.specs.declared.cmp.Ordering.TheVariants.{Less, Equal, Greater}
use Rattle.std.specs.Cmp.Lexicographic.{slice_cmp}
use Rattle.std.proofs.lemmas.Bool.Decides.{nat_tests}
use Rattle.oz_rows.specs.declared.key.RowKey.{RowKey}
use Rattle.oz_rows.specs.declared.key.RowKey.TheVariants as keys
use Rattle.oz_rows.specs.Order.{key_order}
use Rattle.oz_rows.specs.RowMaps.{IsBelow}
use Rattle.oz_rows.specs.laws.Order.{itself, below_above}
use Rattle.oz_effects.specs.Parts.{IsFirst, front_of, part_order}
use Rattle.oz_effects.specs.declared.parts.Part.{Part}
use Rattle.oz_effects.specs.declared.parts.Part.TheVariants as parts

abbrev names : List ℕ → List ℕ → Ordering
names = slice_cmp nat_cmp

-- how an empty name, and 0, stand to others, and what stands behind
name_then : (k : List ℕ) (behind : Ordering) → is_gt behind ≡ false → is_gt (ordering_then (names [] k) behind) ≡ false
name_then [] behind e = e
name_then (x ∷ k) behind e = refl

number_then : (n : ℕ) (behind : Ordering) → is_gt behind ≡ false → is_gt (ordering_then (names (0 ∷ []) (n ∷ [])) behind) ≡ false
number_then n behind e = by (nat_cmp 0 n) (grind (arith, nat_tests))
  where
    by : (o : Ordering) → is_gt o ≡ false → is_gt (ordering_then (ordering_then o Equal) behind) ≡ false
    by Less not_above = refl
    by Equal not_above = e
    by Greater not_above = absurd (false≢true (sym not_above))

one_front : (a behind : Ordering) → ordering_then a Equal ≡ Equal → ordering_then a behind ≡ behind
one_front Equal behind e = refl
one_front Less behind e = absurd (false≢true (ap is_eq e))
one_front Greater behind e = absurd (false≢true (ap is_eq e))

two_front : (a b behind : Ordering) → ordering_then a (ordering_then b Equal) ≡ Equal → ordering_then a (ordering_then b behind) ≡ behind
two_front Equal b behind e = one_front b behind e
two_front Less b behind e = absurd (false≢true (ap is_eq e))
two_front Greater b behind e = absurd (false≢true (ap is_eq e))

not_below : (start other : RowKey) → is_gt (key_order start other) ≡ false → IsBelow other start → ⊥
not_below start other e below = false≢true (sym e ∙ ap is_gt (below_above other start below))

module _ (v b : List ℕ) where
  all_keys : (other : RowKey) → part_order (front_of parts.AllKeys v b) other ≡ Equal → is_gt (key_order (keys.Key [] [] []) other) ≡ false
  all_keys (keys.Key w c k) e = name_then w _ (name_then c _ (name_then k Equal refl))
  all_keys other e = absurd (false≢true (ap is_eq e))

  buckets : (other : RowKey) → part_order (front_of parts.Buckets v b) other ≡ Equal → is_gt (key_order (keys.Bucket v []) other) ≡ false
  buckets (keys.Bucket w c) e = ap is_gt (one_front (names v w) _ e) ∙ name_then c Equal refl
  buckets other e = absurd (false≢true (ap is_eq e))

  own_keys : (other : RowKey) → part_order (front_of parts.Keys v b) other ≡ Equal → is_gt (key_order (keys.Key v b []) other) ≡ false
  own_keys (keys.Key w c k) e = ap is_gt (two_front (names v w) (names b c) _ e) ∙ name_then k Equal refl
  own_keys other e = absurd (false≢true (ap is_eq e))

  sessions : (other : RowKey) → part_order (front_of parts.Sessions v b) other ≡ Equal → is_gt (key_order (keys.Open v b [] 0) other) ≡ false
  sessions (keys.Open w c k n) e = ap is_gt (two_front (names v w) (names b c) _ e) ∙ name_then k _ (number_then n Equal refl)
  sessions other e = absurd (false≢true (ap is_eq e))

  deleted : (other : RowKey) → part_order (front_of parts.Deleted v b) other ≡ Equal → is_gt (key_order (keys.Deleted v b 0 [] 0) other) ≡ false
  deleted (keys.Deleted w c o k l) e = ap is_gt (two_front (names v w) (names b c) _ e) ∙ number_then o _ (name_then k _ (number_then l Equal refl))
  deleted other e = absurd (false≢true (ap is_eq e))

  snapshots : (other : RowKey) → part_order (front_of parts.Snapshots v b) other ≡ Equal → is_gt (key_order (keys.Snapshot v b 0) other) ≡ false
  snapshots (keys.Snapshot w c n) e = ap is_gt (two_front (names v w) (names b c) _ e) ∙ number_then n Equal refl
  snapshots other e = absurd (false≢true (ap is_eq e))

  snapshot_keys : (other : RowKey) → part_order (front_of parts.SnapshotKeys v b) other ≡ Equal → is_gt (key_order (keys.SnapshotKey v b 0 []) other) ≡ false
  snapshot_keys (keys.SnapshotKey w c n k) e = ap is_gt (two_front (names v w) (names b c) _ e) ∙ number_then n _ (name_then k Equal refl)
  snapshot_keys other e = absurd (false≢true (ap is_eq e))

  renamed : (other : RowKey) → part_order (front_of parts.Renamed v b) other ≡ Equal → is_gt (key_order (keys.Renamed v b 0 0) other) ≡ false
  renamed (keys.Renamed w c o l) e = ap is_gt (two_front (names v w) (names b c) _ e) ∙ number_then o _ (number_then l Equal refl)
  renamed other e = absurd (false≢true (ap is_eq e))

  pub first_of_all_keys : IsFirst (front_of parts.AllKeys v b) (keys.Key [] [] [])
  first_of_all_keys = record { among = refl; least = λ other e. not_below (keys.Key [] [] []) other (all_keys other e) }

  pub first_bucket : IsFirst (front_of parts.Buckets v b) (keys.Bucket v [])
  first_bucket = record { among = itself (keys.Volume v); least = λ other e. not_below (keys.Bucket v []) other (buckets other e) }

  pub first_key : IsFirst (front_of parts.Keys v b) (keys.Key v b [])
  first_key = record { among = itself (keys.Bucket v b); least = λ other e. not_below (keys.Key v b []) other (own_keys other e) }

  pub first_session : IsFirst (front_of parts.Sessions v b) (keys.Open v b [] 0)
  first_session = record { among = itself (keys.Bucket v b); least = λ other e. not_below (keys.Open v b [] 0) other (sessions other e) }

  pub first_deleted : IsFirst (front_of parts.Deleted v b) (keys.Deleted v b 0 [] 0)
  first_deleted = record { among = itself (keys.Bucket v b); least = λ other e. not_below (keys.Deleted v b 0 [] 0) other (deleted other e) }

  pub first_snapshot : IsFirst (front_of parts.Snapshots v b) (keys.Snapshot v b 0)
  first_snapshot = record { among = itself (keys.Bucket v b); least = λ other e. not_below (keys.Snapshot v b 0) other (snapshots other e) }

  pub first_snapshot_key : IsFirst (front_of parts.SnapshotKeys v b) (keys.SnapshotKey v b 0 [])
  first_snapshot_key = record { among = itself (keys.Bucket v b); least = λ other e. not_below (keys.SnapshotKey v b 0 []) other (snapshot_keys other e) }

  pub first_renamed : IsFirst (front_of parts.Renamed v b) (keys.Renamed v b 0 0)
  first_renamed = record { among = itself (keys.Bucket v b); least = λ other e. not_below (keys.Renamed v b 0 0) other (renamed other e) }

-- a key that was made of empty names is the first of its part
pub made_first : {E : Type 0} (part its : Part) (v b none : List ℕ) (start : List ℕ → RowKey) (result : Result RowKey E) → part ≡ its → none ≡ [] → IsFirst (front_of its v b) (start [])
    → IfOk result (λ made. made ≡ start none) → IfOk result (IsFirst (front_of part v b))
made_first part its v b none start (Ok made) is empty first e = subst (λ (p : Part). IsFirst (front_of p v b) made) (sym is) (subst (IsFirst (front_of its v b)) (sym (e ∙ ap start empty)) first)
made_first part its v b none start (Err fault) is empty first e = tt
