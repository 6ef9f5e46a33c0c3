-- Volumes put into a map by a walk from each to the next.
use Rattle.std.proofs.Common.{◌≡◌, ◌⊎◌, inl, inr, ℕ, Bool, true, false, List, [], ◌∷◌, Option, None, Some, IsSome, is_some, cond, refl, sym, ◌∙◌, ap, subst, arith}
use mathlib.Core.Bool.{false≢true}
use Rattle.std.specs.Cmp.Lexicographic.{slice_cmp}
use Rattle.std.specs.Ordering.{eq_by_cmp, is_eq, nat_cmp}
use Rattle.std.specs.declared.cmp.Ordering.{Ordering}
use Rattle.std.specs.declared.cmp.Ordering.TheVariants.{Less, Equal, Greater}
use Rattle.std.specs.FinMap.{get, IsAntisymmetric, nat_cmp-IsAntisymmetric, slice_cmp-IsAntisymmetric}
use Rattle.std.proofs.lemmas.Cmp.{nat_list_cmp_total, tied_itself}
use Rattle.oz_namespace.specs.declared.namespace.Bucket.{Bucket}
use Rattle.oz_namespace.specs.Namespace.{ByName}
use Rattle.oz_rows.specs.declared.entry.RowEntry.{RowEntry}
use Rattle.oz_rows.specs.declared.key.RowKey.{RowKey}
use Rattle.oz_rows.specs.declared.key.RowKey.TheVariants as keys
use Rattle.oz_rows.specs.declared.row.Row.{Row}
use Rattle.oz_rows.specs.Order.{key_order}
use Rattle.oz_rows.specs.Rows.{kind_of}
use Rattle.oz_rows.specs.RowMaps.{HasNoNext, IsBelow, IsNext, KeysRise, row_of}
use Rattle.oz_rows.specs.laws.Order.{above_below, equal_from_test, itself, key_order_total}
use Rattle.oz_rows.specs.laws.Same.{same_is_one}
use Rattle.oz_loaded.specs.standing.Made.{buckets_made, entered, volume_in}
use Rattle.oz_loaded.specs.standing.Standing.{AddsVolumes, VolumeIs}
use Rattle.oz_loaded.proofs.standing_lemmas.OneBucket.{volume_is}
use Rattle.oz_loaded.proofs.standing_lemmas.Filling.{other_after, there_after}

names_apart : IsAntisymmetric (slice_cmp nat_cmp)
names_apart = slice_cmp-IsAntisymmetric nat_cmp-IsAntisymmetric

a_volume : (key : RowKey) → kind_of key ≡ 1 → (w : List ℕ) × (key ≡ keys.Volume w)
a_volume (keys.Volume w) e = (w, refl)
a_volume (keys.Bucket w c) e = absurd (omega (arith, e))
a_volume (keys.Key w c k) e = absurd (omega (arith, e))
a_volume (keys.Open w c k n) e = absurd (omega (arith, e))
a_volume (keys.Deleted w c o k l) e = absurd (omega (arith, e))
a_volume (keys.Snapshot w c n) e = absurd (omega (arith, e))
a_volume (keys.SnapshotKey w c n k) e = absurd (omega (arith, e))
a_volume (keys.Renamed w c o l) e = absurd (omega (arith, e))
a_volume (keys.Stripe s) e = absurd (omega (arith, e))

same_volume : (v w : List ℕ) → keys.Volume v ≡ keys.Volume w → v ≡ w
same_volume v w e = cc e

-- Up to a key all volumes that have a row are in the map, and the others are as they were.
pub record Walked (all : List RowEntry) (before made : ByName (ByName Bucket)) (last : RowKey) : Type 0 where
  pub kind : kind_of last ≡ 1
  pub done : (v : List ℕ) → IsSome (row_of all (keys.Volume v)) → (IsBelow last (keys.Volume v) → ⊥) → get made v ≡ Some (buckets_made all v)
  pub rest : (v : List ℕ) → (row_of all (keys.Volume v) ≡ None) ⊎ IsBelow last (keys.Volume v) → get made v ≡ get before v

module _ (all : List RowEntry) where
  abbrev Volumes : Type 0
  Volumes = ByName (ByName Bucket)

  pub here : (made : Volumes) (w : List ℕ) → IsSome (row_of all (keys.Volume w)) → get (entered made (volume_in all (keys.Volume w))) w ≡ Some (buckets_made all w)
  here made w some =
      ap (λ (t : Bool). get (entered made (cond t (Some (w, buckets_made all w)) None)) w) some
      ∙ there_after nat_list_cmp_total names_apart made w (buckets_made all w)

  pub none : (made : Volumes) (w q : List ℕ) → row_of all (keys.Volume w) ≡ None → get (entered made (volume_in all (keys.Volume w))) q ≡ get made q
  none made w q e = ap (λ (o : Option Row). get (entered made (cond (is_some o) (Some (w, buckets_made all w)) None)) q) e

  pub other : (made : Volumes) (w q : List ℕ) → eq_by_cmp (slice_cmp nat_cmp) q w ≡ false → get (entered made (volume_in all (keys.Volume w))) q ≡ get made q
  other made w q apart = by (is_some (row_of all (keys.Volume w)))
    where
      by : (t : Bool) → get (entered made (cond t (Some (w, buckets_made all w)) None)) q ≡ get made q
      by true = other_after nat_list_cmp_total names_apart made w q (buckets_made all w) apart
      by false = refl

  some_or_none : (o : Option Row) → IsSome o ⊎ (o ≡ None)
  some_or_none None = inr refl
  some_or_none (Some row) = inl refl

  -- the empty name is below all others
  pub begins : (before : Volumes) → Walked all before (entered before (volume_in all (keys.Volume []))) (keys.Volume [])
  begins before = record { kind = refl; done = done; rest = rest }
    where
      done : (v : List ℕ) → IsSome (row_of all (keys.Volume v)) → (IsBelow (keys.Volume []) (keys.Volume v) → ⊥) → get (entered before (volume_in all (keys.Volume []))) v ≡ Some (buckets_made all v)
      done [] some not_below = here before [] some
      done (x ∷ v) some not_below = absurd (not_below refl)

      rest : (v : List ℕ) → (row_of all (keys.Volume v) ≡ None) ⊎ IsBelow (keys.Volume []) (keys.Volume v) → get (entered before (volume_in all (keys.Volume []))) v ≡ get before v
      rest [] (inl e) = none before [] [] e
      rest [] (inr below) = absurd (cc below)
      rest (x ∷ v) which = other before [] (x ∷ v) refl

  step : (before made : Volumes) (last : RowKey) (w : List ℕ) (row : Row) → IsNext (row_of all) last (keys.Volume w) row → Walked all before made last → Walked all before (entered made (volume_in all (keys.Volume w))) (keys.Volume w)
  step before made last w row next walked = record { kind = refl; done = λ v. done v (eq_by_cmp (slice_cmp nat_cmp) v w) refl; rest = λ v. rest v (eq_by_cmp (slice_cmp nat_cmp) v w) refl }
    where
      one_name : (v : List ℕ) → eq_by_cmp (slice_cmp nat_cmp) v w ≡ true → v ≡ w
      one_name v e = names_apart v w (equal_from_test (slice_cmp nat_cmp v w) e)

      -- between the two there is none
      not_between : (v : List ℕ) → eq_by_cmp (slice_cmp nat_cmp) v w ≡ false → IsSome (row_of all (keys.Volume v)) → (IsBelow (keys.Volume w) (keys.Volume v) → ⊥) → IsBelow last (keys.Volume v) → ⊥
      not_between v apart some not_above below = by (key_order (keys.Volume w) (keys.Volume v)) refl
        where
          by : (o : Ordering) → key_order (keys.Volume w) (keys.Volume v) ≡ o → ⊥
          by Less e = not_above e
          by Equal e =
              let same : v ≡ w = sym (same_volume w v (same_is_one (keys.Volume w) (keys.Volume v) (ap is_eq e))) in
              false≢true (sym apart ∙ ap (λ (v : List ℕ). eq_by_cmp (slice_cmp nat_cmp) v w) same ∙ ap (λ (o : Ordering). is_eq o) (tied_itself nat_list_cmp_total w))
          by Greater e = next.least (keys.Volume v) (record { has_row = some; same_kind = sym walked.kind; above = below }) (above_below (keys.Volume w) (keys.Volume v) e)

      done : (v : List ℕ) (t : Bool) → eq_by_cmp (slice_cmp nat_cmp) v w ≡ t → IsSome (row_of all (keys.Volume v)) → (IsBelow (keys.Volume w) (keys.Volume v) → ⊥) → get (entered made (volume_in all (keys.Volume w))) v ≡ Some (buckets_made all v)
      done v true same some not_above = subst (λ (v : List ℕ). get (entered made (volume_in all (keys.Volume w))) v ≡ Some (buckets_made all v)) (sym (one_name v same)) (here made w (subst (λ (v : List ℕ). IsSome (row_of all (keys.Volume v))) (one_name v same) some))
      done v false apart some not_above = other made w v apart ∙ walked.done v some (not_between v apart some not_above)

      has_row : IsSome (row_of all (keys.Volume w))
      has_row = next.is_above.has_row

      rest : (v : List ℕ) (t : Bool) → eq_by_cmp (slice_cmp nat_cmp) v w ≡ t → (row_of all (keys.Volume v) ≡ None) ⊎ IsBelow (keys.Volume w) (keys.Volume v) → get (entered made (volume_in all (keys.Volume w))) v ≡ get before v
      rest v true same (inl e) = absurd (false≢true (sym (ap is_some (sym (ap (λ (v : List ℕ). row_of all (keys.Volume v)) (one_name v same)) ∙ e)) ∙ has_row))
      rest v true same (inr below) =
          let again : IsBelow (keys.Volume w) (keys.Volume w) = subst (λ (v : List ℕ). IsBelow (keys.Volume w) (keys.Volume v)) (one_name v same) below in
          absurd (cc (sym (itself (keys.Volume w)) ∙ again))
      rest v false apart (inl e) = other made w v apart ∙ walked.rest v (inl e)
      rest v false apart (inr below) = other made w v apart ∙ walked.rest v (inr (key_order_total.trans last (keys.Volume w) (keys.Volume v) next.is_above.above below))

  pub steps : (before made : Volumes) (last found : RowKey) (row : Row) → IsNext (row_of all) last found row → Walked all before made last → Walked all before (entered made (volume_in all found)) found
  steps before made last found row next walked =
      let it = a_volume found (next.is_above.same_kind ∙ walked.kind) in
      subst (λ (found : RowKey). Walked all before (entered made (volume_in all found)) found) (sym it.1)
      (step before made last it.0 row (subst (λ (found : RowKey). IsNext (row_of all) last found row) it.1 next) walked)

  pub ends : (before made : Volumes) (last : RowKey) → KeysRise all → HasNoNext (row_of all) last → Walked all before made last → AddsVolumes (row_of all) before made
  ends before made last rise end walked = record {
    here = λ v some. subst (VolumeIs (row_of all) v) (sym (walked.done v some (λ below. end (keys.Volume v) (record { has_row = some; same_kind = sym walked.kind; above = below })))) (volume_is all rise v some);
    others = λ v e. walked.rest v (inl e);
  }
