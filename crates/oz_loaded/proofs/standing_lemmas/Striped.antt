-- Volumes out of parts, one stripe after another.
use Rattle.std.proofs.Common.{◌≡◌, ◌==◌, ◌<◌, ◌≤◌, ◌+◌, ℕ, zero, suc, Bool, true, false, List, [], ◌∷◌, length, map, Option, None, Some, IsSome, cond, get_or, slice_get, sum, refl, sym, ◌∙◌, ap, subst, arith}
use mathlib.Core.Bool.{false≢true}
use Rattle.std.specs.List.{AllByRecursion}
use Rattle.std.specs.FinMap.{empty, get, get-empty}
use Rattle.std.specs.Cmp.Lexicographic.{slice_cmp}
use Rattle.std.specs.Ordering.{nat_cmp}
use Rattle.std.proofs.lemmas.Bool.Decides.{nat_tests}
use Rattle.std.proofs.lemmas.Nat.{mod_below}
use Rattle.oz_cache.specs.Cache.{CacheView}
use Rattle.oz_names.specs.Names.{stripe_of}
use Rattle.oz_namespace.specs.declared.namespace.Bucket.{Bucket}
use Rattle.oz_namespace.specs.declared.namespace.Snapshot.{Snapshot}
use Rattle.oz_namespace.specs.Namespace.{ByName, sixteen}
use Rattle.oz_rows.specs.declared.key.RowKey.{RowKey}
use Rattle.oz_rows.specs.declared.key.RowKey.TheVariants as keys
use Rattle.oz_rows.specs.declared.row.Row.{Row}
use Rattle.oz_rows.specs.RowMaps.{Rows, row_of}
use Rattle.oz_sound.specs.StandsFor.{AreSnapshots, drawn_in, pieces_in}
use Rattle.oz_sound.specs.stripes.Stripes.{is_own, only}
use Rattle.oz_loaded.specs.standing.Standing.{AddsVolumes, AreStripesOf, BucketIs, IsBucketOf, VolumeIs, VolumesAre, drawn_at}

abbrev Volumes : Type 0
Volumes = ByName (ByName Bucket)

pub item_at : {A : Type 0} (l : List A) (n : ℕ) (or : A) → n < length l → slice_get l n ≡ Some (get_or l n or)
item_at [] n or e = absurd (omega (arith, e))
item_at (x ∷ l) zero or e = refl
item_at (x ∷ l) (suc n) or e = item_at l n or (omega (arith, e))

-- rows that have of a stripe what others have
module _ (all now : Rows) (v : List ℕ) (own : (key : RowKey) → is_own (stripe_of v) key ≡ true → now key ≡ all key) where
  its : (stripe_of v == stripe_of v) ≡ true
  its = grind (arith, nat_tests)

  snapshots : (b : List ℕ) (numbers : List ℕ) (l : List Snapshot) → AreSnapshots now v b numbers l → AreSnapshots all v b numbers l
  snapshots b [] [] are = tt
  snapshots b [] (s ∷ l) are = are
  snapshots b (n ∷ numbers) [] are = are
  snapshots b (n ∷ numbers) (s ∷ l) are = (
    record {
      previous = are.0.previous;
      row = sym (own (keys.Snapshot v b n) its) ∙ are.0.row;
      pieces = λ key. are.0.pieces key ∙ ap pieces_in (own (keys.SnapshotKey v b n key) its);
    },
    snapshots b numbers l are.1,
  )

  bucket : (b : List ℕ) (made : Bucket) → IsBucketOf now v b made → IsBucketOf all v b made
  bucket b made it = record {
    keys_are = λ key. it.keys_are key ∙ ap pieces_in (own (keys.Key v b key) its);
    sessions_are_rows = λ n s e. sym (own (keys.Open v b s.key n) its) ∙ it.sessions_are_rows n s e;
    rows_have_sessions = λ key n blocks e. it.rows_have_sessions key n blocks (own (keys.Open v b key n) its ∙ e);
    snapshots_stand =
        let stand = it.snapshots_stand in
        record {
          numbers = stand.numbers;
          rise = stand.rise;
          every = λ n live. stand.every n (live.0, live.1, own (keys.Snapshot v b n) its ∙ live.2);
          each = snapshots b stand.numbers made.snapshots stand.each;
        };
  }

  one_bucket : (b : List ℕ) (o : Option Bucket) → BucketIs now v b o → BucketIs all v b o
  one_bucket b None e = sym (own (keys.Bucket v b) its) ∙ e
  one_bucket b (Some made) is = (subst IsSome (own (keys.Bucket v b) its) is.0, bucket b made is.1)

  volume : (o : Option (ByName Bucket)) → VolumeIs now v o → VolumeIs all v o
  volume None e = sym (own (keys.Volume v) its) ∙ e
  volume (Some buckets) is = (subst IsSome (own (keys.Volume v) its) is.0, λ b. one_bucket b (get buckets b) (is.1 b))

module _ (all : Rows) where
  -- the volumes of the stripes below one are in the map, and no others
  pub record BelowAre (stripe : ℕ) (made : Volumes) : Type 0 where
    pub lower : (v : List ℕ) → stripe_of v < stripe → VolumeIs all v (get made v)
    pub others : (v : List ℕ) → stripe ≤ stripe_of v → get made v ≡ None

  pub none_below : BelowAre 0 empty
  none_below = record { lower = λ v e. absurd (omega (arith, e)); others = λ v e. get-empty (slice_cmp nat_cmp) v }

  pub one_more : (now : Rows) (stripe : ℕ) (before after : Volumes) → ((key : RowKey) → now key ≡ only stripe all key) → AddsVolumes now before after → BelowAre stripe before → BelowAre (stripe + 1) after
  one_more now stripe before after own adds below = record { lower = λ v. lower v (stripe_of v == stripe) refl; others = λ v. others v (stripe_of v == stripe) refl }
    where
      not_here : (v : List ℕ) → (stripe_of v == stripe) ≡ false → get after v ≡ get before v
      not_here v e = adds.others v (own (keys.Volume v) ∙ ap (λ (t : Bool). cond t (all (keys.Volume v)) None) e)

      same_stripe : (v : List ℕ) → (stripe_of v == stripe) ≡ true → stripe_of v ≡ stripe
      same_stripe v e = grind (arith, nat_tests, e)

      other_stripe : (v : List ℕ) → (stripe_of v == stripe) ≡ false → stripe_of v ≡ stripe → ⊥
      other_stripe v e = grind (arith, nat_tests, e)

      agree : (v : List ℕ) → stripe_of v ≡ stripe → (key : RowKey) → is_own (stripe_of v) key ≡ true → now key ≡ all key
      agree v same key e = own key ∙ ap (λ (t : Bool). cond t (all key) None) (subst (λ (s : ℕ). is_own s key ≡ true) same e)

      here : (v : List ℕ) → (stripe_of v == stripe) ≡ true → (o : Option Row) → now (keys.Volume v) ≡ o → VolumeIs all v (get after v)
      here v same None e =
          let is_none : get after v ≡ None = adds.others v e ∙ below.others v (omega (arith, same_stripe v same)) in
          subst (VolumeIs all v) (sym is_none) (sym (agree v (same_stripe v same) (keys.Volume v) (its all now v (agree v (same_stripe v same)))) ∙ e)
      here v same (Some row) e = volume all now v (agree v (same_stripe v same)) (get after v) (adds.here v (subst IsSome (sym e) refl))

      lower : (v : List ℕ) (t : Bool) → (stripe_of v == stripe) ≡ t → stripe_of v < stripe + 1 → VolumeIs all v (get after v)
      lower v true same under = here v same (now (keys.Volume v)) refl
      lower v false apart under = subst (VolumeIs all v) (sym (not_here v apart)) (below.lower v (let n = other_stripe v apart in omega (arith, under, n)))

      others : (v : List ℕ) (t : Bool) → (stripe_of v == stripe) ≡ t → stripe + 1 ≤ stripe_of v → get after v ≡ None
      others v true same over = absurd (omega (arith, same_stripe v same, over))
      others v false apart over = not_here v apart ∙ below.others v (omega (arith, over))

  pub next_below : (parts : List CacheView) (part : CacheView) (stripe : ℕ) (before after : Volumes) → AreStripesOf all parts → slice_get parts stripe ≡ Some part → AddsVolumes (row_of part.durable.rows) before after → BelowAre stripe before → BelowAre (stripe + 1) after
  next_below parts part stripe before after are is = one_more (row_of part.durable.rows) stripe before after (are.each stripe part is)

  pub all_below : (made : Volumes) → BelowAre 16 made → VolumesAre all made
  all_below made below v = below.lower v (mod_below (sum v) 16 (omega arith))

  -- ---- the numbers that were drawn

  module _ (parts : List CacheView) (are : AreStripesOf all parts) where
    there : (l : List CacheView) (n : ℕ) → n < length l → IsSome (slice_get l n)
    there [] n e = absurd (omega (arith, e))
    there (x ∷ l) zero e = refl
    there (x ∷ l) (suc n) e = there l n (omega (arith, e))

    drawn_there : (n : ℕ) → n < 16 → drawn_at n (slice_get parts n) ≡ drawn_in (all (keys.Stripe n))
    drawn_there n e = by (slice_get parts n) refl
      where
        itself : (n == n) ≡ true
        itself = grind (arith, nat_tests)

        by : (o : Option CacheView) → slice_get parts n ≡ o → drawn_at n o ≡ drawn_in (all (keys.Stripe n))
        by None is = absurd (false≢true (subst IsSome is (there parts n (omega (arith, e, are.sixteen)))))
        by (Some part) is = ap drawn_in (are.each n part is (keys.Stripe n) ∙ ap (λ (t : Bool). cond t (all (keys.Stripe n)) None) itself)

    alike : (l : List ℕ) → AllByRecursion (λ n. n < 16) l → map (λ n. drawn_at n (slice_get parts n)) l ≡ map (λ n. drawn_in (all (keys.Stripe n))) l
    alike [] below = refl
    alike (n ∷ l) below = λ i. drawn_there n below.0 i ∷ alike l below.1 i

    pub all_drawn : map (λ n. drawn_at n (slice_get parts n)) sixteen ≡ map (λ n. drawn_in (all (keys.Stripe n))) sixteen
    all_drawn = alike sixteen (omega arith, (omega arith, (omega arith, (omega arith, (omega arith, (omega arith, (omega arith, (omega arith, (omega arith, (omega arith, (omega arith, (omega arith, (omega arith, (omega arith, (omega arith, (omega arith, tt))))))))))))))))
