-- What a row of a volume or a bucket that comes or goes does to what the rows stand for.
use Rattle.std.proofs.Common.{◌≡◌, ◌<◌, ℕ, Bool, true, false, ◌&&◌, List, Option, None, Some, is_some, cond, refl, sym}
use Rattle.std.proofs.Common.{◌∙◌, ap, subst, arith}
use mathlib.Core.Bool.{false≢true}
use Rattle.std.proofs.lemmas.Cmp.{nat_list_cmp_total, eq_by_cmp_equiv}
use Rattle.std.specs.Ordering.{nat_cmp, is_eq, eq_by_cmp, ordering_then}
use Rattle.std.specs.declared.cmp.Ordering.{Ordering}
use Rattle.std.specs.declared.cmp.Ordering.TheVariants.{Less, Equal, Greater}
use Rattle.std.specs.Cmp.Lexicographic.{slice_cmp}
use Rattle.std.specs.FinMap.{get, get-insert, get-remove, slice_cmp-IsAntisymmetric, nat_cmp-IsAntisymmetric}
use Rattle.std.specs.Option.{option_and_then}
use Rattle.oz_namespace.specs.declared.namespace.Bucket.{Bucket}
use Rattle.oz_namespace.specs.declared.namespace.Namespace.{Namespace}
use Rattle.oz_namespace.specs.Namespace.{ByName, has_volume, has_bucket, bucket_of, buckets_of, with_volume}
use Rattle.oz_namespace.specs.Namespace.{without_volume}
use Rattle.oz_rows.specs.declared.key.RowKey.{RowKey}
use Rattle.oz_rows.specs.declared.key.RowKey.TheVariants as keys
use Rattle.oz_rows.specs.declared.row.Row.{Row}
use Rattle.oz_rows.specs.Rows.{kind_of}
use Rattle.oz_rows.specs.RowMaps.{Rows, is_same}
use Rattle.oz_sound.specs.StandsFor.{StandsFor}
use Rattle.oz_rows.specs.laws.Order.{equal_from_test}
use Rattle.oz_sound.specs.laws.BucketRows.{SeenAlike, seen_again, stand_on}

abbrev pub is_name : List ℕ → List ℕ → Bool
is_name a b = eq_by_cmp (slice_cmp nat_cmp) a b

pub one_name : (a b : List ℕ) → is_name a b ≡ true → a ≡ b
one_name a b e = slice_cmp-IsAntisymmetric nat_cmp-IsAntisymmetric a b (equal_from_test _ e)

pub itself : (a : List ℕ) → is_name a a ≡ true
itself a = (eq_by_cmp_equiv nat_list_cmp_total).refl a

tied : (o : Ordering) → is_eq (ordering_then o Equal) ≡ is_eq o
tied Less = refl
tied Equal = refl
tied Greater = refl

both_tied : (o p : Ordering) → is_eq (ordering_then o (ordering_then p Equal)) ≡ is_eq o && is_eq p
both_tied Less p = refl
both_tied Equal p = tied p
both_tied Greater p = refl

turned : (a b : List ℕ) → is_name a b ≡ is_name b a
turned a b = (eq_by_cmp_equiv nat_list_cmp_total).symm a b

pub same_volume : (a b : List ℕ) → is_same (keys.Volume a) (keys.Volume b) ≡ is_name b a
same_volume a b = tied (slice_cmp nat_cmp a b) ∙ turned a b

pub same_bucket : (v b w c : List ℕ) → is_same (keys.Bucket v b) (keys.Bucket w c) ≡ is_name w v && is_name c b
same_bucket v b w c = both_tied (slice_cmp nat_cmp v w) (slice_cmp nat_cmp b c) ∙ (λ i. turned v w i && turned b c i)

-- the rows after one of them became this
abbrev pub replaced : Rows → RowKey → Option Row → Rows
replaced all key row q = cond (is_same key q) row (all q)

pub volume_kept : (all : Rows) (v : List ℕ) (row : Option Row) (key : RowKey) → 1 < kind_of key → replaced all (keys.Volume v) row key ≡ all key
volume_kept all v row (keys.Volume w) kind = absurd (omega arith)
volume_kept all v row (keys.Bucket w b) kind = refl
volume_kept all v row (keys.Key w b k) kind = refl
volume_kept all v row (keys.Open w b k n) kind = refl
volume_kept all v row (keys.Deleted w b o k l) kind = refl
volume_kept all v row (keys.Snapshot w b n) kind = refl
volume_kept all v row (keys.SnapshotKey w b n k) kind = refl
volume_kept all v row (keys.Renamed w b o l) kind = refl
volume_kept all v row (keys.Stripe s) kind = refl

pub bucket_kept : (all : Rows) (v b : List ℕ) (row : Option Row) (key : RowKey) → 2 < kind_of key → replaced all (keys.Bucket v b) row key ≡ all key
bucket_kept all v b row (keys.Volume w) kind = absurd (omega arith)
bucket_kept all v b row (keys.Bucket w c) kind = absurd (omega arith)
bucket_kept all v b row (keys.Key w c k) kind = refl
bucket_kept all v b row (keys.Open w c k n) kind = refl
bucket_kept all v b row (keys.Deleted w c o k l) kind = refl
bucket_kept all v b row (keys.Snapshot w c n) kind = refl
bucket_kept all v b row (keys.SnapshotKey w c n k) kind = refl
bucket_kept all v b row (keys.Renamed w c o l) kind = refl
bucket_kept all v b row (keys.Stripe s) kind = refl

-- a volume without buckets goes
module _ (all now : Rows) (namespace : Namespace) (volume : List ℕ) (stands : StandsFor all namespace)
    (no_buckets : (bucket : List ℕ) → has_bucket namespace volume bucket ≡ false)
    (is : (key : RowKey) → now key ≡ replaced all (keys.Volume volume) None key) where
  abbrev after : Namespace
  after = without_volume namespace volume

  gone_buckets : (other : List ℕ) → buckets_of after other ≡ cond (is_name other volume) None (buckets_of namespace other)
  gone_buckets other = get-remove nat_list_cmp_total namespace.volumes volume other

  absent : {A : Type 0} (o : Option A) → is_some o ≡ false → o ≡ None
  absent None e = refl
  absent (Some a) e = absurd (false≢true (sym e))

  same_bucket_there : (other bucket : List ℕ) → bucket_of after other bucket ≡ bucket_of namespace other bucket
  same_bucket_there other bucket = ap (option_and_then (λ (bs : ByName Bucket). get bs bucket)) (gone_buckets other) ∙ by_test (is_name other volume) refl
    where
      by_test : (t : Bool) → is_name other volume ≡ t
          → option_and_then (λ (bs : ByName Bucket). get bs bucket) (cond t None (buckets_of namespace other)) ≡ bucket_of namespace other bucket
      by_test true e = sym (ap (λ v. bucket_of namespace v bucket) (one_name other volume e) ∙ absent _ (no_buckets bucket))
      by_test false e = refl

  volume_row : (other : List ℕ) → has_volume after other ≡ is_some (now (keys.Volume other))
  volume_row other = ap is_some (gone_buckets other) ∙ by_test (is_name other volume)
      ∙ ap (λ t. is_some (cond t None (all (keys.Volume other)))) (sym (same_volume volume other)) ∙ ap is_some (sym (is (keys.Volume other)))
    where
      by_test : (t : Bool) → is_some (cond t None (buckets_of namespace other)) ≡ is_some (cond t None (all (keys.Volume other)))
      by_test true = refl
      by_test false = stands.volumes other

  pub volume_goes : StandsFor now (without_volume namespace volume)
  volume_goes = stand_on all now (λ key kind. is key ∙ volume_kept all volume None key (omega arith)) namespace after refl
      (λ v b. seen_again _ _ (same_bucket_there v b)) volume_row
      (λ v b. ap is_some (same_bucket_there v b) ∙ stands.buckets v b ∙ ap is_some (sym (is (keys.Bucket v b))))
      stands

-- a bucket in which nothing is seen comes or goes
module _ (all now : Rows) (namespace : Namespace) (volume bucket : List ℕ) (row : Option Row) (stands : StandsFor all namespace)
    (is : (key : RowKey) → now key ≡ replaced all (keys.Bucket volume bucket) row key)
    (buckets changed : ByName Bucket) (there : buckets_of namespace volume ≡ Some buckets) (new : Option Bucket)
    (gets : (q : List ℕ) → get changed q ≡ cond (is_name q bucket) new (get buckets q))
    (seen : SeenAlike (get buckets bucket) new) (row_is : is_some new ≡ is_some row) where
  abbrev changed_namespace : Namespace
  changed_namespace = with_volume namespace volume changed

  volumes_now : (other : List ℕ) → buckets_of changed_namespace other ≡ cond (is_name other volume) (Some changed) (buckets_of namespace other)
  volumes_now other = get-insert nat_list_cmp_total namespace.volumes volume changed other

  bucket_now : (other q : List ℕ) → bucket_of changed_namespace other q ≡ cond (is_name other volume && is_name q bucket) new (bucket_of namespace other q)
  bucket_now other q = ap (option_and_then (λ (bs : ByName Bucket). get bs q)) (volumes_now other) ∙ by_test (is_name other volume) refl
    where
      by_test : (t : Bool) → is_name other volume ≡ t
          → option_and_then (λ (bs : ByName Bucket). get bs q) (cond t (Some changed) (buckets_of namespace other))
          ≡ cond (t && is_name q bucket) new (bucket_of namespace other q)
      by_test true e = gets q
          ∙ ap (cond (is_name q bucket) new)
          (sym (ap (option_and_then (λ (bs : ByName Bucket). get bs q)) (ap (buckets_of namespace) (one_name other volume e) ∙ there)))
      by_test false e = refl

  old_bucket : bucket_of namespace volume bucket ≡ get buckets bucket
  old_bucket = ap (option_and_then (λ (bs : ByName Bucket). get bs bucket)) there

  seen_now : (other q : List ℕ) → SeenAlike (bucket_of namespace other q) (bucket_of changed_namespace other q)
  seen_now other q = by_test (is_name other volume) refl (is_name q bucket) refl
    where
      plain : is_name other volume && is_name q bucket ≡ false → SeenAlike (bucket_of namespace other q) (bucket_of changed_namespace other q)
      plain e = seen_again _ _ (bucket_now other q ∙ ap (λ t. cond t new (bucket_of namespace other q)) e)

      by_test : (t : Bool) → is_name other volume ≡ t → (s : Bool) → is_name q bucket ≡ s
          → SeenAlike (bucket_of namespace other q) (bucket_of changed_namespace other q)
      by_test true e true f =
          let old = (λ i. bucket_of namespace (one_name other volume e i) (one_name q bucket f i)) ∙ old_bucket in
          let now = bucket_now other q ∙ ap (λ t. cond (t && is_name q bucket) new (bucket_of namespace other q)) e
          ∙ ap (λ t. cond t new (bucket_of namespace other q)) f in
          subst (λ o. SeenAlike o (bucket_of changed_namespace other q)) (sym old) (subst (SeenAlike (get buckets bucket)) (sym now) seen)
      by_test true e false f = plain (ap (λ t. t && is_name q bucket) e ∙ f)
      by_test false e s f = plain (ap (λ t. t && is_name q bucket) e)

  volume_there : (other : List ℕ) → has_volume changed_namespace other ≡ is_some (now (keys.Volume other))
  volume_there other = ap is_some (volumes_now other) ∙ by_test (is_name other volume) refl ∙ stands.volumes other ∙ ap is_some (sym (is (keys.Volume other)))
    where
      by_test : (t : Bool) → is_name other volume ≡ t → is_some (cond t (Some changed) (buckets_of namespace other)) ≡ has_volume namespace other
      by_test true e = sym (ap is_some (ap (buckets_of namespace) (one_name other volume e) ∙ there))
      by_test false e = refl

  bucket_row : (other q : List ℕ) → has_bucket changed_namespace other q ≡ is_some (now (keys.Bucket other q))
  bucket_row other q = ap is_some (bucket_now other q) ∙ by_test (is_name other volume && is_name q bucket)
      ∙ ap (λ t. is_some (cond t row (all (keys.Bucket other q)))) (sym (same_bucket volume bucket other q)) ∙ ap is_some (sym (is (keys.Bucket other q)))
    where
      by_test : (t : Bool) → is_some (cond t new (bucket_of namespace other q)) ≡ is_some (cond t row (all (keys.Bucket other q)))
      by_test true = row_is
      by_test false = stands.buckets other q

  pub bucket_changes : StandsFor now (with_volume namespace volume changed)
  bucket_changes = stand_on all now
      (λ key kind. is key ∙ bucket_kept all volume bucket row key kind) namespace changed_namespace refl seen_now volume_there bucket_row stands
