-- The keys between the first key of a volume or a bucket and that of the next name.
use Rattle.std.proofs.Common.{◌≡◌, ℕ, List, [], ◌∷◌, ◌++◌, IsSome, refl, sym, ◌∙◌, ap, arith, inl, inr, ◌⊎◌}
use mathlib.Core.Bool.{false≢true}
use Rattle.std.specs.Ordering.{nat_cmp, is_lt, ordering_then}
use Rattle.std.specs.declared.cmp.Ordering.{Ordering}
use Rattle.std.specs.declared.cmp.Ordering.TheVariants.{Less, Equal, Greater}
use Rattle.std.specs.Cmp.Lexicographic.{slice_cmp}
use Rattle.std.proofs.lemmas.Cmp.{nat_list_cmp_total, nat_cmp_total, tied_itself}
use Rattle.std.proofs.lemmas.Bool.Decides.{nat_tests}
use Rattle.std.specs.FinMap.{nat_cmp-IsAntisymmetric, slice_cmp-IsAntisymmetric}
use Rattle.oz_rows.specs.declared.key.RowKey.{RowKey}
use Rattle.oz_rows.specs.declared.key.RowKey.TheVariants as keys
use Rattle.oz_rows.specs.Counts.{IsBetween}
use Rattle.oz_rows.specs.RowMaps.{Rows, IsBelow}

abbrev pub cmp : List ℕ → List ℕ → Ordering
cmp a b = slice_cmp nat_cmp a b

-- the name that comes next
abbrev pub next : List ℕ → List ℕ
next name = name ++ 0 ∷ []

tied : (a : List ℕ) → cmp a a ≡ Equal
tied a = tied_itself nat_list_cmp_total a

pub not_under_nothing : (a : List ℕ) → cmp a [] ≡ Less → ⊥
not_under_nothing [] e = false≢true (ap is_lt e)
not_under_nothing (x ∷ a) e = false≢true (ap is_lt e)

pub under_next : (a : List ℕ) → cmp a (next a) ≡ Less
under_next [] = refl
under_next (x ∷ a) = ap (λ o. ordering_then o (cmp a (next a))) (tied_itself nat_cmp_total x) ∙ under_next a

-- no name stands between a name and the next one
pub none_between : (v w : List ℕ) → (cmp w v ≡ Less → ⊥) → cmp w (next v) ≡ Less → w ≡ v
none_between [] [] over under = refl
none_between [] (x ∷ w) over under = absurd (by_order (nat_cmp x 0) refl under)
  where
    by_order : (o : Ordering) → nat_cmp x 0 ≡ o → ordering_then o (cmp w []) ≡ Less → ⊥
    by_order Less e under = grind (arith, nat_tests, e)
    by_order Equal e under = not_under_nothing w under
    by_order Greater e under = false≢true (ap is_lt under)
none_between (y ∷ v) [] over under = absurd (over refl)
none_between (y ∷ v) (x ∷ w) over under = by_order (nat_cmp x y) refl over under (none_between v w)
  where
    by_order : (o : Ordering) → nat_cmp x y ≡ o → (ordering_then o (cmp w v) ≡ Less → ⊥) → ordering_then o (cmp w (next v)) ≡ Less
        → ((cmp w v ≡ Less → ⊥) → cmp w (next v) ≡ Less → w ≡ v) → x ∷ w ≡ y ∷ v
    by_order Less e over under later = absurd (over refl)
    by_order Equal e over under later = λ i. nat_cmp-IsAntisymmetric x y e i ∷ later over under i
    by_order Greater e over under later = absurd (false≢true (ap is_lt under))

first_less : (o p : Ordering) → ordering_then o p ≡ Less → (p ≡ Less → ⊥) → o ≡ Less
first_less Less p e not = refl
first_less Equal p e not = absurd (not e)
first_less Greater p e not = e

then_less : (o p : Ordering) → ordering_then o p ≡ Less → (o ≡ Less) ⊎ ((o ≡ Equal) × (p ≡ Less))
then_less Less p e = inl refl
then_less Equal p e = inr (refl, e)
then_less Greater p e = absurd (false≢true (ap is_lt e))

-- nothing is below what is empty, whichever field comes first
then_nothing : (a : List ℕ) (o : Ordering) → (o ≡ Less → ⊥) → ordering_then (cmp a []) o ≡ Less → ⊥
then_nothing [] o not e = not e
then_nothing (x ∷ a) o not e = false≢true (ap is_lt e)

module _ (rows : Rows) (v : List ℕ) where
  abbrev pub first_bucket : List ℕ → RowKey
  first_bucket name = keys.Bucket name []

  pub a_bucket : (key : RowKey) → IsBetween rows (first_bucket v) (first_bucket (next v)) key → (b : List ℕ) × (key ≡ keys.Bucket v b)
  a_bucket (keys.Bucket w b) is = (
    b,
    ap (λ x. keys.Bucket x b) (none_between v w
        (λ e. is.not_below (ap (λ o. ordering_then o (ordering_then (cmp b []) Equal)) e))
        (first_less _ _ is.below (then_nothing b Equal (λ e. false≢true (ap is_lt e))))),
  )
  a_bucket (keys.Volume w) is = absurd (is.not_below refl)
  a_bucket (keys.Key w c k) is = absurd (false≢true (ap is_lt is.below))
  a_bucket (keys.Open w c k n) is = absurd (false≢true (ap is_lt is.below))
  a_bucket (keys.Deleted w c o k l) is = absurd (false≢true (ap is_lt is.below))
  a_bucket (keys.Snapshot w c n) is = absurd (false≢true (ap is_lt is.below))
  a_bucket (keys.SnapshotKey w c n k) is = absurd (false≢true (ap is_lt is.below))
  a_bucket (keys.Renamed w c o l) is = absurd (false≢true (ap is_lt is.below))
  a_bucket (keys.Stripe s) is = absurd (false≢true (ap is_lt is.below))

  pub bucket_between : (b : List ℕ) → IsSome (rows (keys.Bucket v b)) → IsBetween rows (first_bucket v) (first_bucket (next v)) (keys.Bucket v b)
  bucket_between b some = record {
    has_row = some;
    not_below = λ e. then_nothing b Equal (λ e. false≢true (ap is_lt e)) (sym (ap (λ o. ordering_then o (ordering_then (cmp b []) Equal)) (tied v)) ∙ e);
    below = ap (λ o. ordering_then o (ordering_then (cmp b []) Equal)) (under_next v);
  }

  pub buckets_rise : (b c : List ℕ) → IsBelow (keys.Bucket v b) (keys.Bucket v c) → cmp b c ≡ Less
  buckets_rise b c e = first_less _ _ (sym (ap (λ o. ordering_then o (ordering_then (cmp b c) Equal)) (tied v)) ∙ e) (λ e. false≢true (ap is_lt e))

-- a path of two names between one and the next one
path_between : (v b w c : List ℕ) (low high : Ordering) → (high ≡ Less → ⊥) → (ordering_then (cmp w v) (ordering_then (cmp c b) low) ≡ Less → ⊥)
    → ordering_then (cmp w v) (ordering_then (cmp c (next b)) high) ≡ Less → (w ≡ v) × (c ≡ b)
path_between v b w c low high last over under = by_order (cmp w v) refl over under
  where
    by_order : (o : Ordering) → cmp w v ≡ o → (ordering_then o (ordering_then (cmp c b) low) ≡ Less → ⊥)
        → ordering_then o (ordering_then (cmp c (next b)) high) ≡ Less → (w ≡ v) × (c ≡ b)
    by_order Less e over under = absurd (over refl)
    by_order Equal e over under = (
      slice_cmp-IsAntisymmetric nat_cmp-IsAntisymmetric w v e,
      none_between b c (λ f. over (ap (λ o. ordering_then o low) f)) (first_less _ _ under last),
    )
    by_order Greater e over under = absurd (false≢true (ap is_lt under))

not_equal : Equal ≡ Less → ⊥
not_equal e = false≢true (ap is_lt e)

not_under_zero : (n : ℕ) → ordering_then (ordering_then (nat_cmp n 0) Equal) Equal ≡ Less → ⊥
not_under_zero n e = by_order (nat_cmp n 0) refl e
  where
    by_order : (o : Ordering) → nat_cmp n 0 ≡ o → ordering_then (ordering_then o Equal) Equal ≡ Less → ⊥
    by_order Less f e = grind (arith, nat_tests, f)
    by_order Equal f e = not_equal e
    by_order Greater f e = false≢true (ap is_lt e)

both_tied : (v b : List ℕ) (o : Ordering) → ordering_then (cmp v v) (ordering_then (cmp b b) o) ≡ o
both_tied v b o = ap (λ p. ordering_then p (ordering_then (cmp b b) o)) (tied v) ∙ ap (λ p. ordering_then p o) (tied b)

path_under : (v b : List ℕ) (o : Ordering) → ordering_then (cmp v v) (ordering_then (cmp b (next b)) o) ≡ Less
path_under v b o = ap (λ p. ordering_then p (ordering_then (cmp b (next b)) o)) (tied v) ∙ ap (λ p. ordering_then p o) (under_next b)

module _ (rows : Rows) (v b : List ℕ) where
  abbrev pub first_key : List ℕ → RowKey
  first_key name = keys.Key v name []

  pub a_key : (key : RowKey) → IsBetween rows (first_key b) (first_key (next b)) key → (k : List ℕ) × (key ≡ keys.Key v b k)
  a_key (keys.Key w c k) is =
      let same = path_between v b w c (ordering_then (cmp k []) Equal) (ordering_then (cmp k []) Equal)
      (then_nothing k Equal not_equal) is.not_below is.below in
      (k, λ i. keys.Key (same.0 i) (same.1 i) k)
  a_key (keys.Volume w) is = absurd (is.not_below refl)
  a_key (keys.Bucket w c) is = absurd (is.not_below refl)
  a_key (keys.Open w c k n) is = absurd (false≢true (ap is_lt is.below))
  a_key (keys.Deleted w c o k l) is = absurd (false≢true (ap is_lt is.below))
  a_key (keys.Snapshot w c n) is = absurd (false≢true (ap is_lt is.below))
  a_key (keys.SnapshotKey w c n k) is = absurd (false≢true (ap is_lt is.below))
  a_key (keys.Renamed w c o l) is = absurd (false≢true (ap is_lt is.below))
  a_key (keys.Stripe s) is = absurd (false≢true (ap is_lt is.below))

  pub key_between : (k : List ℕ) → IsSome (rows (keys.Key v b k)) → IsBetween rows (first_key b) (first_key (next b)) (keys.Key v b k)
  key_between k some = record {
    has_row = some;
    not_below = λ e. then_nothing k Equal not_equal (sym (both_tied v b (ordering_then (cmp k []) Equal)) ∙ e);
    below = path_under v b (ordering_then (cmp k []) Equal);
  }

  pub keys_rise : (k q : List ℕ) → IsBelow (keys.Key v b k) (keys.Key v b q) → cmp k q ≡ Less
  keys_rise k q e = first_less _ _ (sym (both_tied v b (ordering_then (cmp k q) Equal)) ∙ e) not_equal

  abbrev pub first_open : List ℕ → RowKey
  first_open name = keys.Open v name [] 0

  abbrev tail : List ℕ → ℕ → Ordering
  tail k n = ordering_then (cmp k []) (ordering_then (ordering_then (nat_cmp n 0) Equal) Equal)

  no_tail : (k : List ℕ) (n : ℕ) → tail k n ≡ Less → ⊥
  no_tail k n = then_nothing k _ (not_under_zero n)

  pub an_open_key : (key : RowKey) → IsBetween rows (first_open b) (first_open (next b)) key → (one : List ℕ × ℕ) × (key ≡ keys.Open v b one.0 one.1)
  an_open_key (keys.Open w c k n) is =
      let same = path_between v b w c (tail k n) (tail k n) (no_tail k n) is.not_below is.below in
      ((k, n), λ i. keys.Open (same.0 i) (same.1 i) k n)
  an_open_key (keys.Volume w) is = absurd (is.not_below refl)
  an_open_key (keys.Bucket w c) is = absurd (is.not_below refl)
  an_open_key (keys.Key w c k) is = absurd (is.not_below refl)
  an_open_key (keys.Deleted w c o k l) is = absurd (false≢true (ap is_lt is.below))
  an_open_key (keys.Snapshot w c n) is = absurd (false≢true (ap is_lt is.below))
  an_open_key (keys.SnapshotKey w c n k) is = absurd (false≢true (ap is_lt is.below))
  an_open_key (keys.Renamed w c o l) is = absurd (false≢true (ap is_lt is.below))
  an_open_key (keys.Stripe s) is = absurd (false≢true (ap is_lt is.below))

  pub open_between : (k : List ℕ) (n : ℕ) → IsSome (rows (keys.Open v b k n)) → IsBetween rows (first_open b) (first_open (next b)) (keys.Open v b k n)
  open_between k n some = record {
    has_row = some;
    not_below = λ e. no_tail k n (sym (both_tied v b (tail k n)) ∙ e);
    below = path_under v b (tail k n);
  }

  abbrev zero_tail : ℕ → Ordering
  zero_tail n = ordering_then (ordering_then (nat_cmp n 0) Equal) Equal

  pub a_snapshot : (key : RowKey) → IsBetween rows (keys.Snapshot v b 0) (keys.Snapshot v (next b) 0) key → (n : ℕ) × (key ≡ keys.Snapshot v b n)
  a_snapshot (keys.Snapshot w c n) is =
      let same = path_between v b w c (zero_tail n) (zero_tail n) (not_under_zero n) is.not_below is.below in
      (n, λ i. keys.Snapshot (same.0 i) (same.1 i) n)
  a_snapshot (keys.Volume w) is = absurd (is.not_below refl)
  a_snapshot (keys.Bucket w c) is = absurd (is.not_below refl)
  a_snapshot (keys.Key w c k) is = absurd (is.not_below refl)
  a_snapshot (keys.Open w c k n) is = absurd (is.not_below refl)
  a_snapshot (keys.Deleted w c o k l) is = absurd (is.not_below refl)
  a_snapshot (keys.SnapshotKey w c n k) is = absurd (false≢true (ap is_lt is.below))
  a_snapshot (keys.Renamed w c o l) is = absurd (false≢true (ap is_lt is.below))
  a_snapshot (keys.Stripe s) is = absurd (false≢true (ap is_lt is.below))

  pub snapshot_between : (n : ℕ) → IsSome (rows (keys.Snapshot v b n)) → IsBetween rows (keys.Snapshot v b 0) (keys.Snapshot v (next b) 0) (keys.Snapshot v b n)
  snapshot_between n some = record {
    has_row = some;
    not_below = λ e. not_under_zero n (sym (both_tied v b (zero_tail n)) ∙ e);
    below = path_under v b (zero_tail n);
  }
