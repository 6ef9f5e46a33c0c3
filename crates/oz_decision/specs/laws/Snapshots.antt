-- How many live snapshots a bucket has is how many of its snapshots' rows are not marked.
use Rattle.std.proofs.Common.{
  ◌≡◌,
  ◌≢◌,
  ◌≤◌,
  ◌+◌,
  ℕ,
  suc,
  Bool,
  true,
  false,
  ◌||◌,
  ◌==◌,
  List,
  [],
  ◌∷◌,
  length,
  Option,
  None,
  Some,
  is_some,
  cond,
  count_by,
  refl,
  sym,
  ◌∙◌,
  ap,
  subst,
  arith,
}
use mathlib.Core.Bool.{false≢true}
use Rattle.std.proofs.lemmas.Bool.Decides.{nat_tests}
use Rattle.std.specs.List.{AllByRecursion, list_any}
use Rattle.std.proofs.lemmas.List.Sums.{sum_by-cons}
use Rattle.std.specs.Ordering.{is_eq}
use Rattle.oz_namespace.specs.declared.namespace.Bucket.{Bucket}
use Rattle.oz_namespace.specs.declared.namespace.Namespace.{Namespace}
use Rattle.oz_namespace.specs.declared.namespace.Snapshot.{Snapshot}
use Rattle.oz_namespace.specs.Namespace.{bucket_of, snapshots_in}
use Rattle.oz_model.specs.Buckets.{bucket_at, bucket_or_new}
use Rattle.oz_rows.specs.declared.key.RowKey.{RowKey}
use Rattle.oz_rows.specs.declared.key.RowKey.TheVariants as keys
use Rattle.oz_rows.specs.declared.row.Row.{Row}
use Rattle.oz_rows.specs.declared.row.Row.TheVariants as rows
use Rattle.oz_rows.specs.declared.row.SnapshotState.TheVariants.{Live}
use Rattle.oz_rows.specs.Order.{key_order}
use Rattle.oz_rows.specs.Counts.{IsBetween, AllRise, AreKeys, AllDiffer}
use Rattle.oz_sound.specs.Sound.{IsSoundButRenames}
use Rattle.oz_sound.specs.StandsFor.{AreSnapshots, NumbersRise, IsLive, is_among}
use Rattle.oz_rows.specs.RowMaps.{Rows, IsBelow, is_same}
use Rattle.oz_rows.specs.laws.Order.{itself}
use Rattle.oz_sound.specs.laws.Oneness.{alive}
use Rattle.oz_rows.specs.laws.Same.{same_is_one}
use Rattle.oz_rows.specs.laws.Lengths.{no_longer}
use Rattle.oz_decision.specs.Meets.{AreInGrammar, Stand}
use Rattle.oz_decision.specs.Walking.{is_live}
use Rattle.oz_decision.specs.laws.Rising.{each_in_turn}
use Rattle.oz_decision.specs.laws.Between.{next, a_snapshot, snapshot_between}

one_number : (n other : ℕ) → (other == n) ≡ true → n ≡ other
one_number n other e = grind (arith, nat_tests, e)

itself_number : (n : ℕ) → (n == n) ≡ true
itself_number n = grind (arith, nat_tests)

among_later : (n x : ℕ) (l : List ℕ) → is_among n l ≡ true → is_among n (x ∷ l) ≡ true
among_later n x l e = by_test (x == n)
  where
    by_test : (t : Bool) → t || is_among n l ≡ true
    by_test true = refl
    by_test false = e

each_among : (l : List ℕ) → AllByRecursion (λ n. is_among n l ≡ true) l
each_among [] = tt
each_among (x ∷ l) = (ap (λ (t : Bool). t || is_among x l) (itself_number x), each_in_turn _ _ (λ n e. among_later n x l e) l (each_among l))

rising_differ : (l : List ℕ) → NumbersRise l → AllDiffer l
rising_differ [] rise = tt
rising_differ (x ∷ l) rise = (each_in_turn _ _ (λ n below e. omega (arith, below, e)) l rise.0, rising_differ l rise.1)

as_many : (all : Rows) (v b numbers : List ℕ) (snapshots : List Snapshot) → AreSnapshots all v b numbers snapshots → length numbers ≡ length snapshots
as_many all v b [] [] are = refl
as_many all v b (n ∷ numbers) (s ∷ snapshots) are = ap suc (as_many all v b numbers snapshots are.1)
as_many all v b [] (s ∷ snapshots) are = absurd are
as_many all v b (n ∷ numbers) [] are = absurd are

snapshots_looked_up : (o : Option Bucket) → (bucket_or_new o).snapshots ≡ snapshots_in o
snapshots_looked_up None = refl
snapshots_looked_up (Some bucket) = refl

live_row : (o : Option Row) → is_live o ≡ true → (name : List ℕ) × (previous : ℕ) × (o ≡ Some (rows.Snapshot name previous Live))
live_row (Some (rows.Snapshot name previous Live)) e = (name, previous, refl)
live_row o e = absurd (false≢true e)

module _ (all : Rows) (v b : List ℕ) where
  abbrev from : RowKey
  from = keys.Snapshot v b 0

  abbrev to : RowKey
  to = keys.Snapshot v (next b) 0

  pub no_first_snapshot : AreInGrammar all → all (keys.Snapshot v b 0) ≡ None
  no_first_snapshot fit = by_row (all (keys.Snapshot v b 0)) refl
    where
      by_row : (o : Option Row) → all (keys.Snapshot v b 0) ≡ o → all (keys.Snapshot v b 0) ≡ None
      by_row None e = e
      by_row (Some row) e = let fits = (fit (keys.Snapshot v b 0) row e).0.2.0 in absurd (omega (arith, fits))

  -- the numbers of the rows that aren't marked
  live : (ks : List RowKey) → AllByRecursion (IsBetween all from to) ks → List ℕ
  live [] each = []
  live (key ∷ ks) each = cond (is_live (all key)) ((a_snapshot all v b key each.0).0 ∷ live ks each.1) (live ks each.1)

  live_size : (ks : List RowKey) (each : AllByRecursion (IsBetween all from to) ks) → count_by (λ key. is_live (all key)) ks ≡ length (live ks each)
  unfolding live
  live_size [] each = refl
  live_size (key ∷ ks) each = sum_by-cons (λ (k : RowKey). cond (is_live (all k)) 1 0) key ks ∙ by_test (is_live (all key)) (live_size ks each.1)
    where
      by_test : (t : Bool) → count_by (λ k. is_live (all k)) ks ≡ length (live ks each.1)
          → cond t 1 0 + count_by (λ k. is_live (all k)) ks ≡ length (cond t ((a_snapshot all v b key each.0).0 ∷ live ks each.1) (live ks each.1))
      by_test true later = omega (arith, later)
      by_test false later = omega (arith, later)

  are_live : (ks : List RowKey) (each : AllByRecursion (IsBetween all from to) ks) → AllByRecursion (IsLive all v b) (live ks each)
  unfolding live
  are_live [] each = tt
  are_live (key ∷ ks) each = by_test (is_live (all key)) refl (are_live ks each.1)
    where
      by_test : (t : Bool) → is_live (all key) ≡ t → AllByRecursion (IsLive all v b) (live ks each.1)
          → AllByRecursion (IsLive all v b) (cond t ((a_snapshot all v b key each.0).0 ∷ live ks each.1) (live ks each.1))
      by_test true is later =
          let it = a_snapshot all v b key each.0 in
          let row = live_row (all key) is in
          ((row.0, row.1, ap all (sym it.1) ∙ row.2), later)
      by_test false is later = later

  under : (n : ℕ) (key : RowKey) → key ≡ keys.Snapshot v b n → (ks : List RowKey) (each : AllByRecursion (IsBetween all from to) ks)
      → AllByRecursion (λ other. IsBelow key other) ks → AllByRecursion (λ m. n ≢ m) (live ks each)
  unfolding live
  under n key is [] each below = tt
  under n key is (other ∷ ks) each below = by_test (is_live (all other)) (under n key is ks each.1 below.1)
    where
      by_test : (t : Bool) → AllByRecursion (λ m. n ≢ m) (live ks each.1)
          → AllByRecursion (λ m. n ≢ m) (cond t ((a_snapshot all v b other each.0).0 ∷ live ks each.1) (live ks each.1))
      by_test true later =
          let it = a_snapshot all v b other each.0 in (
            (λ e. let equal : key ≡ other = is ∙ ap (λ m. keys.Snapshot v b m) e ∙ sym it.1 in
                false≢true (sym (ap is_eq below.0) ∙ ap (λ k. is_eq (key_order key k)) (sym equal) ∙ ap is_eq (itself key))),
            later,
          )
      by_test false later = later

  live_differ : (ks : List RowKey) (each : AllByRecursion (IsBetween all from to) ks) → AllRise ks → AllDiffer (live ks each)
  unfolding live
  live_differ [] each rises = tt
  live_differ (key ∷ ks) each rises = by_test (is_live (all key)) (live_differ ks each.1 rises.1)
    where
      by_test : (t : Bool) → AllDiffer (live ks each.1) → AllDiffer (cond t ((a_snapshot all v b key each.0).0 ∷ live ks each.1) (live ks each.1))
      by_test true later = (under (a_snapshot all v b key each.0).0 key (a_snapshot all v b key each.0).1 ks each.1 rises.0, later)
      by_test false later = later

  live_there : (n : ℕ) → IsLive all v b n → (ks : List RowKey) (each : AllByRecursion (IsBetween all from to) ks)
      → list_any (is_same (keys.Snapshot v b n)) ks ≡ true → is_among n (live ks each) ≡ true
  unfolding live
  live_there n is_it [] each e = absurd (false≢true e)
  live_there n is_it (key ∷ ks) each e = by_same (is_same (keys.Snapshot v b n) key) refl (is_live (all key)) refl (live_there n is_it ks each.1)
    where
      by_same : (s : Bool) → is_same (keys.Snapshot v b n) key ≡ s → (t : Bool) → is_live (all key) ≡ t
          → (list_any (is_same (keys.Snapshot v b n)) ks ≡ true → is_among n (live ks each.1) ≡ true)
          → is_among n (cond t ((a_snapshot all v b key each.0).0 ∷ live ks each.1) (live ks each.1)) ≡ true
      by_same true is true alive later =
          let it = a_snapshot all v b key each.0 in
          let both : keys.Snapshot v b n ≡ keys.Snapshot v b it.0 = same_is_one _ key is ∙ it.1 in
          let equal : n ≡ it.0 = cc in
          ap (λ (t : Bool). t || is_among n (live ks each.1)) (ap (λ m. it.0 == m) equal ∙ itself_number it.0)
      by_same true is false alive later =
          absurd (false≢true (sym alive ∙ ap (λ k. is_live (all k)) (sym (same_is_one (keys.Snapshot v b n) key is)) ∙ ap is_live is_it.2))
      by_same false is true alive later =
          among_later n _ (live ks each.1) (later (subst (λ (t : Bool). t || list_any (is_same (keys.Snapshot v b n)) ks ≡ true) is e))
      by_same false is false alive later = later (subst (λ (t : Bool). t || list_any (is_same (keys.Snapshot v b n)) ks ≡ true) is e)

  -- where none is counted none is there
  pub none_live : (ks : List RowKey) → AreKeys all from to ks → count_by (λ key. is_live (all key)) ks ≡ 0 → (n : ℕ) → IsLive all v b n → ⊥
  none_live ks are zero n is =
      by_list (live ks are.each) (omega (arith, live_size ks are.each, zero))
      (live_there n is ks are.each (are.every (keys.Snapshot v b n) (snapshot_between all v b n (ap is_some is.2))))
    where
      by_list : (l : List ℕ) → length l ≡ 0 → is_among n l ≡ true → ⊥
      by_list [] e among = false≢true among
      by_list (m ∷ l) e among = omega (arith, e)

  pub snapshot_rows : (namespace : Namespace) → Stand IsSoundButRenames all namespace → (ks : List RowKey) → AreKeys all from to ks
      → record {
        same : count_by (λ key. is_live (all key)) ks ≡ length (bucket_at namespace v b).snapshots;
        few : count_by (λ key. is_live (all key)) ks ≤ 32;
      }
  snapshot_rows namespace stand ks are =
      let snapshots = stand.stands.snapshots v b in
      let l = live ks are.each in
      let apart = live_differ ks are.each are.rise in
      let lives = are_live ks are.each in
      let up = no_longer (λ n other. other == n) one_number l snapshots.numbers apart (each_in_turn _ _ (λ n is. snapshots.every n is) l lives) in
      let back : (n : ℕ) → is_among n snapshots.numbers ≡ true → is_among n l ≡ true = λ n e.
      let is = alive all v b snapshots.numbers _ snapshots.each n e in
      live_there n is ks are.each (are.every (keys.Snapshot v b n) (snapshot_between all v b n (ap is_some is.2))) in
      let down = no_longer (λ n other. other == n) one_number snapshots.numbers l (rising_differ snapshots.numbers snapshots.rise)
      (each_in_turn _ _ back snapshots.numbers (each_among snapshots.numbers)) in
      let sizes = as_many all v b snapshots.numbers _ snapshots.each ∙ ap length (sym (snapshots_looked_up (bucket_of namespace v b))) in
      let whole : count_by (λ key. is_live (all key)) ks ≡ length (bucket_at namespace v b).snapshots = omega (arith, live_size ks are.each, up, down, sizes) in
      let few = stand.sound.counts.snapshots v b l apart lives in
      record { same = whole; few = omega (arith, few, live_size ks are.each) }
