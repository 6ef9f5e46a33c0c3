-- Rows stand for one namespace alone.
use Rattle.std.proofs.Common.{◌≡◌, ◌<◌, ℕ, Bool, true, false, ◌||◌, ◌==◌, List, [], ◌∷◌, Option, None, Some, is_some}
use Rattle.std.proofs.Common.{refl, sym, ◌∙◌, ap, subst, arith}
use mathlib.Core.Bool.{false≢true}
use Rattle.std.specs.List.{AllByRecursion}
use Rattle.std.specs.Ordering.{nat_cmp}
use Rattle.std.specs.Cmp.Lexicographic.{slice_cmp}
use Rattle.std.proofs.lemmas.Cmp.{nat_list_cmp_total, nat_cmp_total}
use Rattle.std.proofs.lemmas.Bool.Decides.{nat_tests}
use Rattle.std.specs.FinMap.{get, same_map, IsAntisymmetric, nat_cmp-IsAntisymmetric, slice_cmp-IsAntisymmetric}
use Rattle.std.specs.Option.{option_and_then}
use Rattle.oz_namespace.specs.declared.namespace.Bucket.{Bucket}
use Rattle.oz_namespace.specs.declared.namespace.Namespace.{Namespace}
use Rattle.oz_namespace.specs.declared.namespace.Snapshot.{Snapshot}
use Rattle.oz_namespace.specs.Namespace.{ByName, bucket_of, buckets_of, session_of, snapshots_in}
use Rattle.oz_rows.specs.declared.row.Row.{Row}
use Rattle.oz_rows.specs.declared.row.Row.TheVariants as rows
use Rattle.oz_rows.specs.RowMaps.{Rows}
use Rattle.oz_sound.specs.StandsFor.{StandsFor, SnapshotsStand, AreSnapshots, IsSnapshot, IsLive, NumbersRise}
use Rattle.oz_sound.specs.StandsFor.{is_among}

itself : (n : ℕ) → (n == n) ≡ true
itself n = grind (arith, nat_tests)

one_number : (x n : ℕ) → (x == n) ≡ true → n ≡ x
one_number x n e = grind (arith, nat_tests, e)

among_head : (n : ℕ) (l : List ℕ) → is_among n (n ∷ l) ≡ true
among_head n l = ap (λ (t : Bool). t || is_among n l) (itself n)

among_cases : {Q : Type 0} (n x : ℕ) (l : List ℕ) → is_among n (x ∷ l) ≡ true → (n ≡ x → Q) → (is_among n l ≡ true → Q) → Q
among_cases {Q} n x l e same later = by_test (x == n) refl
  where
    by_test : (t : Bool) → (x == n) ≡ t → Q
    by_test true is = same (one_number x n is)
    by_test false is = later (subst (λ (t : Bool). t || is_among n l ≡ true) is e)

among_later : (n x : ℕ) (l : List ℕ) → is_among n l ≡ true → is_among n (x ∷ l) ≡ true
among_later n x l e = by_test (x == n)
  where
    by_test : (t : Bool) → t || is_among n l ≡ true
    by_test true = refl
    by_test false = e

below_those : (x n : ℕ) (l : List ℕ) → AllByRecursion (λ other. x < other) l → is_among n l ≡ true → x < n
below_those x n [] all e = absurd (false≢true e)
below_those x n (y ∷ l) all e = among_cases n y l e (λ same. subst (λ m. x < m) (sym same) all.0) (below_those x n l all.1)

-- rising numbers are known by which are among them
pub same_numbers : (a b : List ℕ) → NumbersRise a → NumbersRise b → ((n : ℕ) → is_among n a ≡ true → is_among n b ≡ true)
    → ((n : ℕ) → is_among n b ≡ true → is_among n a ≡ true) → a ≡ b
same_numbers [] [] rise_a rise_b to from = refl
same_numbers [] (y ∷ b) rise_a rise_b to from = absurd (false≢true (from y (among_head y b)))
same_numbers (x ∷ a) [] rise_a rise_b to from = absurd (false≢true (to x (among_head x a)))
same_numbers (x ∷ a) (y ∷ b) rise_a rise_b to from = both (same_numbers a b rise_a.1 rise_b.1 to_rest from_rest)
  where
    first : x ≡ y
    first = among_cases x y b (to x (among_head x a)) (λ e. e)
        (λ in_b. among_cases y x a (from y (among_head y b)) sym
        (λ in_a. absurd (omega (arith, below_those y x b rise_b.0 in_b, below_those x y a rise_a.0 in_a))))

    to_rest : (n : ℕ) → is_among n a ≡ true → is_among n b ≡ true
    to_rest n e = among_cases n y b (to n (among_later n x a e)) (λ same. absurd (omega (arith, below_those x n a rise_a.0 e, same, first))) (λ in_b. in_b)

    from_rest : (n : ℕ) → is_among n b ≡ true → is_among n a ≡ true
    from_rest n e = among_cases n x a (from n (among_later n y b e)) (λ same. absurd (omega (arith, below_those y n b rise_b.0 e, same, first))) (λ in_a. in_a)

    both : a ≡ b → x ∷ a ≡ y ∷ b
    both others = λ i. first i ∷ others i

abbrev name_in : Option Row → List ℕ
name_in (Some (rows.Snapshot name previous state)) = name
name_in row = []

names_apart : IsAntisymmetric (slice_cmp nat_cmp)
names_apart = slice_cmp-IsAntisymmetric nat_cmp-IsAntisymmetric

none_or : {A : Type 0} (o p : Option A) → is_some o ≡ is_some p → ((x y : A) → o ≡ Some x → p ≡ Some y → x ≡ y) → o ≡ p
none_or None None e same = refl
none_or None (Some y) e same = absurd (false≢true e)
none_or (Some x) None e same = absurd (false≢true (sym e))
none_or (Some x) (Some y) e same = ap Some (same x y refl refl)

-- two options are one where each says what the other does
each_says : {A : Type 0} (o p : Option A) → ((x : A) → o ≡ Some x → p ≡ Some x) → ((x : A) → p ≡ Some x → o ≡ Some x) → o ≡ p
each_says None None to from = refl
each_says None (Some y) to from = from y refl
each_says (Some x) p to from = sym (to x refl)

module _ (all : Rows) where
  same_snapshot : (v b : List ℕ) (n : ℕ) (s t : Snapshot) → IsSnapshot all v b n s → IsSnapshot all v b n t → s ≡ t
  same_snapshot v b n s t one two =
      both (ap name_in (sym one.row ∙ two.row)) (same_map nat_list_cmp_total names_apart s.keys t.keys (λ k. one.pieces k ∙ sym (two.pieces k)))
    where
      both : s.name ≡ t.name → s.keys ≡ t.keys → s ≡ t
      both names keys = λ i. record { name = names i; keys = keys i }

  same_snapshots : (v b : List ℕ) (numbers : List ℕ) (s t : List Snapshot) → AreSnapshots all v b numbers s → AreSnapshots all v b numbers t → s ≡ t
  same_snapshots v b [] [] [] one two = refl
  same_snapshots v b [] [] (y ∷ t) one two = absurd two
  same_snapshots v b [] (x ∷ s) t one two = absurd one
  same_snapshots v b (n ∷ numbers) [] t one two = absurd one
  same_snapshots v b (n ∷ numbers) (x ∷ s) [] one two = absurd two
  same_snapshots v b (n ∷ numbers) (x ∷ s) (y ∷ t) one two = λ i. same_snapshot v b n x y one.0 two.0 i ∷ same_snapshots v b numbers s t one.1 two.1 i

  pub alive : (v b : List ℕ) (numbers : List ℕ) (s : List Snapshot) → AreSnapshots all v b numbers s → (n : ℕ) → is_among n numbers ≡ true → IsLive all v b n
  alive v b [] s are n e = absurd (false≢true e)
  alive v b (m ∷ numbers) [] are n e = absurd are
  alive v b (m ∷ numbers) (x ∷ s) are n e =
      among_cases n m numbers e (λ same. subst (IsLive all v b) (sym same) (x.name, are.0.previous, are.0.row)) (alive v b numbers s are.1 n)

  stand_once : (v b : List ℕ) (s t : List Snapshot) → SnapshotsStand all v b s → SnapshotsStand all v b t → s ≡ t
  stand_once v b s t one two =
      let numbers = same_numbers one.numbers two.numbers one.rise two.rise (λ n e. two.every n (alive v b one.numbers s one.each n e))
      (λ n e. one.every n (alive v b two.numbers t two.each n e)) in
      same_snapshots v b two.numbers s t (subst (λ ns. AreSnapshots all v b ns s) numbers one.each) two.each

  module _ (a b : Namespace) (one : StandsFor all a) (two : StandsFor all b) where
    module _ (v k : List ℕ) (x y : Bucket) (there : bucket_of a v k ≡ Some x) (here : bucket_of b v k ≡ Some y) where
      same_pieces : x.keys ≡ y.keys
      same_pieces = same_map nat_list_cmp_total names_apart x.keys y.keys (λ q.
          ap (option_and_then (λ (bucket : Bucket). get bucket.keys q)) (sym there) ∙ one.pieces v k q ∙ sym (two.pieces v k q)
          ∙ ap (option_and_then (λ (bucket : Bucket). get bucket.keys q)) here)

      of_x : (n : ℕ) → session_of a v k n ≡ get x.sessions n
      of_x n = ap (option_and_then (λ (bucket : Bucket). get bucket.sessions n)) there

      of_y : (n : ℕ) → session_of b v k n ≡ get y.sessions n
      of_y n = ap (option_and_then (λ (bucket : Bucket). get bucket.sessions n)) here

      same_sessions : x.sessions ≡ y.sessions
      same_sessions = same_map nat_cmp_total nat_cmp-IsAntisymmetric x.sessions y.sessions (λ n. each_says (get x.sessions n) (get y.sessions n)
          (λ s e. sym (of_y n) ∙ (two.sessions v k n s).1 ((one.sessions v k n s).0 (of_x n ∙ e)))
          (λ s e. sym (of_x n) ∙ (one.sessions v k n s).1 ((two.sessions v k n s).0 (of_y n ∙ e))))

      same_list : x.snapshots ≡ y.snapshots
      same_list = stand_once v k x.snapshots y.snapshots (subst (SnapshotsStand all v k) (ap snapshots_in there) (one.snapshots v k))
          (subst (SnapshotsStand all v k) (ap snapshots_in here) (two.snapshots v k))

      same_bucket : x ≡ y
      same_bucket = λ i. record { keys = same_pieces i; sessions = same_sessions i; snapshots = same_list i }

    module _ (v : List ℕ) (m n : ByName Bucket) (there : buckets_of a v ≡ Some m) (here : buckets_of b v ≡ Some n) where
      in_m : (q : List ℕ) → bucket_of a v q ≡ get m q
      in_m q = ap (option_and_then (λ (buckets : ByName Bucket). get buckets q)) there

      in_n : (q : List ℕ) → bucket_of b v q ≡ get n q
      in_n q = ap (option_and_then (λ (buckets : ByName Bucket). get buckets q)) here

      same_buckets : m ≡ n
      same_buckets = same_map nat_list_cmp_total names_apart m n (λ q. none_or (get m q) (get n q)
          (ap is_some (sym (in_m q)) ∙ one.buckets v q ∙ sym (two.buckets v q) ∙ ap is_some (in_n q))
          (λ x y e f. same_bucket v q x y (in_m q ∙ e) (in_n q ∙ f)))

    same_volumes : a.volumes ≡ b.volumes
    same_volumes = same_map nat_list_cmp_total names_apart a.volumes b.volumes
        (λ v. none_or (buckets_of a v) (buckets_of b v) (one.volumes v ∙ sym (two.volumes v)) (same_buckets v))

    pub one_namespace : a ≡ b
    one_namespace = λ i. record { volumes = same_volumes i; stripes = (one.stripes ∙ sym two.stripes) i }
