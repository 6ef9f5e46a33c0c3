-- How many buckets, keys and sessions there are is how many rows stand between two keys.
use Rattle.std.proofs.Common.{
  ◌≡◌,
  ◌≢◌,
  ◌≤◌,
  ℕ,
  suc,
  Bool,
  true,
  false,
  ◌||◌,
  List,
  [],
  ◌∷◌,
  map,
  length,
  Option,
  None,
  Some,
  IsSome,
  is_some,
  refl,
  sym,
  ◌∙◌,
  ap,
  subst,
  arith,
}
use mathlib.Core.Bool.{false≢true}
use Rattle.std.specs.List.{AllByRecursion, list_any}
use Rattle.std.specs.Ordering.{nat_cmp, is_eq}
use Rattle.std.specs.declared.cmp.Ordering.TheVariants.{Less, Equal}
use Rattle.std.specs.Cmp.Lexicographic.{slice_cmp}
use Rattle.std.proofs.lemmas.Cmp.{nat_list_cmp_total, nat_cmp_total}
use Rattle.std.specs.FinMap.{FinMap, nat_cmp-IsAntisymmetric, slice_cmp-IsAntisymmetric, keys as keys_in, contains_key-keys, len, get, get-empty}
use Rattle.std.proofs.lemmas.Option.{same_Some}
use Rattle.oz_namespace.specs.declared.namespace.Bucket.{Bucket}
use Rattle.oz_namespace.specs.declared.namespace.Namespace.{Namespace}
use Rattle.oz_namespace.specs.declared.namespace.Session.{Session}
use Rattle.oz_namespace.specs.Namespace.{ByName, buckets_of, bucket_of, session_of}
use Rattle.oz_model.specs.Buckets.{buckets_at, bucket_at, bucket_or_new}
use Rattle.oz_rows.specs.declared.key.RowKey.{RowKey}
use Rattle.oz_rows.specs.declared.key.RowKey.TheVariants as keys
use Rattle.oz_rows.specs.declared.row.Row.{Row}
use Rattle.oz_rows.specs.declared.row.Row.TheVariants as rows
use Rattle.oz_rows.specs.Order.{key_order}
use Rattle.oz_rows.specs.Rows.{ValueFits}
use Rattle.oz_rows.specs.Counts.{IsBetween, AllRise, AreKeys, IsCount, AllDiffer}
use Rattle.oz_sound.specs.Sound.{AtMost, IsUsing, IsSoundButRenames}
use Rattle.oz_sound.specs.StandsFor.{pieces_in}
use Rattle.oz_rows.specs.RowMaps.{Rows, IsBelow, is_same}
use Rattle.oz_rows.specs.laws.Order.{itself}
use Rattle.oz_rows.specs.laws.Same.{same_is_one}
use Rattle.oz_decision.specs.Meets.{Stand}
use Rattle.oz_decision.specs.Walking.{bucket_named}
use Rattle.oz_decision.specs.laws.Rising.{
  each_in_turn,
  Rises,
  among,
  same_rising,
  keys_rise,
  len_keys,
  differ,
  among_cases,
  among_head,
  among_later,
  each_among,
  same_size,
}
use Rattle.oz_decision.specs.laws.Lookups.{looked_up, has_pieces}
use Rattle.oz_sound.specs.laws.BucketRows.{pieces_seen, session_seen}
use Rattle.oz_decision.specs.laws.Between.{cmp, next, a_bucket, bucket_between, buckets_rise, a_key, key_between, an_open_key, open_between}
use Rattle.oz_decision.specs.laws.Between.{keys_rise as key_rows_rise}

pub one_name : (x y : List ℕ) → cmp x y ≡ Equal → x ≡ y
one_name = slice_cmp-IsAntisymmetric nat_cmp-IsAntisymmetric

abbrev pub NamesRise : List (List ℕ) → Type 0
NamesRise l = Rises (slice_cmp nat_cmp) nat_list_cmp_total one_name l

abbrev pub is_in : List ℕ → List (List ℕ) → Bool
is_in q l = among (slice_cmp nat_cmp) nat_list_cmp_total one_name q l

all_in : (P : List ℕ → Type 0) (l : List (List ℕ)) (q : List ℕ) → AllByRecursion P l → is_in q l ≡ true → P q
all_in P [] q all e = absurd (false≢true e)
all_in P (x ∷ l) q all e = among_cases (slice_cmp nat_cmp) nat_list_cmp_total one_name q x l e (λ same. subst P (sym same) all.0) (all_in P l q all.1)

-- rows of one kind, one for each name
module _ (all : Rows) (from to : RowKey) (place : List ℕ → RowKey)
    (named : (key : RowKey) → IsBetween all from to key → (b : List ℕ) × (key ≡ place b))
    (between : (b : List ℕ) → IsSome (all (place b)) → IsBetween all from to (place b))
    (rise : (b c : List ℕ) → IsBelow (place b) (place c) → cmp b c ≡ Less)
    (apart : (b c : List ℕ) → place b ≡ place c → b ≡ c) where
  pub names : (ks : List RowKey) → AllByRecursion (IsBetween all from to) ks → List (List ℕ)
  names [] each = []
  names (key ∷ ks) each = (named key each.0).0 ∷ names ks each.1

  pub names_size : (ks : List RowKey) (each : AllByRecursion (IsBetween all from to) ks) → length (names ks each) ≡ length ks
  unfolding names
  names_size [] each = refl
  names_size (key ∷ ks) each = ap suc (names_size ks each.1)

  under : (b : List ℕ) (key : RowKey) → key ≡ place b → (ks : List RowKey) (each : AllByRecursion (IsBetween all from to) ks)
      → AllByRecursion (λ other. IsBelow key other) ks → AllByRecursion (λ c. cmp b c ≡ Less) (names ks each)
  unfolding names
  under b key is [] each below = tt
  under b key is (other ∷ ks) each below =
      let it = named other each.0 in
      (rise b it.0 (subst (λ k. IsBelow k (place it.0)) is (subst (IsBelow key) it.1 below.0)), under b key is ks each.1 below.1)

  pub names_rise : (ks : List RowKey) (each : AllByRecursion (IsBetween all from to) ks) → AllRise ks → NamesRise (names ks each)
  unfolding names
  names_rise [] each rises = tt
  names_rise (key ∷ ks) each rises = (under (named key each.0).0 key (named key each.0).1 ks each.1 rises.0, names_rise ks each.1 rises.1)

  has_rows : (ks : List RowKey) (each : AllByRecursion (IsBetween all from to) ks) → AllByRecursion (λ b. IsSome (all (place b))) (names ks each)
  unfolding names
  has_rows [] each = tt
  has_rows (key ∷ ks) each = (subst (λ k. IsSome (all k)) (named key each.0).1 each.0.has_row, has_rows ks each.1)

  name_there : (q : List ℕ) (ks : List RowKey) (each : AllByRecursion (IsBetween all from to) ks) → list_any (is_same (place q)) ks ≡ true
      → is_in q (names ks each) ≡ true
  unfolding names
  name_there q [] each e = absurd (false≢true e)
  name_there q (key ∷ ks) each e = by_test (is_same (place q) key) refl (name_there q ks each.1)
    where
      by_test : (t : Bool) → is_same (place q) key ≡ t → (list_any (is_same (place q)) ks ≡ true → is_in q (names ks each.1) ≡ true)
          → is_in q ((named key each.0).0 ∷ names ks each.1) ≡ true
      by_test true is later =
          let it = named key each.0 in
          subst (λ x. is_in x (it.0 ∷ names ks each.1) ≡ true) (sym (apart q it.0 (same_is_one (place q) key is ∙ it.1)))
          (among_head (slice_cmp nat_cmp) nat_list_cmp_total one_name it.0 (names ks each.1))
      by_test false is later =
          among_later (slice_cmp nat_cmp) nat_list_cmp_total one_name q (named key each.0).0 (names ks each.1)
          (later (subst (λ (t : Bool). t || list_any (is_same (place q)) ks ≡ true) is e))

  -- the names that a function finds in the keys
  pub names_are : (name : RowKey → List ℕ) → ((b : List ℕ) → name (place b) ≡ b) → (ks : List RowKey) (each : AllByRecursion (IsBetween all from to) ks)
      → map name ks ≡ names ks each
  unfolding names
  names_are name is [] each = refl
  names_are name is (key ∷ ks) each = λ i. (ap name (named key each.0).1 ∙ is (named key each.0).0) i ∷ names_are name is ks each.1 i

  module _ {X : Type 0} (m : ByName X) (agree : (q : List ℕ) → is_some (get m q) ≡ is_some (all (place q))) (ks : List RowKey)
      (are : AreKeys all from to ks) where
    -- the names of the rows are the keys of the map, in order
    pub same_names : names ks are.each ≡ keys_in m
    same_names = same_rising (slice_cmp nat_cmp) nat_list_cmp_total one_name (names ks are.each) (keys_in m) (names_rise ks are.each are.rise)
        (keys_rise (slice_cmp nat_cmp) nat_list_cmp_total one_name m)
        (λ q e. sym (contains_key-keys m q) ∙ agree q ∙ all_in _ (names ks are.each) q (has_rows ks are.each) e)
        (λ q e. name_there q ks are.each (are.every (place q) (between q (sym (agree q) ∙ contains_key-keys m q ∙ e))))

    pub same_len : length ks ≡ len m
    same_len = sym (names_size ks are.each) ∙ ap length same_names ∙ sym (len_keys (slice_cmp nat_cmp) nat_list_cmp_total one_name m)

    pub names_differ : AllDiffer (names ks are.each)
    names_differ = differ (slice_cmp nat_cmp) nat_list_cmp_total one_name _ (names_rise ks are.each are.rise)

    pub few_names : (n : ℕ) → AtMost n (λ b. IsSome (all (place b))) → length ks ≤ n
    few_names n most = let few = most _ names_differ (has_rows ks are.each) in omega (arith, few, names_size ks are.each)

-- at most so many things, where another is known of each
through : {A B : Type 0} (f : A → B) (P : A → Type 0) (Q : B → Type 0) (n : ℕ) → ((a c : A) → f a ≡ f c → a ≡ c) → ((a : A) → P a → Q (f a)) → AtMost n Q
    → AtMost n P
through f P Q n inverse holds most items apart all = let few = most (map f items) (apart_too items apart) (all_too items all) in omega (arith, few, size items)
  where
    size : (l : List _) → length (map f l) ≡ length l
    size [] = refl
    size (a ∷ l) = ap suc (size l)

    all_too : (l : List _) → AllByRecursion P l → AllByRecursion Q (map f l)
    all_too [] all = tt
    all_too (a ∷ l) all = (holds a all.0, all_too l all.1)

    head_apart : (a : _) (l : List _) → AllByRecursion (λ c. a ≢ c) l → AllByRecursion (λ d. f a ≢ d) (map f l)
    head_apart a [] all = tt
    head_apart a (c ∷ l) all = ((λ e. all.0 (inverse a c e)), head_apart a l all.1)

    apart_too : (l : List _) → AllDiffer l → AllDiffer (map f l)
    apart_too [] all = tt
    apart_too (a ∷ l) all = (head_apart a l all.0, apart_too l all.1)

abbrev as_key : List ℕ → List ℕ × Option ℕ
as_key key = (key, None)

abbrev as_session : List ℕ × ℕ → List ℕ × Option ℕ
as_session one = (one.0, Some one.1)

keys_looked_up : (o : Option Bucket) (q : List ℕ) → get (bucket_or_new o).keys q ≡ pieces_seen o q
keys_looked_up (Some bucket) q = refl
keys_looked_up None q = get-empty (slice_cmp nat_cmp) q

sessions_looked_up : (o : Option Bucket) (n : ℕ) → get (bucket_or_new o).sessions n ≡ session_seen o n
sessions_looked_up (Some bucket) n = refl
sessions_looked_up None n = get-empty nat_cmp n

module _ (all : Rows) (namespace : Namespace) (stand : Stand IsSoundButRenames all namespace) where
  buckets_agree : (v q : List ℕ) → is_some (get (buckets_at namespace v) q) ≡ is_some (all (keys.Bucket v q))
  buckets_agree v q = ap is_some (sym (looked_up (buckets_of namespace v) q)) ∙ stand.stands.buckets v q

  pub bucket_rows : (v : List ℕ) (n : ℕ) → IsCount all (keys.Bucket v []) (keys.Bucket (next v) []) n
      → record { same : n ≡ len (buckets_at namespace v); few : n ≤ 1024 }
  bucket_rows v n (ks, are, size) =
      let apart : (b c : List ℕ) → keys.Bucket v b ≡ keys.Bucket v c → b ≡ c = λ b c e. cc in
      let equal = same_len all (keys.Bucket v []) (keys.Bucket (next v) []) (λ b. keys.Bucket v b) (a_bucket all v) (bucket_between all v)
      (buckets_rise all v) apart (buckets_at namespace v) (buckets_agree v) ks are in
      let few = few_names all (keys.Bucket v []) (keys.Bucket (next v) []) (λ b. keys.Bucket v b) (a_bucket all v) (bucket_between all v)
      (buckets_rise all v) apart (buckets_at namespace v) (buckets_agree v) ks are 1024 (stand.sound.counts.buckets v) in
      record { same = size ∙ equal; few = omega (arith, size, few) }

  -- the first key of a volume's buckets has no row, since no name is empty
  pub no_first_bucket : (v : List ℕ) → all (keys.Bucket v []) ≡ None
  no_first_bucket v = by_row (all (keys.Bucket v [])) refl
    where
      by_row : (o : Option Row) → all (keys.Bucket v []) ≡ o → all (keys.Bucket v []) ≡ None
      by_row None e = e
      by_row (Some row) e = let fits = (stand.fit (keys.Bucket v []) row e).0.1.long_enough in absurd (omega (arith, fits))

  pub buckets_listed : (v : List ℕ) (ks : List RowKey) → AreKeys all (keys.Bucket v []) (keys.Bucket (next v) []) ks
      → map bucket_named ks ≡ keys_in (buckets_at namespace v)
  buckets_listed v ks are =
      let apart : (b c : List ℕ) → keys.Bucket v b ≡ keys.Bucket v c → b ≡ c = λ b c e. cc in
      names_are all (keys.Bucket v []) (keys.Bucket (next v) []) (λ b. keys.Bucket v b) (a_bucket all v) (bucket_between all v)
      (buckets_rise all v) apart bucket_named (λ b. refl) ks are.each
      ∙ same_names all (keys.Bucket v []) (keys.Bucket (next v) []) (λ b. keys.Bucket v b) (a_bucket all v) (bucket_between all v)
      (buckets_rise all v) apart (buckets_at namespace v) (buckets_agree v) ks are

  key_row : (v b q : List ℕ) (o : Option Row) → all (keys.Key v b q) ≡ o → is_some (pieces_in o) ≡ is_some o
  key_row v b q None e = refl
  key_row v b q (Some row) e = has_pieces v b q row (stand.fit (keys.Key v b q) row e).1

  keys_agree : (v b q : List ℕ) → is_some (get (bucket_at namespace v b).keys q) ≡ is_some (all (keys.Key v b q))
  keys_agree v b q = ap is_some (keys_looked_up (bucket_of namespace v b) q ∙ stand.stands.pieces v b q) ∙ key_row v b q _ refl

  pub key_rows : (v b : List ℕ) (n : ℕ) → IsCount all (keys.Key v b []) (keys.Key v (next b) []) n
      → record { same : n ≡ len (bucket_at namespace v b).keys; few : n ≤ 4096 }
  key_rows v b n (ks, are, size) =
      let apart : (k q : List ℕ) → keys.Key v b k ≡ keys.Key v b q → k ≡ q = λ k q e. cc in
      let equal = same_len all (keys.Key v b []) (keys.Key v (next b) []) (λ k. keys.Key v b k) (a_key all v b) (key_between all v b)
      (key_rows_rise all v b) apart (bucket_at namespace v b).keys (keys_agree v b) ks are in
      let one_key : (k q : List ℕ) → as_key k ≡ as_key q → k ≡ q = λ k q e. ap (λ (x : List ℕ × Option ℕ). x.0) e in
      let most = through {A = List ℕ} {B = List ℕ × Option ℕ} as_key (λ k. IsSome (all (keys.Key v b k))) (IsUsing all v b) 4096 one_key (λ k some. some)
      (stand.sound.counts.keys_and_sessions v b) in
      let few = few_names all (keys.Key v b []) (keys.Key v (next b) []) (λ k. keys.Key v b k) (a_key all v b) (key_between all v b)
      (key_rows_rise all v b) apart (bucket_at namespace v b).keys (keys_agree v b) ks are 4096 most in
      record { same = size ∙ equal; few = omega (arith, size, few) }

  module _ (v b : List ℕ) where
    abbrev from : RowKey
    from = keys.Open v b [] 0

    abbrev to : RowKey
    to = keys.Open v (next b) [] 0

    -- the key and the number of each open row
    uses : (ks : List RowKey) → AllByRecursion (IsBetween all from to) ks → List (List ℕ × ℕ)
    uses [] each = []
    uses (key ∷ ks) each = (an_open_key all v b key each.0).0 ∷ uses ks each.1

    numbers : List (List ℕ × ℕ) → List ℕ
    numbers [] = []
    numbers (one ∷ others) = one.1 ∷ numbers others

    uses_size : (ks : List RowKey) (each : AllByRecursion (IsBetween all from to) ks) → length (uses ks each) ≡ length ks
    unfolding uses
    uses_size [] each = refl
    uses_size (key ∷ ks) each = ap suc (uses_size ks each.1)

    numbers_size : (l : List (List ℕ × ℕ)) → length (numbers l) ≡ length l
    unfolding numbers
    numbers_size [] = refl
    numbers_size (one ∷ others) = ap suc (numbers_size others)

    abbrev IsOpen : List ℕ × ℕ → Type 0
    IsOpen one = IsSome (all (keys.Open v b one.0 one.1))

    opened : (ks : List RowKey) (each : AllByRecursion (IsBetween all from to) ks) → AllByRecursion IsOpen (uses ks each)
    unfolding uses
    opened [] each = tt
    opened (key ∷ ks) each = (subst (λ k. IsSome (all k)) (an_open_key all v b key each.0).1 each.0.has_row, opened ks each.1)

    -- the session of an open row
    its_session : (k : List ℕ) (n : ℕ) → IsSome (all (keys.Open v b k n)) → (session : Session) × (session.key ≡ k)
        × (session_of namespace v b n ≡ Some session)
    its_session k n some = by_row (all (keys.Open v b k n)) refl some
      where
        of_row : (row : Row) → all (keys.Open v b k n) ≡ Some row → ValueFits (keys.Open v b k n) row → (session : Session) × (session.key ≡ k)
            × (session_of namespace v b n ≡ Some session)
        of_row (rows.Open blocks) e fits = let session : Session =
            record { key = k; blocks = blocks } in (session, refl, (stand.stands.sessions v b n session).1 e)
        of_row row e fits = absurd fits

        by_row : (o : Option Row) → all (keys.Open v b k n) ≡ o → IsSome o → (session : Session) × (session.key ≡ k)
            × (session_of namespace v b n ≡ Some session)
        by_row None e some = absurd (false≢true some)
        by_row (Some row) e some = of_row row e (stand.fit (keys.Open v b k n) row e).1

    -- a number is that of one open row
    one_use : (k q : List ℕ) (n : ℕ) → IsSome (all (keys.Open v b k n)) → IsSome (all (keys.Open v b q n)) → k ≡ q
    one_use k q n here there =
        let one = its_session k n here in
        let other = its_session q n there in
        sym one.1 ∙ ap (λ (s : Session). s.key) (same_Some _ _ (sym one.2 ∙ other.2)) ∙ other.1

    numbers_under : (one : List ℕ × ℕ) (key : RowKey) → key ≡ keys.Open v b one.0 one.1 → IsOpen one
        → (ks : List RowKey) (each : AllByRecursion (IsBetween all from to) ks) → AllByRecursion (λ other. IsBelow key other) ks
        → AllByRecursion (λ n. one.1 ≢ n) (numbers (uses ks each))
    unfolding uses numbers
    numbers_under one key is open_one [] each below = tt
    numbers_under one key is open_one (other ∷ ks) each below =
        let it = an_open_key all v b other each.0 in (
          (λ e.
              let open_other = subst (λ k. IsSome (all k)) it.1 each.0.has_row in
              let same = one_use one.0 it.0.0 it.0.1 (subst (λ n. IsSome (all (keys.Open v b one.0 n))) e open_one) open_other in
              let equal : key ≡ other = is ∙ (λ i. keys.Open v b (same i) (e i)) ∙ sym it.1 in
              false≢true (sym (ap is_eq below.0) ∙ ap (λ k. is_eq (key_order key k)) (sym equal) ∙ ap is_eq (itself key))),
          numbers_under one key is open_one ks each.1 below.1,
        )

    numbers_differ : (ks : List RowKey) (each : AllByRecursion (IsBetween all from to) ks) → AllRise ks → AllDiffer (numbers (uses ks each))
    unfolding uses numbers
    numbers_differ [] each rises = tt
    numbers_differ (key ∷ ks) each rises =
        let it = an_open_key all v b key each.0 in
        (numbers_under it.0 key it.1 (subst (λ k. IsSome (all k)) it.1 each.0.has_row) ks each.1 rises.0, numbers_differ ks each.1 rises.1)

    uses_apart : (one : List ℕ × ℕ) (l : List (List ℕ × ℕ)) → AllByRecursion (λ n. one.1 ≢ n) (numbers l) → AllByRecursion (λ other. one ≢ other) l
    unfolding numbers
    uses_apart one [] apart = tt
    uses_apart one (other ∷ l) apart = ((λ e. apart.0 (ap (λ (x : List ℕ × ℕ). x.1) e)), uses_apart one l apart.1)

    uses_differ : (l : List (List ℕ × ℕ)) → AllDiffer (numbers l) → AllDiffer l
    unfolding numbers
    uses_differ [] apart = tt
    uses_differ (one ∷ l) apart = (uses_apart one l apart.0, uses_differ l apart.1)

    abbrev sessions : FinMap nat_cmp Session
    sessions = (bucket_at namespace v b).sessions

    seen_session : (n : ℕ) → get sessions n ≡ session_of namespace v b n
    seen_session n = sessions_looked_up (bucket_of namespace v b) n

    abbrev among_numbers : ℕ → List ℕ → Bool
    among_numbers n l = among nat_cmp nat_cmp_total nat_cmp-IsAntisymmetric n l

    number_seen : (l : List (List ℕ × ℕ)) → AllByRecursion IsOpen l → AllByRecursion (λ n. among_numbers n (keys_in sessions) ≡ true) (numbers l)
    unfolding numbers
    number_seen [] all = tt
    number_seen (one ∷ others) all =
        (sym (contains_key-keys sessions one.1) ∙ ap is_some (seen_session one.1 ∙ (its_session one.0 one.1 all.0).2), number_seen others all.1)

    number_there : (k : List ℕ) (n : ℕ) (ks : List RowKey) (each : AllByRecursion (IsBetween all from to) ks)
        → list_any (is_same (keys.Open v b k n)) ks ≡ true → among_numbers n (numbers (uses ks each)) ≡ true
    unfolding uses numbers
    number_there k n [] each e = absurd (false≢true e)
    number_there k n (key ∷ ks) each e = by_test (is_same (keys.Open v b k n) key) refl (number_there k n ks each.1)
      where
        by_test : (t : Bool) → is_same (keys.Open v b k n) key ≡ t
            → (list_any (is_same (keys.Open v b k n)) ks ≡ true → among_numbers n (numbers (uses ks each.1)) ≡ true)
            → among_numbers n ((an_open_key all v b key each.0).0.1 ∷ numbers (uses ks each.1)) ≡ true
        by_test true is later =
            let it = an_open_key all v b key each.0 in
            let both : keys.Open v b k n ≡ keys.Open v b it.0.0 it.0.1 = same_is_one _ key is ∙ it.1 in
            let same : n ≡ it.0.1 = cc in
            subst (λ x. among_numbers x (it.0.1 ∷ numbers (uses ks each.1)) ≡ true) (sym same)
            (among_head nat_cmp nat_cmp_total nat_cmp-IsAntisymmetric it.0.1 (numbers (uses ks each.1)))
        by_test false is later =
            among_later nat_cmp nat_cmp_total nat_cmp-IsAntisymmetric n _ (numbers (uses ks each.1))
            (later (subst (λ (t : Bool). t || list_any (is_same (keys.Open v b k n)) ks ≡ true) is e))

    session_row : (o : Option Session) (n : ℕ) → get sessions n ≡ o → IsSome o → (k : List ℕ) × IsSome (all (keys.Open v b k n))
    session_row None n e some = absurd (false≢true some)
    session_row (Some session) n e some = (session.key, ap is_some ((stand.stands.sessions v b n session).0 (sym (seen_session n) ∙ e)))

    pub session_rows : (n : ℕ) → IsCount all from to n → record { same : n ≡ len sessions; few : n ≤ 4096 }
    session_rows n (ks, are, size) =
        let l = uses ks are.each in
        let every : (m : ℕ) → among_numbers m (keys_in sessions) ≡ true → among_numbers m (numbers l) ≡ true = λ m e.
        let found = session_row (get sessions m) m refl (contains_key-keys sessions m ∙ e) in
        number_there found.0 m ks are.each (are.every (keys.Open v b found.0 m) (open_between all v b found.0 m found.1)) in
        let equal = same_size nat_cmp nat_cmp_total nat_cmp-IsAntisymmetric (numbers l) (keys_in sessions) (numbers_differ ks are.each are.rise)
        (differ nat_cmp nat_cmp_total nat_cmp-IsAntisymmetric _ (keys_rise nat_cmp nat_cmp_total nat_cmp-IsAntisymmetric sessions))
        (number_seen l (opened ks are.each))
        (each_in_turn _ _ every (keys_in sessions) (each_among nat_cmp nat_cmp_total nat_cmp-IsAntisymmetric (keys_in sessions))) in
        let whole : n ≡ len sessions = size ∙ sym (uses_size ks are.each) ∙ sym (numbers_size l) ∙ equal
        ∙ sym (len_keys nat_cmp nat_cmp_total nat_cmp-IsAntisymmetric sessions) in
        let one_session : (x y : List ℕ × ℕ) → as_session x ≡ as_session y
        → x ≡ y = λ x y e. let second =
        same_Some x.1 y.1 (ap (λ (z : List ℕ × Option ℕ). z.1) e) in λ i. ((ap (λ (z : List ℕ × Option ℕ). z.0) e) i, second i) in
        let few = through as_session IsOpen (IsUsing all v b) 4096 one_session (λ one some. some) (stand.sound.counts.keys_and_sessions v b) l
        (uses_differ l (numbers_differ ks are.each are.rise)) (opened ks are.each) in
        record { same = whole; few = omega (arith, few, size, uses_size ks are.each) }
