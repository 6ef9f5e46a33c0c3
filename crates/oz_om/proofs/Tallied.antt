-- What the rows of a volume's buckets have is what the namespace has.
use Rattle.std.proofs.Common.{◌≡◌, ℕ, ◌+◌, ◌==◌, Bool, true, false, cond, List, [], ◌∷◌, ◌++◌, map, Option, None, Some, is_some, length, refl, sym, ◌∙◌, ap, subst, arith}
use mathlib.Core.Bool.{false≢true}
use Rattle.std.specs.Prelude.{Result, Ok, Err, IfOk}
use Rattle.std.specs.List.{AllByRecursion, sum, sum_by}
use Rattle.std.specs.Ordering.{is_eq, eq_by_cmp, nat_cmp, ordering_reverse}
use Rattle.std.specs.Option.{option_and_then}
use Rattle.std.specs.declared.cmp.Ordering.{Ordering}
use Rattle.std.specs.declared.cmp.Ordering.TheVariants.{Less}
use Rattle.std.specs.Cmp.{IsTotalOrder}
use Rattle.std.specs.Cmp.Lexicographic.{slice_cmp}
use Rattle.std.specs.FinMap.{FinMap, IsAntisymmetric, entries, find, get, get-empty, get-entries, keys as keys_in, len, len-empty, values}
use Rattle.std.proofs.lemmas.Cmp.{nat_list_cmp_total, tied_itself}
use Rattle.std.proofs.lemmas.Bool.Decides.{nat_tests}
use Rattle.std.proofs.lemmas.List.{map-append, map-id}
use Rattle.std.proofs.lemmas.List.Sums.{sum-map, sum_by-append}
use Rattle.oz_fields.specs.declared.block.Piece.{Piece}
use Rattle.oz_namespace.specs.declared.namespace.Bucket.{Bucket}
use Rattle.oz_namespace.specs.declared.namespace.Namespace.{Namespace}
use Rattle.oz_namespace.specs.Namespace.{ByName, bucket_of, buckets_of}
use Rattle.oz_model.specs.Buckets.{bucket_at, bucket_or_new, buckets_in as map_of}
use Rattle.oz_rows.specs.declared.key.RowKey.{RowKey}
use Rattle.oz_rows.specs.declared.key.RowKey.TheVariants as keys
use Rattle.oz_rows.specs.declared.row.Row.{Row}
use Rattle.oz_rows.specs.Counts.{AreKeys, IsBetween}
use Rattle.oz_rows.specs.RowMaps.{Rows}
use Rattle.oz_sound.specs.Sound.{IsSoundButRenames}
use Rattle.oz_sound.specs.StandsFor.{pieces_in}
use Rattle.oz_names.specs.Names.{stripe_of}
use Rattle.oz_store.specs.striped.Shares.{share_of}
use Rattle.oz_store.specs.striped.laws.Shares.{its_buckets, share_is_there}
use Rattle.oz_sound.specs.laws.BucketRows.{pieces_seen}
use Rattle.oz_decision.specs.Meets.{AreInGrammar, Stand}
use Rattle.oz_decision.specs.laws.Between.{a_key, key_between, keys_rise as key_rows_rise, next}
use Rattle.oz_decision.specs.laws.Counting.{names_are, one_name, same_names}
use Rattle.oz_decision.specs.laws.Lookups.{has_pieces}
use Rattle.oz_decision.specs.laws.Rising.{Rises, keys_rise, len_keys}
use Rattle.oz_om.specs.Tallies.{buckets_in, bytes_in, length_of, tally_in, tally_of}
use Rattle.oz_om.specs.Tallies.{bytes_at, length_or_none, together}
use Rattle.oz_om.specs.declared.tally.Tally.{Tally}

-- ---- the values of a map are what its keys have, one after another

module _ {K X Y : Type 0} (R : K → K → Ordering) (o : IsTotalOrder R) (one : IsAntisymmetric R) (f : Option X → Y) (g : X → Y)
    (is : (x : X) → f (Some x) ≡ g x) where
  apart : (x y : K) → R x y ≡ Less → eq_by_cmp R y x ≡ false
  apart x y below = ap is_eq (o.antisymm y x ∙ ap ordering_reverse below)

  later : (e : K × X) (es : List (K × X)) (ks : List K) → AllByRecursion (λ y. R e.0 y ≡ Less) ks
      → map (λ q. f (find R q (e ∷ es))) ks ≡ map (λ q. f (find R q es)) ks
  later e es [] over = refl
  later e es (q ∷ ks) over = λ i. ap (λ (t : Bool). f (cond t (Some e.1) (find R q es))) (apart e.0 q over.0) i ∷ later e es ks over.1 i

  looked : (es : List (K × X)) → Rises R o one (map (λ (e : K × X). e.0) es)
      → map (λ q. f (find R q es)) (map (λ (e : K × X). e.0) es) ≡ map g (map (λ (e : K × X). e.1) es)
  looked [] rise = refl
  looked (e ∷ es) rise =
      let first : f (find R e.0 (e ∷ es)) ≡ g e.1 = ap (λ (t : Bool). f (cond t (Some e.1) (find R e.0 es))) (ap is_eq (tied_itself o e.0)) ∙ is e.1 in
      let others = later e es (map (λ (e : K × X). e.0) es) rise.0 ∙ looked es rise.1 in
      λ i. first i ∷ others i

  pub values_looked : (m : FinMap R X) → map (λ q. f (get m q)) (keys_in m) ≡ map g (values m)
  values_looked m = (λ i. map (λ q. f (get-entries m q i)) (keys_in m)) ∙ looked (entries m) (keys_rise R o one m)

-- ---- a bucket's bytes

key_name : RowKey → List ℕ
key_name (keys.Key volume bucket key) = key
key_name key = []

pieces_looked : (o : Option Bucket) (q : List ℕ) → get (bucket_or_new o).keys q ≡ pieces_seen o q
pieces_looked (Some bucket) q = refl
pieces_looked None q = get-empty (slice_cmp nat_cmp) q

module _ (all : Rows) (namespace : Namespace) (stand : Stand IsSoundButRenames all namespace) (v b : List ℕ) where
  key_pieces : (q : List ℕ) → get (bucket_at namespace v b).keys q ≡ pieces_in (all (keys.Key v b q))
  key_pieces q = pieces_looked (bucket_of namespace v b) q ∙ stand.stands.pieces v b q

  key_row : (q : List ℕ) (o : Option Row) → all (keys.Key v b q) ≡ o → is_some (pieces_in o) ≡ is_some o
  key_row q None e = refl
  key_row q (Some row) e = has_pieces v b q row (stand.fit (keys.Key v b q) row e).1

  by_name : (ks : List RowKey) → AllByRecursion (IsBetween all (keys.Key v b []) (keys.Key v (next b) [])) ks
      → map (λ key. bytes_at (all key)) ks ≡ map (λ q. bytes_at (all (keys.Key v b q))) (map key_name ks)
  unfolding key_name
  by_name [] each = refl
  by_name (key ∷ ks) each =
      let it = a_key all v b key each.0 in
      let here : bytes_at (all key) ≡ bytes_at (all (keys.Key v b (key_name key))) =
      ap (λ (k : RowKey). bytes_at (all k)) it.1 ∙ sym (ap (λ (k : RowKey). bytes_at (all (keys.Key v b (key_name k)))) it.1) in
      λ i. here i ∷ by_name ks each.1 i

  pub bytes_are : (ks : List RowKey) → AreKeys all (keys.Key v b []) (keys.Key v (next b) []) ks
      → sum_by (λ key. bytes_at (all key)) ks ≡ bytes_in (bucket_at namespace v b)
  unfolding key_name
  bytes_are ks are =
      let m = (bucket_at namespace v b).keys in
      let alone : (k q : List ℕ) → keys.Key v b k ≡ keys.Key v b q → k ≡ q = λ k q e. cc in
      let agree : (q : List ℕ) → is_some (get m q) ≡ is_some (all (keys.Key v b q)) = λ q. ap is_some (key_pieces q) ∙ key_row q _ refl in
      let named : map key_name ks ≡ keys_in m =
      names_are all (keys.Key v b []) (keys.Key v (next b) []) (λ k. keys.Key v b k) (a_key all v b) (key_between all v b)
      (key_rows_rise all v b) alone key_name (λ k. refl) ks are.each
      ∙ same_names all (keys.Key v b []) (keys.Key v (next b) []) (λ k. keys.Key v b k) (a_key all v b) (key_between all v b)
      (key_rows_rise all v b) alone m agree ks are in
      let each = by_name ks are.each
      ∙ (ap (map (λ q. bytes_at (all (keys.Key v b q)))) named
      ∙ ((λ i. map (λ q. length_or_none (sym (key_pieces q) i)) (keys_in m))
      ∙ values_looked (slice_cmp nat_cmp) nat_list_cmp_total one_name length_or_none length_of (λ pieces. refl) m)) in
      sym (sum-map (λ key. bytes_at (all key)) ks) ∙ (ap sum each ∙ sum-map length_of (values m))

-- the least key of a bucket's keys has no row, since no name is empty
pub no_first_key : (all : Rows) → AreInGrammar all → (v b : List ℕ) → all (keys.Key v b []) ≡ None
no_first_key all fit v b = by_row (all (keys.Key v b [])) refl
  where
    by_row : (o : Option Row) → all (keys.Key v b []) ≡ o → all (keys.Key v b []) ≡ None
    by_row None e = e
    by_row (Some row) e = let fits = (fit (keys.Key v b []) row e).0.2.long_enough in absurd (omega (arith, fits))

pub through_ok : {A E : Type 0} (P Q : A → Type 0) (r : Result A E) → ((x : A) → P x → Q x) → IfOk r P → IfOk r Q
through_ok P Q (Ok x) leads is = leads x is
through_ok P Q (Err e) leads is = tt

-- ---- all buckets

no_items : {A : Type 0} (l : List A) → length l ≡ 0 → l ≡ []
no_items [] e = refl
no_items (x ∷ l) e = absurd (omega (arith, e))

first_sum : (n : ℕ) → n ≡ 0 + n
first_sum n = omega arith

pub just_one : (bucket : Bucket) (k b s : ℕ) → k ≡ len bucket.keys → b ≡ bytes_in bucket → s ≡ length bucket.snapshots
    → record { keys = k; bytes = b; snapshots = s } ≡ tally_in (bucket ∷ [])
just_one bucket k b s keys bytes snapshots = λ i. record {
  keys = (keys ∙ first_sum (len bucket.keys)) i;
  bytes = (bytes ∙ first_sum (bytes_in bucket)) i;
  snapshots = (snapshots ∙ first_sum (length bucket.snapshots)) i;
}

-- one bucket more
pub one_more : (buckets : List Bucket) (bucket : Bucket) → together (tally_in buckets) (tally_in (bucket ∷ [])) ≡ tally_in (buckets ++ bucket ∷ [])
one_more buckets bucket = λ i. record {
  keys = sym (sum_by-append (λ (b : Bucket). len b.keys) buckets (bucket ∷ [])) i;
  bytes = sym (sum_by-append bytes_in buckets (bucket ∷ [])) i;
  snapshots = sym (sum_by-append (λ (b : Bucket). length b.snapshots) buckets (bucket ∷ [])) i;
}

-- the buckets of a volume, looked up one after another, are all of them
pub all_buckets : (buckets : Option (ByName Bucket))
    → map (λ b. bucket_or_new (option_and_then (λ (m : ByName Bucket). get m b) buckets)) (keys_in (map_of buckets)) ≡ buckets_in buckets
all_buckets None = ap (map (λ b. bucket_or_new (option_and_then (λ (m : ByName Bucket). get m b) None)))
    (no_items (keys_in (map_of None)) (sym (len_keys (slice_cmp nat_cmp) nat_list_cmp_total one_name (map_of None)) ∙ len-empty (slice_cmp nat_cmp) Bucket))
all_buckets (Some m) = values_looked (slice_cmp nat_cmp) nat_list_cmp_total one_name bucket_or_new (λ b. b) (λ b. refl) m ∙ map-id (values m)

-- a share has of a volume of its stripe what the whole namespace has
pub share_tally : (stripe : ℕ) (namespace : Namespace) (volume : List ℕ) → stripe ≡ stripe_of volume
    → tally_of (share_of stripe namespace) volume ≡ tally_of namespace volume
share_tally stripe namespace volume its =
    ap (λ (o : Option (ByName Bucket)). tally_in (buckets_in o))
    (its_buckets stripe namespace (share_of stripe namespace) (share_is_there stripe namespace) volume (same_stripe (stripe_of volume) stripe (sym its)))
  where
    same_stripe : (a b : ℕ) → a ≡ b → (a == b) ≡ true
    same_stripe a b e = grind (arith, nat_tests, e)
