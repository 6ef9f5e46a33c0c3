-- How many keys a snapshot has is how many rows stand between two keys.
use Rattle.std.proofs.Common.{◌≡◌, ℕ, ◌+◌, ◌≤◌, ◌^◌, Bool, true, false, not, ◌||◌, List, [], ◌∷◌, Option, None, Some, IsSome, is_some, cond, refl, sym, ◌∙◌, ap, subst, arith}
use mathlib.Core.Bool.{false≢true}
use Rattle.std.proofs.lemmas.Bool.Decides.{nat_tests}
use Rattle.std.specs.FinMap.{get, len, nat_cmp-IsAntisymmetric, slice_cmp-IsAntisymmetric}
use Rattle.std.specs.Ordering.{nat_cmp, is_lt, ordering_then}
use Rattle.std.specs.declared.cmp.Ordering.{Ordering}
use Rattle.std.specs.declared.cmp.Ordering.TheVariants.{Less, Equal, Greater}
use Rattle.oz_decision.specs.Meets.{AreInGrammar, Stand}
use Rattle.oz_decision.specs.Replies.{IsReply, ShowsThat}
use Rattle.oz_decision.specs.laws.Counting.{few_names, same_len}
use Rattle.oz_model.specs.Answers.{Replies}
use Rattle.oz_model.specs.Buckets.{bucket_at, is_same_name, keys_in, keys_or_none, snapshot_keys}
use Rattle.oz_model.specs.Refusals.{first_of, no_bucket, no_volume, refusal}
use Rattle.oz_model.specs.Scope.{scope_of}
use Rattle.oz_model.specs.laws.Order.{refused_by_row, refused_so}
use Rattle.oz_names.specs.declared.code.Code.{Code}
use Rattle.oz_names.specs.declared.code.Code.TheVariants.{SnapshotNotFound}
use Rattle.oz_names.specs.Names.{stripe_of}
use Rattle.oz_namespace.specs.declared.namespace.Namespace.{Namespace}
use Rattle.oz_namespace.specs.declared.namespace.Snapshot.{Snapshot}
use Rattle.oz_reclaim.specs.Marks.{HasNumber, IsNamed}
use Rattle.oz_reclaim.specs.Numbered.{IsKeyCount}
use Rattle.oz_reclaim.proofs.Between.{both_tied, cmp, name_last, not_equal}
use Rattle.oz_reclaim.proofs.Marked.{is_not_there, is_there, looked_up}
use Rattle.oz_reclaim.proofs.Named.{other_number, same_name}
use Rattle.oz_requests.specs.declared.reply.Reply.TheVariants as replies
use Rattle.oz_requests.specs.declared.request.Request.{Request}
use Rattle.oz_requests.specs.declared.request.Request.TheVariants.{InfoSnapshot}
use Rattle.oz_requests.specs.Names.{name_fault}
use Rattle.oz_rows.specs.declared.key.RowKey.{RowKey}
use Rattle.oz_rows.specs.declared.key.RowKey.TheVariants as keys
use Rattle.oz_rows.specs.declared.row.Row.{Row}
use Rattle.oz_rows.specs.declared.row.Row.TheVariants as rows
use Rattle.oz_rows.specs.declared.row.SnapshotState.TheVariants.{Live}
use Rattle.oz_rows.specs.Counts.{IsBetween, IsCount}
use Rattle.oz_rows.specs.Rows.{ValueFits}
use Rattle.oz_rows.specs.RowMaps.{IsBelow, Rows}
use Rattle.oz_sound.specs.Sound.{IsSoundButRenames}
use Rattle.oz_sound.specs.StandsFor.{AreSnapshots, IsSnapshot, drawn_in, is_among, pieces_in}

-- what lies between two that begin alike begins like them
even : (o p q : Ordering) → (ordering_then o p ≡ Less → ⊥) → ordering_then o q ≡ Less → (o ≡ Equal) × (p ≡ Less → ⊥) × (q ≡ Less)
even Less p q low high = absurd (low refl)
even Equal p q low high = (refl, low, high)
even Greater p q low high = absurd (false≢true (ap is_lt high))

number_between : (m n : ℕ) (low high : Ordering) → (ordering_then (ordering_then (nat_cmp m n) Equal) low ≡ Less → ⊥) → (high ≡ Less → ⊥) → ordering_then (ordering_then (nat_cmp m (n + 1)) Equal) high ≡ Less → m ≡ n
number_between m n low high under last over = by_order (nat_cmp m n) refl (nat_cmp m (n + 1)) refl under over
  where
    by_order : (o : Ordering) → nat_cmp m n ≡ o → (p : Ordering) → nat_cmp m (n + 1) ≡ p → (ordering_then (ordering_then o Equal) low ≡ Less → ⊥) → ordering_then (ordering_then p Equal) high ≡ Less → m ≡ n
    by_order Less e p f under over = absurd (under refl)
    by_order Equal e p f under over = grind (arith, nat_tests, e)
    by_order Greater e Less f under over = grind (arith, nat_tests, e, f)
    by_order Greater e Equal f under over = absurd (last over)
    by_order Greater e Greater f under over = absurd (false≢true (ap is_lt over))

level : (n : ℕ) → nat_cmp n n ≡ Equal
level n = by_order (nat_cmp n n) refl
  where
    by_order : (o : Ordering) → nat_cmp n n ≡ o → nat_cmp n n ≡ Equal
    by_order Equal e = e
    by_order Less e = grind (arith, nat_tests, e)
    by_order Greater e = grind (arith, nat_tests, e)

under_next : (n : ℕ) → nat_cmp n (n + 1) ≡ Less
under_next n = by_order (nat_cmp n (n + 1)) refl
  where
    by_order : (o : Ordering) → nat_cmp n (n + 1) ≡ o → nat_cmp n (n + 1) ≡ Less
    by_order Less e = e
    by_order Equal e = grind (arith, nat_tests, e)
    by_order Greater e = grind (arith, nat_tests, e)

name_decides : (o : Ordering) → ordering_then o Equal ≡ Less → o ≡ Less
name_decides Less e = refl
name_decides Equal e = absurd (not_equal e)
name_decides Greater e = absurd (false≢true (ap is_lt e))

module _ (all : Rows) (v b : List ℕ) (n : ℕ) where
  abbrev from : RowKey
  from = keys.SnapshotKey v b n []

  abbrev to : RowKey
  to = keys.SnapshotKey v b (n + 1) []

  abbrev place : List ℕ → RowKey
  place k = keys.SnapshotKey v b n k

  abbrev behind_number : ℕ → ℕ → Ordering → Ordering
  behind_number m x o = ordering_then (ordering_then (nat_cmp m x) Equal) o

  abbrev name_order : List ℕ → List ℕ → Ordering
  name_order k q = ordering_then (cmp k q) Equal

  a_key : (key : RowKey) → IsBetween all from to key → (k : List ℕ) × (key ≡ place k)
  a_key (keys.SnapshotKey w c m k) is =
      let one = even (cmp w v) (ordering_then (cmp c b) (behind_number m n (name_order k []))) (ordering_then (cmp c b) (behind_number m (n + 1) (name_order k []))) is.not_below is.below in
      let two = even (cmp c b) (behind_number m n (name_order k [])) (behind_number m (n + 1) (name_order k [])) one.1 one.2 in
      let number = number_between m n (name_order k []) (name_order k []) two.1 (name_last k Equal not_equal) two.2 in
      let volume : w ≡ v = slice_cmp-IsAntisymmetric nat_cmp-IsAntisymmetric w v one.0 in
      let bucket : c ≡ b = slice_cmp-IsAntisymmetric nat_cmp-IsAntisymmetric c b two.0 in
      (k, λ i. keys.SnapshotKey (volume i) (bucket i) (number i) k)
  a_key (keys.Volume w) is = absurd (is.not_below refl)
  a_key (keys.Bucket w c) is = absurd (is.not_below refl)
  a_key (keys.Key w c k) is = absurd (is.not_below refl)
  a_key (keys.Open w c k m) is = absurd (is.not_below refl)
  a_key (keys.Deleted w c o k l) is = absurd (is.not_below refl)
  a_key (keys.Snapshot w c m) is = absurd (is.not_below refl)
  a_key (keys.Renamed w c o l) is = absurd (false≢true (ap is_lt is.below))
  a_key (keys.Stripe s) is = absurd (false≢true (ap is_lt is.below))

  between : (k : List ℕ) → IsSome (all (place k)) → IsBetween all from to (place k)
  between k some = record {
    has_row = some;
    not_below = λ e. name_last k Equal not_equal (sym (both_tied v b (behind_number n n (name_order k [])) ∙ ap (λ (o : Ordering). ordering_then (ordering_then o Equal) (name_order k [])) (level n)) ∙ e);
    below = both_tied v b (behind_number n (n + 1) (name_order k [])) ∙ ap (λ (o : Ordering). ordering_then (ordering_then o Equal) (name_order k [])) (under_next n);
  }

  rise : (k q : List ℕ) → IsBelow (place k) (place q) → cmp k q ≡ Less
  rise k q e = name_decides (cmp k q) (sym (both_tied v b (behind_number n n (name_order k q)) ∙ ap (λ (o : Ordering). ordering_then (ordering_then o Equal) (name_order k q)) (level n)) ∙ e)

  has_pieces : (k : List ℕ) (row : Row) → ValueFits (place k) row → is_some (pieces_in (Some row)) ≡ true
  has_pieces k (rows.SnapshotKey number pieces) fits = refl
  has_pieces k row fits = absurd fits

  key_row : AreInGrammar all → (k : List ℕ) (o : Option Row) → all (place k) ≡ o → is_some (pieces_in o) ≡ is_some o
  key_row fit k None e = refl
  key_row fit k (Some row) e = has_pieces k row (fit (place k) row e).1

  module _ (name : List ℕ) (one : IsNamed all v b name n) where
    -- the snapshot of the name
    record Found (l : List Snapshot) : Type 0 where
      snapshot : Snapshot
      its_keys : snapshot_keys l name ≡ Some snapshot.keys
      is : IsSnapshot all v b n snapshot

    module _ (one_only : (m previous : ℕ) → all (keys.Snapshot v b m) ≡ Some (rows.Snapshot name previous Live) → m ≡ n) where
      found : (numbers : List ℕ) (l : List Snapshot) → AreSnapshots all v b numbers l → is_among n numbers ≡ true → Found l
      found [] [] are among = absurd (false≢true among)
      found [] (s ∷ l) are among = absurd are
      found (m ∷ numbers) [] are among = absurd are
      found (m ∷ numbers) (s ∷ l) are among = by_test (is_same_name s.name name) refl (found numbers l are.1)
        where
          by_test : (t : Bool) → is_same_name s.name name ≡ t → (is_among n numbers ≡ true → Found l) → Found (s ∷ l)
          by_test true e later =
              let row = are.0.row ∙ ap (λ (x : List ℕ). Some (rows.Snapshot x are.0.previous Live)) (same_name s.name name e) in
              let same : m ≡ n = one_only m are.0.previous row in
              record {
                snapshot = s;
                its_keys = ap (λ (t : Bool). cond t (Some s.keys) (snapshot_keys l name)) e;
                is = subst (λ x. IsSnapshot all v b x s) same are.0;
              }
          by_test false e later =
              let it = later (sym (ap (λ (t : Bool). t || is_among n numbers) (other_number all v b name n one m s.name are.0.previous are.0.row e)) ∙ among) in
              record {
                snapshot = it.snapshot;
                its_keys = ap (λ (t : Bool). cond t (Some s.keys) (snapshot_keys l name)) e ∙ it.its_keys;
                is = it.is;
              }

    module _ (namespace : Namespace) (stand : Stand IsSoundButRenames all namespace) where
      abbrev count_of : ℕ
      count_of = len (keys_in (bucket_at namespace v b) (Some name))

      found_here : Found (bucket_at namespace v b).snapshots
      found_here =
          let snapshots = stand.stands.snapshots v b in
          looked_up all v b name namespace stand Found
          (found (λ m previous row. stand.sound.names.one_snapshot v b name m previous n one.0 row one.1) snapshots.numbers _ snapshots.each (snapshots.every n (name, one.0, one.1)))

      agree : (q : List ℕ) → is_some (get found_here.snapshot.keys q) ≡ is_some (all (place q))
      agree q = ap is_some (found_here.is.pieces q) ∙ key_row stand.fit q _ refl

      pub counted : (size : ℕ) → IsCount all from to size → (size ≡ count_of) × (size ≤ 4096)
      counted size (ks, are, is) =
          let apart : (k q : List ℕ) → place k ≡ place q → k ≡ q = λ k q e. cc in
          let same = same_len all from to place a_key between rise apart found_here.snapshot.keys agree ks are in
          let few = few_names all from to place a_key between rise apart found_here.snapshot.keys agree ks are 4096 (stand.sound.counts.snapshot_keys v b n (name, one.0, one.1)) in
          (is ∙ same ∙ ap (λ (o : Option _). len (keys_or_none o)) (sym found_here.its_keys), omega (arith, is, few))

      -- numbers are far below what an integer holds
      small : n ≤ 2 ^ 48
      small =
          let drawn = stand.sound.numbers.snapshots v b n (ap is_some one.1) in
          let most = few_drawn (all (keys.Stripe (stripe_of v))) refl in
          omega (arith, drawn, most)
        where
          few_drawn : (o : Option Row) → all (keys.Stripe (stripe_of v)) ≡ o → drawn_in o ≤ 2 ^ 48
          few_drawn None e = omega arith
          few_drawn (Some row) e = by_row row (stand.fit (keys.Stripe (stripe_of v)) row e).1
            where
              by_row : (row : Row) → ValueFits (keys.Stripe (stripe_of v)) row → drawn_in (Some row) ≤ 2 ^ 48
              by_row (rows.Stripe number) fits = omega (arith, fits)
              by_row row fits = absurd fits

      pub is_count : (count : ℕ) → IsKeyCount all v b n count → count ≡ count_of
      is_count count holds =
          let under = small in
          let it = holds (omega (arith, under)) in
          let is = counted it.0 it.1 in
          let few = is.1 in
          it.2 (omega (arith, few)) ∙ is.0

-- ---- the replies

module _ (all : Rows) (v b name : List ℕ) (named : name_fault (InfoSnapshot v b name) ≡ None) (there : ShowsThat all (λ namespace. None ≡ first_of (no_volume (scope_of namespace v) ∷ no_bucket (scope_of namespace v) b ∷ []))) where
  abbrev asked : Request
  asked = InfoSnapshot v b name

  pub by_none : HasNumber all v b name None → IsReply all asked (replies.Code SnapshotNotFound)
  by_none none = λ namespace stand. refused_so (scope_of namespace v) asked SnapshotNotFound
      (refused_by_row (scope_of namespace v) asked named (sym (there namespace stand)) ∙ ap (λ (t : Bool). cond (not t) (Some SnapshotNotFound) None) (is_not_there all v b name namespace stand none))

  pub by_count : (n : ℕ) → IsNamed all v b name n → (count : ℕ) → IsKeyCount all v b n count → IsReply all asked (replies.Count count)
  by_count n one count is = λ namespace stand.
      let none : refusal (scope_of namespace v) asked ≡ None = refused_by_row (scope_of namespace v) asked named (sym (there namespace stand)) ∙ ap (λ (t : Bool). cond (not t) (Some SnapshotNotFound) None) (is_there all v b name namespace stand n one) in
      subst (λ (o : Option Code). Replies o (scope_of namespace v) asked (replies.Count count)) (sym none) (ap replies.Count (is_count all v b n name one namespace stand count is))
