-- What sessions and snapshots of a bucket stand, where one of its sessions changed.
use Rattle.std.proofs.Common.{◌≡◌, ◌↔◌, ℕ, Bool, true, false, List, [], ◌∷◌, map, Option, None, Some, is_some, cond, refl, sym, ◌∙◌, ap}
use mathlib.Core.Bool.{false≢true}
use Rattle.std.proofs.lemmas.Cmp.{nat_cmp_total, nat_list_cmp_total}
use Rattle.std.proofs.lemmas.Option.{same_Some}
use Rattle.std.specs.Cmp.{eq_by_cmp_equiv}
use Rattle.std.specs.FinMap.{FinMap, get, insert, get-empty, get-insert, nat_cmp-IsAntisymmetric}
use Rattle.std.specs.Cmp.Lexicographic.{slice_cmp}
use Rattle.std.specs.Ordering.{nat_cmp, is_eq, eq_by_cmp}
use Rattle.oz_fields.specs.declared.block.Block.{Block}
use Rattle.oz_namespace.specs.declared.namespace.Bucket.{Bucket}
use Rattle.oz_namespace.specs.declared.namespace.Namespace.{Namespace}
use Rattle.oz_namespace.specs.declared.namespace.Session.{Session}
use Rattle.oz_namespace.specs.declared.namespace.Snapshot.{Snapshot}
use Rattle.oz_namespace.specs.Namespace.{ByName, buckets_of, with_volume, snapshots_in}
use Rattle.std.specs.Option.{option_and_then}
use Rattle.oz_model.specs.Buckets.{buckets_at, bucket_at, bucket_or_new}
use Rattle.oz_rows.specs.declared.key.RowKey.{RowKey}
use Rattle.oz_rows.specs.declared.key.RowKey.TheVariants as keys
use Rattle.oz_rows.specs.declared.row.Row.{Row}
use Rattle.oz_rows.specs.declared.row.Row.TheVariants as rows
use Rattle.oz_rows.specs.RowMaps.{Rows, is_same}
use Rattle.oz_rows.specs.laws.Order.{itself, equal_from_test}
use Rattle.oz_rows.specs.laws.Same.{same_is_one}
use Rattle.oz_sound.specs.StandsFor.{SnapshotsStand, AreSnapshots, IsSnapshot, pieces_in, drawn_in}
use Rattle.oz_sound.specs.laws.BucketChanges.{itself as itself_name}
use Rattle.oz_decision.specs.Sessions.{blocks_at}

abbrev pub is_number : ℕ → ℕ → Bool
is_number m n = eq_by_cmp nat_cmp m n

pub one_number : (m n : ℕ) → is_number m n ≡ true → m ≡ n
one_number m n e = nat_cmp-IsAntisymmetric m n (equal_from_test _ e)

pub number_itself : (n : ℕ) → is_number n n ≡ true
number_itself n = (eq_by_cmp_equiv nat_cmp_total).refl n

pub key_itself : (key : RowKey) → is_same key key ≡ true
key_itself key = ap is_eq (itself key)

-- a session as this becomes of it, and its row
abbrev pub session_with : List ℕ → Option (List Block) → Option Session
session_with k None = None
session_with k (Some blocks) = Some (record { key = k; blocks = blocks })

abbrev pub row_with : Option (List Block) → Option Row
row_with None = None
row_with (Some blocks) = Some (rows.Open blocks)

its_row : Option Session → Option Row
its_row None = None
its_row (Some session) = Some (rows.Open session.blocks)

its_key : List ℕ → Option Session → List ℕ
its_key k None = k
its_key k (Some session) = session.key

row_is : (k : List ℕ) (new : Option (List Block)) (s : Session) → session_with k new ≡ Some s → row_with new ≡ Some (rows.Open s.blocks)
unfolding its_row
row_is k None s e = absurd (false≢true (ap is_some e))
row_is k (Some blocks) s e = ap its_row e

key_is : (k : List ℕ) (new : Option (List Block)) (s : Session) → session_with k new ≡ Some s → k ≡ s.key
unfolding its_key
key_is k None s e = absurd (false≢true (ap is_some e))
key_is k (Some blocks) s e = ap (its_key k) e

abbrev session_of : List ℕ → List Block → Session
session_of k blocks = record { key = k; blocks = blocks }

session_again : (k : List ℕ) (new : Option (List Block)) (s : Session) → k ≡ s.key → row_with new ≡ Some (rows.Open s.blocks) → session_with k new ≡ Some s
session_again k None s same e = absurd (false≢true (ap is_some e))
session_again k (Some blocks) s same e = λ i. Some (session_of (same i) (ap blocks_at e i))

-- one session of a bucket became this
module _ (all : Rows) (v b k : List ℕ) (n : ℕ) (sessions changed : FinMap nat_cmp Session) (blocks : List Block) (new : Option (List Block))
    (stood : (m : ℕ) (s : Session) → (get sessions m ≡ Some s) ↔ (all (keys.Open v b s.key m) ≡ Some (rows.Open s.blocks)))
    (was : get sessions n ≡ Some (record { key = k; blocks = blocks }))
    (gets : (m : ℕ) → get changed m ≡ cond (is_number m n) (session_with k new) (get sessions m)) where
  abbrev here : RowKey
  here = keys.Open v b k n

  abbrev row_now : List ℕ → ℕ → Option Row
  row_now q m = cond (is_same here (keys.Open v b q m)) (row_with new) (all (keys.Open v b q m))

  other_number : (m : ℕ) (q : List ℕ) → is_number m n ≡ false → is_same here (keys.Open v b q m) ≡ false
  other_number m q e = by_test (is_same here (keys.Open v b q m)) refl
    where
      by_test : (t : Bool) → is_same here (keys.Open v b q m) ≡ t → t ≡ false
      by_test false f = refl
      by_test true f =
          let same = same_is_one here (keys.Open v b q m) f in
          let number : n ≡ m = cc in
          absurd (false≢true (sym e ∙ ap (λ x. is_number x n) (sym number) ∙ number_itself n))

  session_at : (m : ℕ) (s : Session) → m ≡ n → get sessions m ≡ Some s → k ≡ s.key
  session_at m s same e = ap (λ (x : Session). x.key) (same_Some (session_of k blocks) s (sym was ∙ ap (get sessions) (sym same) ∙ e))

  at_number : (m : ℕ) (s : Session) → is_number m n ≡ true → (t : Bool) → is_same here (keys.Open v b s.key m) ≡ t
      → (session_with k new ≡ Some s) ↔ (cond t (row_with new) (all (keys.Open v b s.key m)) ≡ Some (rows.Open s.blocks))
  at_number m s e true f =
      let same = same_is_one here (keys.Open v b s.key m) f in
      let key : k ≡ s.key = cc in
      (row_is k new s, session_again k new s key)
  at_number m s e false f =
      let number = one_number m n e in
      let apart : k ≡ s.key → ⊥ = λ key. false≢true (sym f ∙ (λ i. is_same here (keys.Open v b (sym key i) (number i))) ∙ key_itself here) in
      (λ g. absurd (apart (key_is k new s g)), λ g. absurd (apart (session_at m s number ((stood m s).1 g))))

  pub sessions_stand : (m : ℕ) (s : Session) → (get changed m ≡ Some s) ↔ (row_now s.key m ≡ Some (rows.Open s.blocks))
  sessions_stand m s = by_number (is_number m n) refl
    where
      by_number : (t : Bool) → is_number m n ≡ t → (get changed m ≡ Some s) ↔ (row_now s.key m ≡ Some (rows.Open s.blocks))
      by_number false e =
          let row : row_now s.key m ≡ all (keys.Open v b s.key m) =
          ap (λ (t : Bool). cond t (row_with new) (all (keys.Open v b s.key m))) (other_number m s.key e) in
          let found : get changed m ≡ get sessions m = gets m ∙ ap (λ (t : Bool). cond t (session_with k new) (get sessions m)) e in
          (λ g. row ∙ (stood m s).0 (sym found ∙ g), λ g. found ∙ (stood m s).1 (sym row ∙ g))
      by_number true e =
          let found : get changed m ≡ session_with k new = gets m ∙ ap (λ (t : Bool). cond t (session_with k new) (get sessions m)) e in
          let both = at_number m s e (is_same here (keys.Open v b s.key m)) refl in
          (λ g. both.0 (sym found ∙ g), λ g. found ∙ both.1 g)

-- snapshots stand where their rows are as they were
module _ (all now : Rows) (same : (v b : List ℕ) (n : ℕ) → now (keys.Snapshot v b n) ≡ all (keys.Snapshot v b n))
    (same_keys : (v b : List ℕ) (n : ℕ) (k : List ℕ) → now (keys.SnapshotKey v b n k) ≡ all (keys.SnapshotKey v b n k)) where
  snapshot_again : (v b : List ℕ) (n : ℕ) (snapshot : Snapshot) → IsSnapshot all v b n snapshot → IsSnapshot now v b n snapshot
  snapshot_again v b n snapshot is =
      record { previous = is.previous; row = same v b n ∙ is.row; pieces = λ k. is.pieces k ∙ ap pieces_in (sym (same_keys v b n k)) }

  each_again : (v b numbers : List ℕ) (snapshots : List Snapshot) → AreSnapshots all v b numbers snapshots → AreSnapshots now v b numbers snapshots
  each_again v b [] [] are = tt
  each_again v b (n ∷ numbers) (s ∷ snapshots) are = (snapshot_again v b n s are.0, each_again v b numbers snapshots are.1)
  each_again v b [] (s ∷ snapshots) are = are
  each_again v b (n ∷ numbers) [] are = are

  pub snapshots_again : (v b : List ℕ) (snapshots : List Snapshot) → SnapshotsStand all v b snapshots → SnapshotsStand now v b snapshots
  snapshots_again v b snapshots stand = record {
    numbers = stand.numbers;
    rise = stand.rise;
    every = λ n live. stand.every n (live.0, live.1, sym (same v b n) ∙ live.2);
    each = each_again v b stand.numbers snapshots stand.each;
  }

pub snapshots_of_bucket : (o : Option Bucket) → (bucket_or_new o).snapshots ≡ snapshots_in o
snapshots_of_bucket None = refl
snapshots_of_bucket (Some bucket) = refl

pub volume_there : (o : Option (ByName Bucket)) (b : List ℕ) → is_some (option_and_then (λ buckets. get buckets b) o) ≡ true → is_some o ≡ true
volume_there None b e = absurd (false≢true e)
volume_there (Some buckets) b e = refl

pub pieces_at : (o : Option Bucket) (q : List ℕ) → option_and_then (λ (b : Bucket). get b.keys q) o ≡ get (bucket_or_new o).keys q
pieces_at None q = sym (get-empty (slice_cmp nat_cmp) q)
pieces_at (Some bucket) q = refl

pub stripes_again : (all now : Rows) → ((n : ℕ) → now (keys.Stripe n) ≡ all (keys.Stripe n)) → (l : List ℕ)
    → map (λ stripe. drawn_in (all (keys.Stripe stripe))) l ≡ map (λ stripe. drawn_in (now (keys.Stripe stripe))) l
stripes_again all now same [] = refl
stripes_again all now same (n ∷ l) = λ i. drawn_in (sym (same n) i) ∷ stripes_again all now same l i

-- the bucket that was put is there
pub bucket_put : (namespace : Namespace) (v b : List ℕ) (bucket : Bucket)
    → bucket_at (with_volume namespace v (insert (buckets_at namespace v) b bucket)) v b ≡ bucket
bucket_put namespace v b bucket =
    let buckets = insert (buckets_at namespace v) b bucket in
    ap (λ (o : Option (ByName Bucket)). bucket_or_new (option_and_then (λ bs. get bs b) o))
    (get-insert nat_list_cmp_total namespace.volumes v buckets v ∙ ap (λ (t : Bool). cond t (Some buckets) (buckets_of namespace v)) (itself_name v))
    ∙ ap bucket_or_new (get-insert nat_list_cmp_total (buckets_at namespace v) b bucket b
    ∙ ap (λ (t : Bool). cond t (Some bucket) (get (buckets_at namespace v) b)) (itself_name b))
