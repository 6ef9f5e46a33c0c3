-- The live snapshot of a name is the one whose row is found.
use Rattle.std.proofs.Common.{◌≡◌, ◌≢◌, ℕ, Bool, true, false, ◌||◌, ◌==◌, List, [], ◌∷◌, Option, None, Some, is_some, cond, refl, sym, ◌∙◌, ap, subst, arith}
use mathlib.Core.Bool.{false≢true}
use Rattle.std.proofs.lemmas.Bool.Decides.{nat_tests}
use Rattle.std.specs.Cmp.Lexicographic.{slice_cmp, same_text, other_text}
use Rattle.std.specs.FinMap.{get, get-empty}
use Rattle.std.specs.Option.{option_and_then}
use Rattle.std.specs.Ordering.{nat_cmp}
use Rattle.std.specs.List.{list_any}
use Rattle.oz_namespace.specs.declared.namespace.Bucket.{Bucket}
use Rattle.oz_namespace.specs.declared.namespace.Namespace.{Namespace}
use Rattle.oz_namespace.specs.declared.namespace.Snapshot.{Snapshot}
use Rattle.oz_namespace.specs.Namespace.{bucket_of, snapshots_in}
use Rattle.oz_model.specs.Buckets.{is_same_name, snapshot_keys, bucket_at, bucket_or_new}
use Rattle.oz_rows.specs.declared.key.RowKey.{RowKey}
use Rattle.oz_rows.specs.declared.key.RowKey.TheVariants as keys
use Rattle.oz_rows.specs.declared.row.Row.{Row}
use Rattle.oz_rows.specs.declared.row.Row.TheVariants as rows
use Rattle.oz_rows.specs.declared.row.SnapshotState.TheVariants.{Live}
use Rattle.oz_rows.specs.Counts.{IsBetween, AreKeys}
use Rattle.oz_rows.specs.RowMaps.{Rows, is_same}
use Rattle.oz_rows.specs.laws.Same.{same_is_one}
use Rattle.std.specs.List.{AllByRecursion}
use Rattle.oz_sound.specs.Sound.{NamesAreSound, IsSoundButRenames}
use Rattle.oz_sound.specs.StandsFor.{AreSnapshots, is_among, pieces_in}
use Rattle.oz_decision.specs.Meets.{Stand}
use Rattle.oz_decision.specs.laws.Between.{next, a_snapshot, snapshot_between}
use Rattle.oz_om_key.specs.declared.place.Source.{Source}
use Rattle.oz_om_key.specs.declared.place.Source.TheVariants as sources
use Rattle.oz_om_key.specs.Places.{IsAsked, is_named, number_in, first_named}

one_number : (n m : ℕ) → (m == n) ≡ true → n ≡ m
one_number n m e = grind (arith, nat_tests, e)

other_number : (n m : ℕ) → (m == n) ≡ false → m ≢ n
other_number n m e = grind (arith, nat_tests, e)

same_name : (a b : List ℕ) → is_same_name a b ≡ true → a ≡ b
same_name a b e = same_text a b (sym e)

apart_name : (a b : List ℕ) → is_same_name a b ≡ false → a ≢ b
apart_name a b e = other_text a b (sym e)

abbrev name_of : Option Row → List ℕ
name_of (Some (rows.Snapshot name previous state)) = name
name_of row = []

-- the row of a live snapshot of the name
abbrev pub IsOne : Rows → List ℕ → List ℕ → ℕ → List ℕ → Type 0
IsOne all v b n name = (previous : ℕ) × (all (keys.Snapshot v b n) ≡ Some (rows.Snapshot name previous Live))

pub named_row : (o : Option Row) (name : List ℕ) → is_named o name ≡ true → (previous : ℕ) × (o ≡ Some (rows.Snapshot name previous Live))
named_row (Some (rows.Snapshot other previous Live)) name e = (previous, ap (λ x. Some (rows.Snapshot x previous Live)) (same_name other name e))
named_row o name e = absurd (false≢true e)

snapshots_looked_up : (o : Option Bucket) → (bucket_or_new o).snapshots ≡ snapshots_in o
snapshots_looked_up None = refl
snapshots_looked_up (Some bucket) = refl

itself : (a : List ℕ) → is_same_name a a ≡ true
itself a = by_test (is_same_name a a) refl
  where
    by_test : (t : Bool) → is_same_name a a ≡ t → is_same_name a a ≡ true
    by_test true e = e
    by_test false e = absurd (apart_name a a e refl)

module _ (all : Rows) (v b : List ℕ) (name : List ℕ) where
  module _ (names : NamesAreSound all) (n : ℕ) (one : IsOne all v b n name) where
    -- among the bucket's snapshots it is the first of the name
    the_keys : (numbers : List ℕ) (snapshots : List Snapshot) → AreSnapshots all v b numbers snapshots → is_among n numbers ≡ true → IsAsked all v b (snapshot_keys snapshots name) (Some (sources.Snapshot n))
    the_keys [] [] are among = absurd (false≢true among)
    the_keys [] (s ∷ snapshots) are among = absurd are
    the_keys (m ∷ numbers) [] are among = absurd are
    the_keys (m ∷ numbers) (s ∷ snapshots) are among = by_test (is_same_name s.name name) refl (the_keys numbers snapshots are.1)
      where
        by_test : (t : Bool) → is_same_name s.name name ≡ t → (is_among n numbers ≡ true → IsAsked all v b (snapshot_keys snapshots name) (Some (sources.Snapshot n))) → IsAsked all v b (cond t (Some s.keys) (snapshot_keys snapshots name)) (Some (sources.Snapshot n))
        by_test true e later =
            let row = are.0.row ∙ ap (λ x. Some (rows.Snapshot x are.0.previous Live)) (same_name s.name name e) in
            let same : m ≡ n = names.one_snapshot v b name m are.0.previous n one.0 row one.1 in
            (s.keys, refl, λ key. are.0.pieces key ∙ ap (λ number. pieces_in (all (keys.SnapshotKey v b number key))) same)
        by_test false e later = by_number (m == n) refl among
          where
            by_number : (t : Bool) → (m == n) ≡ t → t || is_among n numbers ≡ true → IsAsked all v b (snapshot_keys snapshots name) (Some (sources.Snapshot n))
            by_number true is among =
                let rows_same = sym are.0.row ∙ ap (λ number. all (keys.Snapshot v b number)) (sym (one_number n m is)) ∙ one.1 in
                absurd (apart_name s.name name e (ap name_of rows_same))
            by_number false is among = later among

  -- where there is none, no snapshot of the bucket has the name
  no_keys : ((n : ℕ) → IsOne all v b n name → ⊥) → (numbers : List ℕ) (snapshots : List Snapshot) → AreSnapshots all v b numbers snapshots → snapshot_keys snapshots name ≡ None
  no_keys none [] [] are = refl
  no_keys none [] (s ∷ snapshots) are = absurd are
  no_keys none (m ∷ numbers) [] are = absurd are
  no_keys none (m ∷ numbers) (s ∷ snapshots) are = by_test (is_same_name s.name name) refl (no_keys none numbers snapshots are.1)
    where
      by_test : (t : Bool) → is_same_name s.name name ≡ t → snapshot_keys snapshots name ≡ None → cond t (Some s.keys) (snapshot_keys snapshots name) ≡ None
      by_test true e later = absurd (none m (are.0.previous, are.0.row ∙ ap (λ x. Some (rows.Snapshot x are.0.previous Live)) (same_name s.name name e)))
      by_test false e later = later

  abbrev from : RowKey
  from = keys.Snapshot v b 0

  abbrev to : RowKey
  to = keys.Snapshot v (next b) 0

  -- what is found among keys is a snapshot of the name, and where nothing is found none of theirs is
  abbrev Finds : List RowKey → Option Source → Type 0
  Finds ks None = (n : ℕ) → IsOne all v b n name → list_any (is_same (keys.Snapshot v b n)) ks ≡ true → ⊥
  Finds ks (Some source) = (n : ℕ) × (source ≡ sources.Snapshot n) × IsOne all v b n name

  finds : (ks : List RowKey) → AllByRecursion (IsBetween all from to) ks → Finds ks (first_named all ks name)
  finds [] each = λ n one among. false≢true among
  finds (key ∷ ks) each = by_test (is_named (all key) name) refl (first_named all ks name) (finds ks each.1)
    where
      by_test : (t : Bool) → is_named (all key) name ≡ t → (later : Option Source) → Finds ks later → Finds (key ∷ ks) (cond t (Some (sources.Snapshot (number_in key))) later)
      by_test true e later found =
          let it = a_snapshot all v b key each.0 in
          let row = named_row (all key) name e in
          (it.0, ap (λ k. sources.Snapshot (number_in k)) it.1, (row.0, ap all (sym it.1) ∙ row.1))
      by_test false e (Some source) found = found
      by_test false e None found = λ n one among. by_key (is_same (keys.Snapshot v b n) key) n refl one among
        where
          by_key : (s : Bool) (n : ℕ) → is_same (keys.Snapshot v b n) key ≡ s → IsOne all v b n name → s || list_any (is_same (keys.Snapshot v b n)) ks ≡ true → ⊥
          by_key true n is one among = false≢true (sym e ∙ ap (λ k. is_named (all k) name) (sym (same_is_one (keys.Snapshot v b n) key is)) ∙ ap (λ o. is_named o name) one.1 ∙ itself name)
          by_key false n is one among = found n one among

  pub asked : (namespace : Namespace) → Stand IsSoundButRenames all namespace → (ks : List RowKey) → AreKeys all from to ks → (found : Option Source) → found ≡ first_named all ks name → IsAsked all v b (snapshot_keys (bucket_at namespace v b).snapshots name) found
  asked namespace stand ks are found is = subst (IsAsked all v b (snapshot_keys (bucket_at namespace v b).snapshots name)) (sym is) (subst (λ (l : List Snapshot). IsAsked all v b (snapshot_keys l name) (first_named all ks name)) (sym (snapshots_looked_up (bucket_of namespace v b))) (by_found (first_named all ks name) (finds ks are.each)))
    where
      by_found : (found : Option Source) → Finds ks found → IsAsked all v b (snapshot_keys (snapshots_in (bucket_of namespace v b)) name) found
      by_found None none =
          let snapshots = stand.stands.snapshots v b in
          no_keys (λ n one. none n one (are.every (keys.Snapshot v b n) (snapshot_between all v b n (ap is_some one.1)))) snapshots.numbers _ snapshots.each
      by_found (Some source) (n, is, one) =
          let snapshots = stand.stands.snapshots v b in
          subst (λ s. IsAsked all v b (snapshot_keys (snapshots_in (bucket_of namespace v b)) name) (Some s)) (sym is) (the_keys stand.sound.names n one snapshots.numbers _ snapshots.each (snapshots.every n (name, one.0, one.1)))

keys_looked_up : (o : Option Bucket) (q : List ℕ) → get (bucket_or_new o).keys q ≡ option_and_then (λ (x : Bucket). get x.keys q) o
keys_looked_up (Some bucket) q = refl
keys_looked_up None q = get-empty (slice_cmp nat_cmp) q

-- the keys of the bucket itself
pub asked_itself : (all : Rows) (v b : List ℕ) (namespace : Namespace) → Stand IsSoundButRenames all namespace → IsAsked all v b (Some (bucket_at namespace v b).keys) (Some sources.Bucket)
asked_itself all v b namespace stand = ((bucket_at namespace v b).keys, refl, λ key. keys_looked_up (bucket_of namespace v b) key ∙ stand.stands.pieces v b key)
