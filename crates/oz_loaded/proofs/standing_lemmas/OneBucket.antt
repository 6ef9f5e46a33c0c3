-- What is made of a bucket's rows is what they have of it.
use Rattle.std.proofs.Common.{◌≡◌, ◌==◌, ◌<◌, ℕ, Bool, true, false, ◌||◌, List, [], ◌∷◌, ◌++◌, Option, None, Some, IsSome, cond, refl, sym, ◌∙◌, ap, subst, arith}
use mathlib.Core.Bool.{false≢true}
use Rattle.std.specs.List.{AllByRecursion}
use Rattle.std.specs.Cmp.Lexicographic.{slice_cmp}
use Rattle.std.specs.Ordering.{MatchOrdering, nat_cmp, ordering_then}
use Rattle.std.specs.declared.cmp.Ordering.{Ordering}
use Rattle.std.specs.declared.cmp.Ordering.TheVariants.{Less, Equal, Greater}
use Rattle.std.specs.FinMap.{get, IsAntisymmetric, nat_cmp-IsAntisymmetric, slice_cmp-IsAntisymmetric}
use Rattle.std.proofs.lemmas.Bool.Decides.{nat_tests}
use Rattle.std.proofs.lemmas.Cmp.{nat_cmp_total, nat_list_cmp_total, ranked, tied_itself}
use Rattle.std.proofs.lemmas.List.Concat.{flat_map-cons}
use Rattle.oz_effects.specs.declared.parts.Part.TheVariants as parts
use Rattle.oz_effects.specs.Parts.{front_of}
use Rattle.oz_fields.specs.declared.block.Block.{Block}
use Rattle.oz_fields.specs.declared.block.Piece.{Piece}
use Rattle.oz_namespace.specs.declared.namespace.Bucket.{Bucket}
use Rattle.oz_namespace.specs.declared.namespace.Session.{Session}
use Rattle.oz_namespace.specs.declared.namespace.Snapshot.{Snapshot}
use Rattle.oz_rows.specs.declared.entry.RowEntry.{RowEntry}
use Rattle.oz_rows.specs.declared.key.RowKey.{RowKey}
use Rattle.oz_rows.specs.declared.key.RowKey.TheVariants as keys
use Rattle.oz_rows.specs.declared.row.Row.{Row}
use Rattle.oz_rows.specs.declared.row.Row.TheVariants as rows
use Rattle.oz_rows.specs.declared.row.SnapshotState.TheVariants.{Live}
use Rattle.oz_rows.specs.RowMaps.{IsBelow, KeysRise, is_same, row_of}
use Rattle.oz_rows.specs.laws.Same.{same_is_one}
use Rattle.oz_sound.specs.StandsFor.{AreSnapshots, NumbersRise, SnapshotsStand, is_among, pieces_in}
use Rattle.oz_sound.specs.stripes.Parts.{part_of}
use Rattle.oz_sound.specs.stripes.laws.Lists.{in_part, part_rises}
use Rattle.oz_loaded.specs.standing.Made.{bucket_in, bucket_made, bucket_shown, buckets_made, filled, name_shown, named, pieces_shown, rows_in, session_in, session_shown, snapshot_in, snapshots_in_order}
use Rattle.oz_loaded.specs.standing.Standing.{BucketIs, IsBucketOf, VolumeIs}
use Rattle.oz_loaded.proofs.standing_lemmas.Filling.{found_filled, same_value, shown_filled}
use Rattle.oz_loaded.proofs.standing_lemmas.Gathered.{IsFound, begins_with, begun, each_in, each_so, is_in}

names_apart : IsAntisymmetric (slice_cmp nat_cmp)
names_apart = slice_cmp-IsAntisymmetric nat_cmp-IsAntisymmetric

told_alike : {A : Type 0} (a b : Option A) → ((x : A) → a ≡ Some x → b ≡ Some x) → ((x : A) → b ≡ Some x → IsSome a) → a ≡ b
told_alike None None to from = refl
told_alike None (Some y) to from = absurd (false≢true (from y refl))
told_alike (Some x) b to from = sym (to x refl)

one_number : (n m : ℕ) → (n == m) ≡ true → n ≡ m
one_number n m e = grind (arith, nat_tests, e)

its_number : (n : ℕ) → (n == n) ≡ true
its_number n = grind (arith, nat_tests)

module _ (all : List RowEntry) (rise : KeysRise all) where
  -- ---- pieces under names

  module _ (front : List (List ℕ)) (snapshot : Option ℕ) (target : List ℕ → RowKey)
      (told : (key : RowKey) (name : List ℕ) → is_in front key ≡ true → name_shown snapshot key ≡ Some name → key ≡ target name)
      (within : (name : List ℕ) → is_in front (target name) ≡ true)
      (named_so : (name : List ℕ) → name_shown snapshot (target name) ≡ Some name) where
    abbrev HasPieces : List ℕ → List Piece → Type 0
    HasPieces name pieces = pieces_in (row_of all (target name)) ≡ Some pieces

    one_has : (x : RowEntry) → IsFound front all x → (name : List ℕ) (pieces : List Piece) → pieces_shown snapshot x ≡ Some (name, pieces) → HasPieces name pieces
    one_has x found name pieces e = by (name_shown snapshot x.key) refl (pieces_in (Some x.row)) refl e
      where
        by : (o : Option (List ℕ)) → name_shown snapshot x.key ≡ o → (p : Option (List Piece)) → pieces_in (Some x.row) ≡ p → named o p ≡ Some (name, pieces) → HasPieces name pieces
        by (Some n) is (Some q) has e =
            let both : (n, q) ≡ (name, pieces) = same_value (n, q) (name, pieces) e in
            let key : x.key ≡ target name = told x.key name found.0 (is ∙ ap (λ (pair : List ℕ × List Piece). Some pair.0) both) in
            ap pieces_in (ap (row_of all) (sym key) ∙ found.1) ∙ has ∙ ap (λ (pair : List ℕ × List Piece). Some pair.1) both
        by None is p has e = absurd (cc e)
        by (Some n) is None has e = absurd (cc e)

    pub pieces_are : (name : List ℕ) → get (filled {R = slice_cmp nat_cmp} (pieces_shown snapshot) (part_of (is_in front) all)) name ≡ pieces_in (row_of all (target name))
    pieces_are name = told_alike _ _
        (found_filled nat_list_cmp_total names_apart (pieces_shown snapshot) HasPieces (part_of (is_in front) all) (each_so _ _ one_has (part_of (is_in front) all) (each_in front all rise)) name)
        (λ pieces e. by (row_of all (target name)) refl pieces e)
      where
        by : (o : Option Row) → row_of all (target name) ≡ o → (pieces : List Piece) → pieces_in o ≡ Some pieces → IsSome (get (filled {R = slice_cmp nat_cmp} (pieces_shown snapshot) (part_of (is_in front) all)) name)
        by None is pieces e = absurd (cc e)
        by (Some row) is pieces e =
            shown_filled nat_list_cmp_total names_apart (pieces_shown snapshot) (part_of (is_in front) all) (target name) row name pieces
            (ap (λ (o : Option (List ℕ)). named o (pieces_in (Some row))) (named_so name) ∙ ap (named (Some name)) e)
            (in_part (is_in front) all (target name) (within name) ∙ is)

  module _ (v b : List ℕ) where
    -- ---- the keys of the bucket

    a_key : (key : RowKey) (name : List ℕ) → is_in (front_of parts.Keys v b) key ≡ true → name_shown None key ≡ Some name → key ≡ keys.Key v b name
    a_key (keys.Key w c k) name i e =
        let front : (3 ∷ []) ∷ v ∷ b ∷ [] ≡ (3 ∷ []) ∷ w ∷ c ∷ [] = begins_with (front_of parts.Keys v b) (keys.Key w c k) i in
        cc (front, e)
    a_key key name i e = absurd (cc e)

    keys_are : (name : List ℕ) → get (filled {R = slice_cmp nat_cmp} (pieces_shown None) (rows_in parts.Keys v b all)) name ≡ pieces_in (row_of all (keys.Key v b name))
    keys_are = pieces_are (front_of parts.Keys v b) None (keys.Key v b) a_key (λ name. begun (front_of parts.Keys v b) (keys.Key v b name) refl) (λ name. refl)

    -- ---- the keys of a snapshot

    a_snapshot_key : (n : ℕ) (key : RowKey) (name : List ℕ) → is_in (front_of parts.SnapshotKeys v b) key ≡ true → name_shown (Some n) key ≡ Some name → key ≡ keys.SnapshotKey v b n name
    a_snapshot_key n (keys.SnapshotKey w c m k) name i e = by (m == n) refl e
      where
        by : (t : Bool) → (m == n) ≡ t → cond t (Some k) None ≡ Some name → keys.SnapshotKey w c m k ≡ keys.SnapshotKey v b n name
        by true is e =
            let front : (7 ∷ []) ∷ v ∷ b ∷ [] ≡ (7 ∷ []) ∷ w ∷ c ∷ [] = begins_with (front_of parts.SnapshotKeys v b) (keys.SnapshotKey w c m k) i in
            let number : m ≡ n = one_number m n is in
            cc (front, e, number)
        by false is e = absurd (cc e)
    a_snapshot_key n key name i e = absurd (cc e)

    snapshot_keys_are : (n : ℕ) (name : List ℕ) → get (filled {R = slice_cmp nat_cmp} (pieces_shown (Some n)) (rows_in parts.SnapshotKeys v b all)) name ≡ pieces_in (row_of all (keys.SnapshotKey v b n name))
    snapshot_keys_are n = pieces_are (front_of parts.SnapshotKeys v b) (Some n) (keys.SnapshotKey v b n) (a_snapshot_key n) (λ name. begun (front_of parts.SnapshotKeys v b) (keys.SnapshotKey v b n name) refl)
        (λ name. ap (λ (t : Bool). cond t (Some name) None) (its_number n))

    -- ---- the sessions

    abbrev of_sessions : List (List ℕ)
    of_sessions = front_of parts.Sessions v b

    a_session : (key : RowKey) (row : Row) → is_in of_sessions key ≡ true → row_of all key ≡ Some row → (n : ℕ) (s : Session) → session_in key row ≡ Some (n, s) → row_of all (keys.Open v b s.key n) ≡ Some (rows.Open s.blocks)
    a_session (keys.Open w c k m) (rows.Open blocks) i found n s e =
        let front : (4 ∷ []) ∷ v ∷ b ∷ [] ≡ (4 ∷ []) ∷ w ∷ c ∷ [] = begins_with of_sessions (keys.Open w c k m) i in
        let here : keys.Open v b k m ≡ keys.Open w c k m = cc front in
        subst (λ (pair : ℕ × Session). row_of all (keys.Open v b pair.1.key pair.0) ≡ Some (rows.Open pair.1.blocks)) (same_value (m, record { key = k; blocks = blocks }) (n, s) e) (ap (row_of all) here ∙ found)
    a_session key row i found n s e = absurd (cc e)

    sessions_are : (n : ℕ) (s : Session) → get (filled {R = nat_cmp} session_shown (rows_in parts.Sessions v b all)) n ≡ Some s → row_of all (keys.Open v b s.key n) ≡ Some (rows.Open s.blocks)
    sessions_are = found_filled nat_cmp_total nat_cmp-IsAntisymmetric session_shown (λ n s. row_of all (keys.Open v b s.key n) ≡ Some (rows.Open s.blocks)) (rows_in parts.Sessions v b all)
        (each_so _ _ (λ x found. a_session x.key x.row found.0 found.1) (rows_in parts.Sessions v b all) (each_in of_sessions all rise))

    have_sessions : (key : List ℕ) (n : ℕ) (blocks : List Block) → row_of all (keys.Open v b key n) ≡ Some (rows.Open blocks) → IsSome (get (filled {R = nat_cmp} session_shown (rows_in parts.Sessions v b all)) n)
    have_sessions key n blocks e = shown_filled nat_cmp_total nat_cmp-IsAntisymmetric session_shown (rows_in parts.Sessions v b all) (keys.Open v b key n) (rows.Open blocks) n (record { key = key; blocks = blocks }) refl
        (in_part (is_in of_sessions) all (keys.Open v b key n) (begun of_sessions (keys.Open v b key n) refl) ∙ e)

    -- ---- the snapshots

    abbrev of_snapshots : List (List ℕ)
    of_snapshots = front_of parts.Snapshots v b

    abbrev kept : List RowEntry
    kept = rows_in parts.SnapshotKeys v b all

    abbrev number_in : RowKey → Row → List ℕ
    number_in (keys.Snapshot w c n) (rows.Snapshot name previous Live) = n ∷ []
    number_in key row = []

    abbrev numbers : List RowEntry → List ℕ
    numbers [] = []
    numbers (x ∷ l) = number_in x.key x.row ++ numbers l

    abbrev made : List RowEntry → List Snapshot
    made [] = []
    made (x ∷ l) = snapshot_in kept x.key x.row ++ made l

    made_is : (l : List RowEntry) → made l ≡ snapshots_in_order kept l
    made_is [] = refl
    made_is (x ∷ l) = ap (λ (later : List Snapshot). snapshot_in kept x.key x.row ++ later) (made_is l) ∙ sym (flat_map-cons (λ (x : RowEntry). snapshot_in kept x.key x.row) x l)

    abbrev AreFound : List RowEntry → Type 0
    AreFound l = AllByRecursion (IsFound of_snapshots all) l

    its_front : (w c : List ℕ) (n : ℕ) → is_in of_snapshots (keys.Snapshot w c n) ≡ true → keys.Snapshot v b n ≡ keys.Snapshot w c n
    its_front w c n i =
        let front : (6 ∷ []) ∷ v ∷ b ∷ [] ≡ (6 ∷ []) ∷ w ∷ c ∷ [] = begins_with of_snapshots (keys.Snapshot w c n) i in
        cc front

    each_snapshot : (l : List RowEntry) → AreFound l → AreSnapshots (row_of all) v b (numbers l) (made l)
    each_snapshot [] found = tt
    each_snapshot (x ∷ l) found = by x.key x.row found.0.0 found.0.1 (each_snapshot l found.1)
      where
        by : (key : RowKey) (row : Row) → is_in of_snapshots key ≡ true → row_of all key ≡ Some row → AreSnapshots (row_of all) v b (numbers l) (made l) → AreSnapshots (row_of all) v b (number_in key row ++ numbers l) (snapshot_in kept key row ++ made l)
        by (keys.Snapshot w c n) (rows.Snapshot name previous Live) i here rest = (
          record { previous = previous; row = ap (row_of all) (its_front w c n i) ∙ here; pieces = snapshot_keys_are n },
          rest,
        )
        by key row i here rest = rest

    below : (n m : ℕ) → IsBelow (keys.Snapshot v b n) (keys.Snapshot v b m) → n < m
    below n m e = by (nat_cmp n m) (ranked n m (nat_cmp n m) refl) (sym (ap (λ (o : Ordering). ordering_then o (ordering_then (ordering_then (nat_cmp n m) Equal) Equal)) (tied_itself nat_list_cmp_total b)) ∙ sym (ap (λ (o : Ordering). ordering_then o (ordering_then (slice_cmp nat_cmp b b) (ordering_then (ordering_then (nat_cmp n m) Equal) Equal))) (tied_itself nat_list_cmp_total v)) ∙ e)
      where
        by : (o : Ordering) → MatchOrdering o (n < m) (n ≡ m) (m < n) → ordering_then (ordering_then o Equal) Equal ≡ Less → n < m
        by Less is e = is
        by Equal is e = absurd (cc e)
        by Greater is e = absurd (cc e)

    over : (n : ℕ) (l : List RowEntry) → AreFound l → AllByRecursion (λ (x : RowEntry). IsBelow (keys.Snapshot v b n) x.key) l → AllByRecursion (λ m. n < m) (numbers l)
    over n [] found above = tt
    over n (x ∷ l) found above = by x.key x.row found.0.0 above.0 (over n l found.1 above.1)
      where
        by : (key : RowKey) (row : Row) → is_in of_snapshots key ≡ true → IsBelow (keys.Snapshot v b n) key → AllByRecursion (λ m. n < m) (numbers l) → AllByRecursion (λ m. n < m) (number_in key row ++ numbers l)
        by (keys.Snapshot w c m) (rows.Snapshot name previous Live) i lower rest = (below n m (subst (IsBelow (keys.Snapshot v b n)) (sym (its_front w c m i)) lower), rest)
        by key row i lower rest = rest

    numbers_rise : (l : List RowEntry) → AreFound l → KeysRise l → NumbersRise (numbers l)
    numbers_rise [] found rise = tt
    numbers_rise (x ∷ l) found rise = by x.key x.row found.0.0 rise.0 (numbers_rise l found.1 rise.1)
      where
        by : (key : RowKey) (row : Row) → is_in of_snapshots key ≡ true → AllByRecursion (λ (other : RowEntry). IsBelow key other.key) l → NumbersRise (numbers l) → NumbersRise (number_in key row ++ numbers l)
        by (keys.Snapshot w c n) (rows.Snapshot name previous Live) i lower rest = (over n l found.1 (subst (λ (key : RowKey). AllByRecursion (λ (other : RowEntry). IsBelow key other.key) l) (sym (its_front w c n i)) lower), rest)
        by key row i lower rest = rest

    among_later : (n : ℕ) (l more : List ℕ) → is_among n more ≡ true → is_among n (l ++ more) ≡ true
    among_later n [] more e = e
    among_later n (m ∷ l) more e = by (m == n) (among_later n l more e)
      where
        by : (t : Bool) → is_among n (l ++ more) ≡ true → t || is_among n (l ++ more) ≡ true
        by true e = refl
        by false e = e

    every_live : (l : List RowEntry) (n previous : ℕ) (name : List ℕ) → row_of l (keys.Snapshot v b n) ≡ Some (rows.Snapshot name previous Live) → is_among n (numbers l) ≡ true
    every_live [] n previous name e = absurd (cc e)
    every_live (x ∷ l) n previous name e = by (is_same x.key (keys.Snapshot v b n)) refl (every_live l n previous name)
      where
        by : (t : Bool) → is_same x.key (keys.Snapshot v b n) ≡ t → (row_of l (keys.Snapshot v b n) ≡ Some (rows.Snapshot name previous Live) → is_among n (numbers l) ≡ true) → is_among n (numbers (x ∷ l)) ≡ true
        by true same later =
            let key_is : x.key ≡ keys.Snapshot v b n = same_is_one x.key (keys.Snapshot v b n) same in
            let row_is : x.row ≡ rows.Snapshot name previous Live = same_value x.row (rows.Snapshot name previous Live) (sym (ap (λ (t : Bool). cond t (Some x.row) (row_of l (keys.Snapshot v b n))) same) ∙ e) in
            ap (λ (first : List ℕ). is_among n (first ++ numbers l)) (λ i. number_in (key_is i) (row_is i)) ∙ ap (λ (t : Bool). t || is_among n (numbers l)) (its_number n)
        by false other later = among_later n (number_in x.key x.row) (numbers l) (later (sym (ap (λ (t : Bool). cond t (Some x.row) (row_of l (keys.Snapshot v b n))) other) ∙ e))

    snapshots_stand : SnapshotsStand (row_of all) v b (snapshots_in_order kept (rows_in parts.Snapshots v b all))
    snapshots_stand =
        let part = rows_in parts.Snapshots v b all in
        record {
          numbers = numbers part;
          rise = numbers_rise part (each_in of_snapshots all rise) (part_rises (is_in of_snapshots) all rise);
          every = λ n live. every_live part n live.1 live.0 (in_part (is_in of_snapshots) all (keys.Snapshot v b n) (begun of_snapshots (keys.Snapshot v b n) refl) ∙ live.2);
          each = subst (AreSnapshots (row_of all) v b (numbers part)) (made_is part) (each_snapshot part (each_in of_snapshots all rise));
        }

    bucket_is : IsBucketOf (row_of all) v b (bucket_made all v b)
    unfolding bucket_made
    bucket_is = record {
      keys_are = keys_are;
      sessions_are_rows = sessions_are;
      rows_have_sessions = have_sessions;
      snapshots_stand = snapshots_stand;
    }

  -- ---- the buckets of a volume

  module _ (v : List ℕ) where
    abbrev of_buckets : List (List ℕ)
    of_buckets = front_of parts.Buckets v []

    abbrev IsMade : List ℕ → Bucket → Type 0
    IsMade b bucket = IsSome (row_of all (keys.Bucket v b)) × (bucket ≡ bucket_made all v b)

    a_bucket : (key : RowKey) (row : Row) → is_in of_buckets key ≡ true → row_of all key ≡ Some row → (b : List ℕ) (bucket : Bucket) → bucket_in all key ≡ Some (b, bucket) → IsMade b bucket
    a_bucket (keys.Bucket w c) row i found b bucket e =
        let front : (2 ∷ []) ∷ v ∷ [] ≡ (2 ∷ []) ∷ w ∷ [] = begins_with of_buckets (keys.Bucket w c) i in
        let volume : w ≡ v = cc front in
        let pair = same_value (c, bucket_made all w c) (b, bucket) e in
        subst (λ (pair : List ℕ × Bucket). IsMade pair.0 pair.1) pair (
          subst IsSome (sym (ap (λ (w : List ℕ). row_of all (keys.Bucket w c)) (sym volume) ∙ found)) refl,
          ap (λ (w : List ℕ). bucket_made all w c) volume,
        )
    a_bucket key row i found b bucket e = absurd (cc e)

    found_bucket : (b : List ℕ) (bucket : Bucket) → get (buckets_made all v) b ≡ Some bucket → IsMade b bucket
    unfolding buckets_made
    found_bucket = found_filled nat_list_cmp_total names_apart (bucket_shown all) IsMade (rows_in parts.Buckets v [] all)
        (each_so _ _ (λ x found. a_bucket x.key x.row found.0 found.1) (rows_in parts.Buckets v [] all) (each_in of_buckets all rise))

    has_bucket : (b : List ℕ) (row : Row) → row_of all (keys.Bucket v b) ≡ Some row → IsSome (get (buckets_made all v) b)
    unfolding buckets_made
    has_bucket b row e = shown_filled nat_list_cmp_total names_apart (bucket_shown all) (rows_in parts.Buckets v [] all) (keys.Bucket v b) row b (bucket_made all v b) refl
        (in_part (is_in of_buckets) all (keys.Bucket v b) (begun of_buckets (keys.Bucket v b) refl) ∙ e)

    each_bucket : (b : List ℕ) → BucketIs (row_of all) v b (get (buckets_made all v) b)
    each_bucket b = by (get (buckets_made all v) b) refl
      where
        none : (o : Option Row) → row_of all (keys.Bucket v b) ≡ o → get (buckets_made all v) b ≡ None → row_of all (keys.Bucket v b) ≡ None
        none None e is = e
        none (Some row) e is = absurd (false≢true (subst IsSome is (has_bucket b row e)))

        by : (o : Option Bucket) → get (buckets_made all v) b ≡ o → BucketIs (row_of all) v b o
        by None is = none (row_of all (keys.Bucket v b)) refl is
        by (Some bucket) is = let made = found_bucket b bucket is in (made.0, subst (IsBucketOf (row_of all) v b) (sym made.1) (bucket_is v b))

    pub volume_is : IsSome (row_of all (keys.Volume v)) → VolumeIs (row_of all) v (Some (buckets_made all v))
    volume_is some = (some, each_bucket)
