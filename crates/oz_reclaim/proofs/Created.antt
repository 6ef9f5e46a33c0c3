-- A snapshot is made: what becomes of the rows, and of the namespace that they stand for.
use Rattle.std.proofs.Common.{◌≡◌, ◌≢◌, ◌⊎◌, ◌↔◌, inl, inr, ⊎_elim, ℕ, suc, ◌+◌, ◌<◌, ◌≤◌, ◌==◌, ◌&&◌, ◌||◌, Bool, true, false, nat_le, List, [], ◌∷◌, ◌++◌, map, length, length-append, Option, None, Some, IsSome, is_some, cond, refl, sym, ◌∙◌, ap, subst, arith}
use mathlib.Core.Bool.{false≢true}
use Rattle.std.proofs.lemmas.Bool.Decides.{nat_tests}
use Rattle.std.proofs.lemmas.List.Folds.{list_any-append}
use Rattle.std.specs.FinMap.{get}
use Rattle.std.specs.List.{AllByRecursion, flat_map}
use Rattle.std.specs.Prelude.{slice_index, slice_set}
use Rattle.oz_decision.specs.declared.decision.Decision.{Decision}
use Rattle.oz_decision.specs.Meets.{AreInGrammar, IsSafe, MayGo, Meets, Stand, granted_in}
use Rattle.oz_decision.specs.Replies.{IsReply}
use Rattle.oz_decision.specs.laws.Lookups.{absent_from, there_are}
use Rattle.oz_decision.specs.laws.OneRow.{meets_in_all, stand_but_renames}
use Rattle.oz_decision.specs.laws.Refusing.{not_refused, passed}
use Rattle.oz_decision.specs.laws.Rising.{each_in_turn}
use Rattle.oz_decision.specs.laws.Sessions.{session_stands}
use Rattle.oz_decision.specs.laws.Shown.{key_itself, pieces_at, snapshots_of_bucket, stripes_again, volume_there}
use Rattle.oz_model.specs.Answers.{Answers, after}
use Rattle.oz_model.specs.Buckets.{bucket_at, buckets_at, with_snapshot}
use Rattle.oz_model.specs.Refusals.{refusal, refusals}
use Rattle.oz_model.specs.Scope.{scope_of}
use Rattle.oz_effects.specs.Effects.{operation_changes}
use Rattle.oz_names.specs.Names.{IsVolumeName, IsBucketName, IsSnapshotName, stripe_of}
use Rattle.oz_namespace.specs.declared.namespace.Bucket.{Bucket}
use Rattle.oz_namespace.specs.declared.namespace.Namespace.{Namespace}
use Rattle.oz_namespace.specs.declared.namespace.Snapshot.{Snapshot}
use Rattle.oz_namespace.specs.Namespace.{bucket_of, buckets_of, sixteen, snapshots_of}
use Rattle.oz_reclaim.specs.Creates.{Creates, operations_of_create}
use Rattle.oz_reclaim.specs.Decisions.{IsSoundDecision}
use Rattle.oz_reclaim.specs.Makes.{IsOfBucket, SnapshotMade, copy_of}
use Rattle.oz_reclaim.specs.Marks.{HasNumber}
use Rattle.oz_reclaim.specs.Snapshots.{AreRecorded}
use Rattle.oz_reclaim.specs.laws.Making.{blocks_stay, renames_now, snapshots_now, sound_now}
use Rattle.oz_reclaim.proofs.Between.{is_that_bucket, same_bucket, same_number}
use Rattle.oz_reclaim.proofs.Copied.{changes as changes_made, now as rows_now, aside, copies, copies_leave, in_turn, is_safe, key_copied, moves, moves_leave}
use Rattle.oz_reclaim.proofs.Decided.{by_list}
use Rattle.oz_reclaim.proofs.Marked.{NamesFit, kept_refused, looked_up, names_fit}
use Rattle.oz_reclaim.proofs.MovedOn.{by_place, came, owner_from, owner_now, now as moved_now, renamed_came, renamed_stays, stays}
use Rattle.oz_reclaim.proofs.Origins.{IsFine, are_tidy, come_from, making_fine}
use Rattle.oz_reclaim.proofs.Stripes.{drawn_shown, numbers_after, stripe_is, with_number}
use Rattle.oz_requests.specs.declared.reply.Reply.{Reply}
use Rattle.oz_requests.specs.declared.reply.Reply.TheVariants as replies
use Rattle.oz_requests.specs.declared.request.Request.{Request}
use Rattle.oz_requests.specs.declared.request.Request.TheVariants.{CreateSnapshot}
use Rattle.oz_requests.specs.Names.{name_fault}
use Rattle.oz_rows.specs.Counts.{AllDiffer}
use Rattle.oz_rows.specs.declared.entry.RowEntry.{RowEntry}
use Rattle.oz_rows.specs.declared.key.RowKey.{RowKey}
use Rattle.oz_rows.specs.declared.key.RowKey.TheVariants as keys
use Rattle.oz_rows.specs.declared.operation.Change.{Change}
use Rattle.oz_rows.specs.declared.row.Row.{Row}
use Rattle.oz_rows.specs.declared.row.Row.TheVariants as rows
use Rattle.oz_rows.specs.declared.row.SnapshotState.TheVariants.{Live}
use Rattle.oz_rows.specs.Operations.{batch_bytes}
use Rattle.oz_rows.specs.Rows.{IsOwner, kind_of}
use Rattle.oz_rows.specs.RowMaps.{Rows, AreRows, KeysRise, is_bucket, is_same, row_after, row_of}
use Rattle.oz_rows.specs.laws.Lengths.{no_longer}
use Rattle.oz_rows.specs.laws.Same.{same_is_one}
use Rattle.oz_sound.specs.Sound.{AtMost, IsSound, IsSoundButRenames, IsUsing, RenamesAreSound, bucket_of_row}
use Rattle.oz_sound.specs.StandsFor.{AreSnapshots, IsLive, SnapshotsStand, StandsFor, drawn_in, is_among, pieces_in}
use Rattle.oz_sound.specs.frames.Buckets.{BucketBecomes, IsOutside, with_bucket}
use Rattle.oz_sound.specs.frames.laws.Becoming.{bucket_becomes}
use Rattle.oz_sound.specs.frames.laws.Moving.{at_most}
use Rattle.oz_sound.specs.stripes.laws.Lists.{each_found}

-- ---- how many there are

-- a number is the last of a list, or one of those before
among_last : (m n : ℕ) → n ≡ m → (numbers : List ℕ) → is_among m (numbers ++ n ∷ []) ≡ true
among_last m n same numbers = list_any-append (λ other. other == m) numbers (n ∷ []) ∙ last (is_among m numbers) (n == m) (grind (arith, nat_tests, same))
  where
    last : (s t : Bool) → t ≡ true → s || (t || false) ≡ true
    last true t e = refl
    last false t e = ap (λ (t : Bool). t || false) e

among_front : (m n : ℕ) (numbers : List ℕ) → is_among m numbers ≡ true → is_among m (numbers ++ n ∷ []) ≡ true
among_front m n numbers among = list_any-append (λ other. other == m) numbers (n ∷ []) ∙ ap (λ (t : Bool). t || ((n == m) || false)) among

one_of_each : (all : Rows) (v b numbers : List ℕ) (l : List Snapshot) → AreSnapshots all v b numbers l → length numbers ≡ length l
one_of_each all v b [] [] are = refl
one_of_each all v b [] (s ∷ l) are = absurd are
one_of_each all v b (m ∷ numbers) [] are = absurd are
one_of_each all v b (m ∷ numbers) (s ∷ l) are = ap suc (one_of_each all v b numbers l are.1)

-- what is said of keys is said of them among keys and sessions
abbrev as_key : List ℕ → List ℕ × Option ℕ
as_key k = (k, None)

size_mapped : (l : List (List ℕ)) → length (map as_key l) ≡ length l
size_mapped [] = refl
size_mapped (k ∷ l) = ap suc (size_mapped l)

other_keys : (k : List ℕ) (l : List (List ℕ)) → AllByRecursion (λ other. k ≢ other) l → AllByRecursion (λ other. as_key k ≢ other) (map as_key l)
other_keys k [] apart = tt
other_keys k (q ∷ l) apart = ((λ e. apart.0 (ap (λ (x : List ℕ × Option ℕ). x.0) e)), other_keys k l apart.1)

differ_mapped : (l : List (List ℕ)) → AllDiffer l → AllDiffer (map as_key l)
differ_mapped [] differ = tt
differ_mapped (k ∷ l) differ = (other_keys k l differ.0, differ_mapped l differ.1)

use_mapped : (all : Rows) (v b : List ℕ) (l : List (List ℕ)) → AllByRecursion (λ k. IsSome (all (keys.Key v b k))) l → AllByRecursion (IsUsing all v b) (map as_key l)
use_mapped all v b [] each = tt
use_mapped all v b (k ∷ l) each = (each.0, use_mapped all v b l each.1)

copied_some : (o : Option Row) → IsSome (copy_of o) → IsSome o
copied_some None some = some
copied_some (Some row) some = refl

-- ---- the rows

module _ (v b name : List ℕ) (n previous : ℕ) (volume : IsVolumeName v) (bucket : IsBucketName b) (snapshot : IsSnapshotName name) (least : 1 ≤ n) (few : n ≤ 281474976710656) (owner : IsOwner previous) (entries : List RowEntry) (rise : KeysRise entries) where
  abbrev all : Rows
  all = row_of entries

  abbrev pub changes : List Change
  changes = changes_made v b name n previous volume bucket snapshot least few owner entries rise

  abbrev pub now : Rows
  now = rows_now v b name n previous volume bucket snapshot least few owner entries rise

  abbrev here : RowKey
  here = keys.Snapshot v b n

  abbrev stripe : RowKey
  stripe = keys.Stripe (stripe_of v)

  abbrev made_row : Row
  made_row = rows.Snapshot name previous Live

  is_aside : (q : RowKey) → ((k : List ℕ) → keys.SnapshotKey v b n k ≡ q → ⊥) → ((o : ℕ) (k : List ℕ) (l : ℕ) → keys.Deleted v b o k l ≡ q → ⊥) → ((o l : ℕ) → keys.Renamed v b o l ≡ q → ⊥) → now q ≡ cond (is_same here q) (Some made_row) (cond (is_same stripe q) (Some (rows.Stripe n)) (all q))
  is_aside q not_copied not_deleted not_renamed = aside v b name n previous volume bucket snapshot least few owner entries rise q not_copied not_deleted not_renamed

  stripe_row : (s : ℕ) → now (keys.Stripe s) ≡ with_number all (stripe_of v) n (keys.Stripe s)
  stripe_row s = is_aside (keys.Stripe s) (λ k e. absurd (cc)) (λ o k l e. absurd (cc)) (λ o l e. absurd (cc))

  snapshot_row : (w c : List ℕ) (m : ℕ) → now (keys.Snapshot w c m) ≡ cond (is_same here (keys.Snapshot w c m)) (Some made_row) (all (keys.Snapshot w c m))
  snapshot_row w c m = is_aside (keys.Snapshot w c m) (λ k e. absurd (cc)) (λ o k l e. absurd (cc)) (λ o l e. absurd (cc))

  other_snapshot : (w c : List ℕ) (m : ℕ) → is_same here (keys.Snapshot w c m) ≡ false → now (keys.Snapshot w c m) ≡ all (keys.Snapshot w c m)
  other_snapshot w c m other = snapshot_row w c m ∙ ap (λ (t : Bool). cond t (Some made_row) (all (keys.Snapshot w c m))) other

  new_snapshot : now here ≡ Some made_row
  new_snapshot = snapshot_row v b n ∙ ap (λ (t : Bool). cond t (Some made_row) (all here)) (key_itself here)

  steady : (q : RowKey) → IsOfBucket q → now q ≡ all q
  steady (keys.Volume w) is = is_aside (keys.Volume w) (λ k e. absurd (cc)) (λ o k l e. absurd (cc)) (λ o l e. absurd (cc))
  steady (keys.Bucket w c) is = is_aside (keys.Bucket w c) (λ k e. absurd (cc)) (λ o k l e. absurd (cc)) (λ o l e. absurd (cc))
  steady (keys.Key w c k) is = is_aside (keys.Key w c k) (λ q e. absurd (cc)) (λ o q l e. absurd (cc)) (λ o l e. absurd (cc))
  steady (keys.Open w c k m) is = is_aside (keys.Open w c k m) (λ q e. absurd (cc)) (λ o q l e. absurd (cc)) (λ o l e. absurd (cc))
  steady q is = absurd is

  other_key : (w c k : List ℕ) (m : ℕ) → is_same here (keys.Snapshot w c m) ≡ false → now (keys.SnapshotKey w c m k) ≡ all (keys.SnapshotKey w c m k)
  other_key w c k m other = is_aside (keys.SnapshotKey w c m k) not_new (λ o q l e. absurd (cc)) (λ o l e. absurd (cc))
    where
      not_new : (q : List ℕ) → keys.SnapshotKey v b n q ≡ keys.SnapshotKey w c m k → ⊥
      not_new q e =
          let of_volume : v ≡ w = cc in
          let of_bucket : b ≡ c = cc in
          let number : n ≡ m = cc in
          false≢true (sym other ∙ (λ i. is_same here (keys.Snapshot (sym of_volume i) (sym of_bucket i) (sym number i))) ∙ key_itself here)

  outside : (q : RowKey) → IsOutside v b q → now q ≡ all q
  outside q is =
      is_aside q (λ k e. is.other (ap bucket_of_row (sym e))) (λ o k l e. is.other (ap bucket_of_row (sym e))) (λ o l e. is.other (ap bucket_of_row (sym e)))
      ∙ by (is_same here q) refl (is_same stripe q) refl
    where
      by : (s : Bool) → is_same here q ≡ s → (t : Bool) → is_same stripe q ≡ t → cond s (Some made_row) (cond t (Some (rows.Stripe n)) (all q)) ≡ all q
      by true e t f = absurd (is.other (ap bucket_of_row (sym (same_is_one here q e))))
      by false e true f = absurd (is.no_stripe (ap kind_of (sym (same_is_one stripe q f))))
      by false e false f = refl

  module _ (fit : AreInGrammar all) (sound : IsSoundButRenames all) (fresh : drawn_in (all stripe) < n) where
    -- the number is no snapshot's yet, nor the owner of any row
    no_snapshot : IsSome (all here) → ⊥
    no_snapshot some = let drawn = sound.numbers.snapshots v b n some in omega (arith, drawn, fresh)

    no_deleted : (k : List ℕ) (l : ℕ) → all (keys.Deleted v b n k l) ≡ None
    no_deleted k l = absent_from (all (keys.Deleted v b n k l)) (λ some. no_snapshot (sound.numbers.deleted v b k n l some (λ zero. omega (arith, zero, least))))

    no_renamed : (l : ℕ) → all (keys.Renamed v b n l) ≡ None
    no_renamed l = absent_from (all (keys.Renamed v b n l)) (λ some. no_snapshot (sound.numbers.renamed v b n l some (λ zero. omega (arith, zero, least))))

    no_key : (k : List ℕ) → all (keys.SnapshotKey v b n k) ≡ None
    no_key k = absent_from (all (keys.SnapshotKey v b n k)) (λ some. no_snapshot (sound.numbers.snapshot_keys v b k n some))

    apart : 0 ≢ n
    apart zero = omega (arith, zero, least)

    none_stays : (l : ℕ) → 0 == 0 && is_some (row_of entries (keys.Renamed v b n l)) ≡ false
    none_stays l = ap is_some (no_renamed l)

    none_some : {P : Type 0} {o : Option Row} {row : Row} → o ≡ None → o ≡ Some row → P
    none_some none some = absurd (false≢true (ap is_some (sym none ∙ some)))

    abbrev moved : Rows
    moved = moved_now v b 0 n entries rise apart none_stays

    deleted_row : (w c k : List ℕ) (o l : ℕ) → now (keys.Deleted w c o k l) ≡ moved (keys.Deleted w c o k l)
    deleted_row w c k o l = in_turn v b name n previous volume bucket snapshot least few owner entries rise (keys.Deleted w c o k l)
        ∙ ap (row_after (moves v b name n previous volume bucket snapshot least few owner entries rise) (keys.Deleted w c o k l)) (copies_leave v b n (keys.Deleted w c o k l) (λ q e. absurd (cc)) entries (all (keys.Deleted w c o k l)))

    renamed_row : (w c : List ℕ) (o l : ℕ) → now (keys.Renamed w c o l) ≡ moved (keys.Renamed w c o l)
    renamed_row w c o l = in_turn v b name n previous volume bucket snapshot least few owner entries rise (keys.Renamed w c o l)
        ∙ ap (row_after (moves v b name n previous volume bucket snapshot least few owner entries rise) (keys.Renamed w c o l)) (copies_leave v b n (keys.Renamed w c o l) (λ q e. absurd (cc)) entries (all (keys.Renamed w c o l)))

    copy_row : (k : List ℕ) → now (keys.SnapshotKey v b n k) ≡ copy_of (all (keys.Key v b k))
    copy_row k = in_turn v b name n previous volume bucket snapshot least few owner entries rise (keys.SnapshotKey v b n k)
        ∙ moves_leave v b n (keys.SnapshotKey v b n k) (λ o q l e. absurd (cc)) (λ o l e. absurd (cc)) entries 0 n (row_after (copies v b name n previous volume bucket snapshot least few owner entries rise) (keys.SnapshotKey v b n k) (all (keys.SnapshotKey v b n k)))
        ∙ ap (row_after (copies v b name n previous volume bucket snapshot least few owner entries rise) (keys.SnapshotKey v b n k)) (no_key k)
        ∙ key_copied v b n k entries rise fit

    abbrev owner_of : List ℕ → List ℕ → ℕ → ℕ
    owner_of = owner_now v b 0 n entries rise apart none_stays

    its_owner : (w c : List ℕ) (before : ℕ) → (owner_of w c before ≡ before) ⊎ ((before ≡ 0) × (is_same here (keys.Snapshot w c (owner_of w c before)) ≡ true))
    its_owner w c before = by (is_bucket v b w c) refl (before == 0) refl
      where
        by : (s : Bool) → is_bucket v b w c ≡ s → (t : Bool) → (before == 0) ≡ t → (cond (s && t) n before ≡ before) ⊎ ((before ≡ 0) × (is_same here (keys.Snapshot w c (cond (s && t) n before)) ≡ true))
        by false e t f = inl refl
        by true e false f = inl refl
        by true e true f =
            let same = same_bucket v b w c e in
            inr (same_number before 0 f, (λ i. is_same here (keys.Snapshot (sym same.volume i) (sym same.bucket i) n)) ∙ key_itself here)

    -- the limit of snapshots
    module _ (namespace : Namespace) (stands : StandsFor all namespace) (room : length (snapshots_of namespace v b) < 32) where
      few_here : AtMost 32 (IsLive now v b)
      few_here items differ live =
          let snapshots = stands.snapshots v b in
          let size = no_longer (λ x y. y == x) (λ x y e. sym (same_number y x e)) items (snapshots.numbers ++ n ∷ []) differ (each_in_turn _ _ (λ m its. is_one m its (is_same here (keys.Snapshot v b m)) refl) items live) in
          let more = length-append snapshots.numbers (n ∷ []) in
          let same = one_of_each all v b snapshots.numbers (snapshots_of namespace v b) snapshots.each in
          omega (arith, size, more, same, room)
        where
          is_one : (m : ℕ) → IsLive now v b m → (t : Bool) → is_same here (keys.Snapshot v b m) ≡ t → is_among m ((stands.snapshots v b).numbers ++ n ∷ []) ≡ true
          is_one m live true e = let same = same_is_one here (keys.Snapshot v b m) e in let number : n ≡ m = cc in among_last m n number (stands.snapshots v b).numbers
          is_one m live false e = among_front m n (stands.snapshots v b).numbers ((stands.snapshots v b).every m (live.0, live.1, sym (other_snapshot v b m e) ∙ live.2))

      few_snapshots : (w c : List ℕ) → AtMost 32 (IsLive now w c)
      few_snapshots = by_place v b (λ w c. AtMost 32 (IsLive now w c))
          (λ w c other. at_most _ _ 32 (λ m live. (live.0, live.1, sym (other_snapshot w c m (elsewhere w c m other)) ∙ live.2)) (sound.counts.snapshots w c))
          few_here
        where
          elsewhere : (w c : List ℕ) (m : ℕ) → is_bucket v b w c ≡ false → is_same here (keys.Snapshot w c m) ≡ false
          elsewhere w c m other = by (is_same here (keys.Snapshot w c m)) refl
            where
              by : (t : Bool) → is_same here (keys.Snapshot w c m) ≡ t → t ≡ false
              by false e = refl
              by true e =
                  let same = same_is_one here (keys.Snapshot w c m) e in
                  let of_volume : v ≡ w = cc in
                  let of_bucket : b ≡ c = cc in
                  absurd (false≢true (sym other ∙ is_that_bucket v b w c of_volume of_bucket))

      few_keys : AtMost 4096 (λ k. IsSome (now (keys.SnapshotKey v b n k)))
      few_keys items differ each =
          let size = sound.counts.keys_and_sessions v b (map as_key items) (differ_mapped items differ) (use_mapped all v b items (each_in_turn _ _ (λ k some. copied_some (all (keys.Key v b k)) (subst IsSome (copy_row k) some)) items each)) in
          let same = size_mapped items in
          omega (arith, size, same)

      made : HasNumber all v b name None → SnapshotMade all now v b name n
      made free = record {
        fresh = fresh;
        drawn = λ s. by_stripe s (is_same stripe (keys.Stripe s)) refl;
        drawn_now = subst (λ (o : Option Row). n ≤ drawn_in o) (sym (stripe_row (stripe_of v) ∙ ap (λ (t : Bool). cond t (Some (rows.Stripe n)) (all stripe)) (key_itself stripe))) (omega arith);
        steady = steady;
        previous = previous;
        made = new_snapshot;
        name_is_free = λ other before row. free other ((fit (keys.Snapshot v b other) (rows.Snapshot name before Live) row).0.2.0) (before, row);
        snapshots = other_snapshot;
        copies = copy_row;
        snapshot_keys = other_key;
        owner_now = owner_of;
        owner = its_owner;
        takes_over = owner_from v b 0 n entries rise apart none_stays;
        came = λ w c k o l row there. came v b 0 n entries rise apart none_stays w c k o l row (sym (deleted_row w c k o l) ∙ there);
        stays = λ w c k o l row there. deleted_row w c k (owner_of w c o) l ∙ stays v b 0 n entries rise apart none_stays (λ q x one two here there. none_some (no_deleted q x) there) w c k o l row there;
        renamed_came = λ w c o l row there. renamed_came v b 0 n entries rise apart none_stays w c o l row (sym (renamed_row w c o l) ∙ there);
        renamed_stays = λ w c o l row there. renamed_row w c (owner_of w c o) l ∙ renamed_stays v b 0 n entries rise apart none_stays (λ x one two here there. none_some (no_renamed x) there) w c o l row there;
        few = few_snapshots;
        few_keys = few_keys;
      }
        where
          by_stripe : (s : ℕ) (t : Bool) → is_same stripe (keys.Stripe s) ≡ t → drawn_in (all (keys.Stripe s)) ≤ drawn_in (now (keys.Stripe s))
          by_stripe s t e = subst (λ (o : Option Row). drawn_in (all (keys.Stripe s)) ≤ drawn_in o) (sym (stripe_row s ∙ ap (λ (t : Bool). cond t (Some (rows.Stripe n)) (all (keys.Stripe s))) e)) (more t e)
            where
              more : (t : Bool) → is_same stripe (keys.Stripe s) ≡ t → drawn_in (all (keys.Stripe s)) ≤ drawn_in (cond t (Some (rows.Stripe n)) (all (keys.Stripe s)))
              more false e = omega arith
              more true e =
                  let same = ap (λ (q : RowKey). drawn_in (all q)) (same_is_one stripe (keys.Stripe s) e) in
                  omega (arith, same, fresh)

  -- ---- the namespace

  module _ (free : HasNumber all v b name None) (next : n ≡ drawn_in (all stripe) + 1) (there : IsSome (all (keys.Bucket v b))) (namespace : Namespace) (stand : Stand IsSoundButRenames all namespace) where
    abbrev request : Request
    request = CreateSnapshot v b name

    fresh_number : drawn_in (all stripe) < n
    fresh_number = omega (arith, next)

    abbrev old : Bucket
    old = bucket_at namespace v b

    abbrev new : Bucket
    new = with_snapshot old name

    abbrev numbers_left : List ℕ
    numbers_left = slice_set namespace.stripes (stripe_of v) n

    module _ (room : length (snapshots_of namespace v b) < 32) where
      is_made : SnapshotMade all now v b name n
      is_made = made stand.fit stand.sound fresh_number namespace stand.stands room free

      fit_now : AreInGrammar now
      fit_now = (is_safe v b name n previous volume bucket snapshot least few owner entries rise stand.fit there).fit

      becomes : BucketBecomes all now namespace v (buckets_at namespace v) b new numbers_left
      becomes = record {
        volume_there = there_are (buckets_of namespace v) (volume_there (buckets_of namespace v) b (stand.stands.buckets v b ∙ there));
        outside = outside;
        there = subst IsSome (sym (steady (keys.Bucket v b) tt)) there;
        pieces = λ q. keys_are q ∙ ap pieces_in (sym (steady (keys.Key v b q) tt));
        sessions = λ m s.
            let row = steady (keys.Open v b s.key m) tt in
            let both = session_stands all v b namespace stand m s in
            (λ e. row ∙ both.0 e, λ e. both.1 (sym row ∙ e));
        snapshots = looked_up all v b name namespace stand (λ l. SnapshotsStand now v b (l ++ record { name = name; keys = old.keys } ∷ []))
            (snapshots_now all now v b name n is_made stand.fit fit_now stand.sound old.keys keys_are (snapshots_of namespace v b) (stand.stands.snapshots v b));
        numbers = ap (λ l. slice_set l (stripe_of v) n) stand.stands.stripes ∙ numbers_after all n (stripe_of v) (stripe_is v) ∙ stripes_again (with_number all (stripe_of v) n) now stripe_row sixteen;
      }
        where
          keys_are : (q : List ℕ) → get old.keys q ≡ pieces_in (all (keys.Key v b q))
          keys_are q = sym (pieces_at (bucket_of namespace v b) q) ∙ stand.stands.pieces v b q

      abbrev left : Namespace
      left = with_bucket namespace v (buckets_at namespace v) b new numbers_left

      stands_now : StandsFor now left
      stands_now = bucket_becomes all now namespace v (buckets_at namespace v) b new numbers_left becomes stand.stands

      -- one number more was drawn
      differs : left ≡ namespace → ⊥
      differs e =
          let same : drawn_in (now stripe) ≡ drawn_in (all stripe) = sym (drawn_shown now left stands_now.stripes (stripe_of v) (stripe_is v)) ∙ ap (λ (x : Namespace). slice_index x.stripes (stripe_of v)) e ∙ drawn_shown all namespace stand.stands.stripes (stripe_of v) (stripe_is v) in
          let drawn = is_made.drawn_now in
          omega (arith, same, next, drawn)

    under : (x y : ℕ) → nat_le x y ≡ false → y < x
    under x y e = grind (arith, nat_tests, e)

    has_room : Answers namespace request replies.Done → length (snapshots_of namespace v b) < 32
    unfolding Answers
    has_room answers =
        let none = not_refused (refusal (scope_of namespace v) request) replies.Done _ (λ code e. absurd (cc)) answers in
        let tests = passed (refusals (scope_of namespace v) request) none in
        let few_there : length old.snapshots < 32 = under _ _ tests.1.1.1.1.1.1.0 in
        subst (λ (l : List Snapshot). length l < 32) (snapshots_of_bucket (bucket_of namespace v b)) few_there

    -- the number is the next one
    drawn_next : (scope_of namespace v).drawn + 1 ≡ n
    drawn_next =
        let shown = drawn_shown all namespace stand.stands.stripes (stripe_of v) (stripe_is v) in
        omega (arith, shown, next)

    abbrev bytes : List ℕ
    bytes = batch_bytes (operations_of_create v b name n previous)

    pub meets : Answers namespace request replies.Done → Meets IsSoundButRenames all namespace request replies.Done bytes changes
    unfolding after
    meets answers =
        let room = has_room answers in
        let safe = is_safe v b name n previous volume bucket snapshot least few owner entries rise stand.fit there in
        let effect : after namespace request replies.Done ≡ left room = λ i. with_bucket namespace v (buckets_at namespace v) b new (slice_set namespace.stripes (stripe_of v) (drawn_next i)) in
        record {
          answers = answers;
          batch = safe.batch;
          leads = record {
            fit = safe.fit;
            stands = subst (StandsFor now) (sym effect) (stands_now room);
            sound = sound_now all now v b name n (is_made room) stand.fit safe.fit stand.sound;
          };
          blocks = blocks_stay all now v b name n (is_made room) stand.fit safe.fit stand.sound (MayGo all request);
          keeps = λ nothing. absurd (differs room (sym effect ∙ nothing.0));
        }

    pub meets_all : RenamesAreSound all → Answers namespace request replies.Done → Meets IsSound all namespace request replies.Done bytes changes
    meets_all renames answers =
        let room = has_room answers in
        meets_in_all all namespace request replies.Done bytes changes (meets answers) (renames_now all now v b name n (is_made room) stand.fit (fit_now room) stand.sound renames)

-- ---- the decision

module _ (all : Rows) (entries : List RowEntry) (are : AreRows entries all) (v b name : List ℕ) (named : name_fault (CreateSnapshot v b name) ≡ None) where
  abbrev it : Request
  it = CreateSnapshot v b name

  abbrev place : RowKey
  place = keys.Stripe (stripe_of v)

  abbrev names : NamesFit v b name
  names = names_fit v b name named

  module _ (bytes : List ℕ) (made_so : List Change) (creates : Creates all v b name bytes made_so) where
    abbrev n : ℕ
    n = creates.number

    abbrev made_bytes : List ℕ
    made_bytes = batch_bytes (operations_of_create v b name n creates.previous)

    least : 1 ≤ n
    least = let next = creates.next in omega (arith, next)

    last_fits : AreInGrammar all → IsOwner creates.previous
    last_fits fit = ⊎_elim (λ zero. omega (arith, zero)) (λ some. by (all (keys.Snapshot v b creates.previous)) refl some) creates.last.0
      where
        by : (o : Option Row) → all (keys.Snapshot v b creates.previous) ≡ o → IsSome o → IsOwner creates.previous
        by None e some = absurd (false≢true some)
        by (Some row) e some = (fit (keys.Snapshot v b creates.previous) row e).0.2.1

    module _ (fit : AreInGrammar all) where
      abbrev own : List Change
      own = changes v b name n creates.previous names.volume names.bucket names.snapshot least creates.few (last_fits fit) entries are.in_order

      over_rows : (P : Rows → List Change → Type 0) → P (row_of entries) own → P all made_so
      over_rows P holds = by_list all entries are P made_so own (creates.made entries are) holds

      safe : IsSafe all bytes made_so
      safe = subst (λ (l : List ℕ). IsSafe all l made_so) (sym creates.batch)
          (over_rows (λ x c. AreInGrammar x → IsSome (x (keys.Bucket v b)) → IsSafe x made_bytes c)
          (λ fit_there there. is_safe v b name n creates.previous names.volume names.bucket names.snapshot least creates.few (last_fits fit) entries are.in_order fit_there there)
          fit creates.bucket_there)

      meets_so : (namespace : Namespace) → Stand IsSoundButRenames all namespace → Answers namespace it replies.Done → Meets IsSoundButRenames all namespace it replies.Done bytes made_so
      meets_so namespace stand answers = subst (λ (l : List ℕ). Meets IsSoundButRenames all namespace it replies.Done l made_so) (sym creates.batch)
          (over_rows (λ x c. HasNumber x v b name None → n ≡ drawn_in (x place) + 1 → IsSome (x (keys.Bucket v b)) → Stand IsSoundButRenames x namespace → Meets IsSoundButRenames x namespace it replies.Done made_bytes c)
          (λ free next there stand. meets v b name n creates.previous names.volume names.bucket names.snapshot least creates.few (last_fits fit) entries are.in_order free next there namespace stand answers)
          creates.name_is_free creates.next creates.bucket_there stand)

      meets_whole : (namespace : Namespace) → Stand IsSoundButRenames all namespace → RenamesAreSound all → Answers namespace it replies.Done → Meets IsSound all namespace it replies.Done bytes made_so
      meets_whole namespace stand renames answers = subst (λ (l : List ℕ). Meets IsSound all namespace it replies.Done l made_so) (sym creates.batch)
          (over_rows (λ x c. HasNumber x v b name None → n ≡ drawn_in (x place) + 1 → IsSome (x (keys.Bucket v b)) → Stand IsSoundButRenames x namespace → RenamesAreSound x → Meets IsSound x namespace it replies.Done made_bytes c)
          (λ free next there stand renames. meets_all v b name n creates.previous names.volume names.bucket names.snapshot least creates.few (last_fits fit) entries are.in_order free next there namespace stand renames answers)
          creates.name_is_free creates.next creates.bucket_there stand renames)

    is_something : (bytes ≡ []) ↔ (made_so ≡ [])
    is_something = (
      (λ e. let none : made_bytes ≡ [] = sym creates.batch ∙ e in absurd (cc)),
      λ e. let none = sym (creates.made entries are) ∙ e in absurd (cc),
    )

    fine : AllByRecursion (IsFine all made_so) made_so
    fine = by_list all entries are (λ x c. AllByRecursion (IsFine x c) c) made_so (flat_map (operation_changes entries) (operations_of_create v b name n creates.previous)) (creates.made entries are) (making_fine (row_of entries) entries (each_found entries are.in_order) v b name n creates.previous)

  module _ (d : Decision) where
    done : d.reply ≡ replies.Done → Creates all v b name d.bytes d.changes → ((namespace : Namespace) → Stand IsSoundButRenames all namespace → Answers namespace it replies.Done) → IsSoundDecision all it d
    done is creates answers = record {
      meets = λ namespace stand.
          let most = stand_but_renames all namespace stand in
          subst (λ (r : Reply). Meets IsSound all namespace it r d.bytes d.changes) (sym is) (meets_whole d.bytes d.changes creates stand.fit namespace most stand.sound.renames (answers namespace most));
      but_renames = λ namespace stand.
          subst (λ (r : Reply). Meets IsSoundButRenames all namespace it r d.bytes d.changes) (sym is) (meets_so d.bytes d.changes creates stand.fit namespace stand (answers namespace stand));
      safe = λ fit. safe d.bytes d.changes creates fit;
      recorded = is_something d.bytes d.changes creates;
      origins = come_from all d.changes (fine d.bytes d.changes creates) (granted_in d.reply);
      tidy = are_tidy all d.changes (fine d.bytes d.changes creates);
    }

    pub kept_created : IsReply all it d.reply → AreRecorded all it d.reply d.bytes d.changes → IsSoundDecision all it d
    unfolding Answers
    kept_created reply (inl (is, creates)) = done is creates (λ namespace stand. subst (λ (r : Reply). Answers namespace it r) is (reply namespace stand))
    kept_created reply (inr refused) = kept_refused all it d reply refused
