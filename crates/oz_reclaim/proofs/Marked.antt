-- A live snapshot is marked: what becomes of the rows, and of the namespace that they stand for.
use Rattle.std.proofs.Common.{◌≡◌, ◌↔◌, inl, inr, ℕ, ◌≤◌, ◌<◌, ◌^◌, Bool, true, false, not, ◌==◌, List, [], ◌∷◌, map, Option, None, Some, IsSome, is_some, cond, refl, sym, ◌∙◌, ap, subst}
use mathlib.Core.Bool.{false≢true}
use Rattle.std.specs.FinMap.{insert, len}
use Rattle.std.specs.List.{AllByRecursion}
use Rattle.std.specs.Prelude.{filter}
use Rattle.oz_decision.specs.declared.decision.Decision.{Decision}
use Rattle.oz_decision.specs.Drafts.{row_by_row}
use Rattle.oz_decision.specs.Meets.{AreInGrammar, IsSafe, MayGo, Meets, Stand, granted_in}
use Rattle.oz_decision.specs.Replies.{IsReply, ShowsThat}
use Rattle.oz_decision.specs.laws.Lookups.{there_are}
use Rattle.oz_decision.specs.laws.OneRow.{has_bytes, homes_kept, meets_in_all, no_home_kept, nothing_changes, nothing_is_safe, put_is_safe, stand_but_renames}
use Rattle.oz_decision.specs.laws.Sessions.{session_stands}
use Rattle.oz_decision.specs.laws.Shown.{bucket_put, key_itself, pieces_at, snapshots_of_bucket, volume_there}
use Rattle.oz_model.specs.Answers.{Answers, Replies, after, reply_from}
use Rattle.oz_model.specs.Buckets.{bucket_at, bucket_in, buckets_at, snapshot_keys, without_snapshot, keys_in}
use Rattle.oz_model.specs.Refusals.{first_of, no_bucket, no_volume, refusal}
use Rattle.oz_model.specs.Scope.{scope_of}
use Rattle.oz_model.specs.laws.Order.{refused_by_row, refused_missing, refused_so}
use Rattle.oz_model.specs.laws.Scopes.{has_buckets, stays}
use Rattle.oz_names.specs.declared.code.Code.{Code}
use Rattle.oz_names.specs.declared.code.Code.TheVariants.{SnapshotNotFound}
use Rattle.oz_names.specs.Names.{IsVolumeName, IsBucketName, IsSnapshotName}
use Rattle.oz_names.specs.laws.NameTests.{volume_name-passes}
use Rattle.oz_namespace.specs.declared.namespace.Bucket.{Bucket}
use Rattle.oz_namespace.specs.declared.namespace.Namespace.{Namespace}
use Rattle.oz_namespace.specs.declared.namespace.Snapshot.{Snapshot}
use Rattle.oz_namespace.specs.Namespace.{bucket_of, buckets_of, snapshots_of}
use Rattle.oz_reclaim.specs.Decisions.{IsSoundDecision}
use Rattle.oz_reclaim.specs.Marks.{HasNumber, IsNamed, Marks}
use Rattle.oz_reclaim.specs.Moves.{DeletedMove, IsSteady}
use Rattle.oz_reclaim.specs.Snapshots.{AreRecorded, IsNothing, IsRefused}
use Rattle.oz_reclaim.specs.Work.{is_marked}
use Rattle.oz_reclaim.specs.laws.Moving.{renames_stay, sound_now}
use Rattle.oz_reclaim.proofs.Origins.{IsFine, are_tidy, come_from, marked_fine, none_fine}
use Rattle.oz_reclaim.proofs.Named.{each_left, has_none, has_one, has_other_name, among_left, none_left, number_itself, one_number, rise_left}
use Rattle.oz_requests.specs.declared.reply.Reply.{Reply}
use Rattle.oz_requests.specs.declared.reply.Reply.TheVariants as replies
use Rattle.oz_requests.specs.declared.request.Request.{Request}
use Rattle.oz_requests.specs.declared.request.Request.TheVariants.{DeleteSnapshot, InfoSnapshot, ListSnapshots}
use Rattle.oz_requests.specs.Names.{Named, bucket_named, first_fault, is_name_of, name_code, name_fault, snapshot_named, volume_named}
use Rattle.oz_rows.specs.declared.key.RowKey.{RowKey}
use Rattle.oz_rows.specs.declared.key.RowKey.TheVariants as keys
use Rattle.oz_rows.specs.declared.operation.Change.{Change}
use Rattle.oz_rows.specs.declared.row.Row.{Row}
use Rattle.oz_rows.specs.declared.row.Row.TheVariants as rows
use Rattle.oz_rows.specs.declared.row.SnapshotState.{SnapshotState}
use Rattle.oz_rows.specs.declared.row.SnapshotState.TheVariants.{Live, Marked}
use Rattle.oz_rows.specs.Operations.{batch_bytes}
use Rattle.oz_rows.specs.Rows.{RowFits}
use Rattle.oz_rows.specs.RowMaps.{Rows, after_changes, is_same, put}
use Rattle.oz_rows.specs.laws.Same.{same_is_one}
use Rattle.oz_sound.specs.Sound.{IsSound, IsSoundButRenames, RenamesAreSound, bucket_of_row}
use Rattle.oz_sound.specs.StandsFor.{IsLive, SnapshotsStand, StandsFor}
use Rattle.oz_sound.specs.frames.Buckets.{BucketBecomes, IsOutside, with_bucket}
use Rattle.oz_sound.specs.frames.laws.Becoming.{bucket_becomes}

abbrev pub bytes_of : List Change → List ℕ
bytes_of changes = batch_bytes (row_by_row changes)

-- ---- which number a name has

-- each number of rows in the grammar is at least 1
at_least_one : (all : Rows) (v b name : List ℕ) (n : ℕ) → AreInGrammar all → IsNamed all v b name n → 1 ≤ n
at_least_one all v b name n fit one = (fit (keys.Snapshot v b n) (rows.Snapshot name one.0 Live) one.1).0.2.0

module _ (all : Rows) (v b name : List ℕ) (namespace : Namespace) (stand : Stand IsSoundButRenames all namespace) where
  -- the bucket's snapshots, as they are looked up
  pub looked_up : (P : List Snapshot → Type 0) → P (snapshots_of namespace v b) → P (bucket_at namespace v b).snapshots
  looked_up P holds = subst P (sym (snapshots_of_bucket (bucket_of namespace v b))) holds

  pub is_not_there : HasNumber all v b name None → is_some (snapshot_keys (bucket_at namespace v b).snapshots name) ≡ false
  is_not_there none =
      let snapshots = stand.stands.snapshots v b in
      looked_up (λ l. is_some (snapshot_keys l name) ≡ false) (has_none all v b name (λ n one. none n (at_least_one all v b name n stand.fit one) one) snapshots.numbers _ snapshots.each)

  pub is_there : (n : ℕ) → IsNamed all v b name n → is_some (snapshot_keys (bucket_at namespace v b).snapshots name) ≡ true
  is_there n one =
      let snapshots = stand.stands.snapshots v b in
      looked_up (λ l. is_some (snapshot_keys l name) ≡ true) (has_one all v b name n one snapshots.numbers _ snapshots.each (snapshots.every n (name, one.0, one.1)))

-- ---- the replies

-- names that were tested are names
others_named : (first : Named) (others : List Named) → first_fault (first ∷ others) ≡ None → (is_name_of first.kind first.name ≡ true) × (first_fault others ≡ None)
others_named first others e = by_test (is_name_of first.kind first.name) refl
  where
    by_test : (t : Bool) → is_name_of first.kind first.name ≡ t → (is_name_of first.kind first.name ≡ true) × (first_fault others ≡ None)
    by_test true is = (is, sym (ap (λ (t : Bool). cond t (first_fault others) (Some (name_code first.kind))) is) ∙ e)
    by_test false is = absurd (false≢true (ap is_some (sym e ∙ ap (λ (t : Bool). cond t (first_fault others) (Some (name_code first.kind))) is)))

-- a volume, a bucket and a snapshot
pub record NamesFit (v b name : List ℕ) : Type 0 where
  pub volume : IsVolumeName v
  pub bucket : IsBucketName b
  pub snapshot : IsSnapshotName name

pub names_fit : (v b name : List ℕ) → first_fault (volume_named v ∷ bucket_named b ∷ snapshot_named name ∷ []) ≡ None → NamesFit v b name
names_fit v b name named =
    let two = others_named (volume_named v) (bucket_named b ∷ snapshot_named name ∷ []) named in
    let three = others_named (bucket_named b) (snapshot_named name ∷ []) two.1 in
    let four = others_named (snapshot_named name) [] three.1 in
    record { volume = volume_name-passes v two.0; bucket = volume_name-passes b three.0; snapshot = volume_name-passes name four.0 }

pub row_fits : (v b name : List ℕ) (n previous : ℕ) (state : SnapshotState) → first_fault (volume_named v ∷ bucket_named b ∷ snapshot_named name ∷ []) ≡ None → 1 ≤ n → n < 2 ^ 64 → previous < 2 ^ 64 → RowFits (keys.Snapshot v b n) (rows.Snapshot name previous state)
row_fits v b name n previous state named least small short =
    let names = names_fit v b name named in
    ((names.volume, names.bucket, (least, small)), (names.snapshot, short))

module _ (all : Rows) (v b name : List ℕ) (named : name_fault (DeleteSnapshot v b name) ≡ None) where
  abbrev asked : Request
  asked = DeleteSnapshot v b name

  pub by_missing : (code : Code) → ShowsThat all (λ namespace. Some code ≡ first_of (no_volume (scope_of namespace v) ∷ no_bucket (scope_of namespace v) b ∷ [])) → IsReply all asked (replies.Code code)
  by_missing code shows = λ namespace stand. refused_so (scope_of namespace v) asked code (refused_missing (scope_of namespace v) asked code named (sym (shows namespace stand)))

  module _ (found : ShowsThat all (λ namespace. None ≡ first_of (no_volume (scope_of namespace v) ∷ no_bucket (scope_of namespace v) b ∷ []))) where
    pub by_none : HasNumber all v b name None → IsReply all asked (replies.Code SnapshotNotFound)
    by_none none = λ namespace stand. refused_so (scope_of namespace v) asked SnapshotNotFound
        (refused_by_row (scope_of namespace v) asked named (sym (found namespace stand)) ∙ ap (λ (t : Bool). cond (not t) (Some SnapshotNotFound) None) (is_not_there all v b name namespace stand none))

    pub by_one : (n : ℕ) → IsNamed all v b name n → IsReply all asked replies.Done
    by_one n one = λ namespace stand.
        let none : refusal (scope_of namespace v) asked ≡ None = refused_by_row (scope_of namespace v) asked named (sym (found namespace stand)) ∙ ap (λ (t : Bool). cond (not t) (Some SnapshotNotFound) None) (is_there all v b name namespace stand n one) in
        subst (λ (o : Option Code). Replies o (scope_of namespace v) asked replies.Done) (sym none) refl

-- ---- the rows

module _ (all : Rows) (v b name : List ℕ) (n previous : ℕ) (there : all (keys.Snapshot v b n) ≡ Some (rows.Snapshot name previous Live)) where
  abbrev deletes : Request
  deletes = DeleteSnapshot v b name

  abbrev here : RowKey
  here = keys.Snapshot v b n

  abbrev marked_row : Row
  marked_row = rows.Snapshot name previous Marked

  abbrev pub changes : List Change
  changes = put here marked_row ∷ []

  abbrev pub now : Rows
  now = after_changes changes all

  steady : (q : RowKey) → IsSteady q → now q ≡ all q
  steady (keys.Volume w) is = refl
  steady (keys.Bucket w c) is = refl
  steady (keys.Key w c k) is = refl
  steady (keys.Open w c k m) is = refl
  steady (keys.Stripe s) is = refl
  steady q is = absurd is

  still_some : (w c : List ℕ) (m : ℕ) → IsSome (all (keys.Snapshot w c m)) → IsSome (now (keys.Snapshot w c m))
  still_some w c m some = by_test (is_same here (keys.Snapshot w c m))
    where
      by_test : (t : Bool) → IsSome (cond t (Some marked_row) (all (keys.Snapshot w c m)))
      by_test true = refl
      by_test false = some

  some_before : (w c : List ℕ) (m : ℕ) → IsSome (now (keys.Snapshot w c m)) → IsSome (all (keys.Snapshot w c m))
  some_before w c m some = by_test (is_same here (keys.Snapshot w c m)) refl some
    where
      by_test : (t : Bool) → is_same here (keys.Snapshot w c m) ≡ t → IsSome (cond t (Some marked_row) (all (keys.Snapshot w c m))) → IsSome (all (keys.Snapshot w c m))
      by_test true e some = subst (λ k. IsSome (all k)) (same_is_one here (keys.Snapshot w c m) e) (ap is_some there)
      by_test false e some = some

  live_now : (w c : List ℕ) (m : ℕ) → IsLive now w c m → now (keys.Snapshot w c m) ≡ all (keys.Snapshot w c m)
  live_now w c m live = by_test (is_same here (keys.Snapshot w c m)) live.2
    where
      by_test : (t : Bool) → cond t (Some marked_row) (all (keys.Snapshot w c m)) ≡ Some (rows.Snapshot live.0 live.1 Live) → cond t (Some marked_row) (all (keys.Snapshot w c m)) ≡ all (keys.Snapshot w c m)
      by_test true e = absurd (false≢true (sym (ap is_marked e)))
      by_test false e = refl

  pub moves : IsSoundButRenames all → DeletedMove all now
  moves sound = record {
    steady = steady;
    snapshots = some_before;
    live = live_now;
    live_keys = λ w c k m live. refl;
    snapshot_keys = λ w c k m row is. (is, still_some w c m (sound.numbers.snapshot_keys w c k m (ap is_some is)));
    owner_now = λ w c owner. owner;
    came = λ w c k o l row is. (o, refl, is);
    stays = λ w c k o l row is. inl is;
    deleted_owners = λ w c k o l some apart. still_some w c o (sound.numbers.deleted w c k o l some apart);
    renamed_owners = λ w c o l some apart. still_some w c o (sound.numbers.renamed w c o l some apart);
  }

  -- another number's row is as it was
  other_row : (m : ℕ) → (m == n) ≡ false → now (keys.Snapshot v b m) ≡ all (keys.Snapshot v b m)
  other_row m apart = by_test (is_same here (keys.Snapshot v b m)) refl
    where
      by_test : (t : Bool) → is_same here (keys.Snapshot v b m) ≡ t → cond t (Some marked_row) (all (keys.Snapshot v b m)) ≡ all (keys.Snapshot v b m)
      by_test true e =
          let same = same_is_one here (keys.Snapshot v b m) e in
          let number : n ≡ m = cc in
          absurd (false≢true (sym apart ∙ number_itself n m (sym number)))
      by_test false e = refl

  -- one that is live now is another
  other_live : (m : ℕ) → IsLive now v b m → not (m == n) ≡ true
  other_live m live = by_test (m == n) refl
    where
      by_test : (t : Bool) → (m == n) ≡ t → not t ≡ true
      by_test false e = refl
      by_test true e =
          let row : now here ≡ Some marked_row = ap (λ (t : Bool). cond t (Some marked_row) (all here)) (key_itself here) in
          absurd (false≢true (sym (ap is_marked (sym row ∙ ap (λ x. now (keys.Snapshot v b x)) (sym (one_number n m e)) ∙ live.2))))

  module _ (bucket_there : IsSome (all (keys.Bucket v b))) where
    pub is_safe : AreInGrammar all → IsSafe all (bytes_of changes) changes
    is_safe fit = put_is_safe all fit here marked_row (fit here (rows.Snapshot name previous Live) there) (λ base e. absurd (false≢true (ap is_some e)))

    module _ (namespace : Namespace) (stand : Stand IsSoundButRenames all namespace) where
      abbrev old : Bucket
      old = bucket_at namespace v b

      abbrev new : Bucket
      new = without_snapshot old name

      snapshots_left : SnapshotsStand now v b (filter (has_other_name name) (snapshots_of namespace v b))
      snapshots_left =
          let snapshots = stand.stands.snapshots v b in
          record {
            numbers = filter (λ m. not (m == n)) snapshots.numbers;
            rise = rise_left (λ m. not (m == n)) snapshots.numbers snapshots.rise;
            every = λ m live. among_left (λ m. not (m == n)) m snapshots.numbers (other_live m live) (snapshots.every m (live.0, live.1, sym (live_now v b m live) ∙ live.2));
            each = each_left all v b name n (previous, there) stand.sound.names now (λ m apart. (other_row m apart, λ k. refl)) snapshots.numbers _ snapshots.each;
          }

      outside : (q : RowKey) → IsOutside v b q → now q ≡ all q
      outside q is = by_test (is_same here q) refl
        where
          by_test : (t : Bool) → is_same here q ≡ t → cond t (Some marked_row) (all q) ≡ all q
          by_test true e = absurd (is.other (ap bucket_of_row (sym (same_is_one here q e))))
          by_test false e = refl

      becomes : BucketBecomes all now namespace v (buckets_at namespace v) b new namespace.stripes
      becomes = record {
        volume_there = there_are (buckets_of namespace v) (volume_there (buckets_of namespace v) b (stand.stands.buckets v b ∙ bucket_there));
        outside = outside;
        there = bucket_there;
        pieces = λ q. sym (pieces_at (bucket_of namespace v b) q) ∙ stand.stands.pieces v b q;
        sessions = λ m s. session_stands all v b namespace stand m s;
        snapshots = looked_up all v b name namespace stand (λ l. SnapshotsStand now v b (filter (has_other_name name) l)) snapshots_left;
        numbers = stand.stands.stripes;
      }

      abbrev left : Namespace
      left = with_bucket namespace v (buckets_at namespace v) b new namespace.stripes

      stands_now : StandsFor now left
      stands_now = bucket_becomes all now namespace v (buckets_at namespace v) b new namespace.stripes becomes stand.stands

      effect : after namespace deletes replies.Done ≡ left
      unfolding after
      effect = has_buckets namespace v (insert (buckets_at namespace v) b new)

      -- a snapshot less is there
      differs : left ≡ namespace → ⊥
      differs e = false≢true (sym (none_left name old.snapshots)
          ∙ ap (λ (x : Bucket). is_some (snapshot_keys x.snapshots name)) (sym (bucket_put namespace v b new) ∙ ap (λ (x : Namespace). bucket_at x v b) e)
          ∙ is_there all v b name namespace stand n (previous, there))

      pub meets : Answers namespace deletes replies.Done → Meets IsSoundButRenames all namespace deletes replies.Done (bytes_of changes) changes
      meets answers =
          let safe = is_safe stand.fit in
          record {
            answers = answers;
            batch = safe.batch;
            leads = record {
              fit = safe.fit;
              stands = subst (StandsFor now) (sym effect) stands_now;
              sound = sound_now all now (moves stand.sound) safe.fit stand.sound;
            };
            blocks = homes_kept all now None (MayGo all deletes) (no_home_kept all here (Some marked_row) (λ home. home));
            keeps = λ nothing. absurd (differs (sym effect ∙ nothing.0));
          }

      pub meets_all : RenamesAreSound all → Answers namespace deletes replies.Done → Meets IsSound all namespace deletes replies.Done (bytes_of changes) changes
      meets_all renames answers = meets_in_all all namespace deletes replies.Done (bytes_of changes) changes (meets answers) (renames_stay all now (moves stand.sound) (λ w c o l. refl) renames)

-- ---- the decision

module _ (all : Rows) (it : Request) (d : Decision) (operations : d.bytes ≡ bytes_of d.changes) where
  in_parts : (P : Reply → List ℕ → List Change → Type 0) (reply : Reply) (made_so : List Change) → d.reply ≡ reply → d.changes ≡ made_so → P reply (bytes_of made_so) made_so → P d.reply d.bytes d.changes
  in_parts P reply made_so is made holds =
      subst (λ (r : Reply). P r d.bytes d.changes) (sym is) (subst (λ (l : List ℕ). P reply l d.changes) (sym operations)
      (subst (λ (c : List Change). P reply (bytes_of c) c) (sym made) holds))

  -- what a decision owes that changes nothing
  abbrev Stays : Type 0
  Stays = (namespace : Namespace) → Stand IsSoundButRenames all namespace → Answers namespace it d.reply × (after namespace it d.reply ≡ namespace)

  unchanged : Stays → (Sound : Rows → Type 0) (namespace : Namespace) → Stand Sound all namespace → Stand IsSoundButRenames all namespace → Meets Sound all namespace it d.reply [] []
  unchanged stays Sound namespace stand most = nothing_changes Sound all namespace it d.reply stand (stays namespace most).0 (stays namespace most).1

  pub kept_unchanged : d.changes ≡ [] → Stays → IsSoundDecision all it d
  kept_unchanged none stays = record {
    meets = λ namespace stand. in_parts (Meets IsSound all namespace it) d.reply [] refl none (unchanged stays IsSound namespace stand (stand_but_renames all namespace stand));
    but_renames = λ namespace stand. in_parts (Meets IsSoundButRenames all namespace it) d.reply [] refl none (unchanged stays IsSoundButRenames namespace stand stand);
    safe = λ fit. in_parts (λ r l c. IsSafe all l c) d.reply [] refl none (nothing_is_safe all fit);
    recorded = subst (λ (l : List ℕ). (l ≡ []) ↔ (d.changes ≡ [])) (sym operations) (has_bytes d.changes);
    origins = come_from all d.changes (none_fine all d.changes none) (granted_in d.reply);
    tidy = are_tidy all d.changes (none_fine all d.changes none);
  }

  -- a refusal leaves what was there
  pub refusal_stays : (code : Code) → d.reply ≡ replies.Code code → (namespace : Namespace) → after namespace it d.reply ≡ namespace
  refusal_stays code is namespace = subst (λ (r : Reply). after namespace it r ≡ namespace) (sym is) (stays namespace it (replies.Code code) refl)

module _ (all : Rows) (v b name : List ℕ) (d : Decision) (operations : d.bytes ≡ bytes_of d.changes) where
  abbrev it : Request
  it = DeleteSnapshot v b name

  kept_marked : d.reply ≡ replies.Done → Marks all v b name d.bytes d.changes → ((namespace : Namespace) → Stand IsSoundButRenames all namespace → Answers namespace it replies.Done) → IsSoundDecision all it d
  kept_marked is marks answers = record {
    meets = λ namespace stand.
        let most = stand_but_renames all namespace stand in
        in_parts all it d operations (Meets IsSound all namespace it) replies.Done (changes all v b name marks.number marks.previous marks.there) is marks.marked
        (meets_all all v b name marks.number marks.previous marks.there marks.bucket_there namespace most stand.sound.renames (answers namespace most));
    but_renames = λ namespace stand. in_parts all it d operations (Meets IsSoundButRenames all namespace it) replies.Done (changes all v b name marks.number marks.previous marks.there) is marks.marked
        (meets all v b name marks.number marks.previous marks.there marks.bucket_there namespace stand (answers namespace stand));
    safe = λ fit. in_parts all it d operations (λ r l c. IsSafe all l c) replies.Done (changes all v b name marks.number marks.previous marks.there) is marks.marked
        (is_safe all v b name marks.number marks.previous marks.there marks.bucket_there fit);
    recorded = subst (λ (l : List ℕ). (l ≡ []) ↔ (d.changes ≡ [])) (sym operations) (has_bytes d.changes);
    origins = come_from all d.changes (fine marks) (granted_in d.reply);
    tidy = are_tidy all d.changes (fine marks);
  }
    where
      fine : Marks all v b name d.bytes d.changes → AllByRecursion (IsFine all d.changes) d.changes
      fine marks = subst (λ (c : List Change). AllByRecursion (IsFine all c) c) (sym marks.marked) (marked_fine all v b name marks.number marks.previous Marked)

-- nothing in bytes is nothing in changes
none_by_row : (bytes : List ℕ) (changes : List Change) → IsNothing bytes changes → bytes ≡ bytes_of changes
none_by_row bytes changes none = none.0 ∙ sym (ap bytes_of none.1)

module _ (all : Rows) (it : Request) (d : Decision) where
  pub kept_refused : IsReply all it d.reply → IsRefused d.reply d.bytes d.changes → IsSoundDecision all it d
  unfolding Answers
  kept_refused reply (code, is, none) =
      let operations = none_by_row d.bytes d.changes none in
      kept_unchanged all it d operations none.1 (λ namespace stand. (reply namespace stand, refusal_stays all it d operations code is namespace))

pub kept_deleted : (all : Rows) (v b name : List ℕ) (d : Decision) → IsReply all (DeleteSnapshot v b name) d.reply → AreRecorded all (DeleteSnapshot v b name) d.reply d.bytes d.changes → IsSoundDecision all (DeleteSnapshot v b name) d
unfolding Answers
kept_deleted all v b name d reply (inl (is, marks)) = kept_marked all v b name d marks.batch is marks (λ namespace stand. subst (λ (r : Reply). Answers namespace (DeleteSnapshot v b name) r) is (reply namespace stand))
kept_deleted all v b name d reply (inr refused) = kept_refused all (DeleteSnapshot v b name) d reply refused

-- a request is refused, or has its reply
by_refusal : (reply result : Reply) (Holds : Reply → Type 0) (o : Option Code) → reply ≡ reply_from o result → ((code : Code) → Holds (replies.Code code)) → Holds result → Holds reply
by_refusal reply result Holds None is refused done = subst Holds (sym is) done
by_refusal reply result Holds (Some code) is refused done = subst Holds (sym is) (refused code)

module _ (all : Rows) (v b : List ℕ) (d : Decision) where
  abbrev lists : Request
  lists = ListSnapshots v b

  list_stays : (namespace : Namespace) → Answers namespace lists d.reply → after namespace lists d.reply ≡ namespace
  unfolding Answers
  list_stays namespace answers =
      let named = replies.Names (map (λ (it : Snapshot). it.name) (bucket_in (scope_of namespace v) b).snapshots) in
      by_refusal d.reply named (λ r. after namespace lists r ≡ namespace) (refusal (scope_of namespace v) lists) answers
      (λ code. stays namespace lists (replies.Code code) refl) (stays namespace lists named refl)

  pub kept_listed : IsReply all lists d.reply → IsNothing d.bytes d.changes → IsSoundDecision all lists d
  unfolding Answers
  kept_listed reply none = kept_unchanged all lists d (none_by_row d.bytes d.changes none) none.1 (λ namespace stand. (reply namespace stand, list_stays namespace (reply namespace stand)))

module _ (all : Rows) (v b name : List ℕ) (d : Decision) where
  abbrev counts : Request
  counts = InfoSnapshot v b name

  count_stays : (namespace : Namespace) → Answers namespace counts d.reply → after namespace counts d.reply ≡ namespace
  unfolding Answers
  count_stays namespace answers =
      let counted = replies.Count (len (keys_in (bucket_in (scope_of namespace v) b) (Some name))) in
      by_refusal d.reply counted (λ r. after namespace counts r ≡ namespace) (refusal (scope_of namespace v) counts) answers
      (λ code. stays namespace counts (replies.Code code) refl) (stays namespace counts counted refl)

  pub kept_counted : IsReply all counts d.reply → IsNothing d.bytes d.changes → IsSoundDecision all counts d
  unfolding Answers
  kept_counted reply none = kept_unchanged all counts d (none_by_row d.bytes d.changes none) none.1 (λ namespace stand. (reply namespace stand, count_stays namespace (reply namespace stand)))
