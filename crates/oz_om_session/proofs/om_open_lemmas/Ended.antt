-- What the end of a bucket's sessions does to the rows, and to the namespace for which they stand.
use Rattle.std.proofs.Common.{◌≡◌, ◌≢◌, ◌↔◌, ◌≤◌, ℕ, List, [], ◌∷◌, length, Option, None, Some, IsSome, is_some, sym, ◌∙◌, ap, subst, arith, append-nil}
use mathlib.Core.Bool.{false≢true}
use Rattle.std.specs.FinMap.{get, insert, len, get-empty}
use Rattle.std.specs.Ordering.{nat_cmp}
use Rattle.oz_effects.specs.Batches.{IsBatchOf}
use Rattle.oz_effects.specs.Effects.{operation_changes}
use Rattle.oz_effects.specs.laws.Joined.{wide_is_batch}
use Rattle.oz_effects.specs.laws.Steps.{nothing_is_batch}
use Rattle.oz_namespace.specs.declared.namespace.Bucket.{Bucket}
use Rattle.oz_namespace.specs.declared.namespace.Namespace.{Namespace}
use Rattle.oz_namespace.specs.declared.namespace.Session.{Session}
use Rattle.oz_namespace.specs.Namespace.{sixteen, bucket_of, buckets_of, snapshots_of, with_volume}
use Rattle.oz_names.specs.declared.code.Code.{Code}
use Rattle.oz_model.specs.Answers.{Answers, AnswersIn, reply_from, after}
use Rattle.oz_model.specs.Buckets.{buckets_at, bucket_at, without_sessions}
use Rattle.oz_model.specs.Refusals.{first_of, no_volume, no_bucket}
use Rattle.oz_model.specs.Scope.{scope_of}
use Rattle.oz_model.specs.laws.Order.{refused_so}
use Rattle.oz_model.specs.laws.Scopes.{has_buckets}
use Rattle.oz_requests.specs.declared.reply.Reply.TheVariants as replies
use Rattle.oz_requests.specs.declared.request.Request.{Request}
use Rattle.oz_requests.specs.declared.request.Request.TheVariants.{ExpireOpen}
use Rattle.oz_requests.specs.Names.{bucket_named, name_fault}
use Rattle.oz_rows.specs.declared.entry.RowEntry.{RowEntry}
use Rattle.oz_rows.specs.declared.key.RowKey.{RowKey}
use Rattle.oz_rows.specs.declared.key.RowKey.TheVariants as keys
use Rattle.oz_rows.specs.declared.operation.Change.{Change}
use Rattle.oz_rows.specs.declared.operation.Operation.TheVariants.{DropOpen}
use Rattle.oz_rows.specs.declared.row.Row.{Row}
use Rattle.oz_rows.specs.declared.row.Row.TheVariants as rows
use Rattle.oz_rows.specs.Operations.{OperationFits, batch_bytes, operation_bytes}
use Rattle.oz_rows.specs.Rows.{ValueFits, kind_of}
use Rattle.oz_rows.specs.RowMaps.{Rows, AreRows, KeysRise, row_of, after_changes}
use Rattle.oz_sound.specs.Sound.{IsSoundButRenames, RenamesAreSound}
use Rattle.oz_sound.specs.StandsFor.{StandsFor, SnapshotsStand, pieces_in}
use Rattle.oz_decision.specs.Meets.{AreInGrammar, IsSafe, Stand, Meets}
use Rattle.oz_decision.specs.laws.Lookups.{there_are}
use Rattle.oz_decision.specs.laws.OneRow.{alone_is_short}
use Rattle.oz_decision.specs.laws.Refusing.{volume_fits, bucket_fits}
use Rattle.oz_decision.specs.laws.Sessions.{session_stands, own_refusals}
use Rattle.oz_decision.specs.laws.Shown.{pieces_at, volume_there, snapshots_again, snapshots_of_bucket, stripes_again, bucket_put}
use Rattle.oz_sound.specs.frames.Buckets.{BucketBecomes}
use Rattle.oz_sound.specs.frames.laws.Becoming.{bucket_becomes}
use Rattle.oz_sound.specs.frames.laws.Moving.{sound_moved, blocks_kept, renames_moved}
use Rattle.oz_om_session.specs.om_open.Records.{AreExpired, operations_for}
use Rattle.oz_om_session.proofs.om_open_lemmas.Dropping.{now as rows_now, session_gone, nothing_changes}
use Rattle.oz_om_session.proofs.om_open_lemmas.Expired.{fit_now, outside, other_kinds, moves, names_stay}

some_apart : {A : Type 0} {a : A} → Some a ≡ None → ⊥
some_apart e = false≢true (sym (ap is_some e))

module _ (v b : List ℕ) (named : name_fault (ExpireOpen v b) ≡ None) where
  abbrev request : Request
  request = ExpireOpen v b

  pub drop_fits : OperationFits (DropOpen v b)
  drop_fits = (volume_fits v (bucket_named b ∷ []) named, bucket_fits v b [] named)

  abbrev bytes_for : List Change → List ℕ
  bytes_for changes = batch_bytes (operations_for request changes)

  pub is_short : (changes : List Change) → length (bytes_for changes) ≤ 6304
  is_short [] = omega arith
  is_short (change ∷ changes) = alone_is_short (DropOpen v b) drop_fits

  is_batch : (all : Rows) (changes : List Change) → AreExpired all request changes → IsBatchOf all (bytes_for changes) changes
  is_batch all [] expired = nothing_is_batch all
  is_batch all (change ∷ changes) expired = subst (λ (l : List ℕ). IsBatchOf all l (change ∷ changes)) (sym (append-nil (operation_bytes (DropOpen v b)))) (wide_is_batch all (DropOpen v b) (change ∷ changes) drop_fits tt expired)

  -- what isn't there is refused, and nothing else is
  pub missing : (namespace : Namespace) (code : Option Code) (c : Code) → code ≡ Some c → code ≡ first_of (no_volume (scope_of namespace v) ∷ no_bucket (scope_of namespace v) b ∷ []) → AnswersIn (scope_of namespace v) request (replies.Code c)
  missing namespace code c is e = refused_so (scope_of namespace v) request c (own_refusals (scope_of namespace v) request named ∙ sym e ∙ is)

  pub answers : (namespace : Namespace) (code : Option Code) → code ≡ None → code ≡ first_of (no_volume (scope_of namespace v) ∷ no_bucket (scope_of namespace v) b ∷ []) → (count : ℕ) → count ≡ len (bucket_at namespace v b).sessions → AnswersIn (scope_of namespace v) request (replies.Count count)
  answers namespace code none e count counted =
      ap replies.Count counted ∙ ap (λ o. reply_from o (replies.Count (len (bucket_at namespace v b).sessions))) (sym none ∙ e ∙ sym (own_refusals (scope_of namespace v) request named))

  -- over rows that are listed
  module _ (entries : List RowEntry) (rise : KeysRise entries) where
    abbrev all : Rows
    all = row_of entries

    abbrev changes : List Change
    changes = operation_changes entries (DropOpen v b)

    abbrev now : Rows
    now = rows_now v b entries rise

    safe_listed : IsBatchOf all (bytes_for changes) changes → AreInGrammar all → IsSafe all (bytes_for changes) changes
    safe_listed batch fit = record { batch = batch; size = (let short = is_short changes in omega (arith, short)); fit = fit_now v b entries rise fit }

    module _ (there : IsSome (all (keys.Bucket v b))) (namespace : Namespace) (stand : Stand IsSoundButRenames all namespace) where
      abbrev old : Bucket
      old = bucket_at namespace v b

      abbrev new : Bucket
      new = without_sessions old

      kinds : (q : RowKey) → kind_of q ≢ 4 → kind_of q ≢ 5 → now q ≡ all q
      kinds = other_kinds v b entries rise stand.fit

      sessions_now : (m : ℕ) (s : Session) → (get new.sessions m ≡ Some s) ↔ (now (keys.Open v b s.key m) ≡ Some (rows.Open s.blocks))
      sessions_now m s = (λ g. absurd (some_apart (sym g ∙ get-empty nat_cmp m)), λ g. absurd (some_apart (sym g ∙ session_gone v b entries rise s.key m)))

      snapshot_same : (w c : List ℕ) (n : ℕ) → now (keys.Snapshot w c n) ≡ all (keys.Snapshot w c n)
      snapshot_same w c n = kinds (keys.Snapshot w c n) (λ e. omega (arith, e)) (λ e. omega (arith, e))

      becomes : BucketBecomes all now namespace v (buckets_at namespace v) b new namespace.stripes
      becomes = record {
        volume_there = there_are (buckets_of namespace v) (volume_there (buckets_of namespace v) b (stand.stands.buckets v b ∙ there));
        outside = outside v b entries rise stand.fit;
        there = subst IsSome (sym (kinds (keys.Bucket v b) (λ e. omega (arith, e)) (λ e. omega (arith, e)))) there;
        pieces = λ q. sym (pieces_at (bucket_of namespace v b) q) ∙ stand.stands.pieces v b q ∙ ap pieces_in (sym (kinds (keys.Key v b q) (λ e. omega (arith, e)) (λ e. omega (arith, e))));
        sessions = sessions_now;
        snapshots = subst (SnapshotsStand now v b) (sym (snapshots_of_bucket (bucket_of namespace v b)))
            (snapshots_again all now snapshot_same (λ w c n q. kinds (keys.SnapshotKey w c n q) (λ e. omega (arith, e)) (λ e. omega (arith, e))) v b (snapshots_of namespace v b) (stand.stands.snapshots v b));
        numbers = stand.stands.stripes ∙ stripes_again all now (λ s. kinds (keys.Stripe s) (λ e. omega (arith, e)) (λ e. omega (arith, e))) sixteen;
      }

      abbrev left : Namespace
      left = with_volume namespace v (insert (buckets_at namespace v) b new)

      stands_now : StandsFor now left
      stands_now = bucket_becomes all now namespace v (buckets_at namespace v) b new namespace.stripes becomes stand.stands

      -- where the namespace stays there was no session
      no_row : left ≡ namespace → (k : List ℕ) (m : ℕ) (row : Row) → all (keys.Open v b k m) ≡ Some row → ValueFits (keys.Open v b k m) row → ⊥
      no_row e k m (rows.Open blocks) is fits =
          let session : Session = record { key = k; blocks = blocks } in
          let had = (session_stands all v b namespace stand m session).1 is in
          let same : get new.sessions m ≡ get old.sessions m = ap (λ (x : Bucket). get x.sessions m) (sym (bucket_put namespace v b new) ∙ ap (λ (x : Namespace). bucket_at x v b) e) in
          some_apart (sym had ∙ sym same ∙ get-empty nat_cmp m)
      no_row e k m row is fits = fits

      nothing : left ≡ namespace → changes ≡ []
      nothing e = nothing_changes v b entries rise (λ k m row is. no_row e k m row is (stand.fit (keys.Open v b k m) row is).1)

      meets_listed : (count : ℕ) → IsBatchOf all (bytes_for changes) changes → Answers namespace request (replies.Count count) → Meets IsSoundButRenames all namespace request (replies.Count count) (bytes_for changes) changes
      unfolding after
      meets_listed count batch answers =
          let effect : after namespace request (replies.Count count) ≡ left = has_buckets namespace v (insert (buckets_at namespace v) b new) in
          let moved = moves v b entries rise stand.fit stand.sound in
          record {
            answers = answers;
            batch = batch;
            leads = record {
              fit = fit_now v b entries rise stand.fit;
              stands = subst (StandsFor now) (sym effect) stands_now;
              sound = sound_moved all now None moved stand.sound;
            };
            blocks = blocks_kept all now None moved;
            keeps = λ same. nothing (sym effect ∙ same.0);
          }

      renames_listed : RenamesAreSound all → RenamesAreSound now
      renames_listed = renames_moved all now None (moves v b entries rise stand.fit stand.sound) stand.sound (names_stay v b entries rise stand.fit stand.sound)

  -- over rows of which there is a list
  module _ (all : Rows) (entries : List RowEntry) (are : AreRows entries all) (changes : List Change) (expired : AreExpired all request changes) where
    listed : row_of entries ≡ all
    listed = λ i key. are.rows_are key i

    batch_listed : IsBatchOf (row_of entries) (bytes_for (operation_changes entries (DropOpen v b))) (operation_changes entries (DropOpen v b))
    batch_listed = subst (λ (x : Rows). IsBatchOf x (bytes_for (operation_changes entries (DropOpen v b))) (operation_changes entries (DropOpen v b))) (sym listed) (subst (λ (c : List Change). IsBatchOf all (bytes_for c) c) (expired entries are) (is_batch all changes expired))

    by_list : (P : Rows → List Change → Type 0) → P (row_of entries) (operation_changes entries (DropOpen v b)) → P all changes
    by_list P holds = subst (λ (x : Rows). P x changes) listed (subst (λ (c : List Change). P (row_of entries) c) (sym (expired entries are)) holds)

    pub is_safe : AreInGrammar all → IsSafe all (bytes_for changes) changes
    is_safe = by_list (λ x c. AreInGrammar x → IsSafe x (bytes_for c) c) (safe_listed entries are.in_order batch_listed)

    pub meets : IsSome (all (keys.Bucket v b)) → (namespace : Namespace) → Stand IsSoundButRenames all namespace → (count : ℕ) → Answers namespace request (replies.Count count) → Meets IsSoundButRenames all namespace request (replies.Count count) (bytes_for changes) changes
    meets = by_list (λ x c. IsSome (x (keys.Bucket v b)) → (namespace : Namespace) → Stand IsSoundButRenames x namespace → (count : ℕ) → Answers namespace request (replies.Count count) → Meets IsSoundButRenames x namespace request (replies.Count count) (bytes_for c) c)
        (λ there namespace stand count answers. meets_listed entries are.in_order there namespace stand count batch_listed answers)

    pub renames_stay : IsSome (all (keys.Bucket v b)) → (namespace : Namespace) → Stand IsSoundButRenames all namespace → RenamesAreSound all → RenamesAreSound (after_changes changes all)
    renames_stay = by_list (λ x c. IsSome (x (keys.Bucket v b)) → (namespace : Namespace) → Stand IsSoundButRenames x namespace → RenamesAreSound x → RenamesAreSound (after_changes c x))
        (λ there namespace stand sound. renames_listed entries are.in_order there namespace stand sound)
