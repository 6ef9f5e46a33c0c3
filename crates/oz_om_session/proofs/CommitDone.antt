-- What a commit does to the rows, and to the namespace for which they stand.
use Rattle.std.proofs.Common.{◌≡◌, ◌↔◌, ℕ, Bool, true, false, List, [], ◌∷◌, ◌++◌, None, Some, is_some, cond, refl, sym, ◌∙◌, ap, subst, inl}
use mathlib.Core.Bool.{false≢true}
use Rattle.std.proofs.lemmas.Cmp.{nat_cmp_total, nat_list_cmp_total}
use Rattle.std.specs.FinMap.{get, insert, get-insert, get-remove}
use Rattle.std.specs.List.{AllByRecursion}
use Rattle.oz_fields.specs.declared.block.Block.{Block}
use Rattle.oz_fields.specs.declared.block.Piece.{Piece}
use Rattle.oz_namespace.specs.declared.namespace.Bucket.{Bucket}
use Rattle.oz_namespace.specs.declared.namespace.Namespace.{Namespace}
use Rattle.oz_namespace.specs.declared.namespace.Session.{Session}
use Rattle.oz_namespace.specs.Namespace.{bucket_of, with_volume}
use Rattle.oz_model.specs.Answers.{Answers, after}
use Rattle.oz_model.specs.Buckets.{buckets_at, bucket_at, committed, are_pieces_of}
use Rattle.oz_model.specs.laws.Scopes.{has_buckets}
use Rattle.oz_requests.specs.declared.reply.Reply.TheVariants as replies
use Rattle.oz_requests.specs.declared.request.Request.{Request}
use Rattle.oz_requests.specs.declared.request.Request.TheVariants.{CommitKey}
use Rattle.oz_requests.specs.Names.{name_fault}
use Rattle.oz_rows.specs.declared.key.RowKey.{RowKey}
use Rattle.oz_rows.specs.declared.key.RowKey.TheVariants as keys
use Rattle.oz_rows.specs.declared.operation.Change.{Change}
use Rattle.oz_rows.specs.declared.row.Row.TheVariants as rows
use Rattle.oz_rows.specs.RowMaps.{Rows, is_same, put, gone, row_after, after_changes}
use Rattle.oz_rows.specs.laws.Same.{same_is_one}
use Rattle.oz_sound.specs.Sound.{bucket_of_row, IsSoundButRenames, RenamesAreSound}
use Rattle.oz_sound.specs.StandsFor.{StandsFor, pieces_in}
use Rattle.oz_sound.specs.laws.BucketChanges.{is_name, one_name, itself}
use Rattle.oz_decision.specs.Meets.{AreInGrammar, Stand, Meets}
use Rattle.oz_decision.specs.Sessions.{blocks_at}
use Rattle.oz_decision.specs.Versions.{version_at, deleted}
use Rattle.oz_om_session.specs.Records.{unused}
use Rattle.oz_om_session.specs.Sessions.{MayCommit}
use Rattle.oz_decision.specs.laws.SessionRows.{OpenRow, front, all_append}
use Rattle.oz_om_session.proofs.Blocks.{used, version_fits}
use Rattle.oz_decision.specs.laws.Sessions.{session_is, session_stands}
use Rattle.oz_decision.specs.laws.Shown.{sessions_stand, number_itself, key_itself, pieces_at, bucket_put}
use Rattle.oz_om_session.proofs.Becoming.{Becomes, becomes_bucket, outside}
use Rattle.oz_om_session.proofs.CommitRows.{opened, session_fits, key_fits}
use Rattle.oz_om_session.proofs.CommitBatch.{bytes_of, changes, rows_join, untouched, deleted_all, left_all, as_before, is_safe}
use Rattle.oz_om_session.proofs.CommitMoves.{Goes, goes_on, version_goes}
use Rattle.oz_om_session.proofs.CommitGoes.{unused_goes, session_goes}

module _ (all : Rows) (v b k : List ℕ) (n : ℕ) (pieces : List Piece) (named : name_fault (CommitKey v b k n pieces) ≡ None) (may : MayCommit all v b k n pieces) where
  abbrev request : Request
  request = CommitKey v b k n pieces

  abbrev session : RowKey
  session = keys.Open v b k n

  abbrev of_key : RowKey
  of_key = keys.Key v b k

  abbrev blocks : List Block
  blocks = blocks_at (all session)

  abbrev made : List Change
  made = changes all v b k n pieces named may

  abbrev last : List Change
  last = gone session ∷ put of_key (rows.Key n pieces) ∷ []

  abbrev older : List Change
  older = deleted v b k (version_at (all of_key))

  abbrev left_over : List Change
  left_over = deleted v b k (unused blocks pieces)

  abbrev now : Rows
  now = after_changes made all

  was_open : OpenRow n (all session)
  was_open = opened all v b k n pieces named may.is

  are : are_pieces_of blocks pieces ≡ true
  are = front (are_pieces_of blocks pieces) _ may.fit

  now_is : (q : RowKey) → ((local : ℕ) → is_same (keys.Deleted v b 0 k local) q ≡ false) → now q ≡ row_after last q (all q)
  now_is q apart = rows_join (older ++ left_over) last q (all q) ∙ ap (row_after last q) (as_before all v b k n pieces named may q apart)

  -- the same, move by move
  abbrev first_rows : Rows
  first_rows = after_changes (gone of_key ∷ older) all

  abbrev second_rows : Rows
  second_rows = after_changes (put session (rows.Open (used blocks pieces)) ∷ left_over) first_rows

  abbrev third_rows : Rows
  third_rows = after_changes last second_rows

  same_rows : (q : RowKey) → third_rows q ≡ now q
  same_rows q = by_tests (is_same of_key q) (is_same session q) ∙ sym (rows_join (older ++ left_over) last q (all q) ∙ ap (row_after last q) (rows_join older left_over q (all q)))
    where
      by_tests : (s t : Bool) → cond s (Some (rows.Key n pieces)) (cond t None (row_after left_over q (cond t (Some (rows.Open (used blocks pieces))) (row_after older q (cond s None (all q)))))) ≡ cond s (Some (rows.Key n pieces)) (cond t None (row_after left_over q (row_after older q (all q))))
      by_tests true t = refl
      by_tests false true = refl
      by_tests false false = refl

  apart_from : (blocks : List Block) (q : RowKey) → ((local : ℕ) → is_same (keys.Deleted v b 0 k local) q ≡ false) → AllByRecursion (λ (change : Change). is_same change.key q ≡ false) (deleted v b k blocks)
  apart_from blocks q apart = deleted_all v b k (λ (change : Change). is_same change.key q ≡ false) (λ local row. apart local) blocks

  first_session : first_rows session ≡ Some (rows.Open blocks)
  first_session = untouched older session (apart_from (version_at (all of_key)) session (λ local. refl)) (all session) ∙ was_open.is

  first_key : first_rows of_key ≡ None
  first_key = untouched older of_key (apart_from (version_at (all of_key)) of_key (λ local. refl)) (cond (is_same of_key of_key) None (all of_key)) ∙ ap (λ (t : Bool). cond t None (all of_key)) (key_itself of_key)

  second_session : second_rows session ≡ Some (rows.Open (used blocks pieces))
  second_session = untouched left_over session (apart_from (unused blocks pieces) session (λ local. refl)) (cond (is_same session session) (Some (rows.Open (used blocks pieces))) (first_rows session)) ∙ ap (λ (t : Bool). cond t (Some (rows.Open (used blocks pieces))) (first_rows session)) (key_itself session)

  second_key : second_rows of_key ≡ None
  second_key = untouched left_over of_key (apart_from (unused blocks pieces) of_key (λ local. refl)) (first_rows of_key) ∙ first_key

  pub all_goes : IsSoundButRenames all → AreInGrammar all → Goes all now
  all_goes sound fit =
      let one = version_goes all v b k n pieces named sound fit (version_fits (all session) (all of_key) pieces may.fit) in
      let two = unused_goes first_rows v b k n pieces named one.sound one.fit blocks first_session (session_fits all v b k n pieces named may.is) was_open.blocks_fit in
      let three = session_goes second_rows v b k n pieces two.sound two.fit blocks second_session second_key are (key_fits all v b k n pieces named may.is may.fit) in
      let all_three = goes_on all first_rows third_rows one (goes_on first_rows second_rows third_rows two three) in
      subst (Goes all) (λ i q. same_rows q i) all_three

  module _ (namespace : Namespace) (stand : Stand IsSoundButRenames all namespace) where
    abbrev old : Bucket
    old = bucket_at namespace v b

    abbrev new : Bucket
    new = committed old k n pieces

    key_now : (q : List ℕ) → now (keys.Key v b q) ≡ cond (is_same of_key (keys.Key v b q)) (Some (rows.Key n pieces)) (all (keys.Key v b q))
    key_now q = now_is (keys.Key v b q) (λ local. refl)

    open_now : (q : List ℕ) (m : ℕ) → now (keys.Open v b q m) ≡ cond (is_same session (keys.Open v b q m)) None (all (keys.Open v b q m))
    open_now q m = now_is (keys.Open v b q m) (λ local. refl)

    name_is : (q : List ℕ) (t : Bool) → is_same of_key (keys.Key v b q) ≡ t → is_name q k ≡ t
    name_is q true e =
        let same = same_is_one of_key (keys.Key v b q) e in
        let key : k ≡ q = cc in
        ap (λ x. is_name x k) (sym key) ∙ itself k
    name_is q false e = by_test (is_name q k) refl
      where
        by_test : (t : Bool) → is_name q k ≡ t → t ≡ false
        by_test false f = refl
        by_test true f = absurd (false≢true (sym e ∙ ap (λ x. is_same of_key (keys.Key v b x)) (one_name q k f) ∙ key_itself of_key))

    pieces_now : (q : List ℕ) → get new.keys q ≡ pieces_in (now (keys.Key v b q))
    pieces_now q =
        get-insert nat_list_cmp_total old.keys k pieces q
        ∙ ap (λ (t : Bool). cond t (Some pieces) (get old.keys q)) (name_is q (is_same of_key (keys.Key v b q)) refl)
        ∙ by_test (is_same of_key (keys.Key v b q))
        ∙ ap pieces_in (sym (key_now q))
      where
        by_test : (t : Bool) → cond t (Some pieces) (get old.keys q) ≡ pieces_in (cond t (Some (rows.Key n pieces)) (all (keys.Key v b q)))
        by_test true = refl
        by_test false = sym (pieces_at (bucket_of namespace v b) q) ∙ stand.stands.pieces v b q

    was : get old.sessions n ≡ Some (record { key = k; blocks = blocks })
    was = session_is all v b namespace stand k n may.is.session_there

    sessions_now : (m : ℕ) (s : Session) → (get new.sessions m ≡ Some s) ↔ (now (keys.Open v b s.key m) ≡ Some (rows.Open s.blocks))
    sessions_now m s =
        let both = sessions_stand all v b k n old.sessions new.sessions blocks None (session_stands all v b namespace stand) was (λ m. get-remove nat_cmp_total old.sessions n m) m s in
        (λ g. open_now s.key m ∙ both.0 g, λ g. both.1 (sym (open_now s.key m) ∙ g))

    becomes : Becomes all now namespace v b new
    becomes = record {
      bucket_row = now_is (keys.Bucket v b) (λ local. refl);
      others = λ key is. outside v b made (all_append (λ (change : Change). bucket_of_row change.key ≡ Some (v, b)) (older ++ left_over) last (left_all v b k (λ (change : Change). bucket_of_row change.key ≡ Some (v, b)) (λ local row. refl) (all of_key) (all session) pieces) (refl, (refl, tt))) key is (all key);
      pieces = pieces_now;
      sessions = sessions_now;
      snapshots = refl;
      snapshot_rows = λ w c m. now_is (keys.Snapshot w c m) (λ local. refl);
      snapshot_keys = λ w c m q. now_is (keys.SnapshotKey w c m q) (λ local. refl);
      stripes = λ m. now_is (keys.Stripe m) (λ local. refl);
    }

    -- the session is gone
    differs : with_volume namespace v (insert (buckets_at namespace v) b new) ≡ namespace → ⊥
    differs e =
        let there = ap (λ (x : Bucket). get x.sessions n) (sym (bucket_put namespace v b new) ∙ ap (λ (x : Namespace). bucket_at x v b) e) in
        let here = get-remove nat_cmp_total old.sessions n n ∙ ap (λ (t : Bool). cond t None (get old.sessions n)) (number_itself n) in
        false≢true (ap is_some (sym here ∙ there ∙ was))

    pub meets : Answers namespace request replies.Done → Meets IsSoundButRenames all namespace request replies.Done (bytes_of made) made
    unfolding after
    meets answers =
        let safe = is_safe all v b k n pieces named may stand.fit in
        let goes = all_goes stand.sound stand.fit in
        let effect : after namespace request replies.Done ≡ with_volume namespace v (insert (buckets_at namespace v) b new) = has_buckets namespace v (insert (buckets_at namespace v) b new) in
        record {
          answers = answers;
          batch = safe.batch;
          leads = record {
            fit = safe.fit;
            stands = subst (StandsFor now) (sym effect) (becomes_bucket all now namespace v b new stand may.is.bucket_there becomes);
            sound = goes.sound;
          };
          blocks = record { none_lost = λ block had. inl (goes.lost block had); none_made = λ block has. inl (goes.made block has) };
          keeps = λ nothing. absurd (differs (sym effect ∙ nothing.0));
        }

    pub renames_stay : RenamesAreSound all → RenamesAreSound now
    renames_stay = (all_goes stand.sound stand.fit).renames
