-- What the deletion of a key does to the rows, and to the namespace for which they stand.
use Rattle.std.proofs.Common.{◌≡◌, ◌↔◌, ℕ, Bool, true, false, List, ◌∷◌, None, Some, is_some, cond, refl, sym, ◌∙◌, ap, subst, inl}
use mathlib.Core.Bool.{false≢true}
use Rattle.std.proofs.lemmas.Cmp.{nat_list_cmp_total}
use Rattle.std.specs.FinMap.{get, insert, remove, get-remove}
use Rattle.oz_namespace.specs.declared.namespace.Bucket.{Bucket}
use Rattle.oz_namespace.specs.declared.namespace.Namespace.{Namespace}
use Rattle.oz_namespace.specs.declared.namespace.Session.{Session}
use Rattle.oz_namespace.specs.Namespace.{with_volume}
use Rattle.oz_model.specs.Answers.{Answers, after}
use Rattle.oz_model.specs.Buckets.{buckets_at, bucket_at, with_keys}
use Rattle.oz_model.specs.laws.Scopes.{has_buckets}
use Rattle.oz_requests.specs.declared.reply.Reply.TheVariants as replies
use Rattle.oz_requests.specs.declared.request.Request.{Request}
use Rattle.oz_requests.specs.declared.request.Request.TheVariants.{DeleteKey}
use Rattle.oz_requests.specs.Names.{name_fault}
use Rattle.oz_rows.specs.declared.key.RowKey.{RowKey}
use Rattle.oz_rows.specs.declared.key.RowKey.TheVariants as keys
use Rattle.oz_rows.specs.declared.operation.Change.{Change}
use Rattle.oz_rows.specs.declared.row.Row.TheVariants as rows
use Rattle.oz_rows.specs.RowMaps.{Rows, is_same, gone, after_changes}
use Rattle.oz_sound.specs.Sound.{bucket_of_row, IsSoundButRenames, RenamesAreSound}
use Rattle.oz_sound.specs.StandsFor.{StandsFor, pieces_in}
use Rattle.oz_sound.specs.laws.BucketChanges.{itself}
use Rattle.oz_decision.specs.Meets.{Stand, Meets}
use Rattle.oz_decision.specs.Versions.{deleted, version_at}
use Rattle.oz_decision.specs.laws.Sessions.{session_stands}
use Rattle.oz_decision.specs.laws.Shown.{bucket_put}
use Rattle.oz_om_key.specs.om_change.Keys.{IsKey}
use Rattle.oz_om_key.proofs.om_change_lemmas.KeyRows.{KeyRow, its_row, blocks_fit}
use Rattle.oz_om_key.proofs.om_change_lemmas.Seen.{pieces_are}
use Rattle.oz_om_key.proofs.om_change_lemmas.Batches.{bytes_of, untouched, deleted_all, deletion_follows}
use Rattle.oz_om_key.proofs.om_change_lemmas.Moves.{Goes, deletion_goes, deletion_keeps_renames}
use Rattle.oz_om_key.proofs.om_change_lemmas.Becoming.{Becomes, becomes_bucket, outside, name_is}

module _ (all : Rows) (v b k : List ℕ) (named : name_fault (DeleteKey v b k) ≡ None) (is : IsKey all v b k) where
  abbrev request : Request
  request = DeleteKey v b k

  abbrev of_key : RowKey
  of_key = keys.Key v b k

  abbrev made : List Change
  made = gone of_key ∷ deleted v b k (version_at (all of_key))

  abbrev now : Rows
  now = after_changes made all

  it : KeyRow (all of_key)
  it = its_row all v b k is

  now_is : (q : RowKey) → ((local : ℕ) → is_same (keys.Deleted v b 0 k local) q ≡ false) → now q ≡ cond (is_same of_key q) None (all q)
  now_is q apart = untouched (deleted v b k (version_at (all of_key))) q (deleted_all v b k (λ (change : Change). is_same change.key q ≡ false) (λ local row. apart local) (version_at (all of_key))) (cond (is_same of_key q) None (all q))

  module _ (namespace : Namespace) (stand : Stand IsSoundButRenames all namespace) where
    abbrev old : Bucket
    old = bucket_at namespace v b

    abbrev new : Bucket
    new = with_keys old (remove old.keys k)

    pieces_now : (q : List ℕ) → get new.keys q ≡ pieces_in (now (keys.Key v b q))
    pieces_now q =
        get-remove nat_list_cmp_total old.keys k q
        ∙ ap (λ (t : Bool). cond t None (get old.keys q)) (name_is v b k q (is_same of_key (keys.Key v b q)) refl)
        ∙ by_test (is_same of_key (keys.Key v b q))
        ∙ ap pieces_in (sym (now_is (keys.Key v b q) (λ local. refl)))
      where
        by_test : (t : Bool) → cond t None (get old.keys q) ≡ pieces_in (cond t None (all (keys.Key v b q)))
        by_test true = refl
        by_test false = pieces_are all v b namespace stand q

    sessions_now : (m : ℕ) (s : Session) → (get new.sessions m ≡ Some s) ↔ (now (keys.Open v b s.key m) ≡ Some (rows.Open s.blocks))
    sessions_now m s =
        let both = session_stands all v b namespace stand m s in
        let same = now_is (keys.Open v b s.key m) (λ local. refl) in
        (λ g. same ∙ both.0 g, λ g. both.1 (sym same ∙ g))

    becomes : Becomes all now namespace v b new
    becomes = record {
      bucket_row = now_is (keys.Bucket v b) (λ local. refl);
      others = λ key is. outside v b made (refl, deleted_all v b k (λ (change : Change). bucket_of_row change.key ≡ Some (v, b)) (λ local row. refl) (version_at (all of_key))) key is (all key);
      pieces = pieces_now;
      sessions = sessions_now;
      snapshots = refl;
      snapshot_rows = λ w c m. now_is (keys.Snapshot w c m) (λ local. refl);
      snapshot_keys = λ w c m q. now_is (keys.SnapshotKey w c m q) (λ local. refl);
      stripes = λ m. now_is (keys.Stripe m) (λ local. refl);
    }

    -- the key is gone
    differs : with_volume namespace v (insert (buckets_at namespace v) b new) ≡ namespace → ⊥
    differs e =
        let there = ap (λ (x : Bucket). get x.keys k) (sym (bucket_put namespace v b new) ∙ ap (λ (x : Namespace). bucket_at x v b) e) in
        let here = get-remove nat_list_cmp_total old.keys k k ∙ ap (λ (t : Bool). cond t None (get old.keys k)) (itself k) in
        false≢true (ap is_some (sym here ∙ there ∙ pieces_are all v b namespace stand k ∙ ap pieces_in it.is))

    goes : Goes all now
    goes = deletion_goes all v b k named stand.sound stand.fit it.number (blocks_fit all v b k is) it.pieces it.is

    pub meets : Answers namespace request replies.Done → Meets IsSoundButRenames all namespace request replies.Done (bytes_of made) made
    unfolding after
    meets answers =
        let safe = (deletion_follows all v b k named is).safe stand.fit in
        let effect : after namespace request replies.Done ≡ with_volume namespace v (insert (buckets_at namespace v) b new) = has_buckets namespace v (insert (buckets_at namespace v) b new) in
        record {
          answers = answers;
          batch = safe.batch;
          leads = record {
            fit = safe.fit;
            stands = subst (StandsFor now) (sym effect) (becomes_bucket all now namespace v b new stand is.bucket_there becomes);
            sound = goes.sound;
          };
          blocks = record { none_lost = λ block had. inl (goes.lost block had); none_made = λ block has. inl (goes.made block has) };
          keeps = λ nothing. absurd (differs (sym effect ∙ nothing.0));
        }

    pub renames_stay : RenamesAreSound all → RenamesAreSound now
    renames_stay = deletion_keeps_renames all v b k named stand.sound stand.fit it.number (blocks_fit all v b k is) it.pieces it.is
