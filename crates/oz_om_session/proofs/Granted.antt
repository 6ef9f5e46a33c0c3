-- What a grant does to the rows of a session, and to the namespace for which they stand.
use Rattle.std.proofs.Common.{◌≡◌, ℕ, Bool, List, [], ◌∷◌, ◌++◌, length, None, Some, cond, refl, sym, ◌∙◌, ap, subst, arith, inl}
use Rattle.std.proofs.lemmas.Cmp.{nat_cmp_total}
use Rattle.std.specs.FinMap.{get, insert, get-insert}
use Rattle.oz_fields.specs.declared.block.Block.{Block}
use Rattle.oz_namespace.specs.declared.namespace.Bucket.{Bucket}
use Rattle.oz_namespace.specs.declared.namespace.Session.{Session}
use Rattle.oz_namespace.specs.Namespace.{bucket_of, with_volume}
use Rattle.oz_model.specs.Answers.{Answers, after}
use Rattle.oz_model.specs.Buckets.{buckets_at, session_blocks, blocks_or_none, with_session}
use Rattle.oz_model.specs.laws.Scopes.{has_buckets}
use Rattle.oz_requests.specs.declared.reply.Reply.TheVariants as replies
use Rattle.oz_rows.specs.declared.key.RowKey.{RowKey}
use Rattle.oz_rows.specs.declared.operation.Change.{Change}
use Rattle.oz_rows.specs.declared.row.Row.TheVariants as rows
use Rattle.oz_rows.specs.Operations.{batch_bytes}
use Rattle.oz_rows.specs.RowMaps.{put, after_changes}
use Rattle.oz_rows.specs.Rows.{IsBlock}
use Rattle.oz_sound.specs.Sound.{StandsIn, RenamesAreSound}
use Rattle.oz_sound.specs.StandsFor.{StandsFor}
use Rattle.oz_decision.specs.Drafts.{row_by_row}
use Rattle.oz_decision.specs.Meets.{Meets}
use Rattle.oz_sound.specs.frames.Moves.{BlocksMove, NamesStay}
use Rattle.oz_sound.specs.frames.laws.Bare.{bare_stripes}
use Rattle.oz_sound.specs.frames.laws.Granting.{block_is_granted}
use Rattle.oz_sound.specs.frames.laws.Moving.{sound_moved, blocks_kept, renames_moved}
use Rattle.oz_om_session.specs.Sessions.{HasRoom}
use Rattle.oz_decision.specs.laws.SessionRows.{OpenRow, size_with_one}
use Rattle.oz_om_session.proofs.Becoming.{Becomes, becomes_bucket, outside}
use Rattle.oz_decision.specs.laws.Shown.{sessions_stand, is_number, number_itself, session_with, pieces_at, bucket_put}
use Rattle.oz_namespace.specs.declared.namespace.Namespace.{Namespace}
use Rattle.oz_model.specs.Buckets.{bucket_at}
use Rattle.oz_requests.specs.declared.request.Exclude.{Exclude}
use Rattle.oz_requests.specs.declared.request.Request.{Request}
use Rattle.oz_requests.specs.declared.request.Request.TheVariants.{AllocateBlock}
use Rattle.oz_requests.specs.Names.{name_fault}
use Rattle.oz_rows.specs.declared.key.RowKey.TheVariants as keys
use Rattle.oz_rows.specs.RowMaps.{Rows}
use Rattle.oz_sound.specs.Sound.{IsSoundButRenames}
use Rattle.oz_decision.specs.Meets.{Stand}
use Rattle.oz_decision.specs.Sessions.{blocks_at}
use Rattle.oz_decision.specs.laws.Sessions.{blocks_are, session_is, session_stands}
use Rattle.oz_om_session.proofs.Granting.{is_safe, opened}

module _ (all : Rows) (v b k : List ℕ) (n : ℕ) (exclude : Exclude) (named : name_fault (AllocateBlock v b k n exclude) ≡ None) (room : HasRoom all v b k n) (block : Block) (fits : IsBlock block) where
  abbrev request : Request
  request = AllocateBlock v b k n exclude

  abbrev session : RowKey
  session = keys.Open v b k n

  abbrev blocks : List Block
  blocks = blocks_at (all session)

  abbrev more : List Block
  more = blocks ++ block ∷ []

  abbrev changes : List Change
  changes = put session (rows.Open more) ∷ []

  abbrev was_open : OpenRow n (all session)
  was_open = opened all v b k n exclude named room block fits

  module _ (namespace : Namespace) (stand : Stand IsSoundButRenames all namespace) (fresh : (twin : Block) (key : RowKey) → StandsIn all twin key → twin.local ≡ block.local → ⊥) where
    abbrev now : Rows
    now = after_changes changes all

    moves : BlocksMove all now (Some block)
    moves = block_is_granted all v b k n blocks block (record { session = was_open.is; fresh = fresh; bare = bare_stripes all stand.fit }) stand.sound

    abbrev old : Bucket
    old = bucket_at namespace v b

    abbrev new : Bucket
    new = with_session old n k (session_blocks old n ++ block ∷ [])

    was : get old.sessions n ≡ Some (record { key = k; blocks = blocks })
    was = session_is all v b namespace stand k n room.is.session_there

    grown : session_blocks old n ++ block ∷ [] ≡ more
    grown = ap (λ l. l ++ block ∷ []) (blocks_are all v b namespace stand k n room.is.session_there)

    session_now : Session
    session_now = record { key = k; blocks = session_blocks old n ++ block ∷ [] }

    becomes : Becomes all now namespace v b new
    becomes = record {
      bucket_row = refl;
      others = λ key is. outside v b changes (refl, tt) key is (all key);
      pieces = λ q. sym (pieces_at (bucket_of namespace v b) q) ∙ stand.stands.pieces v b q;
      sessions = sessions_stand all v b k n old.sessions new.sessions blocks (Some more) (session_stands all v b namespace stand) was
          (λ m. get-insert nat_cmp_total old.sessions n (record { key = k; blocks = session_blocks old n ++ block ∷ [] }) m ∙ ap (λ (l : List Block). cond (is_number m n) (session_with k (Some l)) (get old.sessions m)) grown);
      snapshots = refl;
      snapshot_rows = λ w c m. refl;
      snapshot_keys = λ w c m q. refl;
      stripes = λ m. refl;
    }

    -- the session has one block more
    differs : with_volume namespace v (insert (buckets_at namespace v) b new) ≡ namespace → ⊥
    differs e =
        let there = ap (λ (x : Bucket). session_blocks x n) (sym (bucket_put namespace v b new) ∙ ap (λ (x : Namespace). bucket_at x v b) e) in
        let here = ap blocks_or_none (get-insert nat_cmp_total old.sessions n (record { key = k; blocks = session_blocks old n ++ block ∷ [] }) n ∙ ap (λ (t : Bool). cond t (session_with k (Some (session_blocks old n ++ block ∷ []))) (get old.sessions n)) (number_itself n)) in
        let size = size_with_one (session_blocks old n) block in
        let same = ap length (sym here ∙ there) in
        omega (arith, size, same)

    pub meets : (pipeline : ℕ) → Answers namespace request (replies.Granted block pipeline) → Meets IsSoundButRenames all namespace request (replies.Granted block pipeline) (batch_bytes (row_by_row changes)) changes
    unfolding after
    meets pipeline answers =
        let safe = is_safe all v b k n exclude named room block fits stand.fit in
        let effect : after namespace request (replies.Granted block pipeline) ≡ with_volume namespace v (insert (buckets_at namespace v) b new) = has_buckets namespace v (insert (buckets_at namespace v) b new) in
        record {
          answers = answers;
          batch = safe.batch;
          leads = record {
            fit = safe.fit;
            stands = subst (StandsFor now) (sym effect) (becomes_bucket all now namespace v b new stand room.is.bucket_there becomes);
            sound = sound_moved all now (Some block) moves stand.sound;
          };
          blocks = blocks_kept all now (Some block) moves;
          keeps = λ nothing. absurd (differs (sym effect ∙ nothing.0));
        }

    -- no block of a key changed
    pub names_stay : NamesStay all now
    names_stay w c q x stands = inl (record { row = stands.row; there = stands.there; has = stands.has })

    pub renames_stay : RenamesAreSound all → RenamesAreSound now
    renames_stay = renames_moved all now (Some block) moves stand.sound names_stay
