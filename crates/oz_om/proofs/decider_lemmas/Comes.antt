-- Where the rows come from that a decision leaves on volumes, buckets, keys and sessions.
use Rattle.std.proofs.Common.{◌≡◌, ◌⊎◌, ⊎_elim, inl, inr, ℕ, Bool, true, false, not, ◌||◌, nat_le, nat_lt, List, [], ◌∷◌, ◌++◌, map, filter, Option, None, Some, cond, refl, sym, ◌∙◌, ap, subst}
use mathlib.Core.Bool.{false≢true}
use Rattle.std.proofs.lemmas.List.Folds.{list_any-append}
use Rattle.std.proofs.lemmas.Option.{none-some, same_Some}
use Rattle.std.specs.List.{AllByRecursion, flat_map, list_any}
use Rattle.oz_om.specs.declared.decider.decider.Decider.{Decider}
use Rattle.oz_om.specs.declared.decider.decider.Decider.TheVariants as deciders
use Rattle.oz_om.specs.decider.Records.{AreRecordedBy}
use Rattle.oz_decision.specs.Meets.{Stand, granted_in}
use Rattle.oz_decision.specs.Sessions.{blocks_at}
use Rattle.oz_decision.specs.Versions.{deleted, version_at}
use Rattle.oz_decision.specs.laws.Refusing.{not_refused, passed}
use Rattle.oz_decision.specs.laws.SessionRows.{all_append, back, front}
use Rattle.oz_decision.specs.laws.Sessions.{blocks_are, row_tells}
use Rattle.oz_decision.specs.laws.Versions.{one_block}
use Rattle.oz_effects.specs.Effects.{closed, freed, is_in_a_key, operation_changes}
use Rattle.oz_fields.specs.declared.block.Block.{Block}
use Rattle.oz_fields.specs.declared.block.Piece.{Piece}
use Rattle.oz_model.specs.Answers.{Answers}
use Rattle.oz_model.specs.Buckets.{are_pieces_of, bucket_at, has_block, has_session, is_piece_of, session_blocks}
use Rattle.oz_model.specs.Reach.{blocks_of as blocks_of_pieces}
use Rattle.oz_model.specs.Refusals.{refusal, refusals}
use Rattle.oz_model.specs.Scope.{scope_of}
use Rattle.oz_namespace.specs.declared.namespace.Namespace.{Namespace}
use Rattle.oz_om_bucket.specs.Records.{changes_for, recorded_changes}
use Rattle.oz_om_key.specs.om_change.Noting.{noted}
use Rattle.oz_om_key.specs.om_change.Records.{AreChangesOf, moved}
use Rattle.oz_om_key.specs.om_change.Records.{AreRecorded as AreChanged}
use Rattle.oz_om_session.specs.om_open.Records.{AreExpired, changes_of_create}
use Rattle.oz_om_session.specs.om_open.Records.{AreRecorded as AreOpened}
use Rattle.oz_om_session.specs.Records.{changes_of_commit, changes_of_grant, recorded_commit, recorded_grant, unused}
use Rattle.oz_reclaim.specs.Origins.{HasSource, IsSource, RowsComeFrom}
use Rattle.oz_reclaim.specs.laws.Origins.{Gives, was_or_given}
use Rattle.oz_requests.specs.declared.reply.Reply.{Reply}
use Rattle.oz_requests.specs.declared.reply.Reply.TheVariants as replies
use Rattle.oz_requests.specs.declared.request.Request.{Request}
use Rattle.oz_requests.specs.declared.request.Request.TheVariants.{CreateVolume, DeleteVolume, CreateBucket, DeleteBucket}
use Rattle.oz_requests.specs.declared.request.Request.TheVariants.{CreateKey, AllocateBlock, CommitKey, DeleteKey, RenameKey, ExpireOpen}
use Rattle.oz_rows.specs.declared.entry.RowEntry.{RowEntry}
use Rattle.oz_rows.specs.declared.key.RowKey.{RowKey}
use Rattle.oz_rows.specs.declared.key.RowKey.TheVariants as keys
use Rattle.oz_rows.specs.declared.operation.Change.{Change}
use Rattle.oz_rows.specs.declared.operation.Operation.TheVariants.{DropOpen}
use Rattle.oz_rows.specs.declared.row.Row.{Row}
use Rattle.oz_rows.specs.declared.row.Row.TheVariants as rows
use Rattle.oz_rows.specs.RowMaps.{Rows, AreRows, after_changes, gone, is_block, is_bucket, put, row_of}
use Rattle.oz_sound.specs.Sound.{IsSoundButRenames, StandsIn, blocks_of}
use Rattle.oz_sound.specs.stripes.laws.Lists.{each_found}
use Rattle.oz_om.proofs.decider_lemmas.Choice.{is_by_rows}
use Rattle.oz_om.proofs.decider_lemmas.Noted.{in_kept, noted_each}

-- ---- what changes give

pub gone_gives : (P : RowKey → Row → Type 0) (key : RowKey) → Gives P (gone key)
gone_gives P key row e = absurd (none-some row e)

pub put_gives : (P : RowKey → Row → Type 0) (key : RowKey) (row : Row) → P key row → Gives P (put key row)
put_gives P key row holds other e = subst (P key) (same_Some row other e) holds

-- what each row of a list gives
pub each_gives : (P : Change → Type 0) (all : Rows) (give : RowKey → Row → List Change) → ((key : RowKey) (row : Row) → all key ≡ Some row → AllByRecursion P (give key row))
    → (l : List RowEntry) → AllByRecursion (λ (entry : RowEntry). all entry.key ≡ Some entry.row) l → AllByRecursion P (flat_map (λ (entry : RowEntry). give entry.key entry.row) l)
each_gives P all give its [] found = tt
each_gives P all give its (entry ∷ l) found = all_append P (give entry.key entry.row) _ (its entry.key entry.row found.0) (each_gives P all give its l found.1)

pub found_in : (all : Rows) (entries : List RowEntry) → AreRows entries all → AllByRecursion (λ (entry : RowEntry). all entry.key ≡ Some entry.row) entries
found_in all entries are =
    let same : row_of entries ≡ all = λ i key. are.rows_are key i in
    subst (λ (r : Rows). AllByRecursion (λ (entry : RowEntry). r entry.key ≡ Some entry.row) entries) same (each_found entries are.in_order)

module _ (all : Rows) (granted : Option Block) where
  -- a block of a key or a session, or the one that is granted
  abbrev HasCome : Block → Type 0
  HasCome block = HasSource all block ⊎ (granted ≡ Some block)

  abbrev pub Comes : RowKey → Row → Type 0
  Comes (keys.Deleted v b o k l) row = ((before : ℕ) × (all (keys.Deleted v b before k l) ≡ Some row))
      ⊎ ((block : Block) → list_any (is_block block) (blocks_of row) ≡ true → HasSource all block)
  Comes (keys.Renamed v b o l) row = ((before : ℕ) × (all (keys.Renamed v b before l) ≡ Some row))
      ⊎ ((block : Block) × (key : List ℕ) × (block.local ≡ l) × StandsIn all block (keys.Key v b key))
  Comes (keys.Key v b k) row = (block : Block) → list_any (is_block block) (blocks_of row) ≡ true → HasCome block
  Comes (keys.Open v b k n) row = (block : Block) → list_any (is_block block) (blocks_of row) ≡ true → HasCome block
  Comes key row = Unit {0}

  abbrev pub AllCome : List Change → Type 0
  AllCome changes = AllByRecursion (Gives Comes) changes

  module _ (changes : List Change) (come : AllCome changes) where
    abbrev now : Rows
    now = after_changes changes all

    source : (block : Block) (key : RowKey) → IsSource key → StandsIn now block key → HasCome block
    source block (keys.Key v b k) is stands = ⊎_elim
        (λ was. inl (keys.Key v b k, tt, record { row = stands.row; there = was; has = stands.has }))
        (λ came. came block stands.has)
        (was_or_given Comes changes come (keys.Key v b k) (all (keys.Key v b k)) stands.row stands.there)
    source block (keys.Open v b k n) is stands = ⊎_elim
        (λ was. inl (keys.Open v b k n, tt, record { row = stands.row; there = was; has = stands.has }))
        (λ came. came block stands.has)
        (was_or_given Comes changes come (keys.Open v b k n) (all (keys.Open v b k n)) stands.row stands.there)
    source block key is stands = absurd is

    pub come_from : RowsComeFrom all now granted
    come_from = record {
      deleted = λ v b k o l row e. ⊎_elim (λ was. inl (o, was)) (λ came. came) (was_or_given Comes changes come (keys.Deleted v b o k l) (all (keys.Deleted v b o k l)) row e);
      renamed = λ v b o l row e. ⊎_elim (λ was. inl (o, was)) (λ came. came) (was_or_given Comes changes come (keys.Renamed v b o l) (all (keys.Renamed v b o l)) row e);
      sources = λ block has. source block has.0 has.1 has.2;
    }

  -- ---- volumes and buckets

  of_buckets : (request : Request) → AllCome (changes_for request)
  of_buckets (CreateVolume v) = (put_gives Comes (keys.Volume v) rows.Volume tt, tt)
  of_buckets (DeleteVolume v) = (gone_gives Comes (keys.Volume v), tt)
  of_buckets (CreateBucket v b) = (put_gives Comes (keys.Bucket v b) rows.Bucket tt, tt)
  of_buckets (DeleteBucket v b) = (gone_gives Comes (keys.Bucket v b), tt)
  of_buckets request = tt

  pub buckets_come : (request : Request) (reply : Reply) → AllCome (recorded_changes request reply)
  buckets_come request (replies.Code code) = tt
  buckets_come request reply = of_buckets request

  -- ---- keys

  at_version : (v b k : List ℕ) (row : Option Row) → all (keys.Key v b k) ≡ row → (block : Block) → list_any (is_block block) (version_at row) ≡ true → StandsIn all block (keys.Key v b k)
  at_version v b k None e block has = absurd (false≢true has)
  at_version v b k (Some (rows.Key number pieces)) e block has = record { row = rows.Key number pieces; there = e; has = has }
  at_version v b k (Some row) e block has = absurd (false≢true has)

  in_version : (v b k : List ℕ) (row : Option Row) → all (keys.Key v b k) ≡ row → (block : Block) → list_any (is_block block) (version_at row) ≡ true → HasSource all block
  in_version v b k row e block has = (keys.Key v b k, tt, at_version v b k row e block has)

  in_session : (v b k : List ℕ) (n : ℕ) (row : Option Row) → all (keys.Open v b k n) ≡ row → (block : Block) → list_any (is_block block) (blocks_at row) ≡ true → HasSource all block
  in_session v b k n None e block has = absurd (false≢true has)
  in_session v b k n (Some (rows.Open blocks)) e block has = (keys.Open v b k n, tt, record { row = rows.Open blocks; there = e; has = has })
  in_session v b k n (Some row) e block has = absurd (false≢true has)

  left_come : (v b k : List ℕ) (blocks : List Block) → ((block : Block) → list_any (is_block block) blocks ≡ true → HasSource all block) → AllCome (deleted v b k blocks)
  left_come v b k [] sources = tt
  left_come v b k (first ∷ others) sources = (put_gives Comes (keys.Deleted v b 0 k first.local) (rows.Deleted (first ∷ others)) (inr sources), tt)

  moved_come : (v b k to : List ℕ) (row : Option Row) → all (keys.Key v b k) ≡ row → AllCome (moved (keys.Key v b to) row)
  moved_come v b k to None e = tt
  moved_come v b k to (Some row) e = (put_gives Comes (keys.Key v b to) row (λ block has. inl (keys.Key v b k, tt, record { row = row; there = e; has = has })), tt)

  of_change : (request : Request) (changes : List Change) → AreChangesOf all request changes → AllCome changes
  of_change (DeleteKey v b k) changes is =
      subst AllCome (sym is) (gone_gives Comes (keys.Key v b k), left_come v b k (version_at (all (keys.Key v b k))) (in_version v b k (all (keys.Key v b k)) refl))
  of_change (RenameKey v b k to) changes (numbers, are, is) =
      let row = all (keys.Key v b k) in
      subst AllCome (sym is) (
        gone_gives Comes (keys.Key v b k),
        all_append (Gives Comes) (moved (keys.Key v b to) row) (noted all v b k numbers (version_at row))
            (moved_come v b k to row refl)
            (noted_each (Gives Comes) all v b k numbers (version_at row)
            (λ block has. put_gives Comes (keys.Renamed v b 0 block.local) (rows.Renamed k) (inr (block, k, refl, at_version v b k row refl block has)))),
      )
  of_change request changes is = subst AllCome (sym is) tt

  pub change_comes : (request : Request) (reply : Reply) (changes : List Change) → AreChanged all request reply changes → AllCome changes
  change_comes request replies.Done changes recorded = of_change request changes recorded
  change_comes request reply changes recorded = subst AllCome (sym recorded) tt

  -- ---- sessions

  nothing_comes : (block : Block) → list_any (is_block block) [] ≡ true → HasCome block
  nothing_comes block has = absurd (false≢true has)

  of_create : (request : Request) (number : ℕ) → AllCome (changes_of_create request number)
  of_create (CreateKey v b k) number = (put_gives Comes (keys.Open v b k number) (rows.Open []) nothing_comes, ((λ row e. tt), tt))
  of_create request number = tt

  module _ (entries : List RowEntry) (are : AreRows entries all) (v b : List ℕ) where
    closed_comes : (key : RowKey) → AllCome (closed v b key)
    closed_comes (keys.Open w c k n) = by (is_bucket v b w c)
      where
        by : (t : Bool) → AllCome (cond t (gone (keys.Open v b k n) ∷ []) [])
        by true = (gone_gives Comes (keys.Open v b k n), tt)
        by false = tt
    closed_comes key = tt

    puts_come : (k : List ℕ) (blocks : List Block) → ((block : Block) → list_any (is_block block) blocks ≡ true → HasSource all block) → AllCome (map (λ (block : Block). put (keys.Deleted v b 0 k block.local) (rows.Deleted (block ∷ []))) blocks)
    puts_come k [] sources = tt
    puts_come k (block ∷ blocks) sources = (
      put_gives Comes (keys.Deleted v b 0 k block.local) (rows.Deleted (block ∷ [])) (inr (λ one has. sources one (first (is_block one block) (list_any (is_block one) blocks) has))),
      puts_come k blocks (λ one has. sources one (later (is_block one block) (list_any (is_block one) blocks) has)),
    )
      where
        first : (s t : Bool) → s || false ≡ true → s || t ≡ true
        first true t e = refl
        first false t e = absurd (false≢true e)

        later : (s t : Bool) → t ≡ true → s || t ≡ true
        later true t e = refl
        later false t e = e

    freed_come : (key : RowKey) (row : Row) → all key ≡ Some row → AllCome (freed entries v b key row)
    freed_come (keys.Open w c k n) (rows.Open blocks) there = by (is_bucket v b w c)
      where
        sources : (block : Block) → list_any (is_block block) (filter (λ block. not (is_in_a_key entries block)) blocks) ≡ true → HasSource all block
        sources block has = (keys.Open w c k n, tt, record { row = rows.Open blocks; there = there; has = in_kept (λ block. not (is_in_a_key entries block)) block blocks has })

        by : (t : Bool) → AllCome (cond t (map (λ (block : Block). put (keys.Deleted v b 0 k block.local) (rows.Deleted (block ∷ []))) (filter (λ block. not (is_in_a_key entries block)) blocks)) [])
        by true = puts_come k (filter (λ block. not (is_in_a_key entries block)) blocks) sources
        by false = tt
    freed_come key row there = tt

    dropped_come : AllCome (operation_changes entries (DropOpen v b))
    dropped_come =
        let found = found_in all entries are in
        all_append (Gives Comes) (flat_map (λ (entry : RowEntry). closed v b entry.key) entries) _
        (each_gives (Gives Comes) all (λ key row. closed v b key) (λ key row there. closed_comes key) entries found)
        (each_gives (Gives Comes) all (freed entries v b) freed_come entries found)

  module _ (entries : List RowEntry) (are : AreRows entries all) where
    expired_come : (request : Request) (changes : List Change) → AreExpired all request changes → AllCome changes
    expired_come (ExpireOpen v b) changes expired = subst AllCome (sym (expired entries are)) (dropped_come entries are v b)
    expired_come request changes expired = subst AllCome (sym expired) tt

    pub opened_come : (request : Request) (reply : Reply) (changes : List Change) → AreOpened all request reply changes → AllCome changes
    opened_come request (replies.Session number) changes opened = subst AllCome (sym opened) (of_create request number)
    opened_come request (replies.Count count) changes opened = expired_come request changes opened
    opened_come request reply changes opened = subst AllCome (sym opened) tt

  -- ---- a session's new block

  with_one : (block one : Block) (blocks : List Block) → list_any (is_block one) (blocks ++ block ∷ []) ≡ true → (list_any (is_block one) blocks ≡ true) ⊎ (block ≡ one)
  with_one block one blocks has = by (list_any (is_block one) blocks) refl (is_block one block) refl (sym (list_any-append (is_block one) blocks (block ∷ [])) ∙ has)
    where
      by : (s : Bool) → list_any (is_block one) blocks ≡ s → (t : Bool) → is_block one block ≡ t → s || (t || false) ≡ true → (list_any (is_block one) blocks ≡ true) ⊎ (block ≡ one)
      by true is t same e = inl is
      by false is true same e = inr (sym (one_block one block same))
      by false is false same e = absurd (false≢true e)

  pub of_grant : (request : Request) (block : Block) → granted ≡ Some block → AllCome (changes_of_grant all request block)
  of_grant (AllocateBlock v b k n exclude) block is =
      let session = keys.Open v b k n in (
        put_gives Comes session (rows.Open (blocks_at (all session) ++ block ∷ []))
            (λ one has. ⊎_elim
            (λ was. inl (in_session v b k n (all session) refl one was))
            (λ same. inr (is ∙ ap (λ (x : Block). Some x) same))
            (with_one block one (blocks_at (all session)) has)),
        tt,
      )
  of_grant request block is = tt

  -- ---- a session that becomes a key

  abbrev AreOfSession : Request → Type 0
  AreOfSession (CommitKey v b k n pieces) = (block : Block) → list_any (is_block block) (blocks_of_pieces pieces) ≡ true → list_any (is_block block) (blocks_at (all (keys.Open v b k n))) ≡ true
  AreOfSession request = Unit {0}

  pub of_commit : (request : Request) → AreOfSession request → AllCome (changes_of_commit all request)
  of_commit (CommitKey v b k n pieces) of =
      let version = all (keys.Key v b k) in
      let session = all (keys.Open v b k n) in
      let older = deleted v b k (version_at version) in
      let rest = deleted v b k (unused (blocks_at session) pieces) in
      all_append (Gives Comes) (older ++ rest) _
      (all_append (Gives Comes) older rest
      (left_come v b k (version_at version) (in_version v b k version refl))
      (left_come v b k (unused (blocks_at session) pieces) (λ block has. in_session v b k n session refl block (in_kept _ block (blocks_at session) has))))
      (gone_gives Comes (keys.Open v b k n), (put_gives Comes (keys.Key v b k) (rows.Key n pieces) (λ block has. inl (in_session v b k n session refl block (of block has))), tt))
  of_commit request of = tt

-- pieces that are allowed stand in blocks of the session
pieces_in : (blocks : List Block) (pieces : List Piece) → are_pieces_of blocks pieces ≡ true → (block : Block) → list_any (is_block block) (blocks_of_pieces pieces) ≡ true → list_any (is_block block) blocks ≡ true
pieces_in blocks [] are block has = absurd (false≢true has)
pieces_in blocks (piece ∷ pieces) are block has =
    by (is_block block piece.block) refl (pieces_in blocks pieces (back (is_piece_of blocks piece pieces) (are_pieces_of blocks pieces) are) block) has
  where
    first : is_piece_of blocks piece pieces ≡ true
    first = front (is_piece_of blocks piece pieces) (are_pieces_of blocks pieces) are

    by : (t : Bool) → is_block block piece.block ≡ t → (list_any (is_block block) (blocks_of_pieces pieces) ≡ true → list_any (is_block block) blocks ≡ true)
        → t || list_any (is_block block) (blocks_of_pieces pieces) ≡ true → list_any (is_block block) blocks ≡ true
    by true same later e = subst (λ (x : Block). list_any (is_block x) blocks ≡ true) (sym (one_block block piece.block same))
        (front (has_block blocks piece.block) (not (has_block (blocks_of_pieces pieces) piece.block)) (front _ (nat_lt 0 piece.length) (front _ (nat_le piece.length 65536) first)))
    by false other later e = later e

is_so : (t : Bool) → not t ≡ false → t ≡ true
is_so true e = refl
is_so false e = absurd (false≢true (sym e))

pub grant_comes : (all : Rows) (request : Request) (reply : Reply) → AllCome all (granted_in reply) (recorded_grant all request reply)
grant_comes all request (replies.Granted block pipeline) = of_grant all (Some block) request block refl
grant_comes all request reply = tt

module _ (all : Rows) (namespace : Namespace) (stand : Stand IsSoundButRenames all namespace) where
  pub of_session : (request : Request) → Answers namespace request replies.Done → AreOfSession all None request
  unfolding Answers
  of_session (CommitKey v b k n pieces) answers =
      let request = CommitKey v b k n pieces in
      let scope = scope_of namespace v in
      let none = not_refused (refusal scope request) replies.Done replies.Done (λ code e. absurd (cc)) answers in
      let tests = passed (refusals scope request) none in
      let opened = sym (row_tells all v b namespace stand k n) ∙ is_so (has_session (bucket_at namespace v b) k n) tests.1.1.1.1.1.0 in
      let are = is_so (are_pieces_of (session_blocks (bucket_at namespace v b) n) pieces) tests.1.1.1.1.1.1.0 in
      pieces_in (blocks_at (all (keys.Open v b k n))) pieces
      (subst (λ (l : List Block). are_pieces_of l pieces ≡ true) (blocks_are all v b namespace stand k n opened) are)
  of_session request answers = tt

  pub commit_comes : (request : Request) (reply : Reply) → Answers namespace request reply → AllCome all (granted_in reply) (recorded_commit all request reply)
  commit_comes request replies.Done answers = of_commit all None request (of_session request answers)
  commit_comes request reply answers = tt

  -- what is written row by row
  pub recorded_comes : (decider : Decider) (request : Request) (reply : Reply) (bytes : List ℕ) (changes : List Change) → is_by_rows decider ≡ true → Answers namespace request reply → AreRecordedBy decider all request reply bytes changes → AllCome all (granted_in reply) changes
  recorded_comes deciders.Buckets request reply bytes changes by answers recorded = subst (AllCome all (granted_in reply)) (sym recorded) (buckets_come all (granted_in reply) request reply)
  recorded_comes deciders.Reading request reply bytes changes by answers recorded = subst (AllCome all (granted_in reply)) (sym recorded) tt
  recorded_comes deciders.Changing request reply bytes changes by answers recorded = change_comes all (granted_in reply) request reply changes recorded
  recorded_comes deciders.Granting request reply bytes changes by answers recorded = subst (AllCome all (granted_in reply)) (sym recorded) (grant_comes all request reply)
  recorded_comes deciders.Committing request reply bytes changes by answers recorded = subst (AllCome all (granted_in reply)) (sym recorded) (commit_comes request reply answers)
  recorded_comes decider request reply bytes changes by answers recorded = absurd (false≢true by)
