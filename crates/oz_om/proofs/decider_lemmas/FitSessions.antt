-- The operations of a decision keep the rules of the grammar: those of sessions.
use Rattle.std.proofs.Common.{◌≡◌, ◌≤◌, ℕ, Bool, true, false, List, [], ◌∷◌, ◌++◌, length, Option, None, Some, cond, refl, sym, ap, subst, arith}
use Rattle.std.specs.List.{AllByRecursion, filter}
use Rattle.oz_decision.specs.Drafts.{operation_for}
use Rattle.oz_decision.specs.Meets.{AreInGrammar}
use Rattle.oz_decision.specs.Sessions.{blocks_at}
use Rattle.oz_decision.specs.Versions.{version_at, deleted}
use Rattle.oz_decision.specs.laws.Refusing.{volume_fits, bucket_fits}
use Rattle.oz_decision.specs.laws.SessionRows.{all_append, open_row, row_is_open}
use Rattle.oz_decision.specs.laws.Shown.{key_itself}
use Rattle.oz_fields.specs.declared.block.Block.{Block}
use Rattle.oz_names.specs.Names.{stripe_of}
use Rattle.oz_om_session.specs.om_open.Records.{changes_of_create, operations_for, AreRecorded as AreOpened}
use Rattle.oz_om_session.specs.Records.{unused, changes_of_grant, changes_of_commit, recorded_grant, recorded_commit}
use Rattle.oz_requests.specs.declared.reply.Reply.{Reply}
use Rattle.oz_requests.specs.declared.reply.Reply.TheVariants as replies
use Rattle.oz_requests.specs.declared.request.Request.{Request}
use Rattle.oz_requests.specs.declared.request.Request.TheVariants.{CreateKey, AllocateBlock, CommitKey, ExpireOpen}
use Rattle.oz_requests.specs.Names.{bucket_named, name_fault}
use Rattle.oz_rows.specs.declared.key.RowKey.TheVariants as keys
use Rattle.oz_rows.specs.declared.operation.Change.{Change}
use Rattle.oz_rows.specs.declared.row.Row.{Row}
use Rattle.oz_rows.specs.declared.row.Row.TheVariants as values
use Rattle.oz_rows.specs.Operations.{AreOperations, OperationFits}
use Rattle.oz_rows.specs.RowMaps.{Rows, put, gone, after_changes}
use Rattle.oz_rows.specs.Rows.{AreItems, IsBlock, RowFits}
use Rattle.oz_om.proofs.decider_lemmas.Fits.{is_code, none_fit, each_fits, only_fits, last_fits, key_fits, version_fits, left_fit}

-- of blocks that fit, those fit that are picked out
kept_size : (test : Block → Bool) (l : List Block) → length (filter test l) ≤ length l
kept_size test [] = omega arith
kept_size test (x ∷ l) = by_test (test x) (kept_size test l)
  where
    by_test : (t : Bool) → length (filter test l) ≤ length l → length (cond t (x ∷ filter test l) (filter test l)) ≤ length (x ∷ l)
    by_test true few = omega (arith, few)
    by_test false few = omega (arith, few)

kept_all : (test : Block → Bool) (l : List Block) → AllByRecursion IsBlock l → AllByRecursion IsBlock (filter test l)
kept_all test [] all = tt
kept_all test (x ∷ l) all = by_test (test x) (kept_all test l all.1)
  where
    by_test : (t : Bool) → AllByRecursion IsBlock (filter test l) → AllByRecursion IsBlock (cond t (x ∷ filter test l) (filter test l))
    by_test true later = (all.0, later)
    by_test false later = later

kept_fit : (test : Block → Bool) (l : List Block) → AreItems IsBlock l → AreItems IsBlock (filter test l)
kept_fit test l fit = let few = kept_size test l in ((let most = fit.0 in omega (arith, few, most)), kept_all test l fit.1)

abbrev IsFit : Change → Type 0
IsFit change = OperationFits (operation_for change.key change.row)

module _ (rows : Rows) where
  of_grant : (request : Request) (block : Block) → AreInGrammar (after_changes (changes_of_grant rows request block) rows) → AreOperations (operations_for request (changes_of_grant rows request block))
  of_grant (AllocateBlock v b k n exclude) block after = (only_fits rows (keys.Open v b k n) _ after, tt)
  of_grant request block after = none_fit request

  pub grant_fit : (request : Request) (reply : Reply) → AreInGrammar (after_changes (recorded_grant rows request reply) rows) → AreOperations (operations_for request (recorded_grant rows request reply))
  grant_fit request (replies.Granted block pipeline) after = of_grant request block after
  grant_fit request reply after = none_fit request

  module _ (fit : AreInGrammar rows) where
    blocks_fit : (v b k : List ℕ) (n : ℕ) (row : Option Row) → rows (keys.Open v b k n) ≡ row → AreItems IsBlock (blocks_at row)
    blocks_fit v b k n None e = ((omega arith), tt)
    blocks_fit v b k n (Some row) e = (open_row n (Some row) (row_is_open v b k n row (fit (keys.Open v b k n) row e))).blocks_fit

    -- the number of a session fits that becomes a key, since it stands in the key's row
    of_commit : (request : Request) → name_fault request ≡ None → AreInGrammar (after_changes (changes_of_commit rows request) rows) → AreOperations (operations_for request (changes_of_commit rows request))
    of_commit (CommitKey v b k n pieces) named after =
        let of_key = keys.Key v b k in
        let of_session = keys.Open v b k n in
        let older = deleted v b k (version_at (rows of_key)) in
        let rest_of = unused (blocks_at (rows of_session)) pieces in
        let rest = deleted v b k rest_of in
        let new : RowFits of_key (values.Key n pieces) = last_fits rows (older ++ rest) (gone of_session) of_key (values.Key n pieces) after in
        let names = key_fits rows fit v b k named in
        each_fits _ (all_append IsFit (older ++ rest) _
        (all_append IsFit older rest
        (left_fit rows fit v b k named _ (version_fits rows fit v b k named (rows of_key) refl))
        (left_fit rows fit v b k named rest_of (kept_fit _ _ (blocks_fit v b k n (rows of_session) refl))))
        ((names.0, names.1, names.2, new.1.0), (new, tt)))
    of_commit request named after = none_fit request

    pub commit_fit : (request : Request) (reply : Reply) → (is_code reply ≡ false → name_fault request ≡ None) → AreInGrammar (after_changes (recorded_commit rows request reply) rows) → AreOperations (operations_for request (recorded_commit rows request reply))
    unfolding is_code
    commit_fit request replies.Done named after = of_commit request (named refl) after
    commit_fit request reply named after = none_fit request

  of_create : (request : Request) (number : ℕ) → AreInGrammar (after_changes (changes_of_create request number) rows) → AreOperations (operations_for request (changes_of_create request number))
  of_create (CreateKey v b k) number after =
      let session = keys.Open v b k number in
      let session_fits = after session (values.Open []) (ap (λ (t : Bool). cond t (Some (values.Open [])) (rows session)) (key_itself session)) in
      let stripe_fits = last_fits rows [] (put session (values.Open [])) (keys.Stripe (stripe_of v)) (values.Stripe number) after in
      (session_fits, (stripe_fits, tt))
  of_create request number after = none_fit request

  dropped_fit : (v b : List ℕ) → name_fault (ExpireOpen v b) ≡ None → (changes : List Change) → AreOperations (operations_for (ExpireOpen v b) changes)
  dropped_fit v b named [] = tt
  dropped_fit v b named (change ∷ changes) = ((volume_fits v (bucket_named b ∷ []) named, bucket_fits v b [] named), tt)

  nothing_fit : (request : Request) (changes : List Change) → changes ≡ [] → AreOperations (operations_for request changes)
  nothing_fit request changes e = subst (λ (c : List Change). AreOperations (operations_for request c)) (sym e) (none_fit request)

  expired_fit : (request : Request) (count : ℕ) (changes : List Change) → AreOpened rows request (replies.Count count) changes → name_fault request ≡ None → AreOperations (operations_for request changes)
  expired_fit (ExpireOpen v b) count changes recorded named = dropped_fit v b named changes
  expired_fit request count changes recorded named = nothing_fit request changes recorded

  pub opened_fit : (request : Request) (reply : Reply) (changes : List Change) → AreOpened rows request reply changes → (is_code reply ≡ false → name_fault request ≡ None) → AreInGrammar (after_changes changes rows) → AreOperations (operations_for request changes)
  unfolding is_code
  opened_fit request (replies.Session number) changes recorded named after =
      subst (λ (c : List Change). AreOperations (operations_for request c)) (sym recorded)
      (of_create request number (subst (λ (c : List Change). AreInGrammar (after_changes c rows)) recorded after))
  opened_fit request (replies.Count count) changes recorded named after = expired_fit request count changes recorded (named refl)
  opened_fit request reply changes recorded named after = nothing_fit request changes recorded
