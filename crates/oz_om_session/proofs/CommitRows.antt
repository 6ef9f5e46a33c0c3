-- A session is committed: what is refused, and which rows fit.
use Rattle.std.proofs.Common.{◌≡◌, ℕ, Bool, true, false, not, ◌&&◌, nat_le, List, [], ◌∷◌, length, Option, None, Some, is_some, cond, refl, sym, ◌∙◌, ap}
use mathlib.Core.Bool.{false≢true}
use Rattle.std.specs.FinMap.{get}
use Rattle.std.specs.List.{AllByRecursion, list_all}
use Rattle.std.specs.Option.{option_and_then}
use Rattle.oz_fields.specs.declared.block.Piece.{Piece}
use Rattle.oz_names.specs.declared.code.Code.{Code}
use Rattle.oz_names.specs.declared.code.Code.TheVariants.{VolumeNotFound, BucketNotFound, KeyNotFound, InvalidBlock}
use Rattle.oz_namespace.specs.declared.namespace.Bucket.{Bucket}
use Rattle.oz_namespace.specs.declared.namespace.Namespace.{Namespace}
use Rattle.oz_namespace.specs.Namespace.{ByName, buckets_of}
use Rattle.oz_model.specs.Answers.{AnswersIn, reply_from}
use Rattle.oz_model.specs.Buckets.{bucket_at, are_pieces_of, has_session, session_blocks}
use Rattle.oz_model.specs.Refusals.{Refusal, where_so, first_of, no_volume, no_bucket, no_session, refusal}
use Rattle.oz_model.specs.Scope.{scope_of}
use Rattle.oz_model.specs.declared.scope.Scope.{Scope}
use Rattle.oz_model.specs.laws.Order.{refused_so}
use Rattle.oz_requests.specs.declared.reply.Reply.TheVariants as replies
use Rattle.oz_requests.specs.declared.request.Request.TheVariants.{CommitKey}
use Rattle.oz_requests.specs.Names.{name_fault}
use Rattle.oz_rows.specs.declared.key.RowKey.TheVariants as keys
use Rattle.oz_rows.specs.declared.row.Row.{Row}
use Rattle.oz_rows.specs.declared.row.Row.TheVariants as rows
use Rattle.oz_rows.specs.RowMaps.{Rows}
use Rattle.oz_rows.specs.Rows.{IsPiece, KeyFits, RowFits}
use Rattle.oz_sound.specs.Sound.{IsSoundButRenames}
use Rattle.oz_decision.specs.Meets.{Stand}
use Rattle.oz_decision.specs.Sessions.{blocks_at, IsOpen, is_good}
use Rattle.oz_decision.specs.Versions.{is_version}
use Rattle.oz_om_session.specs.Sessions.{are_committed}
use Rattle.oz_decision.specs.laws.Versions.{version_is_good}
use Rattle.oz_decision.specs.laws.SessionRows.{OpenRow, open_row, front, both, from_at_most, block_is_good, volume_is, bucket_is, key_is}
use Rattle.oz_om_session.proofs.Blocks.{pieces_are_fit}
use Rattle.oz_decision.specs.laws.Sessions.{own_refusals, first_found, none_found, blocks_are, row_tells}

volume_there : (o : Option (ByName Bucket)) (b : List ℕ) → is_some (option_and_then (λ buckets. get buckets b) o) ≡ true → is_some o ≡ true
volume_there None b e = absurd (false≢true e)
volume_there (Some buckets) b e = refl

first_fails : (a b : Bool) → a && b ≡ false → b ≡ true → a ≡ false
first_fails false b e f = refl
first_fails true b e f = absurd (false≢true (sym e ∙ f))

module _ (all : Rows) (v b k : List ℕ) (n : ℕ) (pieces : List Piece) (named : name_fault (CommitKey v b k n pieces) ≡ None) (there : IsOpen all v b k n) where
  abbrev session : Option Row
  session = all (keys.Open v b k n)

  abbrev version : Option Row
  version = all (keys.Key v b k)

  pub opened : OpenRow n session
  opened = open_row n session there.session_there

  pub session_fits : KeyFits (keys.Open v b k n)
  session_fits = (volume_is v b k [] named, bucket_is v b k [] named, key_is v b k [] named, (opened.number_fits, there.small))

  pub key_fits : are_committed session version pieces ≡ true → RowFits (keys.Key v b k) (rows.Key n pieces)
  key_fits fit = (
    (volume_is v b k [] named, bucket_is v b k [] named, key_is v b k [] named),
    ((opened.number_fits, there.small), pieces_are_fit (blocks_at session) pieces opened.blocks_fit (front (are_pieces_of (blocks_at session) pieces) _ fit)),
  )

  module _ (namespace : Namespace) (stand : Stand IsSoundButRenames all namespace) where
    abbrev scope : Scope
    scope = scope_of namespace v

    abbrev bucket : Bucket
    bucket = bucket_at namespace v b

    abbrev not_there : List Refusal
    not_there = no_volume scope ∷ no_bucket scope b ∷ no_session bucket k n ∷ []

    nothing_missing : first_of not_there ≡ None
    nothing_missing =
        let has : is_some (option_and_then (λ buckets. get buckets b) (buckets_of namespace v)) ≡ true = stand.stands.buckets v b ∙ there.bucket_there in
        let volume : is_some (buckets_of namespace v) ≡ true = volume_there (buckets_of namespace v) b has in
        let session_is : has_session bucket k n ≡ true = row_tells all v b namespace stand k n ∙ there.session_there in
        λ i. cond (not (volume i)) (Some VolumeNotFound) (cond (not (has i)) (Some BucketNotFound) (cond (not (session_is i)) (Some KeyNotFound) None))

    abbrev invalid : Bool → Refusal
    invalid fit = where_so (not fit) InvalidBlock

    refusal_is : refusal scope (CommitKey v b k n pieces) ≡ first_of (invalid (are_pieces_of (blocks_at session) pieces) ∷ [])
    refusal_is =
        own_refusals scope (CommitKey v b k n pieces) named
        ∙ sym (none_found not_there (invalid (are_pieces_of (session_blocks bucket n) pieces) ∷ []) None refl (sym nothing_missing))
        ∙ ap (λ blocks. first_of (invalid (are_pieces_of blocks pieces) ∷ [])) (blocks_are all v b namespace stand k n there.session_there)

    good_version : is_version version ≡ true
    good_version = by_row version refl
      where
        by_row : (o : Option Row) → version ≡ o → is_version version ≡ true
        by_row None e = ap is_version e
        by_row (Some row) e = ap is_version e ∙ version_is_good v b k row (stand.fit (keys.Key v b k) row e)

    pub refused : are_committed session version pieces ≡ false → AnswersIn scope (CommitKey v b k n pieces) (replies.Code InvalidBlock)
    refused e = refused_so scope (CommitKey v b k n pieces) InvalidBlock (refusal_is ∙ ap (λ (fit : Bool). first_of (invalid fit ∷ [])) (first_fails _ _ e good_version))

    pub unrefused : are_committed session version pieces ≡ true → refusal scope (CommitKey v b k n pieces) ≡ None
    unrefused e = refusal_is ∙ ap (λ (fit : Bool). first_of (invalid fit ∷ [])) (front (are_pieces_of (blocks_at session) pieces) _ e)

    pub done : are_committed session version pieces ≡ true → AnswersIn scope (CommitKey v b k n pieces) replies.Done
    done e = sym (ap (λ o. reply_from o replies.Done) (unrefused e))

-- a session that isn't there isn't committed
pub missing : (all : Rows) (v b k : List ℕ) (n : ℕ) (pieces : List Piece) → name_fault (CommitKey v b k n pieces) ≡ None → (namespace : Namespace) (code : Option Code) (c : Code) → code ≡ Some c → code ≡ first_of (no_volume (scope_of namespace v) ∷ no_bucket (scope_of namespace v) b ∷ no_session (bucket_at namespace v b) k n ∷ []) → AnswersIn (scope_of namespace v) (CommitKey v b k n pieces) (replies.Code c)
missing all v b k n pieces named namespace code c is e =
    let scope = scope_of namespace v in
    let not_there = no_volume scope ∷ no_bucket scope b ∷ no_session (bucket_at namespace v b) k n ∷ [] in
    refused_so scope (CommitKey v b k n pieces) c (own_refusals scope (CommitKey v b k n pieces) named ∙ sym (first_found not_there (where_so (not (are_pieces_of (session_blocks (bucket_at namespace v b) n) pieces)) InvalidBlock ∷ []) code c is e))
