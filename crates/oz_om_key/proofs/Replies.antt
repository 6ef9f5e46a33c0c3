-- What a reply over rows owes, and what the keys are that are asked for.
use Rattle.std.proofs.Common.{◌≡◌, ℕ, true, not, List, [], ◌∷◌, Option, None, Some, is_some, cond, refl, sym, ◌∙◌, ap, subst}
use Rattle.std.specs.FinMap.{get}
use Rattle.oz_fields.specs.declared.block.Piece.{Piece}
use Rattle.oz_names.specs.declared.code.Code.{Code}
use Rattle.oz_names.specs.declared.code.Code.TheVariants.{KeyNotFound, SnapshotNotFound}
use Rattle.oz_namespace.specs.Namespace.{ByName}
use Rattle.oz_model.specs.Answers.{Replies}
use Rattle.oz_model.specs.Buckets.{bucket_at, keys_asked, keys_or_none, pieces_or_none, listed}
use Rattle.oz_model.specs.Refusals.{first_of, missing, codes, refusal, where_so, no_volume, no_bucket, no_key}
use Rattle.oz_model.specs.Scope.{scope_of}
use Rattle.oz_model.specs.laws.Order.{refused_missing, refused_by_row, refused_so}
use Rattle.oz_requests.specs.declared.reply.Reply.TheVariants as replies
use Rattle.oz_requests.specs.declared.request.Request.{Request}
use Rattle.oz_requests.specs.declared.request.Request.TheVariants.{LookupKey, ListKeys}
use Rattle.oz_requests.specs.Names.{name_fault, volume_in}
use Rattle.oz_rows.specs.declared.key.RowKey.TheVariants as keys
use Rattle.oz_rows.specs.declared.row.Row.{Row}
use Rattle.oz_rows.specs.declared.row.Row.TheVariants as rows
use Rattle.oz_rows.specs.Rows.{ValueFits}
use Rattle.oz_rows.specs.RowMaps.{Rows}
use Rattle.oz_sound.specs.StandsFor.{pieces_in}
use Rattle.oz_decision.specs.Meets.{AreInGrammar}
use Rattle.oz_decision.specs.Replies.{ShowsThat, IsReply}
use Rattle.oz_om_key.specs.declared.place.Source.{Source}
use Rattle.oz_om_key.specs.declared.place.Source.TheVariants as sources
use Rattle.oz_om_key.specs.Places.{place_of, IsAsked, ShowKeys}
use Rattle.oz_om_key.specs.Walking.{HaveRows}

module _ (all : Rows) (request : Request) (named : name_fault request ≡ None) where
  -- something isn't there
  pub by_missing : (code : Code) → ShowsThat all (λ namespace. Some code ≡ first_of (missing (scope_of namespace (volume_in request)) request)) → IsReply all request (replies.Code code)
  by_missing code shows = λ namespace stand. refused_so _ request code (refused_missing _ request code named (sym (shows namespace stand)))

  module _ (there : ShowsThat all (λ namespace. None ≡ first_of (missing (scope_of namespace (volume_in request)) request))) where
    -- a code of the request's own
    pub by_codes : (code : Code) → ShowsThat all (λ namespace. first_of (codes (scope_of namespace (volume_in request)) request) ≡ Some code) → IsReply all request (replies.Code code)
    by_codes code shows = λ namespace stand. refused_so _ request code (refused_by_row _ request named (sym (there namespace stand)) ∙ shows namespace stand)

    -- none at all
    pub by_none : ShowsThat all (λ namespace. first_of (codes (scope_of namespace (volume_in request)) request) ≡ None) → ShowsThat all (λ namespace. refusal (scope_of namespace (volume_in request)) request ≡ None)
    by_none shows = λ namespace stand. refused_by_row _ request named (sym (there namespace stand)) ∙ shows namespace stand

-- the codes of a look-up, over the keys that are asked for
abbrev pub lookup_codes : Option (ByName (List Piece)) → List ℕ → Option Code
lookup_codes asked key = first_of (where_so (not (is_some asked)) SnapshotNotFound ∷ no_key (keys_or_none asked) key ∷ [])

not_there : (o : Option (List Piece)) → cond (not (is_some o)) (Some KeyNotFound) None ≡ cond (is_some o) None (Some KeyNotFound)
not_there None = refl
not_there (Some pieces) = refl

module _ (all : Rows) (v b : List ℕ) (asked : Option (ByName (List Piece))) (source : Source) (is : IsAsked all v b asked (Some source)) (key : List ℕ) where
  pub pieces_are : get (keys_or_none asked) key ≡ pieces_in (all (place_of v b source key))
  pieces_are = ap (λ (o : Option (ByName (List Piece))). get (keys_or_none o) key) is.1 ∙ is.2 key

  pub codes_are : lookup_codes asked key ≡ cond (is_some (pieces_in (all (place_of v b source key)))) None (Some KeyNotFound)
  codes_are = ap (λ (o : Option (ByName (List Piece))). lookup_codes o key) is.1 ∙ not_there (get is.0 key) ∙ ap (λ (o : Option (List Piece)). cond (is_some o) None (Some KeyNotFound)) (is.2 key)

key_pieces : (v b k : List ℕ) (row : Row) → ValueFits (keys.Key v b k) row → is_some (pieces_in (Some row)) ≡ true
key_pieces v b k (rows.Key n pieces) fits = refl
key_pieces v b k row fits = absurd fits

snapshot_key_pieces : (v b k : List ℕ) (n : ℕ) (row : Row) → ValueFits (keys.SnapshotKey v b n k) row → is_some (pieces_in (Some row)) ≡ true
snapshot_key_pieces v b k n (rows.SnapshotKey m pieces) fits = refl
snapshot_key_pieces v b k n row fits = absurd fits

-- each row of a key has pieces
pub row_has : (all : Rows) → AreInGrammar all → (v b : List ℕ) (source : Source) (key : List ℕ) → is_some (pieces_in (all (place_of v b source key))) ≡ is_some (all (place_of v b source key))
row_has all fit v b sources.Bucket key = by_row (all (keys.Key v b key)) refl
  where
    by_row : (o : Option Row) → all (keys.Key v b key) ≡ o → is_some (pieces_in o) ≡ is_some o
    by_row None e = refl
    by_row (Some row) e = key_pieces v b key row (fit (keys.Key v b key) row e).1
row_has all fit v b (sources.Snapshot n) key = by_row (all (keys.SnapshotKey v b n key)) refl
  where
    by_row : (o : Option Row) → all (keys.SnapshotKey v b n key) ≡ o → is_some (pieces_in o) ≡ is_some o
    by_row None e = refl
    by_row (Some row) e = snapshot_key_pieces v b key n row (fit (keys.SnapshotKey v b n key) row e).1

pub have_rows : (all : Rows) → AreInGrammar all → (v b : List ℕ) (source : Source) (m : ByName (List Piece)) → ShowKeys all v b source m → HaveRows all v b source m
have_rows all fit v b source m shows = λ key. ap is_some (shows key) ∙ row_has all fit v b source key

-- a snapshot is asked for that isn't there
unasked : (asked : Option (ByName (List Piece))) (rest : Option Code) → asked ≡ None → cond (not (is_some asked)) (Some SnapshotNotFound) rest ≡ Some SnapshotNotFound
unasked asked rest e = ap (λ (o : Option (ByName (List Piece))). cond (not (is_some o)) (Some SnapshotNotFound) rest) e

module _ (all : Rows) (v b : List ℕ) (snapshot : Option (List ℕ)) (there : ShowsThat all (λ namespace. None ≡ first_of (no_volume (scope_of namespace v) ∷ no_bucket (scope_of namespace v) b ∷ [])))
    (o : Option Source) (asks : ShowsThat all (λ namespace. IsAsked all v b (keys_asked (bucket_at namespace v b) snapshot) o)) where
  is_asked : (source : Source) → o ≡ Some source → ShowsThat all (λ namespace. IsAsked all v b (keys_asked (bucket_at namespace v b) snapshot) (Some source))
  is_asked source is = λ namespace stand. subst (IsAsked all v b (keys_asked (bucket_at namespace v b) snapshot)) is (asks namespace stand)

  none_asked : o ≡ None → ShowsThat all (λ namespace. keys_asked (bucket_at namespace v b) snapshot ≡ None)
  none_asked is = λ namespace stand. subst (IsAsked all v b (keys_asked (bucket_at namespace v b) snapshot)) is (asks namespace stand)

  module _ (key : List ℕ) (named : name_fault (LookupKey v b snapshot key) ≡ None) where
    pub lookup_unasked : o ≡ None → IsReply all (LookupKey v b snapshot key) (replies.Code SnapshotNotFound)
    lookup_unasked is = by_codes all (LookupKey v b snapshot key) named there SnapshotNotFound (λ namespace stand. unasked _ _ (none_asked is namespace stand))

    module _ (source : Source) (is : o ≡ Some source) where
      pub lookup_absent : pieces_in (all (place_of v b source key)) ≡ None → IsReply all (LookupKey v b snapshot key) (replies.Code KeyNotFound)
      lookup_absent absent = by_codes all (LookupKey v b snapshot key) named there KeyNotFound (λ namespace stand.
          codes_are all v b _ source (is_asked source is namespace stand) key ∙ ap (λ (p : Option (List Piece)). cond (is_some p) None (Some KeyNotFound)) absent)

      pub lookup_found : (pieces : List Piece) → pieces_in (all (place_of v b source key)) ≡ Some pieces → IsReply all (LookupKey v b snapshot key) (replies.Pieces pieces)
      lookup_found pieces has = λ namespace stand.
          let request = LookupKey v b snapshot key in
          let here = is_asked source is namespace stand in
          let none = by_none all request named there (λ namespace stand. codes_are all v b _ source (is_asked source is namespace stand) key ∙ ap (λ (p : Option (List Piece)). cond (is_some p) None (Some KeyNotFound)) has) namespace stand in
          subst (λ o. Replies o (scope_of namespace v) request (replies.Pieces pieces)) (sym none) (ap (λ (p : Option (List Piece)). replies.Pieces (pieces_or_none p)) (sym (pieces_are all v b _ source here key ∙ has)))

  module _ (prefix start : List ℕ) (count : ℕ) (named : name_fault (ListKeys v b snapshot prefix start count) ≡ None) where
    pub list_unasked : o ≡ None → IsReply all (ListKeys v b snapshot prefix start count) (replies.Code SnapshotNotFound)
    list_unasked is = by_codes all (ListKeys v b snapshot prefix start count) named there SnapshotNotFound (λ namespace stand. unasked _ _ (none_asked is namespace stand))

    asked_codes : (asked : Option (ByName (List Piece))) (m : ByName (List Piece)) → asked ≡ Some m → first_of (where_so (not (is_some asked)) SnapshotNotFound ∷ []) ≡ None
    asked_codes asked m e = ap (λ (o : Option (ByName (List Piece))). first_of (where_so (not (is_some o)) SnapshotNotFound ∷ [])) e

    pub list_found : (source : Source) → o ≡ Some source → (names : List (List ℕ)) → ((m : ByName (List Piece)) → HaveRows all v b source m → names ≡ listed m prefix start count) → IsReply all (ListKeys v b snapshot prefix start count) (replies.Names names)
    list_found source is names are = λ namespace stand.
        let request = ListKeys v b snapshot prefix start count in
        let here = is_asked source is namespace stand in
        let none = by_none all request named there (λ namespace stand. let it = is_asked source is namespace stand in asked_codes _ it.0 it.1) namespace stand in
        subst (λ o. Replies o (scope_of namespace v) request (replies.Names names)) (sym none)
        (ap replies.Names (are here.0 (have_rows all stand.fit v b source here.0 here.2) ∙ ap (λ (o : Option (ByName (List Piece))). listed (keys_or_none o) prefix start count) (sym here.1)))
