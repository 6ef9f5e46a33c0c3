-- The pieces that are replied are those of a key.
use Rattle.std.proofs.Common.{
  ◌≡◌,
  ◌⊎◌,
  ⊎_elim,
  inl,
  inr,
  ℕ,
  suc,
  Bool,
  true,
  false,
  List,
  [],
  ◌∷◌,
  cond,
  Option,
  None,
  Some,
  Contains,
  refl,
  sym,
  ap,
  ◌∙◌,
  subst,
  arith,
}
use Rattle.std.proofs.lemmas.Bool.{false≢true}
use Rattle.std.proofs.lemmas.Option.{none-some}
use Rattle.std.specs.Cmp.Lexicographic.{slice_cmp}
use Rattle.std.specs.FinMap.{empty, get, get-empty}
use Rattle.std.specs.Ordering.{nat_cmp}
use Rattle.oz_fields.specs.declared.block.Block.{Block}
use Rattle.oz_fields.specs.declared.block.Piece.{Piece}
use Rattle.oz_names.specs.declared.code.Code.{Code}
use Rattle.oz_namespace.specs.declared.namespace.Bucket.{Bucket}
use Rattle.oz_namespace.specs.declared.namespace.Namespace.{Namespace}
use Rattle.oz_namespace.specs.declared.namespace.Snapshot.{Snapshot}
use Rattle.oz_namespace.specs.Namespace.{ByName, bucket_of, new_bucket}
use Rattle.oz_requests.specs.declared.reply.Reply.{Reply}
use Rattle.oz_requests.specs.declared.reply.Reply.TheVariants as replies
use Rattle.oz_requests.specs.declared.request.Request.{Request}
use Rattle.oz_requests.specs.declared.request.Request.TheVariants.{AllocateBlock, LookupKey}
use Rattle.oz_requests.specs.Names.{volume_in}
use Rattle.oz_model.specs.Answers.{Answers, Replies, reply_from}
use Rattle.oz_model.specs.Buckets.{bucket_in, bucket_or_new, is_same_name, keys_in, keys_or_none, pieces_in, pieces_or_none, snapshot_keys}
use Rattle.oz_model.specs.Reach.{IsReached, blocks_of}
use Rattle.oz_model.specs.Scope.{scope_of}
use Rattle.oz_core.specs.Pieces.{IsPieceIn, IsPieceOfKey, IsPieceOfSnapshot}
use Rattle.oz_client.specs.Replies.{is_pieces, pieces_of_reply}
use Rattle.oz_kept.specs.laws.Deleted.{first_or_later}
use Rattle.oz_kept.specs.laws.Reached.{in_none}

not_pieces : (o : Option Code) (given : Reply) (pieces : List Piece) → is_pieces given ≡ false → replies.Pieces pieces ≡ reply_from o given → ⊥
not_pieces None given pieces other is = false≢true (sym other ∙ ap is_pieces (sym is))
not_pieces (Some code) given pieces other is = absurd cc

looked_up : (o : Option Code) (found pieces : List Piece) → replies.Pieces pieces ≡ reply_from o (replies.Pieces found) → pieces ≡ found
looked_up None found pieces is = ap pieces_of_reply is
looked_up (Some code) found pieces is = absurd cc

module _ (piece : Piece) where
  in_key : (keys : ByName (List Piece)) (key : List ℕ) → Contains (pieces_in keys key) piece → IsPieceOfKey keys piece
  in_key keys key has = by (get keys key) refl has
    where
      by : (o : Option (List Piece)) → get keys key ≡ o → Contains (pieces_or_none o) piece → IsPieceOfKey keys piece
      by None is none = absurd (in_none piece none)
      by (Some pieces) is some = record { key = key; pieces = pieces; is_there = is; has = some }

  in_no_key : IsPieceOfKey empty piece → ⊥
  in_no_key it = none-some it.pieces (sym (get-empty (slice_cmp nat_cmp) it.key) ∙ it.is_there)

  in_snapshot : (snapshots : List Snapshot) (name key : List ℕ) → Contains (pieces_in (keys_or_none (snapshot_keys snapshots name)) key) piece
      → (snapshot : Snapshot) × Contains snapshots snapshot × IsPieceOfKey snapshot.keys piece
  in_snapshot [] name key has = absurd (in_no_key (in_key empty key has))
  in_snapshot (first ∷ snapshots) name key has = by (is_same_name first.name name) has (in_snapshot snapshots name key)
    where
      by : (t : Bool) → Contains (pieces_in (keys_or_none (cond t (Some first.keys) (snapshot_keys snapshots name))) key) piece
          → (Contains (pieces_in (keys_or_none (snapshot_keys snapshots name)) key) piece → (snapshot : Snapshot) × Contains snapshots snapshot
          × IsPieceOfKey snapshot.keys piece)
          → (snapshot : Snapshot) × Contains (first ∷ snapshots) snapshot × IsPieceOfKey snapshot.keys piece
      by true has rest = (first, (0, omega arith, refl), in_key first.keys key has)
      by false has rest =
          let it = rest has in
          (it.0, (suc it.1.0, omega (arith, it.1.1), it.1.2), it.2)

  in_bucket : (bucket : Bucket) (snapshot : Option (List ℕ)) (key : List ℕ) → Contains (pieces_in (keys_in bucket snapshot) key) piece
      → IsPieceOfKey bucket.keys piece ⊎ IsPieceOfSnapshot bucket piece
  in_bucket bucket None key has = inl (in_key bucket.keys key has)
  in_bucket bucket (Some name) key has =
      let it = in_snapshot bucket.snapshots name key has in
      inr (record { snapshot = it.0; is_there = it.1; of_key = it.2 })

  in_namespace : (namespace : Namespace) (volume name : List ℕ) (snapshot : Option (List ℕ)) (key : List ℕ)
      → Contains (pieces_in (keys_in (bucket_in (scope_of namespace volume) name) snapshot) key) piece → IsPieceIn namespace piece
  in_namespace namespace volume name snapshot key has = by (bucket_of namespace volume name) refl has
    where
      by : (o : Option Bucket) → bucket_of namespace volume name ≡ o → Contains (pieces_in (keys_in (bucket_or_new o) snapshot) key) piece
          → IsPieceIn namespace piece
      by None is has = ⊎_elim
          (λ it. absurd (in_no_key it))
          (λ it. absurd (in_none it.snapshot it.is_there))
          (in_bucket new_bucket snapshot key has)
      by (Some bucket) is has = record { volume = volume; name = name; bucket = bucket; is_there = is; has = in_bucket bucket snapshot key has }

  replied : (o : Option Code) (namespace : Namespace) (request : Request) (pieces : List Piece)
      → Replies o (scope_of namespace (volume_in request)) request (replies.Pieces pieces)
      → Contains pieces piece → IsPieceIn namespace piece
  replied o namespace (LookupKey volume bucket snapshot key) pieces is among =
      in_namespace namespace volume bucket snapshot key
      (subst (λ (l : List Piece). Contains l piece)
      (looked_up o (pieces_in (keys_in (bucket_in (scope_of namespace volume) bucket) snapshot) key) pieces is) among)
  replied o namespace (AllocateBlock volume bucket key session exclude) pieces is among = absurd (not_pieces o _ pieces refl is.2)
  replied o namespace request pieces is among = absurd (not_pieces o _ pieces refl is)

  -- what is replied a key or a snapshot has
  pub replied_in : (namespace : Namespace) (request : Request) (pieces : List Piece) → Answers namespace request (replies.Pieces pieces)
      → Contains pieces piece → IsPieceIn namespace piece
  unfolding Answers
  replied_in namespace request pieces is among = replied _ namespace request pieces is among

-- ---- so is its block

piece_of : (pieces : List Piece) (block : Block) → Contains (blocks_of pieces) block → (piece : Piece) × Contains pieces piece × (piece.block ≡ block)
piece_of [] block among = absurd (in_none block among)
piece_of (first ∷ pieces) block among = ⊎_elim
    (λ same. (first, (0, omega arith, refl), same))
    (λ later.
    let it = piece_of pieces block later in
    (it.0, (suc it.1.0, omega (arith, it.1.1), it.1.2), it.2))
    (first_or_later first.block block (blocks_of pieces) among)

pub block_among : (pieces : List Piece) (piece : Piece) → Contains pieces piece → Contains (blocks_of pieces) piece.block
block_among [] piece among = absurd (in_none piece among)
block_among (first ∷ pieces) piece among = ⊎_elim
    (λ same. (0, omega arith, ap (λ (p : Piece). p.block) same))
    (λ later. let behind = block_among pieces piece later in (suc behind.0, omega (arith, behind.1), behind.2))
    (first_or_later first piece pieces among)

pub piece_reached : (namespace : Namespace) (piece : Piece) → IsPieceIn namespace piece → IsReached namespace piece.block
piece_reached namespace piece it = record {
  volume = it.volume;
  name = it.name;
  bucket = it.bucket;
  is_there = it.is_there;
  has = ⊎_elim
      (λ own. inl (record { key = own.key; pieces = own.pieces; is_there = own.is_there; has = block_among own.pieces piece own.has }))
      (λ of. inr (inr (record {
        snapshot = of.snapshot;
        is_there = of.is_there;
        in_keys = record {
          key = of.of_key.key;
          pieces = of.of_key.pieces;
          is_there = of.of_key.is_there;
          has = block_among of.of_key.pieces piece of.of_key.has;
        };
      })))
      it.has;
}

pub replied_reached : (namespace : Namespace) (request : Request) (pieces : List Piece) (block : Block) → Answers namespace request (replies.Pieces pieces)
    → Contains (blocks_of pieces) block → IsReached namespace block
replied_reached namespace request pieces block is among =
    let it = piece_of pieces block among in
    subst (IsReached namespace) it.2 (piece_reached namespace it.0 (replied_in it.0 namespace request pieces is it.1))
