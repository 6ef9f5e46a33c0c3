-- The blocks that a reply names were reached, or are granted by it.
use Rattle.std.proofs.Common.{◌≡◌, ◌⊎◌, ⊎_elim, ℕ, suc, Bool, true, false, List, [], ◌∷◌, Option, None, Some}
use Rattle.std.proofs.Common.{Contains, cond, inl, inr, refl, sym, ◌∙◌, ap, subst, arith}
use Rattle.std.proofs.lemmas.Option.{none-some}
use Rattle.std.specs.FinMap.{get, get-empty}
use Rattle.std.specs.Cmp.Lexicographic.{slice_cmp}
use Rattle.std.specs.Ordering.{nat_cmp}
use Rattle.oz_fields.specs.declared.block.Block.{Block}
use Rattle.oz_fields.specs.declared.block.Piece.{Piece}
use Rattle.oz_names.specs.declared.code.Code.{Code}
use Rattle.oz_namespace.specs.declared.namespace.Bucket.{Bucket}
use Rattle.oz_namespace.specs.declared.namespace.Namespace.{Namespace}
use Rattle.oz_namespace.specs.declared.namespace.Snapshot.{Snapshot}
use Rattle.oz_namespace.specs.Namespace.{ByName, new_bucket}
use Rattle.oz_requests.specs.declared.reply.Reply.{Reply}
use Rattle.oz_requests.specs.declared.reply.Reply.TheVariants as replies
use Rattle.oz_requests.specs.declared.request.Request.{Request}
use Rattle.oz_requests.specs.declared.request.Request.TheVariants.{AllocateBlock, LookupKey}
use Rattle.oz_requests.specs.Names.{volume_in}
use Rattle.oz_model.specs.declared.scope.Scope.{Scope}
use Rattle.oz_model.specs.Answers.{Answers, Replies, reply_from}
use Rattle.oz_model.specs.Buckets.{bucket_in, bucket_or_new, found_in, granted_by, is_same_name, keys_in, pieces_in}
use Rattle.oz_model.specs.Buckets.{pieces_or_none, snapshot_keys, keys_or_none}
use Rattle.oz_model.specs.Reach.{InKeys, IsReached, blocks_of}
use Rattle.oz_model.specs.Refusals.{refusal}
use Rattle.oz_model.specs.Scope.{scope_of}
use Rattle.oz_model.specs.laws.Reaches.{Has, IsSeen}
use Rattle.oz_core.specs.Manager.{named_by}
use Rattle.oz_kept.specs.laws.Reached.{in_none}

module _ (block : Block) where
  -- the pieces of a key
  in_pieces : (keys : ByName (List Piece)) (key : List ℕ) → Contains (blocks_of (pieces_in keys key)) block → InKeys keys block
  in_pieces keys key has = by (get keys key) refl
    where
      by : (found : Option (List Piece)) → get keys key ≡ found → InKeys keys block
      by None is = absurd (in_none block (subst (λ o. Contains (blocks_of (pieces_or_none o)) block) is has))
      by (Some pieces) is = record { key = key; pieces = pieces; is_there = is; has = subst (λ o. Contains (blocks_of (pieces_or_none o)) block) is has }

  none_in_none : (key : List ℕ) → InKeys (keys_or_none None) block → ⊥
  none_in_none key it = absurd (none-some it.pieces (sym (get-empty (slice_cmp nat_cmp) it.key) ∙ it.is_there))

  -- a snapshot that is found by its name is one of them
  record IsFoundAs (snapshots : List Snapshot) (keys : ByName (List Piece)) : Type 0 where
    snapshot : Snapshot
    there : Contains snapshots snapshot
    its : snapshot.keys ≡ keys

  found_as : (snapshots : List Snapshot) (name : List ℕ) (keys : ByName (List Piece)) → snapshot_keys snapshots name ≡ Some keys → IsFoundAs snapshots keys
  found_as [] name keys is = absurd (none-some keys is)
  found_as (snapshot ∷ snapshots) name keys is = by (is_same_name snapshot.name name) is (found_as snapshots name keys)
    where
      by : (t : Bool) → cond t (Some snapshot.keys) (snapshot_keys snapshots name) ≡ Some keys
          → (snapshot_keys snapshots name ≡ Some keys → IsFoundAs snapshots keys) → IsFoundAs (snapshot ∷ snapshots) keys
      by true e rest = let same : snapshot.keys ≡ keys = cc in record { snapshot = snapshot; there = (0, omega arith, refl); its = same }
      by false e rest =
          let later = rest e in
          record { snapshot = later.snapshot; there = (suc later.there.0, omega (arith, later.there.1), later.there.2); its = later.its }

  -- a bucket has what it or a snapshot of it has
  in_bucket : (bucket : Bucket) (snapshot : Option (List ℕ)) (key : List ℕ) → Contains (blocks_of (pieces_in (keys_in bucket snapshot) key)) block
      → Has block bucket
  in_bucket bucket None key has = inl (in_pieces bucket.keys key has)
  in_bucket bucket (Some name) key has = by (snapshot_keys bucket.snapshots name) refl (in_pieces (keys_in bucket (Some name)) key has)
    where
      by : (found : Option (ByName (List Piece))) → snapshot_keys bucket.snapshots name ≡ found
          → InKeys (keys_or_none (snapshot_keys bucket.snapshots name)) block → Has block bucket
      by None is it = absurd (none_in_none key (subst (λ (o : Option (ByName (List Piece))). InKeys (keys_or_none o) block) is it))
      by (Some keys) is it =
          let found = found_as bucket.snapshots name keys is in
          inr (inr (record {
            snapshot = found.snapshot;
            is_there = found.there;
            in_keys = subst (λ (m : ByName (List Piece)). InKeys m block) (sym found.its)
                (subst (λ (o : Option (ByName (List Piece))). InKeys (keys_or_none o) block) is it);
          }))

  none_new : Has block new_bucket → ⊥
  none_new has = ⊎_elim
      (λ it. absurd (none-some it.pieces (sym (get-empty (slice_cmp nat_cmp) it.key) ∙ it.is_there)))
      (λ rest. ⊎_elim (λ it. absurd (none-some it.session (sym (get-empty nat_cmp it.number)
      ∙ it.is_there))) (λ it. absurd (in_none it.snapshot it.is_there)) rest) has

  looked_up : (scope : Scope) (bucket : List ℕ) (snapshot : Option (List ℕ)) (key : List ℕ)
      → Contains (blocks_of (pieces_in (keys_in (bucket_in scope bucket) snapshot) key)) block → IsSeen block scope
  looked_up scope bucket snapshot key has = by (found_in scope bucket) refl (in_bucket (bucket_in scope bucket) snapshot key has)
    where
      by : (found : Option Bucket) → found_in scope bucket ≡ found → Has block (bucket_or_new (found_in scope bucket)) → IsSeen block scope
      by None is it = absurd (none_new (subst (λ (o : Option Bucket). Has block (bucket_or_new o)) is it))
      by (Some there) is it = record { name = bucket; bucket = there; is_there = is; has = subst (λ (o : Option Bucket). Has block (bucket_or_new o)) is it }

  none_named : (o : Option Code) (given reply : Reply) → named_by given ≡ [] → reply ≡ reply_from o given → named_by reply ≡ []
  none_named None given reply none is = ap named_by is ∙ none
  none_named (Some code) given reply none is = ap named_by is

  granted_named : (o : Option Code) (given reply : Reply) → named_by given ≡ granted_by given → reply ≡ reply_from o given
      → Contains (named_by reply) block → Contains (granted_by reply) block
  granted_named None given reply same is named =
      subst (λ (r : Reply). Contains (granted_by r) block) (sym is)
      (subst (λ (l : List Block). Contains l block) same (subst (λ (r : Reply). Contains (named_by r) block) is named))
  granted_named (Some code) given reply same is named = absurd (in_none block (subst (λ (r : Reply). Contains (named_by r) block) is named))

  pieces_named : (o : Option Code) (pieces : List Piece) (reply : Reply) → reply ≡ reply_from o (replies.Pieces pieces)
      → Contains (named_by reply) block → Contains (blocks_of pieces) block
  pieces_named None pieces reply is named = subst (λ (r : Reply). Contains (named_by r) block) is named
  pieces_named (Some code) pieces reply is named = absurd (in_none block (subst (λ (r : Reply). Contains (named_by r) block) is named))

  named_seen : (o : Option Code) (scope : Scope) (request : Request) (reply : Reply) → Replies o scope request reply
      → Contains (named_by reply) block → IsSeen block scope ⊎ Contains (granted_by reply) block
  named_seen o scope (AllocateBlock volume bucket key session exclude) reply (given, pipeline, is) named =
      inr (granted_named o (replies.Granted given pipeline) reply refl is named)
  named_seen o scope (LookupKey volume bucket snapshot key) reply is named =
      inl (looked_up scope bucket snapshot key (pieces_named o (pieces_in (keys_in (bucket_in scope bucket) snapshot) key) reply is named))
  named_seen o scope request reply is named = absurd (in_none block (subst (λ (l : List Block). Contains l block) (none_named o _ reply refl is) named))

-- a block that a namespace reaches in this volume
pub record IsReachedIn (namespace : Namespace) (volume : List ℕ) (block : Block) : Type 0 where
  pub reached : IsReached namespace block
  pub its : reached.volume ≡ volume

pub named_reached : (namespace : Namespace) (request : Request) (reply : Reply) (block : Block) → Answers namespace request reply
    → Contains (named_by reply) block → IsReachedIn namespace (volume_in request) block ⊎ Contains (granted_by reply) block
unfolding Answers
named_reached namespace request reply block answers named = ⊎_elim
    (λ seen. inl (record {
      reached = record {
        volume = volume_in request;
        name = seen.name;
        bucket = seen.bucket;
        is_there = seen.is_there;
        has = seen.has;
      };
      its = refl;
    }))
    (λ granted. inr granted)
    (named_seen block (refusal (scope_of namespace (volume_in request)) request) (scope_of namespace (volume_in request)) request reply answers named)
