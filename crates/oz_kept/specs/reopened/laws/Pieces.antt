-- Which pieces a request brings into keys and snapshots: none but those that it commits.
use Rattle.std.proofs.Common.{
  ◌≡◌,
  ◌⊎◌,
  ⊎_elim,
  inl,
  inr,
  ℕ,
  Bool,
  true,
  false,
  T,
  cond,
  List,
  [],
  ◌∷◌,
  ◌++◌,
  filter,
  Option,
  None,
  Some,
  is_some,
  Contains,
  refl,
  sym,
  ◌∙◌,
  ap,
  subst,
}
use Rattle.std.proofs.lemmas.List.Elements.{Contains-append_cases, Contains-append_left, Contains-append_right, Contains-push_cases}
use Rattle.std.specs.declared.cmp.Ordering.{Ordering}
use Rattle.std.specs.Cmp.{IsTotalOrder}
use Rattle.std.specs.Cmp.Lexicographic.{slice_cmp, nat_list_cmp_total}
use Rattle.std.specs.FinMap.{FinMap, get, insert, remove, get-empty, get-insert, get-remove}
use Rattle.std.specs.Option.{option_and_then, unwrap_or}
use Rattle.std.specs.Ordering.{nat_cmp, eq_by_cmp}
use Rattle.oz_fields.specs.declared.block.Piece.{Piece}
use Rattle.oz_namespace.specs.declared.namespace.Bucket.{Bucket}
use Rattle.oz_namespace.specs.declared.namespace.Namespace.{Namespace}
use Rattle.oz_namespace.specs.declared.namespace.Snapshot.{Snapshot}
use Rattle.oz_namespace.specs.Namespace.{ByName, new_bucket}
use Rattle.oz_model.specs.declared.scope.Scope.{Scope}
use Rattle.oz_requests.specs.declared.reply.Reply.{Reply}
use Rattle.oz_requests.specs.declared.reply.Reply.TheVariants as replies
use Rattle.oz_requests.specs.declared.request.Request.{Request}
use Rattle.oz_requests.specs.declared.request.Request.TheVariants as requests
use Rattle.oz_requests.specs.Names.{volume_in}
use Rattle.oz_model.specs.Answers.{left, scope_after, after}
use Rattle.oz_model.specs.Buckets.{
  buckets_in,
  found_in,
  bucket_in,
  bucket_or_new,
  pieces_or_none,
  pieces_in,
  session_blocks,
  next_number,
  granted_by,
  with_session,
  committed,
  with_keys,
  renamed,
  with_bucket,
  without_sessions,
  with_snapshot,
  without_snapshot,
}
use Rattle.oz_model.specs.Scope.{scope_of}
use Rattle.oz_model.specs.laws.Stripes.{found_with}
use Rattle.oz_core.specs.Pieces.{IsPieceOfKey, IsPieceOfSnapshot, IsPieceIn}
use Rattle.oz_kept.specs.laws.Reached.{in_none}

some_is : {A : Type 0} (a b : A) → Some a ≡ Some b → a ≡ b
some_is a b e = ap (λ o. unwrap_or o a) e

none_is : {A : Type 0} {Claim : Type 0} (a : A) → None ≡ Some a → Claim
none_is a e = absurd (subst T (sym (ap is_some e)) tt)

-- what a map has after a change it had before, or it was put there
module _ {K X : Type 0} {R : K → K → Ordering} (o : IsTotalOrder R) where
  put_or_there : (m : FinMap R X) (k : K) (v : X) (q : K) (x : X) → get (insert m k v) q ≡ Some x → (v ≡ x) ⊎ (get m q ≡ Some x)
  put_or_there m k v q x is = by_test (eq_by_cmp R q k) (sym (get-insert o m k v q) ∙ is)
    where
      by_test : (t : Bool) → cond t (Some v) (get m q) ≡ Some x → (v ≡ x) ⊎ (get m q ≡ Some x)
      by_test true e = inl (some_is v x e)
      by_test false e = inr e

  was_there : (m : FinMap R X) (k : K) (q : K) (x : X) → get (remove m k) q ≡ Some x → get m q ≡ Some x
  was_there m k q x is = by_test (eq_by_cmp R q k) (sym (get-remove o m k q) ∙ is)
    where
      by_test : (t : Bool) → cond t None (get m q) ≡ Some x → get m q ≡ Some x
      by_test true e = none_is x e
      by_test false e = e

-- what a request commits
abbrev pub pieces_of : Option Request → List Piece
pieces_of (Some (requests.CommitKey volume bucket key session pieces)) = pieces
pieces_of _ = []

module _ (piece : Piece) where
  abbrev Has : Bucket → Type 0
  Has bucket = IsPieceOfKey bucket.keys piece ⊎ IsPieceOfSnapshot bucket piece

  record IsSeen (scope : Scope) : Type 0 where
    name : List ℕ
    bucket : Bucket
    is_there : found_in scope name ≡ Some bucket
    has : Has bucket

  keys_put : (keys : ByName (List Piece)) (key : List ℕ) (pieces : List Piece) → IsPieceOfKey (insert keys key pieces) piece → Contains pieces piece
      ⊎ IsPieceOfKey keys piece
  keys_put keys key pieces it = ⊎_elim
      (λ same. inl (subst (λ (l : List Piece). Contains l piece) (sym same) it.has))
      (λ there. inr (record { key = it.key; pieces = it.pieces; is_there = there; has = it.has }))
      (put_or_there nat_list_cmp_total keys key pieces it.key it.pieces it.is_there)

  keys_gone : (keys : ByName (List Piece)) (key : List ℕ) → IsPieceOfKey (remove keys key) piece → IsPieceOfKey keys piece
  keys_gone keys key it =
      record { key = it.key; pieces = it.pieces; is_there = was_there nat_list_cmp_total keys key it.key it.pieces it.is_there; has = it.has }

  pieces_seen : (keys : ByName (List Piece)) (key : List ℕ) → Contains (pieces_in keys key) piece → IsPieceOfKey keys piece
  pieces_seen keys key has = by_case (get keys key) refl
    where
      by_case : (found : Option (List Piece)) → get keys key ≡ found → IsPieceOfKey keys piece
      by_case None is = absurd (in_none piece (subst (λ o. Contains (pieces_or_none o) piece) is has))
      by_case (Some pieces) is = record { key = key; pieces = pieces; is_there = is; has = subst (λ o. Contains (pieces_or_none o) piece) is has }

  none_new : {Claim : Type 0} → Has new_bucket → Claim
  none_new has = ⊎_elim
      (λ it. none_is it.pieces (sym (get-empty (slice_cmp nat_cmp) it.key) ∙ it.is_there))
      (λ it. absurd (in_none it.snapshot it.is_there)) has

  -- with the same keys and snapshots; with other keys; with other snapshots
  snapshots_have : (old new : Bucket) → old.snapshots ≡ new.snapshots → IsPieceOfSnapshot new piece → IsPieceOfSnapshot old piece
  snapshots_have old new same it =
      record { snapshot = it.snapshot; is_there = subst (λ (l : List Snapshot). Contains l it.snapshot) (sym same) it.is_there; of_key = it.of_key }

  same_has : (old new : Bucket) → old.keys ≡ new.keys → old.snapshots ≡ new.snapshots → Has new → Has old
  same_has old new keys snapshots has = ⊎_elim
      (λ it. inl (subst (λ (k : ByName (List Piece)). IsPieceOfKey k piece) (sym keys) it))
      (λ it. inr (snapshots_have old new snapshots it)) has

  keys_have : (bucket : Bucket) (keys : ByName (List Piece)) → (IsPieceOfKey keys piece → Has bucket) → Has (with_keys bucket keys) → Has bucket
  keys_have bucket keys known has = ⊎_elim known (λ it. inr (snapshots_have bucket (with_keys bucket keys) refl it)) has

  renamed_have : (bucket : Bucket) (key to : List ℕ) → IsPieceOfKey (renamed bucket.keys key to) piece → Has bucket
  renamed_have bucket key to it =
      inl (⊎_elim (pieces_seen bucket.keys key) (keys_gone bucket.keys key) (keys_put (remove bucket.keys key) to (pieces_in bucket.keys key) it))

  committed_has : (bucket : Bucket) (key : List ℕ) (number : ℕ) (pieces : List Piece) → Has (committed bucket key number pieces) → Contains pieces piece
      ⊎ Has bucket
  committed_has bucket key number pieces has = ⊎_elim
      (λ it. ⊎_elim (λ new. inl new) (λ old. inr (inl old)) (keys_put bucket.keys key pieces it))
      (λ it. inr (inr (snapshots_have bucket (committed bucket key number pieces) refl it))) has

  copied_has : (bucket : Bucket) (name : List ℕ) → Has (with_snapshot bucket name) → Has bucket
  copied_has bucket name has = ⊎_elim (λ it. inl it)
      (λ it. ⊎_elim
      (λ old. inr (record { snapshot = it.snapshot; is_there = old; of_key = it.of_key }))
      (λ same. inl (subst (λ (s : Snapshot). IsPieceOfKey s.keys piece) (sym same) it.of_key))
      (Contains-push_cases bucket.snapshots (record { name = name; keys = bucket.keys }) it.snapshot it.is_there)) has

  filtered : {A : Type 0} (keeps : A → Bool) (items : List A) (x : A) → Contains (filter keeps items) x → Contains items x
  filtered keeps [] x has = has
  filtered keeps (item ∷ items) x has = by_test (keeps item) (filtered keeps items x) has
    where
      by_test : (t : Bool) → (Contains (filter keeps items) x → Contains items x) → Contains (cond t (item ∷ filter keeps items) (filter keeps items)) x
          → Contains (item ∷ items) x
      by_test true rest has = ⊎_elim
          (λ first. Contains-append_left (item ∷ []) items x first)
          (λ later. Contains-append_right (item ∷ []) items x (rest later))
          (Contains-append_cases (item ∷ []) (filter keeps items) x has)
      by_test false rest has = Contains-append_right (item ∷ []) items x (rest has)

  dropped_has : (bucket : Bucket) (name : List ℕ) → Has (without_snapshot bucket name) → Has bucket
  dropped_has bucket name has = ⊎_elim (λ it. inl it)
      (λ it. inr (record { snapshot = it.snapshot; is_there = filtered _ bucket.snapshots it.snapshot it.is_there; of_key = it.of_key })) has

  -- a bucket of a scope
  there_in : (buckets : Option (ByName Bucket)) (name : List ℕ) (bucket : Bucket) → get (buckets_in buckets) name ≡ Some bucket
      → option_and_then (λ (all : ByName Bucket). get all name) buckets ≡ Some bucket
  there_in None name bucket is = none_is bucket (sym (get-empty (slice_cmp nat_cmp) name) ∙ is)
  there_in (Some buckets) name bucket is = is

  bucket_seen : (scope : Scope) (name : List ℕ) → Has (bucket_in scope name) → IsSeen scope
  bucket_seen scope name has = by_case (found_in scope name) refl
    where
      by_case : (found : Option Bucket) → found_in scope name ≡ found → IsSeen scope
      by_case None is = none_new (subst (λ o. Has (bucket_or_new o)) is has)
      by_case (Some bucket) is = record { name = name; bucket = bucket; is_there = is; has = subst (λ o. Has (bucket_or_new o)) is has }

  bucket_put : (scope : Scope) (name : List ℕ) (bucket : Bucket) → IsSeen (with_bucket scope name bucket) → Has bucket ⊎ IsSeen scope
  bucket_put scope name bucket it = ⊎_elim
      (λ same. inl (subst Has (sym same) it.has))
      (λ there. inr (record { name = it.name; bucket = it.bucket; is_there = there_in scope.buckets it.name it.bucket there; has = it.has }))
      (put_or_there nat_list_cmp_total (buckets_in scope.buckets) name bucket it.name it.bucket it.is_there)

  changed : (scope : Scope) (name : List ℕ) (bucket : Bucket) → (Has bucket → Has (bucket_in scope name)) → IsSeen (with_bucket scope name bucket)
      → IsSeen scope
  changed scope name bucket known it = ⊎_elim (λ has. bucket_seen scope name (known has)) (λ seen. seen) (bucket_put scope name bucket it)

  left_seen : (scope : Scope) (request : Request) (reply : Reply) → IsSeen (left scope request reply) → Contains (pieces_of (Some request)) piece ⊎ IsSeen scope
  left_seen scope (requests.CreateVolume volume) reply it = inr (none_is it.bucket (sym (get-empty (slice_cmp nat_cmp) it.name) ∙ it.is_there))
  left_seen scope (requests.DeleteVolume volume) reply it = inr (none_is it.bucket it.is_there)
  left_seen scope (requests.CreateBucket volume bucket) reply it = inr (changed scope bucket new_bucket (λ has. none_new has) it)
  left_seen scope (requests.DeleteBucket volume bucket) reply it =
      inr (record {
        name = it.name;
        bucket = it.bucket;
        is_there = there_in scope.buckets it.name it.bucket
            (was_there nat_list_cmp_total (buckets_in scope.buckets) bucket it.name it.bucket it.is_there);
        has = it.has;
      })
  left_seen scope (requests.CreateKey volume bucket key) reply it =
      let with = with_session (bucket_in scope bucket) (next_number scope) key [] in
      inr (changed scope bucket with (same_has (bucket_in scope bucket) with refl refl)
      (record { name = it.name; bucket = it.bucket; is_there = it.is_there; has = it.has }))
  left_seen scope (requests.AllocateBlock volume bucket key session exclude) reply it =
      let with = with_session (bucket_in scope bucket) session key (session_blocks (bucket_in scope bucket) session ++ granted_by reply) in
      inr (changed scope bucket with (same_has (bucket_in scope bucket) with refl refl) it)
  left_seen scope (requests.CommitKey volume bucket key session pieces) reply it = ⊎_elim
      (λ has. ⊎_elim (λ new. inl new) (λ old. inr (bucket_seen scope bucket old)) (committed_has (bucket_in scope bucket) key session pieces has))
      (λ seen. inr seen)
      (bucket_put scope bucket (committed (bucket_in scope bucket) key session pieces) it)
  left_seen scope (requests.DeleteKey volume bucket key) reply it =
      let old = bucket_in scope bucket in
      inr (changed scope bucket (with_keys old (remove old.keys key)) (keys_have old (remove old.keys key) (λ has. inl (keys_gone old.keys key has))) it)
  left_seen scope (requests.RenameKey volume bucket key to) reply it =
      let old = bucket_in scope bucket in
      inr (changed scope bucket (with_keys old (renamed old.keys key to)) (keys_have old (renamed old.keys key to) (renamed_have old key to)) it)
  left_seen scope (requests.ExpireOpen volume bucket) reply it =
      let old = bucket_in scope bucket in
      inr (changed scope bucket (without_sessions old) (same_has old (without_sessions old) refl refl) it)
  left_seen scope (requests.CreateSnapshot volume bucket snapshot) reply it =
      let old = bucket_in scope bucket in
      inr (changed scope bucket (with_snapshot old snapshot) (copied_has old snapshot)
      (record { name = it.name; bucket = it.bucket; is_there = it.is_there; has = it.has }))
  left_seen scope (requests.DeleteSnapshot volume bucket snapshot) reply it =
      let old = bucket_in scope bucket in
      inr (changed scope bucket (without_snapshot old snapshot) (dropped_has old snapshot) it)
  left_seen scope (requests.InfoVolume volume) reply it = inr it
  left_seen scope (requests.InfoBucket volume bucket) reply it = inr it
  left_seen scope (requests.ListBuckets volume) reply it = inr it
  left_seen scope (requests.LookupKey volume bucket snapshot key) reply it = inr it
  left_seen scope (requests.ListKeys volume bucket snapshot prefix start count) reply it = inr it
  left_seen scope (requests.ListSnapshots volume bucket) reply it = inr it
  left_seen scope (requests.InfoSnapshot volume bucket snapshot) reply it = inr it
  left_seen scope (requests.Purge volume rows) reply it = inr it
  left_seen scope (requests.MoveDeleted volume bucket number to) reply it = inr it
  left_seen scope (requests.PurgeSnapshot volume bucket number) reply it = inr it

  seen_after : (scope : Scope) (request : Request) (reply : Reply) → IsSeen (scope_after scope request reply) → Contains (pieces_of (Some request)) piece
      ⊎ IsSeen scope
  seen_after scope request (replies.Code code) it = inr it
  seen_after scope request replies.Done it = left_seen scope request replies.Done it
  seen_after scope request (replies.Count count) it = left_seen scope request (replies.Count count) it
  seen_after scope request (replies.Counts counts) it = left_seen scope request (replies.Counts counts) it
  seen_after scope request (replies.Names names) it = left_seen scope request (replies.Names names) it
  seen_after scope request (replies.Session number) it = left_seen scope request (replies.Session number) it
  seen_after scope request (replies.Granted given pipeline) it = left_seen scope request (replies.Granted given pipeline) it
  seen_after scope request (replies.Pieces pieces) it = left_seen scope request (replies.Pieces pieces) it

  pub pieces_grow : (namespace : Namespace) (request : Request) (reply : Reply) → IsPieceIn (after namespace request reply) piece
      → Contains (pieces_of (Some request)) piece ⊎ IsPieceIn namespace piece
  unfolding after
  pieces_grow namespace request reply it = by_test (eq_by_cmp (slice_cmp nat_cmp) it.volume volume) found
    where
      volume : List ℕ
      volume = volume_in request

      scope : Scope
      scope = scope_of namespace volume

      found : option_and_then (λ (all : ByName Bucket). get all it.name)
          (cond (eq_by_cmp (slice_cmp nat_cmp) it.volume volume) (scope_after scope request reply).buckets (get namespace.volumes it.volume))
          ≡ Some it.bucket
      found = ap (option_and_then (λ (all : ByName Bucket). get all it.name))
          (sym (found_with namespace.volumes volume (scope_after scope request reply).buckets it.volume)) ∙ it.is_there

      by_test : (t : Bool)
          → option_and_then (λ (all : ByName Bucket). get all it.name) (cond t (scope_after scope request reply).buckets (get namespace.volumes it.volume))
          ≡ Some it.bucket → Contains (pieces_of (Some request)) piece ⊎ IsPieceIn namespace piece
      by_test true is = ⊎_elim
          (λ given. inl given)
          (λ seen. inr (record { volume = volume; name = seen.name; bucket = seen.bucket; is_there = seen.is_there; has = seen.has }))
          (seen_after scope request reply (record { name = it.name; bucket = it.bucket; is_there = is; has = it.has }))
      by_test false is = inr (record { volume = it.volume; name = it.name; bucket = it.bucket; is_there = is; has = it.has })
