-- Which blocks a request brings into reach: none but the one that it grants.
use Rattle.std.proofs.Common.{
  ◌≡◌,
  ◌⊎◌,
  ⊎_elim,
  inl,
  inr,
  ◌≢◌,
  ◌||◌,
  arith,
  ℕ,
  Bool,
  true,
  false,
  T,
  not,
  cond,
  List,
  [],
  ◌∷◌,
  ◌++◌,
  filter,
  Option,
  None,
  Some,
  is_some,
  refl,
  sym,
  ◌∙◌,
  ap,
  subst,
}
use Rattle.std.proofs.Math.Bool.{◌&&◌}
use mathlib.Core.Bool.{false≢true}
use Rattle.std.proofs.lemmas.Bool.{eqb-true}
use Rattle.std.specs.Prelude.{nat_lt, nat_le}
use Rattle.std.proofs.lemmas.List.Elements.{Contains-append_cases, Contains-append_left, Contains-append_right, Contains-push, Contains-push_cases}
use Rattle.std.specs.declared.cmp.Ordering.{Ordering}
use Rattle.std.specs.Cmp.{IsTotalOrder, nat_cmp_total}
use Rattle.std.specs.Cmp.Lexicographic.{slice_cmp, nat_list_cmp_total}
use Rattle.std.specs.FinMap.{FinMap, get, insert, remove, get-empty, get-insert, get-remove}
use Rattle.std.specs.List.{Contains}
use Rattle.std.specs.Option.{option_and_then, unwrap_or}
use Rattle.std.specs.Ordering.{nat_cmp, eq_by_cmp}
use Rattle.oz_fields.specs.declared.block.Block.{Block}
use Rattle.oz_fields.specs.declared.block.Piece.{Piece}
use Rattle.oz_fields.specs.declared.block.TheConstants.{LONGEST_PIECE}
use Rattle.oz_namespace.specs.declared.namespace.Bucket.{Bucket}
use Rattle.oz_namespace.specs.declared.namespace.Namespace.{Namespace}
use Rattle.oz_namespace.specs.declared.namespace.Session.{Session}
use Rattle.oz_namespace.specs.declared.namespace.Snapshot.{Snapshot}
use Rattle.oz_namespace.specs.Namespace.{ByName, new_bucket}
use Rattle.oz_model.specs.declared.scope.Scope.{Scope}
use Rattle.oz_names.specs.declared.code.Code.{Code}
use Rattle.oz_requests.specs.declared.reply.Reply.{Reply}
use Rattle.oz_requests.specs.declared.reply.Reply.TheVariants as replies
use Rattle.oz_requests.specs.declared.request.Request.{Request}
use Rattle.oz_requests.specs.declared.request.Request.TheVariants.{
  CreateVolume,
  InfoVolume,
  DeleteVolume,
  CreateBucket,
  InfoBucket,
  DeleteBucket,
  ListBuckets,
  CreateKey,
  AllocateBlock,
  CommitKey,
  DeleteKey,
  RenameKey,
  LookupKey,
  ListKeys,
  ExpireOpen,
  CreateSnapshot,
  DeleteSnapshot,
  ListSnapshots,
  InfoSnapshot,
  Purge,
  MoveDeleted,
  PurgeSnapshot,
}
use Rattle.oz_requests.specs.Names.{volume_in, name_fault}
use Rattle.oz_model.specs.Answers.{reply_from, left, scope_after, AnswersIn, Answers, after}
use Rattle.oz_model.specs.Buckets.{
  buckets_in,
  found_in,
  bucket_in,
  bucket_or_new,
  pieces_or_none,
  pieces_in,
  blocks_or_none,
  session_blocks,
  has_block,
  is_same_block,
  is_piece_of,
  are_pieces_of,
  next_number,
  granted_by,
  with_session,
  committed,
  with_bucket,
  with_keys,
  with_snapshot,
  without_snapshot,
  without_sessions,
  renamed,
}
use Rattle.oz_model.specs.Refusals.{first_of, missing, codes, refusal}
use Rattle.oz_model.specs.Reach.{blocks_of, InKeys, InSessions, InSnapshots, IsReached}
use Rattle.oz_model.specs.Scope.{scope_of}
use Rattle.oz_model.specs.laws.Order.{or_then, in_order}
use Rattle.oz_model.specs.laws.Stripes.{found_with}

some_is : {A : Type 0} (a b : A) → Some a ≡ Some b → a ≡ b
some_is a b e = ap (λ o. unwrap_or o a) e

none_is : {A : Type 0} {Claim : Type 0} (a : A) → None ≡ Some a → Claim
none_is a e = absurd (subst T (sym (ap is_some e)) tt)

some_apart : {A : Type 0} {a : A} → Some a ≡ None → ⊥
some_apart e = false≢true (sym (ap is_some e))

and_first : (a b : Bool) → (a && b) ≡ true → a ≡ true
and_first true b e = refl
and_first false b e = absurd (false≢true e)

and_second : (a b : Bool) → (a && b) ≡ true → b ≡ true
and_second true b e = e
and_second false b e = absurd (false≢true e)

no_member : {A : Type 0} {Claim : Type 0} (x : A) → Contains [] x → Claim
no_member x (at, below, is) = absurd (omega (arith, below))

one_member : {A : Type 0} (x y : A) → Contains (y ∷ []) x → y ≡ x
one_member x y has = ⊎_elim (no_member x) (λ same. same) (Contains-push_cases [] y x has)

-- what a map has after a change it had before, or it was put there
module _ {K X : Type 0} {R : K → K → Ordering} (o : IsTotalOrder R) where
  put_or_there : (m : FinMap R X) (k : K) (v : X) (q : K) (x : X) → get (insert m k v) q ≡ Some x → (v ≡ x) ⊎ (get m q ≡ Some x)
  put_or_there m k v q x is = by_test (eq_by_cmp R q k) (sym (get-insert o m k v q) ∙ is)
    where
      by_test : (t : Bool) → cond t (Some v) (get m q) ≡ Some x → (v ≡ x) ⊎ (get m q ≡ Some x)
      by_test true e = inl (some_is v x e)
      by_test false e = inr e

  was_there : (m : FinMap R X) (k : K) (q : K) (x : X) → get (remove m k) q ≡ Some x → get m q ≡ Some x
  was_there m k q x is = by_test (eq_by_cmp R q k) (sym (get-remove o m k q) ∙ is)
    where
      by_test : (t : Bool) → cond t None (get m q) ≡ Some x → get m q ≡ Some x
      by_test true e = none_is x e
      by_test false e = e

module _ (block : Block) where
  -- one of these in a bucket
  abbrev pub Has : Bucket → Type 0
  Has bucket = InKeys bucket.keys block ⊎ (InSessions bucket block ⊎ InSnapshots bucket block)

  -- one of these in a bucket that a scope has
  pub record IsSeen (scope : Scope) : Type 0 where
    pub name : List ℕ
    pub bucket : Bucket
    pub is_there : found_in scope name ≡ Some bucket
    pub has : Has bucket

  keys_put : (keys : ByName (List Piece)) (key : List ℕ) (pieces : List Piece) → InKeys (insert keys key pieces) block → Contains (blocks_of pieces) block
      ⊎ InKeys keys block
  keys_put keys key pieces it = ⊎_elim
      (λ same. inl (subst (λ (l : List Piece). Contains (blocks_of l) block) (sym same) it.has))
      (λ there. inr (record { key = it.key; pieces = it.pieces; is_there = there; has = it.has }))
      (put_or_there nat_list_cmp_total keys key pieces it.key it.pieces it.is_there)

  keys_gone : (keys : ByName (List Piece)) (key : List ℕ) → InKeys (remove keys key) block → InKeys keys block
  keys_gone keys key it =
      record { key = it.key; pieces = it.pieces; is_there = was_there nat_list_cmp_total keys key it.key it.pieces it.is_there; has = it.has }

  pieces_seen : (keys : ByName (List Piece)) (key : List ℕ) → Contains (blocks_of (pieces_in keys key)) block → InKeys keys block
  pieces_seen keys key has = by_case (get keys key) refl
    where
      by_case : (found : Option (List Piece)) → get keys key ≡ found → InKeys keys block
      by_case None is = no_member block (subst (λ o. Contains (blocks_of (pieces_or_none o)) block) is has)
      by_case (Some pieces) is = record { key = key; pieces = pieces; is_there = is; has = subst (λ o. Contains (blocks_of (pieces_or_none o)) block) is has }

  sessions_put : (bucket : Bucket) (number : ℕ) (key : List ℕ) (blocks : List Block) → InSessions (with_session bucket number key blocks) block
      → Contains blocks block ⊎ InSessions bucket block
  sessions_put bucket number key blocks it = ⊎_elim
      (λ same. inl (subst (λ (s : Session). Contains s.blocks block) (sym same) it.has))
      (λ there. inr (record { number = it.number; session = it.session; is_there = there; has = it.has }))
      (put_or_there nat_cmp_total bucket.sessions number (record { key = key; blocks = blocks }) it.number it.session it.is_there)

  session_seen : (bucket : Bucket) (number : ℕ) → Contains (session_blocks bucket number) block → InSessions bucket block
  session_seen bucket number has = by_case (get bucket.sessions number) refl
    where
      by_case : (found : Option Session) → get bucket.sessions number ≡ found → InSessions bucket block
      by_case None is = no_member block (subst (λ o. Contains (blocks_or_none o) block) is has)
      by_case (Some session) is = record { number = number; session = session; is_there = is; has = subst (λ o. Contains (blocks_or_none o) block) is has }

  -- a new bucket has none
  none_new : {Claim : Type 0} → Has new_bucket → Claim
  none_new has = ⊎_elim
      (λ it. none_is it.pieces (sym (get-empty (slice_cmp nat_cmp) it.key) ∙ it.is_there))
      (λ rest. ⊎_elim (λ it. none_is it.session (sym (get-empty nat_cmp it.number) ∙ it.is_there)) (λ it. no_member it.snapshot it.is_there) rest) has

  -- with a session on a key, with other keys, with a key committed, without sessions, with other snapshots
  session_has : (bucket : Bucket) (number : ℕ) (key : List ℕ) (blocks : List Block) → Has (with_session bucket number key blocks) → Contains blocks block
      ⊎ Has bucket
  session_has bucket number key blocks has = ⊎_elim
      (λ it. inr (inl it))
      (λ rest. ⊎_elim
      (λ it. ⊎_elim (λ new. inl new) (λ old. inr (inr (inl old))) (sessions_put bucket number key blocks it))
      (λ it. inr (inr (inr (record { snapshot = it.snapshot; is_there = it.is_there; in_keys = it.in_keys })))) rest) has

  keys_have : (bucket : Bucket) (keys : ByName (List Piece)) → (InKeys keys block → Has bucket) → Has (with_keys bucket keys) → Has bucket
  keys_have bucket keys known has = ⊎_elim known
      (λ rest. inr (⊎_elim
      (λ it. inl (record { number = it.number; session = it.session; is_there = it.is_there; has = it.has }))
      (λ it. inr (record { snapshot = it.snapshot; is_there = it.is_there; in_keys = it.in_keys })) rest)) has

  renamed_have : (bucket : Bucket) (key to : List ℕ) → InKeys (renamed bucket.keys key to) block → Has bucket
  renamed_have bucket key to it =
      inl (⊎_elim (pieces_seen bucket.keys key) (keys_gone bucket.keys key) (keys_put (remove bucket.keys key) to (pieces_in bucket.keys key) it))

  committed_has : (bucket : Bucket) (key : List ℕ) (number : ℕ) (pieces : List Piece) → (Contains (blocks_of pieces) block → InSessions bucket block)
      → Has (committed bucket key number pieces) → Has bucket
  committed_has bucket key number pieces known has = ⊎_elim
      (λ it. ⊎_elim (λ new. inr (inl (known new))) (λ old. inl old) (keys_put bucket.keys key pieces it))
      (λ rest. inr (⊎_elim
      (λ it. inl (record {
        number = it.number;
        session = it.session;
        is_there = was_there nat_cmp_total bucket.sessions number it.number it.session it.is_there;
        has = it.has;
      }))
      (λ it. inr (record { snapshot = it.snapshot; is_there = it.is_there; in_keys = it.in_keys })) rest)) has

  expired_has : (bucket : Bucket) → Has (without_sessions bucket) → Has bucket
  expired_has bucket has = ⊎_elim (λ it. inl it)
      (λ rest. ⊎_elim
      (λ it. none_is it.session (sym (get-empty nat_cmp it.number) ∙ it.is_there))
      (λ it. inr (inr (record { snapshot = it.snapshot; is_there = it.is_there; in_keys = it.in_keys }))) rest) has

  copied_has : (bucket : Bucket) (name : List ℕ) → Has (with_snapshot bucket name) → Has bucket
  copied_has bucket name has = ⊎_elim (λ it. inl it)
      (λ rest. ⊎_elim
      (λ it. inr (inl (record { number = it.number; session = it.session; is_there = it.is_there; has = it.has })))
      (λ it. ⊎_elim
      (λ old. inr (inr (record { snapshot = it.snapshot; is_there = old; in_keys = it.in_keys })))
      (λ same. inl (subst (λ (s : Snapshot). InKeys s.keys block) (sym same) it.in_keys))
      (Contains-push_cases bucket.snapshots (record { name = name; keys = bucket.keys }) it.snapshot it.is_there)) rest) has

  filtered : {A : Type 0} (keeps : A → Bool) (items : List A) (x : A) → Contains (filter keeps items) x → Contains items x
  filtered keeps [] x has = has
  filtered keeps (item ∷ items) x has = by_test (keeps item) (filtered keeps items x) has
    where
      by_test : (t : Bool) → (Contains (filter keeps items) x → Contains items x) → Contains (cond t (item ∷ filter keeps items) (filter keeps items)) x
          → Contains (item ∷ items) x
      by_test true rest has = ⊎_elim
          (λ first. Contains-append_left (item ∷ []) items x first)
          (λ later. Contains-append_right (item ∷ []) items x (rest later))
          (Contains-append_cases (item ∷ []) (filter keeps items) x has)
      by_test false rest has = Contains-append_right (item ∷ []) items x (rest has)

  dropped_has : (bucket : Bucket) (name : List ℕ) → Has (without_snapshot bucket name) → Has bucket
  dropped_has bucket name has = ⊎_elim (λ it. inl it)
      (λ rest. ⊎_elim
      (λ it. inr (inl (record { number = it.number; session = it.session; is_there = it.is_there; has = it.has })))
      (λ it. inr (inr (record { snapshot = it.snapshot; is_there = filtered _ bucket.snapshots it.snapshot it.is_there; in_keys = it.in_keys }))) rest) has

  -- a bucket of a scope
  there_in : (buckets : Option (ByName Bucket)) (name : List ℕ) (bucket : Bucket) → get (buckets_in buckets) name ≡ Some bucket
      → option_and_then (λ (all : ByName Bucket). get all name) buckets ≡ Some bucket
  there_in None name bucket is = none_is bucket (sym (get-empty (slice_cmp nat_cmp) name) ∙ is)
  there_in (Some buckets) name bucket is = is

  bucket_seen : (scope : Scope) (name : List ℕ) → Has (bucket_in scope name) → IsSeen scope
  bucket_seen scope name has = by_case (found_in scope name) refl
    where
      by_case : (found : Option Bucket) → found_in scope name ≡ found → IsSeen scope
      by_case None is = none_new (subst (λ o. Has (bucket_or_new o)) is has)
      by_case (Some bucket) is = record { name = name; bucket = bucket; is_there = is; has = subst (λ o. Has (bucket_or_new o)) is has }

  bucket_put : (scope : Scope) (name : List ℕ) (bucket : Bucket) → IsSeen (with_bucket scope name bucket) → Has bucket ⊎ IsSeen scope
  bucket_put scope name bucket it = ⊎_elim
      (λ same. inl (subst Has (sym same) it.has))
      (λ there. inr (record { name = it.name; bucket = it.bucket; is_there = there_in scope.buckets it.name it.bucket there; has = it.has }))
      (put_or_there nat_list_cmp_total (buckets_in scope.buckets) name bucket it.name it.bucket it.is_there)

  -- a bucket in whose place there is one that has nothing else
  changed : (scope : Scope) (name : List ℕ) (bucket : Bucket) → (Has bucket → Has (bucket_in scope name)) → IsSeen (with_bucket scope name bucket)
      → IsSeen scope
  changed scope name bucket known it = ⊎_elim (λ has. bucket_seen scope name (known has)) (λ seen. seen) (bucket_put scope name bucket it)

  -- the session has what its pieces name
  same_block : (one other : Block) → is_same_block one other ≡ true → one ≡ other
  same_block one other is =
      λ i. record { container = eqb-true one.container other.container (and_first _ _ is) i; local = eqb-true one.local other.local (and_second _ _ is) i }

  block_there : (blocks : List Block) (it : Block) → has_block blocks it ≡ true → Contains blocks it
  block_there [] it is = absurd (false≢true is)
  block_there (first ∷ blocks) it is = by_test (is_same_block first it) refl (block_there blocks it) is
    where
      by_test : (t : Bool) → is_same_block first it ≡ t → (has_block blocks it ≡ true → Contains blocks it) → (t || has_block blocks it) ≡ true
          → Contains (first ∷ blocks) it
      by_test true same rest is =
          Contains-append_left (first ∷ []) blocks it (subst (λ (b : Block). Contains (first ∷ []) b) (same_block first it same) (Contains-push [] first))
      by_test false same rest is = Contains-append_right (first ∷ []) blocks it (rest is)

  in_blocks : (blocks : List Block) (piece : Piece) (others : List Piece) → is_piece_of blocks piece others ≡ true → has_block blocks piece.block ≡ true
  in_blocks blocks piece others is =
      let has = has_block blocks piece.block in
      let alone = not (has_block (blocks_of others) piece.block) in
      let some = nat_lt 0 piece.length in
      and_first has alone (and_first (has && alone) some (and_first (has && alone && some) (nat_le piece.length LONGEST_PIECE) is))

  pieces_known : (blocks : List Block) (pieces : List Piece) → are_pieces_of blocks pieces ≡ true → Contains (blocks_of pieces) block → Contains blocks block
  pieces_known blocks [] is has = no_member block has
  pieces_known blocks (piece ∷ pieces) is has = ⊎_elim
      (λ first. subst (λ (b : Block). Contains blocks b) (one_member block piece.block first)
      (block_there blocks piece.block (in_blocks blocks piece pieces (and_first (is_piece_of blocks piece pieces) (are_pieces_of blocks pieces) is))))
      (λ later. pieces_known blocks pieces (and_second (is_piece_of blocks piece pieces) (are_pieces_of blocks pieces) is) later)
      (Contains-append_cases (piece.block ∷ []) (blocks_of pieces) block has)

  then_none : (first other : Option Code) → or_then first other ≡ None → other ≡ None
  then_none None other e = e
  then_none (Some code) other e = absurd (some_apart e)

  pieces_tested : (session pieces : Bool) (one other : Code) → cond session (Some one) (cond (not pieces) (Some other) None) ≡ None → pieces ≡ true
  pieces_tested true pieces one other e = absurd (some_apart e)
  pieces_tested false true one other e = refl
  pieces_tested false false one other e = absurd (some_apart e)

  not_refused : (o : Option Code) (reply result : Reply) → ((code : Code) → reply ≢ replies.Code code) → reply ≡ reply_from o result → o ≡ None
  not_refused None reply result apart e = refl
  not_refused (Some code) reply result apart e = absurd (apart code e)

  -- what is left of a request that isn't refused
  left_seen : (scope : Scope) (request : Request) (reply : Reply) → ((code : Code) → reply ≢ replies.Code code) → AnswersIn scope request reply
      → IsSeen (left scope request reply) → IsSeen scope ⊎ Contains (granted_by reply) block
  left_seen scope (CreateVolume volume) reply apart answers it = inl (none_is it.bucket (sym (get-empty (slice_cmp nat_cmp) it.name) ∙ it.is_there))
  left_seen scope (DeleteVolume volume) reply apart answers it = inl (none_is it.bucket it.is_there)
  left_seen scope (CreateBucket volume bucket) reply apart answers it = inl (changed scope bucket new_bucket (λ has. none_new has) it)
  left_seen scope (DeleteBucket volume bucket) reply apart answers it =
      inl (record {
        name = it.name;
        bucket = it.bucket;
        is_there = there_in scope.buckets it.name it.bucket (was_there nat_list_cmp_total (buckets_in scope.buckets) bucket it.name it.bucket it.is_there);
        has = it.has;
      })
  left_seen scope (CreateKey volume bucket key) reply apart answers it =
      let with = with_session (bucket_in scope bucket) (next_number scope) key [] in
      inl (changed scope bucket with (λ has. ⊎_elim (λ new. no_member block new) (λ old. old)
      (session_has (bucket_in scope bucket) (next_number scope) key [] has))
      (record { name = it.name; bucket = it.bucket; is_there = it.is_there; has = it.has }))
  left_seen scope (AllocateBlock volume bucket key session exclude) reply apart answers it =
      let old = bucket_in scope bucket in
      let blocks = session_blocks old session in
      ⊎_elim
      (λ has. ⊎_elim
      (λ new. ⊎_elim (λ had. inl (bucket_seen scope bucket (inr (inl (session_seen old session had))))) (λ given. inr given)
      (Contains-append_cases blocks (granted_by reply) block new))
      (λ had. inl (bucket_seen scope bucket had))
      (session_has old session key (blocks ++ granted_by reply) has))
      (λ seen. inl seen)
      (bucket_put scope bucket (with_session old session key (blocks ++ granted_by reply)) it)
  left_seen scope (CommitKey volume bucket key session pieces) reply apart answers it =
      let request = CommitKey volume bucket key session pieces in
      let old = bucket_in scope bucket in
      let none : first_of (codes scope request) ≡ None =
      then_none (first_of (missing scope request)) _
      (then_none (name_fault request) _ (sym (in_order scope request) ∙ not_refused (refusal scope request) reply replies.Done apart answers)) in
      let known : are_pieces_of (session_blocks old session) pieces ≡ true = pieces_tested _ _ _ _ none in
      inl (changed scope bucket (committed old key session pieces)
      (committed_has old key session pieces (λ has. session_seen old session (pieces_known (session_blocks old session) pieces known has))) it)
  left_seen scope (DeleteKey volume bucket key) reply apart answers it =
      let old = bucket_in scope bucket in
      inl (changed scope bucket (with_keys old (remove old.keys key)) (keys_have old (remove old.keys key) (λ has. inl (keys_gone old.keys key has))) it)
  left_seen scope (RenameKey volume bucket key to) reply apart answers it =
      let old = bucket_in scope bucket in
      inl (changed scope bucket (with_keys old (renamed old.keys key to)) (keys_have old (renamed old.keys key to) (renamed_have old key to)) it)
  left_seen scope (ExpireOpen volume bucket) reply apart answers it =
      let old = bucket_in scope bucket in
      inl (changed scope bucket (without_sessions old) (expired_has old) it)
  left_seen scope (CreateSnapshot volume bucket snapshot) reply apart answers it =
      let old = bucket_in scope bucket in
      inl (changed scope bucket (with_snapshot old snapshot) (copied_has old snapshot)
      (record { name = it.name; bucket = it.bucket; is_there = it.is_there; has = it.has }))
  left_seen scope (DeleteSnapshot volume bucket snapshot) reply apart answers it =
      let old = bucket_in scope bucket in
      inl (changed scope bucket (without_snapshot old snapshot) (dropped_has old snapshot) it)
  left_seen scope (InfoVolume volume) reply apart answers it = inl it
  left_seen scope (InfoBucket volume bucket) reply apart answers it = inl it
  left_seen scope (ListBuckets volume) reply apart answers it = inl it
  left_seen scope (LookupKey volume bucket snapshot key) reply apart answers it = inl it
  left_seen scope (ListKeys volume bucket snapshot prefix start count) reply apart answers it = inl it
  left_seen scope (ListSnapshots volume bucket) reply apart answers it = inl it
  left_seen scope (InfoSnapshot volume bucket snapshot) reply apart answers it = inl it
  left_seen scope (Purge volume rows) reply apart answers it = inl it
  left_seen scope (MoveDeleted volume bucket number to) reply apart answers it = inl it
  left_seen scope (PurgeSnapshot volume bucket number) reply apart answers it = inl it

  seen_after : (scope : Scope) (request : Request) (reply : Reply) → AnswersIn scope request reply → IsSeen (scope_after scope request reply) → IsSeen scope
      ⊎ Contains (granted_by reply) block
  seen_after scope request (replies.Code code) answers it = inl it
  seen_after scope request replies.Done answers it = left_seen scope request replies.Done (λ code e. absurd cc) answers it
  seen_after scope request (replies.Count count) answers it = left_seen scope request (replies.Count count) (λ code e. absurd cc) answers it
  seen_after scope request (replies.Counts counts) answers it = left_seen scope request (replies.Counts counts) (λ code e. absurd cc) answers it
  seen_after scope request (replies.Names names) answers it = left_seen scope request (replies.Names names) (λ code e. absurd cc) answers it
  seen_after scope request (replies.Session number) answers it = left_seen scope request (replies.Session number) (λ code e. absurd cc) answers it
  seen_after scope request (replies.Granted given pipeline) answers it =
      left_seen scope request (replies.Granted given pipeline) (λ code e. absurd cc) answers it
  seen_after scope request (replies.Pieces pieces) answers it = left_seen scope request (replies.Pieces pieces) (λ code e. absurd cc) answers it

  pub reach_grows : (namespace : Namespace) (request : Request) (reply : Reply) → Answers namespace request reply
      → IsReached (after namespace request reply) block → IsReached namespace block ⊎ Contains (granted_by reply) block
  unfolding Answers after
  reach_grows namespace request reply answers it = by_test (eq_by_cmp (slice_cmp nat_cmp) it.volume volume) found
    where
      volume : List ℕ
      volume = volume_in request

      scope : Scope
      scope = scope_of namespace volume

      found : option_and_then (λ (all : ByName Bucket). get all it.name)
          (cond (eq_by_cmp (slice_cmp nat_cmp) it.volume volume) (scope_after scope request reply).buckets (get namespace.volumes it.volume))
          ≡ Some it.bucket
      found = ap (option_and_then (λ (all : ByName Bucket). get all it.name))
          (sym (found_with namespace.volumes volume (scope_after scope request reply).buckets it.volume)) ∙ it.is_there

      by_test : (t : Bool)
          → option_and_then (λ (all : ByName Bucket). get all it.name) (cond t (scope_after scope request reply).buckets (get namespace.volumes it.volume))
          ≡ Some it.bucket → IsReached namespace block ⊎ Contains (granted_by reply) block
      by_test true is = ⊎_elim
          (λ seen. inl (record { volume = volume; name = seen.name; bucket = seen.bucket; is_there = seen.is_there; has = seen.has }))
          (λ given. inr given)
          (seen_after scope request reply answers (record { name = it.name; bucket = it.bucket; is_there = is; has = it.has }))
      by_test false is = inl (record { volume = it.volume; name = it.name; bucket = it.bucket; is_there = is; has = it.has })
