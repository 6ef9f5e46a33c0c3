-- Whether a request changes the namespace is told by it and by the reply of one thread.
use Rattle.std.proofs.Common.{◌≡◌, ◌≢◌, ◌∙◌, arith, ℕ, ◌<◌, Bool, true, false, not, cond, List, [], ◌∷◌, ◌++◌, filter, length, drop, Option, None, Some, is_some, refl, sym, ap}
use mathlib.Core.Bool.{false≢true}
use Rattle.std.proofs.lemmas.Bool.{ltb-false}
use Rattle.std.proofs.lemmas.List.{get_or-set_same}
use Rattle.std.specs.Prelude.{nat_lt}
use Rattle.std.specs.declared.cmp.Ordering.{Ordering}
use Rattle.std.specs.declared.cmp.Ordering.TheVariants.{Less, Equal, Greater}
use Rattle.std.specs.Ordering.{nat_cmp, is_eq, eq_by_cmp}
use Rattle.std.specs.Option.{option_and_then}
use Rattle.std.specs.Cmp.{IsTotalOrder, nat_cmp_total, eq_by_cmp_equiv}
use Rattle.std.specs.Cmp.Lexicographic.{nat_list_cmp_total}
use Rattle.std.specs.FinMap.{FinMap, IsAntisymmetric, get, insert, remove, empty, len, entries, find, get_tied, get-empty, get-entries, get-insert, get-remove, len-empty, len-entries, same_map, slice_cmp-IsAntisymmetric, nat_cmp-IsAntisymmetric}
use Rattle.oz_fields.specs.declared.block.Block.{Block}
use Rattle.oz_fields.specs.declared.block.Piece.{Piece}
use Rattle.oz_names.specs.declared.code.Code.{Code}
use Rattle.oz_names.specs.Names.{stripe_of}
use Rattle.oz_namespace.specs.declared.namespace.Bucket.{Bucket}
use Rattle.oz_namespace.specs.declared.namespace.Namespace.{Namespace}
use Rattle.oz_namespace.specs.declared.namespace.Session.{Session}
use Rattle.oz_namespace.specs.declared.namespace.Snapshot.{Snapshot}
use Rattle.oz_namespace.specs.Namespace.{ByName, buckets_of, new_bucket}
use Rattle.oz_requests.specs.declared.reply.Reply.{Reply}
use Rattle.oz_requests.specs.declared.reply.Reply.TheVariants as replies
use Rattle.oz_requests.specs.declared.request.Request.{Request}
use Rattle.oz_requests.specs.declared.request.Request.TheVariants.{CreateVolume, DeleteVolume, CreateBucket, DeleteBucket, CreateKey, AllocateBlock, CommitKey, DeleteKey, RenameKey, ExpireOpen, CreateSnapshot, DeleteSnapshot}
use Rattle.oz_requests.specs.Names.{volume_in, name_fault}
use Rattle.oz_model.specs.declared.scope.Scope.{Scope}
use Rattle.oz_model.specs.Answers.{reply_from, left, AnswersIn, Answers, after}
use Rattle.oz_model.specs.Buckets.{bucket_in, bucket_or_new, buckets_in, found_in, blocks_or_none, is_on, is_same_name, has_key, session_blocks, snapshot_keys, granted_by, with_session, committed, with_bucket, with_keys, with_snapshot, without_snapshot, without_sessions, renamed, pieces_in}
use Rattle.oz_model.specs.Refusals.{first_of, missing, codes, refusal}
use Rattle.oz_model.specs.Scope.{drawn_in, scope_of, with_scope}
use Rattle.oz_model.specs.laws.Order.{or_then, in_order}
use Rattle.oz_model.specs.laws.Scopes.{stays}
use Rattle.oz_model.specs.laws.Stripes.{found_with}
use Rattle.oz_legal.specs.manager_law.Words.{counts_some, changes_if_done, changes}

equal : (o : Ordering) → is_eq o ≡ true → o ≡ Equal
equal Less e = absurd (false≢true e)
equal Equal e = refl
equal Greater e = absurd (false≢true e)

-- ---- maps after a change

itself : {K : Type 0} {R : K → K → Ordering} (o : IsTotalOrder R) (k : K) → eq_by_cmp R k k ≡ true
itself o k = (eq_by_cmp_equiv o).refl k

module _ {K X : Type 0} {R : K → K → Ordering} (o : IsTotalOrder R) where
  put_there : (m : FinMap R X) (k : K) (v : X) → get (insert m k v) k ≡ Some v
  put_there m k v = get-insert o m k v k ∙ ap (λ (t : Bool). cond t (Some v) (get m k)) (itself o k)

  taken_away : (m : FinMap R X) (k : K) → get (remove m k) k ≡ None
  taken_away m k = get-remove o m k k ∙ ap (λ (t : Bool). cond t None (get m k)) (itself o k)

  -- what is put where it stands changes nothing
  put_again : IsAntisymmetric R → (m : FinMap R X) (k : K) (v : X) → get m k ≡ Some v → insert m k v ≡ m
  put_again same m k v there = same_map o same _ _ (λ q. get-insert o m k v q ∙ kept q (eq_by_cmp R q k) refl)
    where
      kept : (q : K) (t : Bool) → eq_by_cmp R q k ≡ t → cond t (Some v) (get m q) ≡ get m q
      kept q true tied = sym there ∙ get_tied o m q k (equal (R q k) tied)
      kept q false tied = refl

  -- a map that has nothing is the empty one
  nothing : (es : List (K × X)) (q : K) → 0 ≡ length es → find R q es ≡ None
  nothing [] q e = refl
  nothing (e1 ∷ es) q e = absurd (omega (arith, e))

  none_there : IsAntisymmetric R → (m : FinMap R X) → len m ≡ 0 → empty ≡ m
  none_there same m none = same_map o same _ _ (λ q. get-empty R q ∙ sym (get-entries m q ∙ nothing (entries m) q (sym none ∙ len-entries m)))

-- ---- requests that aren't refused

abbrev IsNoCode : Reply → Type 0
IsNoCode reply = (code : Code) → reply ≢ replies.Code code

open_refusal : (o : Option Code) (reply result : Reply) → IsNoCode reply → reply ≡ reply_from o result → o ≡ None
open_refusal None reply result apart is = refl
open_refusal (Some code) reply result apart is = absurd (apart code is)

unrefused : (scope : Scope) (request : Request) (reply : Reply) → IsNoCode reply → AnswersIn scope request reply → refusal scope request ≡ None
unrefused scope (AllocateBlock volume bucket key session exclude) reply apart is =
    open_refusal (refusal scope (AllocateBlock volume bucket key session exclude)) reply (replies.Granted is.0 is.1) apart is.2
unrefused scope request reply apart is = open_refusal (refusal scope request) reply _ apart is

then_none : (first other : Option Code) → or_then first other ≡ None → other ≡ None
then_none None other e = e
then_none (Some code) other e = absurd cc

first_none : (first other : Option Code) → or_then first other ≡ None → first ≡ None
first_none None other e = refl
first_none (Some code) other e = e

record IsFree (scope : Scope) (request : Request) : Type 0 where
  has_all : first_of (missing scope request) ≡ None
  passes : first_of (codes scope request) ≡ None

free : (scope : Scope) (request : Request) → refusal scope request ≡ None → IsFree scope request
free scope request none =
    let all = then_none (name_fault request) (or_then (first_of (missing scope request)) (first_of (codes scope request))) (sym (in_order scope request) ∙ none) in
    record { has_all = first_none (first_of (missing scope request)) (first_of (codes scope request)) all; passes = then_none (first_of (missing scope request)) (first_of (codes scope request)) all }

untested : (t : Bool) (code : Code) (rest : Option Code) → cond t (Some code) rest ≡ None → t ≡ false
untested true code rest e = absurd cc
untested false code rest e = refl

rest_of : (t : Bool) (code : Code) (rest : Option Code) → cond t (Some code) rest ≡ None → rest ≡ None
rest_of true code rest e = absurd cc
rest_of false code rest e = e

clash : {b : Bool} → true ≡ b → b ≡ false → ⊥
clash one other = false≢true (sym (one ∙ other))

-- ---- what would have to be the same

module _ {A : Type 0} where
  longer : (xs : List A) (x : A) → xs ++ x ∷ [] ≡ xs → ⊥
  longer [] x e = absurd cc
  longer (y ∷ ys) x e = longer ys x (ap (drop 1) e)

-- the bucket that was put is the one that stood there
in_place : (scope : Scope) (name : List ℕ) (bucket : Bucket) → Some (insert (buckets_in scope.buckets) name bucket) ≡ scope.buckets → bucket ≡ bucket_in scope name
in_place scope name bucket same =
    ap bucket_or_new (sym (put_there nat_list_cmp_total (buckets_in scope.buckets) name bucket) ∙ ap (option_and_then (λ (all : ByName Bucket). get all name)) same)

none_left : (snapshots : List Snapshot) (name : List ℕ) → snapshot_keys (filter (λ (it : Snapshot). not (is_same_name it.name name)) snapshots) name ≡ None
none_left [] name = refl
none_left (snapshot ∷ snapshots) name = by_test (is_same_name snapshot.name name) refl (filter (λ (it : Snapshot). not (is_same_name it.name name)) snapshots) (none_left snapshots name)
  where
    by_test : (t : Bool) → is_same_name snapshot.name name ≡ t → (others : List Snapshot) → snapshot_keys others name ≡ None → snapshot_keys (cond (not t) (snapshot ∷ others) others) name ≡ None
    by_test true tied others rest = rest
    by_test false tied others rest = ap (λ (t : Bool). cond t (Some snapshot.keys) (snapshot_keys others name)) tied ∙ rest

-- what was granted and what was counted, where nothing refuses it
was_granted : (o : Option Code) (reply : Reply) (block : Block) (pipeline : ℕ) → o ≡ None → reply ≡ reply_from o (replies.Granted block pipeline) → granted_by reply ≡ block ∷ []
was_granted o reply block pipeline none is = ap granted_by (is ∙ ap (λ (o : Option Code). reply_from o (replies.Granted block pipeline)) none)

was_counted : (o : Option Code) (reply : Reply) (count : ℕ) → o ≡ None → reply ≡ reply_from o (replies.Count count) → counts_some reply ≡ nat_lt 0 count
was_counted o reply count none is = ap counts_some (is ∙ ap (λ (o : Option Code). reply_from o (replies.Count count)) none)

-- ---- a change is one

differs : (scope : Scope) (request : Request) (reply : Reply) → IsNoCode reply → AnswersIn scope request reply → changes_if_done request reply ≡ true
    → (left scope request reply).buckets ≡ scope.buckets → (left scope request reply).drawn ≡ scope.drawn → ⊥
differs scope (CreateVolume volume) reply apart answers is same drawn =
    let f = free scope (CreateVolume volume) (unrefused scope (CreateVolume volume) reply apart answers) in
    clash (ap is_some same) (untested _ _ _ f.passes)
differs scope (DeleteVolume volume) reply apart answers is same drawn =
    let f = free scope (DeleteVolume volume) (unrefused scope (DeleteVolume volume) reply apart answers) in
    clash (ap (λ (o : Option (ByName Bucket)). not (is_some o)) same) (untested _ _ _ f.has_all)
differs scope (CreateBucket volume bucket) reply apart answers is same drawn =
    let f = free scope (CreateBucket volume bucket) (unrefused scope (CreateBucket volume bucket) reply apart answers) in
    clash
    (ap is_some (sym (put_there nat_list_cmp_total (buckets_in scope.buckets) bucket new_bucket) ∙ ap (option_and_then (λ (all : ByName Bucket). get all bucket)) same))
    (untested _ _ _ f.passes)
differs scope (DeleteBucket volume bucket) reply apart answers is same drawn =
    let f = free scope (DeleteBucket volume bucket) (unrefused scope (DeleteBucket volume bucket) reply apart answers) in
    clash
    (ap (λ (o : Option Bucket). not (is_some o)) (sym (taken_away nat_list_cmp_total (buckets_in scope.buckets) bucket) ∙ ap (option_and_then (λ (all : ByName Bucket). get all bucket)) same))
    (untested _ _ _ (rest_of _ _ _ f.has_all))
differs scope (CreateKey volume bucket key) reply apart answers is same drawn = absurd (omega (arith, drawn))
differs scope (AllocateBlock volume bucket key session exclude) reply apart answers is same drawn =
    let request = AllocateBlock volume bucket key session exclude in
    let old = bucket_in scope bucket in
    let blocks = session_blocks old session in
    let given = was_granted (refusal scope request) reply answers.0 answers.1 (unrefused scope request reply apart answers) answers.2 in
    let put : blocks ++ granted_by reply ≡ blocks =
    ap (λ (o : Option Session). blocks_or_none o) (sym (put_there nat_cmp_total old.sessions session (record { key = key; blocks = blocks ++ granted_by reply })))
    ∙ ap (λ (b : Bucket). session_blocks b session) (in_place scope bucket (with_session old session key (blocks ++ granted_by reply)) same) in
    longer blocks answers.0 (ap (λ (l : List Block). blocks ++ l) (sym given) ∙ put)
differs scope (CommitKey volume bucket key session pieces) reply apart answers is same drawn =
    let request = CommitKey volume bucket key session pieces in
    let old = bucket_in scope bucket in
    let f = free scope request (unrefused scope request reply apart answers) in
    clash
    (ap (λ (o : Option Session). not (is_on key o)) (sym (taken_away nat_cmp_total old.sessions session))
    ∙ ap (λ (b : Bucket). not (is_on key (get b.sessions session))) (in_place scope bucket (committed old key session pieces) same))
    (untested _ _ _ f.passes)
differs scope (DeleteKey volume bucket key) reply apart answers is same drawn =
    let request = DeleteKey volume bucket key in
    let old = bucket_in scope bucket in
    let f = free scope request (unrefused scope request reply apart answers) in
    clash
    (ap (λ (o : Option (List Piece)). not (is_some o)) (sym (taken_away nat_list_cmp_total old.keys key))
    ∙ ap (λ (b : Bucket). not (has_key b.keys key)) (in_place scope bucket (with_keys old (remove old.keys key)) same))
    (untested _ _ _ f.passes)
differs scope (RenameKey volume bucket key to) reply apart answers is same drawn =
    let request = RenameKey volume bucket key to in
    let old = bucket_in scope bucket in
    let f = free scope request (unrefused scope request reply apart answers) in
    clash
    (ap is_some (sym (put_there nat_list_cmp_total (remove old.keys key) to (pieces_in old.keys key)))
    ∙ ap (λ (b : Bucket). has_key b.keys to) (in_place scope bucket (with_keys old (renamed old.keys key to)) same))
    (untested _ _ _ (rest_of _ _ _ f.passes))
differs scope (ExpireOpen volume bucket) reply apart answers is same drawn =
    let request = ExpireOpen volume bucket in
    let old = bucket_in scope bucket in
    let none : len old.sessions ≡ 0 = sym (ap (λ (b : Bucket). len b.sessions) (in_place scope bucket (without_sessions old) same)) ∙ len-empty nat_cmp Session in
    let counted = was_counted (refusal scope request) reply (len old.sessions) (unrefused scope request reply apart answers) answers in
    clash (sym is ∙ counted) (ap (nat_lt 0) none)
differs scope (CreateSnapshot volume bucket snapshot) reply apart answers is same drawn =
    let old = bucket_in scope bucket in
    longer old.snapshots (record { name = snapshot; keys = old.keys }) (ap (λ (b : Bucket). b.snapshots) (in_place scope bucket (with_snapshot old snapshot) same))
differs scope (DeleteSnapshot volume bucket snapshot) reply apart answers is same drawn =
    let request = DeleteSnapshot volume bucket snapshot in
    let old = bucket_in scope bucket in
    let f = free scope request (unrefused scope request reply apart answers) in
    clash
    (ap (λ (o : Option (ByName (List Piece))). not (is_some o)) (sym (none_left old.snapshots snapshot))
    ∙ ap (λ (b : Bucket). not (is_some (snapshot_keys b.snapshots snapshot))) (in_place scope bucket (without_snapshot old snapshot) same))
    (untested _ _ _ f.passes)
differs scope request reply apart answers is same drawn = false≢true is

same_buckets : (namespace : Namespace) (volume : List ℕ) (scope : Scope) → with_scope namespace volume scope ≡ namespace → scope.buckets ≡ buckets_of namespace volume
same_buckets namespace volume scope same =
    sym (found_with namespace.volumes volume scope.buckets volume ∙ ap (λ (t : Bool). cond t scope.buckets (get namespace.volumes volume)) (itself nat_list_cmp_total volume))
    ∙ ap (λ (n : Namespace). get n.volumes volume) same

same_drawn : (namespace : Namespace) (volume : List ℕ) (scope : Scope) → stripe_of volume < length namespace.stripes → with_scope namespace volume scope ≡ namespace → scope.drawn ≡ drawn_in namespace (stripe_of volume)
same_drawn namespace volume scope within same =
    sym (get_or-set_same namespace.stripes (stripe_of volume) scope.drawn 0 within) ∙ ap (λ (n : Namespace). drawn_in n (stripe_of volume)) same

-- what changes has a reply that is no code, and differs
changed-if : (namespace : Namespace) (request : Request) (reply : Reply) → stripe_of (volume_in request) < length namespace.stripes → IsNoCode reply
    → AnswersIn (scope_of namespace (volume_in request)) request reply → changes_if_done request reply ≡ true
    → with_scope namespace (volume_in request) (left (scope_of namespace (volume_in request)) request reply) ≡ namespace → ⊥
changed-if namespace request reply within apart answers is same =
    let volume = volume_in request in
    let scope = scope_of namespace volume in
    differs scope request reply apart answers is (same_buckets namespace volume (left scope request reply) same) (same_drawn namespace volume (left scope request reply) within same)

pub changed : (namespace : Namespace) (request : Request) (reply : Reply) → stripe_of (volume_in request) < length namespace.stripes
    → Answers namespace request reply → changes request reply ≡ true → after namespace request reply ≡ namespace → ⊥
unfolding Answers after
changed namespace request (replies.Code code) within answers is same = false≢true is
changed namespace request replies.Done within answers is same = changed-if namespace request replies.Done within (λ code e. absurd cc) answers is same
changed namespace request (replies.Count count) within answers is same = changed-if namespace request (replies.Count count) within (λ code e. absurd cc) answers is same
changed namespace request (replies.Counts counts) within answers is same = changed-if namespace request (replies.Counts counts) within (λ code e. absurd cc) answers is same
changed namespace request (replies.Names names) within answers is same = changed-if namespace request (replies.Names names) within (λ code e. absurd cc) answers is same
changed namespace request (replies.Session number) within answers is same = changed-if namespace request (replies.Session number) within (λ code e. absurd cc) answers is same
changed namespace request (replies.Granted block pipeline) within answers is same = changed-if namespace request (replies.Granted block pipeline) within (λ code e. absurd cc) answers is same
changed namespace request (replies.Pieces pieces) within answers is same = changed-if namespace request (replies.Pieces pieces) within (λ code e. absurd cc) answers is same

-- ---- and else nothing changes

none_counted : (count : ℕ) → nat_lt 0 count ≡ false → count ≡ 0
none_counted count e = let none = ltb-false 0 count e in omega (arith, none)

put_back : (buckets : Option (ByName Bucket)) (name : List ℕ) → is_some (option_and_then (λ (all : ByName Bucket). get all name) buckets) ≡ true
    → Some (insert (buckets_in buckets) name (bucket_or_new (option_and_then (λ (all : ByName Bucket). get all name) buckets))) ≡ buckets
put_back None name there = absurd (false≢true there)
put_back (Some buckets) name there = ap (λ (m : ByName Bucket). Some m) (by_case (get buckets name) refl there)
  where
    by_case : (found : Option Bucket) → get buckets name ≡ found → is_some found ≡ true → insert buckets name (bucket_or_new found) ≡ buckets
    by_case None is there = absurd (false≢true there)
    by_case (Some bucket) is there = put_again nat_list_cmp_total (slice_cmp-IsAntisymmetric nat_cmp-IsAntisymmetric) buckets name bucket is

there_if : (b : Bool) → not b ≡ false → b ≡ true
there_if true e = refl
there_if false e = absurd (false≢true (sym e))

keeps : (scope : Scope) (request : Request) (reply : Reply) → IsNoCode reply → AnswersIn scope request reply → changes_if_done request reply ≡ false → left scope request reply ≡ scope
keeps scope (CreateVolume volume) reply apart answers is = absurd (false≢true (sym is))
keeps scope (DeleteVolume volume) reply apart answers is = absurd (false≢true (sym is))
keeps scope (CreateBucket volume bucket) reply apart answers is = absurd (false≢true (sym is))
keeps scope (DeleteBucket volume bucket) reply apart answers is = absurd (false≢true (sym is))
keeps scope (CreateKey volume bucket key) reply apart answers is = absurd (false≢true (sym is))
keeps scope (AllocateBlock volume bucket key session exclude) reply apart answers is = absurd (false≢true (sym is))
keeps scope (CommitKey volume bucket key session pieces) reply apart answers is = absurd (false≢true (sym is))
keeps scope (DeleteKey volume bucket key) reply apart answers is = absurd (false≢true (sym is))
keeps scope (RenameKey volume bucket key to) reply apart answers is = absurd (false≢true (sym is))
keeps scope (CreateSnapshot volume bucket snapshot) reply apart answers is = absurd (false≢true (sym is))
keeps scope (DeleteSnapshot volume bucket snapshot) reply apart answers is = absurd (false≢true (sym is))
keeps scope (ExpireOpen volume bucket) reply apart answers is =
    let request = ExpireOpen volume bucket in
    let old = bucket_in scope bucket in
    let unasked = unrefused scope request reply apart answers in
    let f = free scope request unasked in
    let none = none_counted (len old.sessions) (sym (was_counted (refusal scope request) reply (len old.sessions) unasked answers) ∙ is) in
    let empties : empty ≡ old.sessions = none_there nat_cmp_total nat_cmp-IsAntisymmetric old.sessions none in
    let there = there_if (is_some (found_in scope bucket)) (untested _ _ _ (rest_of _ _ _ f.has_all)) in
    ap (λ (sessions : FinMap nat_cmp Session). with_bucket scope bucket (record { keys = old.keys; sessions = sessions; snapshots = old.snapshots })) empties
    ∙ ap (λ (buckets : Option (ByName Bucket)). record { buckets = buckets; drawn = scope.drawn }) (put_back scope.buckets bucket there)
keeps scope request reply apart answers is = refl

pub unchanged : (namespace : Namespace) (request : Request) (reply : Reply) → Answers namespace request reply → changes request reply ≡ false → after namespace request reply ≡ namespace
unfolding Answers
unchanged namespace request (replies.Code code) answers is = stays namespace request (replies.Code code) refl
unchanged namespace request replies.Done answers is = stays namespace request replies.Done (keeps (scope_of namespace (volume_in request)) request replies.Done (λ code e. absurd cc) answers is)
unchanged namespace request (replies.Count count) answers is = stays namespace request (replies.Count count) (keeps (scope_of namespace (volume_in request)) request (replies.Count count) (λ code e. absurd cc) answers is)
unchanged namespace request (replies.Counts counts) answers is = stays namespace request (replies.Counts counts) (keeps (scope_of namespace (volume_in request)) request (replies.Counts counts) (λ code e. absurd cc) answers is)
unchanged namespace request (replies.Names names) answers is = stays namespace request (replies.Names names) (keeps (scope_of namespace (volume_in request)) request (replies.Names names) (λ code e. absurd cc) answers is)
unchanged namespace request (replies.Session number) answers is = stays namespace request (replies.Session number) (keeps (scope_of namespace (volume_in request)) request (replies.Session number) (λ code e. absurd cc) answers is)
unchanged namespace request (replies.Granted block pipeline) answers is = stays namespace request (replies.Granted block pipeline) (keeps (scope_of namespace (volume_in request)) request (replies.Granted block pipeline) (λ code e. absurd cc) answers is)
unchanged namespace request (replies.Pieces pieces) answers is = stays namespace request (replies.Pieces pieces) (keeps (scope_of namespace (volume_in request)) request (replies.Pieces pieces) (λ code e. absurd cc) answers is)
