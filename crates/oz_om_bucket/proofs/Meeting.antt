-- What a decision promises follows from its reply, and from what the rows are where it is done.
use Rattle.std.proofs.Common.{◌≡◌, ◌≢◌, ◌<◌, ◌≤◌, ℕ, List, [], ◌∷◌, length, None, Some, Result, Ok, Err, IfOk, refl, sym, ◌∙◌, subst, arith}
use Rattle.std.specs.FinMap.{empty, insert, remove}
use Rattle.oz_names.specs.declared.code.Code.{Code}
use Rattle.oz_namespace.specs.declared.namespace.Namespace.{Namespace}
use Rattle.oz_namespace.specs.Namespace.{new_bucket}
use Rattle.oz_model.specs.Answers.{left, after, Answers}
use Rattle.oz_model.specs.Buckets.{buckets_at}
use Rattle.oz_model.specs.Refusals.{refusal}
use Rattle.oz_model.specs.Scope.{scope_of, with_scope}
use Rattle.oz_model.specs.laws.Scopes.{same_scope, has_buckets, is_gone, stays}
use Rattle.oz_requests.specs.declared.reply.Reply.{Reply}
use Rattle.oz_requests.specs.declared.reply.Reply.TheVariants as replies
use Rattle.oz_requests.specs.declared.request.Request.{Request}
use Rattle.oz_requests.specs.declared.request.Request.TheVariants.{CreateVolume, InfoVolume, DeleteVolume, CreateBucket, InfoBucket, DeleteBucket, ListBuckets}
use Rattle.oz_requests.specs.declared.request.Family.TheVariants.{Buckets}
use Rattle.oz_requests.specs.Families.{family_of}
use Rattle.oz_requests.specs.Names.{bucket_named, name_fault, volume_in}
use Rattle.oz_rows.specs.declared.key.RowKey.{RowKey}
use Rattle.oz_rows.specs.declared.key.RowKey.TheVariants as keys
use Rattle.oz_rows.specs.declared.row.Row.TheVariants as rows
use Rattle.oz_rows.specs.declared.operation.Change.{Change}
use Rattle.oz_rows.specs.declared.operation.Operation.TheVariants.{Put, Remove}
use Rattle.oz_rows.specs.Operations.{batch_bytes}
use Rattle.oz_rows.specs.Rows.{kind_of}
use Rattle.oz_rows.specs.RowMaps.{after_changes, Rows}
use Rattle.oz_sound.specs.Sound.{IsSound, IsSoundButRenames}
use Rattle.oz_sound.specs.StandsFor.{StandsFor}
use Rattle.oz_sound.specs.laws.BucketChanges.{volume_kept, bucket_kept}
use Rattle.oz_decision.specs.declared.decision.Decision.{Decision}
use Rattle.oz_decision.specs.Drafts.{row_by_row}
use Rattle.oz_decision.specs.Meets.{AreInGrammar, IsSafe, Stand, Meets, granted_in, MayGo}
use Rattle.oz_decision.specs.Replies.{IsReply}
use Rattle.oz_decision.specs.laws.OneRow.{alone_is_short, nothing_is_safe, nothing_changes, stand_but_renames, meets_in_all}
use Rattle.oz_decision.specs.laws.Refusing.{volume_fits, bucket_fits, not_refused}
use Rattle.oz_om_bucket.specs.Allowed.{IsAllowed, MayRecord}
use Rattle.oz_om_bucket.specs.Records.{changes_for, recorded_changes}
use Rattle.oz_om_bucket.proofs.Changing.{Does, effect_of, blocks_stay, renames_stay, stay_sound}
use Rattle.oz_om_bucket.proofs.CreatingVolumes.{is_safe as volume_made_safe, does as volume_made}
use Rattle.oz_om_bucket.proofs.DeletingVolumes.{is_safe as volume_gone_safe, does as volume_gone}
use Rattle.oz_om_bucket.proofs.CreatingBuckets.{is_safe as bucket_made_safe, does as bucket_made}
use Rattle.oz_om_bucket.proofs.DeletingBuckets.{is_safe as bucket_gone_safe, does as bucket_gone}

abbrev bytes_for : Request → List ℕ
bytes_for request = batch_bytes (row_by_row (changes_for request))

-- no refusal applies where the reply is no code
unrefused : (namespace : Namespace) (request : Request) (reply : Reply) → family_of request ≡ Buckets → Answers namespace request reply → ((code : Code) → reply ≢ replies.Code code) → refusal (scope_of namespace (volume_in request)) request ≡ None
unfolding Answers
unrefused namespace (CreateVolume v) reply family answers apart = not_refused _ reply _ apart answers
unrefused namespace (InfoVolume v) reply family answers apart = not_refused _ reply _ apart answers
unrefused namespace (DeleteVolume v) reply family answers apart = not_refused _ reply _ apart answers
unrefused namespace (CreateBucket v b) reply family answers apart = not_refused _ reply _ apart answers
unrefused namespace (InfoBucket v b) reply family answers apart = not_refused _ reply _ apart answers
unrefused namespace (DeleteBucket v b) reply family answers apart = not_refused _ reply _ apart answers
unrefused namespace (ListBuckets v) reply family answers apart = not_refused _ reply _ apart answers
unrefused namespace request reply family answers apart = absurd (cc)

-- what is left, as far as volumes and buckets show it
is_left : (namespace : Namespace) (request : Request) (reply : Reply) → family_of request ≡ Buckets → with_scope namespace (volume_in request) (left (scope_of namespace (volume_in request)) request reply) ≡ effect_of namespace request
is_left namespace (CreateVolume v) reply family = has_buckets namespace v empty
is_left namespace (InfoVolume v) reply family = same_scope namespace v
is_left namespace (DeleteVolume v) reply family = is_gone namespace v
is_left namespace (CreateBucket v b) reply family = has_buckets namespace v (insert (buckets_at namespace v) b new_bucket)
is_left namespace (InfoBucket v b) reply family = same_scope namespace v
is_left namespace (DeleteBucket v b) reply family = has_buckets namespace v (remove (buckets_at namespace v) b)
is_left namespace (ListBuckets v) reply family = same_scope namespace v
is_left namespace request reply family = absurd (cc)

-- rows of other kinds than volumes and buckets are as they were
agree_for : (all : Rows) (request : Request) (key : RowKey) → 2 < kind_of key → family_of request ≡ Buckets → after_changes (changes_for request) all key ≡ all key
agree_for all (CreateVolume v) key over family = volume_kept all v (Some rows.Volume) key (omega (arith, over))
agree_for all (InfoVolume v) key over family = refl
agree_for all (DeleteVolume v) key over family = volume_kept all v None key (omega (arith, over))
agree_for all (CreateBucket v b) key over family = bucket_kept all v b (Some rows.Bucket) key over
agree_for all (InfoBucket v b) key over family = refl
agree_for all (DeleteBucket v b) key over family = bucket_kept all v b None key over
agree_for all (ListBuckets v) key over family = refl
agree_for all request key over family = absurd (cc)

agree : (all : Rows) (request : Request) (reply : Reply) → family_of request ≡ Buckets → (key : RowKey) → 2 < kind_of key → after_changes (recorded_changes request reply) all key ≡ all key
agree all request (replies.Code code) family key over = refl
agree all request reply family key over = agree_for all request key over family

-- a request that isn't refused may follow the rows
follows : (all : Rows) (request : Request) → family_of request ≡ Buckets → name_fault request ≡ None → IsAllowed all request → AreInGrammar all → IsSafe all (bytes_for request) (changes_for request)
follows all (CreateVolume v) family named allowed fit = volume_made_safe all v fit (volume_fits v [] named)
follows all (InfoVolume v) family named allowed fit = nothing_is_safe all fit
follows all (DeleteVolume v) family named allowed fit = volume_gone_safe all v allowed fit (volume_fits v [] named)
follows all (CreateBucket v b) family named allowed fit = bucket_made_safe all v b allowed fit (volume_fits v (bucket_named b ∷ []) named) (bucket_fits v b [] named)
follows all (InfoBucket v b) family named allowed fit = nothing_is_safe all fit
follows all (DeleteBucket v b) family named allowed fit = bucket_gone_safe all v b allowed fit (volume_fits v (bucket_named b ∷ []) named) (bucket_fits v b [] named)
follows all (ListBuckets v) family named allowed fit = nothing_is_safe all fit
follows all request family named allowed fit = absurd (cc)

pub safe : (all : Rows) (request : Request) (reply : Reply) → family_of request ≡ Buckets → name_fault request ≡ None → MayRecord all request reply → AreInGrammar all → IsSafe all (batch_bytes (row_by_row (recorded_changes request reply))) (recorded_changes request reply)
safe all request (replies.Code code) family named allowed fit = nothing_is_safe all fit
safe all request reply family named allowed fit = follows all request family named allowed fit

-- what it does
does : (all : Rows) (namespace : Namespace) (request : Request) → family_of request ≡ Buckets → Stand IsSoundButRenames all namespace → IsAllowed all request → refusal (scope_of namespace (volume_in request)) request ≡ None → Does all namespace request
does all namespace (CreateVolume v) family stand allowed none = volume_made all v namespace stand none
does all namespace (InfoVolume v) family stand allowed none = record { stands = stand.stands; few = stand.sound.counts.buckets; keeps = λ e. refl }
does all namespace (DeleteVolume v) family stand allowed none = volume_gone all v allowed namespace stand
does all namespace (CreateBucket v b) family stand allowed none = bucket_made all v b allowed namespace stand none
does all namespace (InfoBucket v b) family stand allowed none = record { stands = stand.stands; few = stand.sound.counts.buckets; keeps = λ e. refl }
does all namespace (DeleteBucket v b) family stand allowed none = bucket_gone all v b allowed namespace stand none
does all namespace (ListBuckets v) family stand allowed none = record { stands = stand.stands; few = stand.sound.counts.buckets; keeps = λ e. refl }
does all namespace request family stand allowed none = absurd (cc)

done : (all : Rows) (namespace : Namespace) (request : Request) (reply : Reply) → family_of request ≡ Buckets → name_fault request ≡ None → Stand IsSoundButRenames all namespace → IsAllowed all request → Answers namespace request reply → ((code : Code) → reply ≢ replies.Code code) → after namespace request reply ≡ effect_of namespace request → Meets IsSoundButRenames all namespace request reply (bytes_for request) (changes_for request)
done all namespace request reply family named stand allowed answers apart effect =
    let now : Rows = after_changes (changes_for request) all in
    let same : (key : RowKey) → 2 < kind_of key → now key ≡ all key = λ key over. agree_for all request key over family in
    let safe = follows all request family named allowed stand.fit in
    let did = does all namespace request family stand allowed (unrefused namespace request reply family answers apart) in
    record {
      answers = answers;
      batch = safe.batch;
      leads = record {
        fit = safe.fit;
        stands = subst (StandsFor now) (sym effect) did.stands;
        sound = stay_sound all now same stand.fit safe.fit did.few stand.sound;
      };
      blocks = blocks_stay all now same (granted_in reply) (MayGo all request);
      keeps = λ nothing. did.keeps (sym effect ∙ nothing.0);
    }

pub meets : (all : Rows) (namespace : Namespace) (request : Request) (reply : Reply) → family_of request ≡ Buckets → name_fault request ≡ None → MayRecord all request reply → Stand IsSoundButRenames all namespace → Answers namespace request reply → Meets IsSoundButRenames all namespace request reply (batch_bytes (row_by_row (recorded_changes request reply))) (recorded_changes request reply)
unfolding after
meets all namespace request (replies.Code code) family named allowed stand answers = nothing_changes IsSoundButRenames all namespace request (replies.Code code) stand answers (stays namespace request (replies.Code code) refl)
meets all namespace request replies.Done family named allowed stand answers = done all namespace request replies.Done family named stand allowed answers (λ code e. absurd (cc)) (is_left namespace request replies.Done family)
meets all namespace request (replies.Count n) family named allowed stand answers = done all namespace request (replies.Count n) family named stand allowed answers (λ code e. absurd (cc)) (is_left namespace request (replies.Count n) family)
meets all namespace request (replies.Counts n) family named allowed stand answers = done all namespace request (replies.Counts n) family named stand allowed answers (λ code e. absurd (cc)) (is_left namespace request (replies.Counts n) family)
meets all namespace request (replies.Names n) family named allowed stand answers = done all namespace request (replies.Names n) family named stand allowed answers (λ code e. absurd (cc)) (is_left namespace request (replies.Names n) family)
meets all namespace request (replies.Session n) family named allowed stand answers = done all namespace request (replies.Session n) family named stand allowed answers (λ code e. absurd (cc)) (is_left namespace request (replies.Session n) family)
meets all namespace request (replies.Granted block pipeline) family named allowed stand answers = done all namespace request (replies.Granted block pipeline) family named stand allowed answers (λ code e. absurd (cc)) (is_left namespace request (replies.Granted block pipeline) family)
meets all namespace request (replies.Pieces pieces) family named allowed stand answers = done all namespace request (replies.Pieces pieces) family named stand allowed answers (λ code e. absurd (cc)) (is_left namespace request (replies.Pieces pieces) family)

-- what renamed rows say stays so
pub meets_all : (all : Rows) (namespace : Namespace) (request : Request) (reply : Reply) → family_of request ≡ Buckets → name_fault request ≡ None → MayRecord all request reply → Stand IsSound all namespace → Answers namespace request reply → Meets IsSound all namespace request reply (batch_bytes (row_by_row (recorded_changes request reply))) (recorded_changes request reply)
meets_all all namespace request reply family named allowed stand answers =
    let changes = recorded_changes request reply in
    let most = meets all namespace request reply family named allowed (stand_but_renames all namespace stand) answers in
    meets_in_all all namespace request reply (batch_bytes (row_by_row changes)) changes most
    (renames_stay all (after_changes changes all) (agree all request reply family) stand.fit most.leads.fit stand.sound.renames)

-- no batch is longer than an operation
few_for : (request : Request) → family_of request ≡ Buckets → name_fault request ≡ None → length (bytes_for request) ≤ 6304
few_for (CreateVolume v) family named = alone_is_short (Put (keys.Volume v) rows.Volume) (volume_fits v [] named, tt)
few_for (InfoVolume v) family named = omega arith
few_for (DeleteVolume v) family named = alone_is_short (Remove (keys.Volume v)) (volume_fits v [] named)
few_for (CreateBucket v b) family named = alone_is_short (Put (keys.Bucket v b) rows.Bucket) ((volume_fits v (bucket_named b ∷ []) named, bucket_fits v b [] named), tt)
few_for (InfoBucket v b) family named = omega arith
few_for (DeleteBucket v b) family named = alone_is_short (Remove (keys.Bucket v b)) (volume_fits v (bucket_named b ∷ []) named, bucket_fits v b [] named)
few_for (ListBuckets v) family named = omega arith
few_for request family named = absurd (cc)

pub few_bytes : (request : Request) (reply : Reply) → family_of request ≡ Buckets → name_fault request ≡ None → length (batch_bytes (row_by_row (recorded_changes request reply))) ≤ 6304
few_bytes request (replies.Code code) family named = omega arith
few_bytes request reply family named = few_for request family named

-- what is known of the decision on a request whose names were tested
pub record IsDecided (all : Rows) (request : Request) (decision : Decision) : Type 0 where
  pub reply : IsReply all request decision.reply
  pub allowed : MayRecord all request decision.reply
  pub changes : decision.changes ≡ recorded_changes request decision.reply
  pub operations : decision.bytes ≡ batch_bytes (row_by_row decision.changes)

pub decided : {E : Type 0} (all : Rows) (request : Request) (result : Result Decision E) (Q : Decision → Type 0) → IfOk result (λ d. IsReply all request d.reply) → IfOk result (λ d. MayRecord all request d.reply)
    → IfOk result (λ d. d.changes ≡ recorded_changes request d.reply) → IfOk result (λ d. d.bytes ≡ batch_bytes (row_by_row d.changes)) → ((d : Decision) → IsDecided all request d → Q d) → IfOk result Q
decided all request (Ok d) Q reply allowed changes operations then = then d (record { reply = reply; allowed = allowed; changes = changes; operations = operations })
decided all request (Err e) Q reply allowed changes operations then = tt

-- its bytes and changes are those that are recorded
pub as_recorded : (all : Rows) (request : Request) (d : Decision) → IsDecided all request d → (P : List ℕ → List Change → Type 0) → P (batch_bytes (row_by_row (recorded_changes request d.reply))) (recorded_changes request d.reply) → P d.bytes d.changes
as_recorded all request d is P p = subst (λ (b : List ℕ). P b d.changes) (sym is.operations) (subst (λ (c : List Change). P (batch_bytes (row_by_row c)) c) (sym is.changes) p)
