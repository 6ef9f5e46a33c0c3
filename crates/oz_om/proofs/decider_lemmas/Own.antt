-- No decision changes a row of another stripe.
use Rattle.std.proofs.Common.{◌≡◌, ℕ, Bool, true, false, List, [], ◌∷◌, ◌++◌, map, Option, None, Some, cond, refl, subst, sym}
use mathlib.Core.Bool.{false≢true}
use Rattle.std.specs.List.{flat_map}
use Rattle.oz_om.specs.decider.Records.{AreRecordedBy}
use Rattle.oz_om.specs.declared.decider.decider.Decider.{Decider}
use Rattle.oz_om.specs.declared.decider.decider.Decider.TheVariants as deciders
use Rattle.oz_decision.specs.Sessions.{blocks_at}
use Rattle.oz_decision.specs.Versions.{version_at, deleted}
use Rattle.oz_decision.specs.laws.SessionRows.{all_append}
use Rattle.oz_effects.specs.Effects.{closed, freed, operation_changes}
use Rattle.oz_fields.specs.declared.block.Block.{Block}
use Rattle.oz_names.specs.Names.{stripe_of}
use Rattle.oz_om_bucket.specs.Records.{changes_for, recorded_changes}
use Rattle.oz_om_key.specs.om_change.Noting.{noted}
use Rattle.oz_om_key.specs.om_change.Records.{AreChangesOf, moved}
use Rattle.oz_om_key.specs.om_change.Records.{AreRecorded as AreChanged}
use Rattle.oz_om_session.specs.om_open.Records.{changes_of_create, AreRecorded as AreOpened}
use Rattle.oz_om_session.specs.Records.{unused, changes_of_grant, changes_of_commit, recorded_grant, recorded_commit}
use Rattle.oz_requests.specs.declared.reply.Reply.{Reply}
use Rattle.oz_requests.specs.declared.reply.Reply.TheVariants as replies
use Rattle.oz_requests.specs.declared.request.Request.{Request}
use Rattle.oz_requests.specs.declared.request.Request.TheVariants.{CreateVolume, DeleteVolume, CreateBucket, DeleteBucket}
use Rattle.oz_requests.specs.declared.request.Request.TheVariants.{CreateKey, AllocateBlock, CommitKey, DeleteKey, RenameKey}
use Rattle.oz_requests.specs.declared.request.Request.TheVariants.{ExpireOpen}
use Rattle.oz_requests.specs.Names.{volume_in}
use Rattle.oz_rows.specs.declared.entry.RowEntry.{RowEntry}
use Rattle.oz_rows.specs.declared.key.RowKey.{RowKey}
use Rattle.oz_rows.specs.declared.key.RowKey.TheVariants as keys
use Rattle.oz_rows.specs.declared.operation.Change.{Change}
use Rattle.oz_rows.specs.declared.operation.Operation.TheVariants.{DropOpen}
use Rattle.oz_rows.specs.declared.row.Row.{Row}
use Rattle.oz_rows.specs.declared.row.Row.TheVariants as values
use Rattle.oz_rows.specs.RowMaps.{Rows, AreRows, is_bucket, put}
use Rattle.oz_sound.specs.stripes.Stripes.{stripe_of_key, ChangeOnly}
use Rattle.oz_om.proofs.decider_lemmas.Choice.{is_by_rows}
use Rattle.oz_om.proofs.decider_lemmas.Noted.{noted_each}

abbrev AreOwn : Request → List Change → Type 0
AreOwn request changes = ChangeOnly (stripe_of (volume_in request)) changes

abbrev pub IsOwn : List ℕ → Change → Type 0
IsOwn volume change = stripe_of_key change.key ≡ stripe_of volume

own_of_buckets : (request : Request) → AreOwn request (changes_for request)
own_of_buckets (CreateVolume v) = (refl, tt)
own_of_buckets (DeleteVolume v) = (refl, tt)
own_of_buckets (CreateBucket v b) = (refl, tt)
own_of_buckets (DeleteBucket v b) = (refl, tt)
own_of_buckets request = tt

buckets_own : (request : Request) (reply : Reply) → AreOwn request (recorded_changes request reply)
buckets_own request (replies.Code code) = tt
buckets_own request reply = own_of_buckets request

deleted_own : (v b k : List ℕ) (blocks : List Block) → ChangeOnly (stripe_of v) (deleted v b k blocks)
deleted_own v b k [] = tt
deleted_own v b k (first ∷ others) = (refl, tt)

moved_own : (v b k : List ℕ) (row : Option Row) → ChangeOnly (stripe_of v) (moved (keys.Key v b k) row)
moved_own v b k None = tt
moved_own v b k (Some row) = (refl, tt)

own_of_change : (rows : Rows) (request : Request) (changes : List Change) → AreChangesOf rows request changes → AreOwn request changes
own_of_change rows (DeleteKey v b k) changes is = subst (ChangeOnly (stripe_of v)) (sym is) (refl, deleted_own v b k (version_at (rows (keys.Key v b k))))
own_of_change rows (RenameKey v b k to) changes (numbers, are, is) =
    let row = rows (keys.Key v b k) in
    subst (ChangeOnly (stripe_of v)) (sym is)
    (refl, all_append (IsOwn v) (moved (keys.Key v b to) row) (noted rows v b k numbers (version_at row)) (moved_own v b to row) (noted_each (IsOwn v) rows v b k numbers (version_at row) (λ block has. refl)))
own_of_change rows request changes is = subst (AreOwn request) (sym is) tt

change_own : (rows : Rows) (request : Request) (reply : Reply) (changes : List Change) → AreChanged rows request reply changes → AreOwn request changes
change_own rows request replies.Done changes recorded = own_of_change rows request changes recorded
change_own rows request reply changes recorded = subst (AreOwn request) (sym recorded) tt

own_of_grant : (rows : Rows) (request : Request) (block : Block) → AreOwn request (changes_of_grant rows request block)
own_of_grant rows (AllocateBlock v b k n exclude) block = (refl, tt)
own_of_grant rows request block = tt

grant_own : (rows : Rows) (request : Request) (reply : Reply) → AreOwn request (recorded_grant rows request reply)
grant_own rows request (replies.Granted block pipeline) = own_of_grant rows request block
grant_own rows request reply = tt

own_of_commit : (rows : Rows) (request : Request) → AreOwn request (changes_of_commit rows request)
own_of_commit rows (CommitKey v b k n pieces) =
    let version = rows (keys.Key v b k) in
    let session = rows (keys.Open v b k n) in
    let older = deleted v b k (version_at version) in
    let rest = deleted v b k (unused (blocks_at session) pieces) in
    all_append (IsOwn v) (older ++ rest) _ (all_append (IsOwn v) older rest (deleted_own v b k _) (deleted_own v b k _)) (refl, (refl, tt))
own_of_commit rows request = tt

commit_own : (rows : Rows) (request : Request) (reply : Reply) → AreOwn request (recorded_commit rows request reply)
commit_own rows request replies.Done = own_of_commit rows request
commit_own rows request reply = tt

own_of_create : (request : Request) (number : ℕ) → AreOwn request (changes_of_create request number)
own_of_create (CreateKey v b k) number = (refl, (refl, tt))
own_of_create request number = tt

-- the end of a bucket's sessions
module _ (v b : List ℕ) where
  if_own : (t : Bool) (l : List Change) → ChangeOnly (stripe_of v) l → ChangeOnly (stripe_of v) (cond t l [])
  if_own true l own = own
  if_own false l own = tt

  closed_own : (key : RowKey) → ChangeOnly (stripe_of v) (closed v b key)
  closed_own (keys.Open w c k n) = if_own (is_bucket v b w c) _ (refl, tt)
  closed_own key = tt

  put_own : (k : List ℕ) (blocks : List Block) → ChangeOnly (stripe_of v) (map (λ (block : Block). put (keys.Deleted v b 0 k block.local) (values.Deleted (block ∷ []))) blocks)
  put_own k [] = tt
  put_own k (block ∷ blocks) = (refl, put_own k blocks)

  freed_own : (all : List RowEntry) (key : RowKey) (row : Row) → ChangeOnly (stripe_of v) (freed all v b key row)
  freed_own all (keys.Open w c k n) (values.Open blocks) = if_own (is_bucket v b w c) _ (put_own k _)
  freed_own all key row = tt

  each_own : (f : RowEntry → List Change) → ((entry : RowEntry) → ChangeOnly (stripe_of v) (f entry)) → (l : List RowEntry) → ChangeOnly (stripe_of v) (flat_map f l)
  each_own f own [] = tt
  each_own f own (entry ∷ l) = all_append (IsOwn v) (f entry) (flat_map f l) (own entry) (each_own f own l)

  dropped_own : (all : List RowEntry) → ChangeOnly (stripe_of v) (operation_changes all (DropOpen v b))
  dropped_own all = all_append (IsOwn v) _ _
      (each_own (λ (entry : RowEntry). closed v b entry.key) (λ entry. closed_own entry.key) all)
      (each_own (λ (entry : RowEntry). freed all v b entry.key entry.row) (λ entry. freed_own all entry.key entry.row) all)

module _ (rows : Rows) (entries : List RowEntry) (are : AreRows entries rows) where
  none : (request : Request) (changes : List Change) → changes ≡ [] → AreOwn request changes
  none request changes e = subst (AreOwn request) (sym e) tt

  expired_own : (request : Request) (count : ℕ) (changes : List Change) → AreOpened rows request (replies.Count count) changes → AreOwn request changes
  expired_own (ExpireOpen v b) count changes recorded = subst (ChangeOnly (stripe_of v)) (sym (recorded entries are)) (dropped_own v b entries)
  expired_own request count changes recorded = none request changes recorded

  pub opened_own : (request : Request) (reply : Reply) (changes : List Change) → AreOpened rows request reply changes → AreOwn request changes
  opened_own request (replies.Session number) changes recorded = subst (AreOwn request) (sym recorded) (own_of_create request number)
  opened_own request (replies.Count count) changes recorded = expired_own request count changes recorded
  opened_own request reply changes recorded = none request changes recorded

-- those that are written row by row need no list of the rows
pub recorded_own : (rows : Rows) (request : Request) (decider : Decider) (reply : Reply) (bytes : List ℕ) (changes : List Change) → is_by_rows decider ≡ true → AreRecordedBy decider rows request reply bytes changes → AreOwn request changes
recorded_own rows request deciders.Buckets reply bytes changes by recorded = subst (AreOwn request) (sym recorded) (buckets_own request reply)
recorded_own rows request deciders.Reading reply bytes changes by recorded = subst (AreOwn request) (sym recorded) tt
recorded_own rows request deciders.Changing reply bytes changes by recorded = change_own rows request reply changes recorded
recorded_own rows request deciders.Granting reply bytes changes by recorded = subst (AreOwn request) (sym recorded) (grant_own rows request reply)
recorded_own rows request deciders.Committing reply bytes changes by recorded = subst (AreOwn request) (sym recorded) (commit_own rows request reply)
recorded_own rows request decider reply bytes changes by recorded = absurd (false≢true by)
