-- No decision but those on snapshots, and those of the manager's own requests, changes the rows of a snapshot's keys.
use Rattle.std.proofs.Common.{◌≡◌, ℕ, Bool, true, false, not, List, [], ◌∷◌, ◌++◌, Option, None, Some, cond, refl, sym, subst}
use mathlib.Core.Bool.{false≢true}
use Rattle.std.specs.Prelude.{map}
use Rattle.std.specs.List.{AllByRecursion, filter, flat_map}
use Rattle.oz_om.specs.declared.decider.decider.Decider.{Decider}
use Rattle.oz_om.specs.declared.decider.decider.Decider.TheVariants.{Buckets, Reading, Changing, Granting, Committing}
use Rattle.oz_om.specs.decider.Records.{AreRecordedBy}
use Rattle.oz_decision.specs.Sessions.{blocks_at}
use Rattle.oz_decision.specs.Versions.{deleted, version_at}
use Rattle.oz_effects.specs.Effects.{closed, freed, is_in_a_key, operation_changes}
use Rattle.oz_fields.specs.declared.block.Block.{Block}
use Rattle.oz_om_bucket.specs.Records.{changes_for, recorded_changes}
use Rattle.oz_om_key.specs.om_change.Noting.{noted}
use Rattle.oz_om_key.specs.om_change.Records.{AreChangesOf, moved}
use Rattle.oz_om_key.specs.om_change.Records.{AreRecorded as AreChanged}
use Rattle.oz_om_session.specs.om_open.Records.{AreExpired, changes_of_create}
use Rattle.oz_om_session.specs.om_open.Records.{AreRecorded as AreOpened}
use Rattle.oz_om_session.specs.Records.{changes_of_commit, changes_of_grant, changes_of_left, recorded_commit, recorded_grant, unused}
use Rattle.oz_reclaim.specs.Origins.{IsTidy, SnapshotKeysStay}
use Rattle.oz_requests.specs.declared.reply.Reply.{Reply}
use Rattle.oz_requests.specs.declared.reply.Reply.TheVariants as replies
use Rattle.oz_requests.specs.declared.request.Request.{Request}
use Rattle.oz_requests.specs.declared.request.Request.TheVariants.{CreateVolume, DeleteVolume, CreateBucket, DeleteBucket}
use Rattle.oz_requests.specs.declared.request.Request.TheVariants.{CreateKey, AllocateBlock, CommitKey, DeleteKey, RenameKey, ExpireOpen}
use Rattle.oz_rows.specs.declared.entry.RowEntry.{RowEntry}
use Rattle.oz_rows.specs.declared.key.RowKey.{RowKey}
use Rattle.oz_rows.specs.declared.key.RowKey.TheVariants as keys
use Rattle.oz_rows.specs.declared.operation.Change.{Change}
use Rattle.oz_rows.specs.declared.operation.Operation.TheVariants.{DropOpen}
use Rattle.oz_rows.specs.declared.row.Row.{Row}
use Rattle.oz_rows.specs.declared.row.Row.TheVariants as rows
use Rattle.oz_rows.specs.RowMaps.{Rows, AreRows, is_bucket, put, gone}
use Rattle.oz_om.proofs.decider_lemmas.Choice.{is_by_rows}
use Rattle.oz_om.proofs.decider_lemmas.Noted.{noted_each}

abbrev pub is_snapshot_key : RowKey → Bool
is_snapshot_key (keys.SnapshotKey volume bucket number key) = true
is_snapshot_key key = false

abbrev pub Spares : List Change → Type 0
Spares changes = AllByRecursion (λ (change : Change). is_snapshot_key change.key ≡ false) changes

-- so they stay, and the keys of a snapshot with them
tidy_key : (changes : List Change) (key : RowKey) → is_snapshot_key key ≡ false → IsTidy changes key
tidy_key changes (keys.SnapshotKey volume bucket number key) e = absurd (false≢true (sym e))
tidy_key changes key e = tt

tidy_each : (changes some : List Change) → Spares some → AllByRecursion (λ (change : Change). IsTidy changes change.key) some
tidy_each changes [] spares = tt
tidy_each changes (change ∷ some) spares = (tidy_key changes change.key spares.0, tidy_each changes some spares.1)

pub tidy : (changes : List Change) → Spares changes → SnapshotKeysStay changes
tidy changes spares = tidy_each changes changes spares

both : (a b : List Change) → Spares a → Spares b → Spares (a ++ b)
both [] b one other = other
both (change ∷ a) b one other = (one.0, both a b one.1 other)

each : (all : List RowEntry) (f : RowEntry → List Change) → ((entry : RowEntry) → Spares (f entry)) → Spares (flat_map f all)
each [] f spares = tt
each (entry ∷ all) f spares = both (f entry) (flat_map f all) (spares entry) (each all f spares)

if_so : (t : Bool) (changes : List Change) → Spares changes → Spares (cond t changes [])
if_so true changes spares = spares
if_so false changes spares = tt

spares_deleted : (volume bucket key : List ℕ) (blocks : List Block) → Spares (deleted volume bucket key blocks)
spares_deleted volume bucket key [] = tt
spares_deleted volume bucket key (first ∷ others) = (refl, tt)

spares_buckets : (request : Request) → Spares (changes_for request)
spares_buckets (CreateVolume volume) = (refl, tt)
spares_buckets (DeleteVolume volume) = (refl, tt)
spares_buckets (CreateBucket volume bucket) = (refl, tt)
spares_buckets (DeleteBucket volume bucket) = (refl, tt)
spares_buckets request = tt

spares_closed : (volume bucket : List ℕ) (key : RowKey) → Spares (closed volume bucket key)
spares_closed volume bucket (keys.Open of_volume of_bucket key number) = if_so (is_bucket volume bucket of_volume of_bucket) (gone (keys.Open volume bucket key number) ∷ []) (refl, tt)
spares_closed volume bucket key = tt

spares_puts : (volume bucket key : List ℕ) (blocks : List Block) → Spares (map (λ (block : Block). put (keys.Deleted volume bucket 0 key block.local) (rows.Deleted (block ∷ []))) blocks)
spares_puts volume bucket key [] = tt
spares_puts volume bucket key (block ∷ blocks) = (refl, spares_puts volume bucket key blocks)

spares_freed : (all : List RowEntry) (volume bucket : List ℕ) (key : RowKey) (row : Row) → Spares (freed all volume bucket key row)
spares_freed all volume bucket (keys.Open of_volume of_bucket key number) (rows.Open blocks) =
    if_so (is_bucket volume bucket of_volume of_bucket)
    (map (λ (block : Block). put (keys.Deleted volume bucket 0 key block.local) (rows.Deleted (block ∷ []))) (filter (λ block. not (is_in_a_key all block)) blocks))
    (spares_puts volume bucket key (filter (λ block. not (is_in_a_key all block)) blocks))
spares_freed all volume bucket key row = tt

spares_dropped : (all : List RowEntry) (volume bucket : List ℕ) → Spares (operation_changes all (DropOpen volume bucket))
spares_dropped all volume bucket =
    both (flat_map (λ (entry : RowEntry). closed volume bucket entry.key) all)
    (flat_map (λ (entry : RowEntry). freed all volume bucket entry.key entry.row) all)
    (each all (λ (entry : RowEntry). closed volume bucket entry.key) (λ entry. spares_closed volume bucket entry.key))
    (each all (λ (entry : RowEntry). freed all volume bucket entry.key entry.row) (λ entry. spares_freed all volume bucket entry.key entry.row))

spares_moved : (volume bucket to : List ℕ) (row : Option Row) → Spares (moved (keys.Key volume bucket to) row)
spares_moved volume bucket to None = tt
spares_moved volume bucket to (Some row) = (refl, tt)

spares_changed : (all : Rows) (request : Request) (changes : List Change) → AreChangesOf all request changes → Spares changes
spares_changed all (DeleteKey volume bucket key) changes is = subst Spares (sym is) (refl, spares_deleted volume bucket key (version_at (all (keys.Key volume bucket key))))
spares_changed all (RenameKey volume bucket key to) changes (numbers, are, is) =
    let row = all (keys.Key volume bucket key) in
    subst Spares (sym is) (
      refl,
      both (moved (keys.Key volume bucket to) row) (noted all volume bucket key numbers (version_at row)) (spares_moved volume bucket to row)
          (noted_each (λ (change : Change). is_snapshot_key change.key ≡ false) all volume bucket key numbers (version_at row) (λ block has. refl)),
    )
spares_changed all request changes is = subst Spares (sym is) tt

spares_change : (all : Rows) (request : Request) (reply : Reply) (changes : List Change) → AreChanged all request reply changes → Spares changes
spares_change all request replies.Done changes recorded = spares_changed all request changes recorded
spares_change all request reply changes recorded = subst Spares (sym recorded) tt

spares_bucket : (request : Request) (reply : Reply) → Spares (recorded_changes request reply)
spares_bucket request (replies.Code code) = tt
spares_bucket request reply = spares_buckets request

spares_created : (request : Request) (number : ℕ) → Spares (changes_of_create request number)
spares_created (CreateKey volume bucket key) number = (refl, (refl, tt))
spares_created request number = tt

spares_expired : (all : Rows) (list : List RowEntry) → AreRows list all → (request : Request) (changes : List Change) → AreExpired all request changes → Spares changes
spares_expired all list are (ExpireOpen volume bucket) changes expired = subst Spares (sym (expired list are)) (spares_dropped list volume bucket)
spares_expired all list are request changes expired = subst Spares (sym expired) tt

pub spares_opened : (all : Rows) (list : List RowEntry) → AreRows list all → (request : Request) (reply : Reply) (changes : List Change) → AreOpened all request reply changes → Spares changes
spares_opened all list are request (replies.Session number) changes opened = subst Spares (sym opened) (spares_created request number)
spares_opened all list are request (replies.Count count) changes opened = spares_expired all list are request changes opened
spares_opened all list are request reply changes opened = subst Spares (sym opened) tt

spares_of_grant : (all : Rows) (request : Request) (block : Block) → Spares (changes_of_grant all request block)
spares_of_grant all (AllocateBlock volume bucket key session exclude) block = (refl, tt)
spares_of_grant all request block = tt

spares_granted : (all : Rows) (request : Request) (reply : Reply) → Spares (recorded_grant all request reply)
spares_granted all request (replies.Granted block pipeline) = spares_of_grant all request block
spares_granted all request reply = tt

spares_of_commit : (all : Rows) (request : Request) → Spares (changes_of_commit all request)
spares_of_commit all (CommitKey volume bucket key session pieces) =
    both (changes_of_left volume bucket key (all (keys.Key volume bucket key)) (all (keys.Open volume bucket key session)) pieces)
    (gone (keys.Open volume bucket key session) ∷ put (keys.Key volume bucket key) (rows.Key session pieces) ∷ [])
    (both (deleted volume bucket key (version_at (all (keys.Key volume bucket key))))
    (deleted volume bucket key (unused (blocks_at (all (keys.Open volume bucket key session))) pieces))
    (spares_deleted volume bucket key (version_at (all (keys.Key volume bucket key))))
    (spares_deleted volume bucket key (unused (blocks_at (all (keys.Open volume bucket key session))) pieces)))
    (refl, (refl, tt))
spares_of_commit all request = tt

spares_committed : (all : Rows) (request : Request) (reply : Reply) → Spares (recorded_commit all request reply)
spares_committed all request replies.Done = spares_of_commit all request
spares_committed all request reply = tt

-- what is written row by row
pub recorded_spares : (all : Rows) (decider : Decider) (request : Request) (reply : Reply) (bytes : List ℕ) (changes : List Change) → is_by_rows decider ≡ true → AreRecordedBy decider all request reply bytes changes → Spares changes
recorded_spares all Buckets request reply bytes changes by recorded = subst Spares (sym recorded) (spares_bucket request reply)
recorded_spares all Reading request reply bytes changes by recorded = subst Spares (sym recorded) tt
recorded_spares all Changing request reply bytes changes by recorded = spares_change all request reply changes recorded
recorded_spares all Granting request reply bytes changes by recorded = subst Spares (sym recorded) (spares_granted all request reply)
recorded_spares all Committing request reply bytes changes by recorded = subst Spares (sym recorded) (spares_committed all request reply)
recorded_spares all decider request reply bytes changes by recorded = absurd (false≢true by)
