-- What the service job's purge of a stripe's deleted rows asks for, and what it leaves.
use Rattle.std.specs.Prelude.{◌≡◌, ◌⊎◌, ℕ, ◌≤◌, Bool, true, false, List, [], ◌∷◌, None, Some, All, Contains, if◌then◌else◌}
use Rattle.std.specs.Prelude.{length, map, max, slice_get, take}
use Rattle.oz_core.specs.declared.event.Event.{Event}
use Rattle.oz_core.specs.declared.event.Node.TheVariants.{Scm}
use Rattle.oz_core.specs.declared.opening.Opening.{Opening}
use Rattle.oz_core.specs.Law.{IsPurged, MayGo}
use Rattle.oz_core.specs.Manager.{halt_of}
use Rattle.oz_core.specs.Scm.{is_in_logs, logged}
use Rattle.oz_core.specs.Seats.{scm_seat}
use Rattle.oz_core.specs.Stories.{all_told}
use Rattle.oz_dellog.specs.declared.txn.Txn.{Txn}
use Rattle.oz_fields.specs.declared.block.Block.{Block}
use Rattle.oz_names.specs.Names.{stripe_of}
use Rattle.oz_om.specs.declared.purging.Purged.{Purged}
use Rattle.oz_om.specs.declared.refusal.Refusal.{Refusal}
use Rattle.oz_om.specs.declared.refusal.Refusal.TheVariants as refusals
use Rattle.oz_om.specs.Decided.{IsTooMuch}
use Rattle.oz_om.specs.Purging.{DeletedRow, HasPurged, WasRefused, blocks_of_all, key_of}
use Rattle.oz_om.specs.Served.{CannotServe, IsServed, service_id}
use Rattle.oz_reclaim.specs.Service.{key_named}
use Rattle.oz_requests.specs.declared.request.PurgeRow.{PurgeRow}
use Rattle.oz_requests.specs.declared.request.Request.{Request}
use Rattle.oz_requests.specs.declared.request.Request.TheVariants.{Purge}
use Rattle.oz_rows.specs.declared.key.RowKey.{RowKey}
use Rattle.oz_rows.specs.declared.key.RowKey.TheVariants as keys
use Rattle.oz_rows.specs.RowMaps.{Rows}
use Rattle.oz_scm_events.specs.declared.acking.AckFault.{AckFault}
use Rattle.oz_scm_events.specs.declared.acking.AckFault.TheVariants as acks
use Rattle.oz_scm_events.specs.Logged.{log_event}
use Rattle.oz_turn.specs.Told.{BeginsWith}
use Rattle.oz_service.specs.declared.pass.fault.PassFault.{PassFault}
use Rattle.oz_service.specs.declared.pass.fault.PassFault.TheVariants as faults
use Rattle.oz_service.specs.declared.pass.naming.Front.{Front}

-- ---- which rows a Purge names

-- a deleted row that a Purge may name as the story ends
abbrev pub MayBeNamed : List Event → DeletedRow → Type 0
MayBeNamed story (keys.Deleted volume bucket owner key local, blocks) = MayGo story (stripe_of volume) local
MayBeNamed story (key, blocks) = ⊥

-- the key is that of a deleted row of the volume
abbrev pub IsOfVolume : List ℕ → RowKey → Type 0
IsOfVolume volume (keys.Deleted its bucket owner key local) = its ≡ volume
IsOfVolume volume key = ⊥

-- there is a first row, which is of the volume
abbrev pub IsFirstOf : List ℕ → List DeletedRow → Type 0
IsFirstOf volume [] = ⊥
IsFirstOf volume (row ∷ rows) = IsOfVolume volume (key_of row)

-- The request is a Purge of one volume that names the rows at the front, in their order, and no more of that volume follow them.
pub record NamesFront (rows : List DeletedRow) (front : Front) : Type 0 where
  pub volume : List ℕ
  pub named : List PurgeRow
  pub is : front.request ≡ Purge volume named
  pub some : 1 ≤ front.count
  pub within : front.count ≤ length rows
  pub names : map (key_named volume) named ≡ map key_of (take front.count rows)
  pub whole : (row : DeletedRow) → slice_get rows front.count ≡ Some row → IsOfVolume volume (key_of row) → ⊥

abbrev pub is_purge : Request → Bool
is_purge (Purge volume rows) = true
is_purge request = false

-- the transaction index up to which rows were purged, once a request was decided with this one
abbrev pub purged_with : Request → ℕ → ℕ → ℕ
purged_with request index before = if is_purge request then max before index else before

-- ---- what is logged

-- all of the blocks are
abbrev pub AreLogged : List Event → List Block → Type 0
AreLogged story blocks = All (λ block. is_in_logs (all_told logged story) block ≡ true) blocks

-- all blocks that the transaction names were asked for
abbrev pub ArePurgedOf : List Event → Txn → Type 0
ArePurgedOf story txn = All (λ local. IsPurged story (record { container = txn.container; local = local })) txn.locals

-- the transaction was logged
abbrev pub IsInLog : List Event → Txn → Type 0
IsInLog story txn = Contains story (record { seat = scm_seat; kind = log_event txn })

-- ---- what was purged

-- Behind what was seen before, a Purge was decided that named the row, with an index that isn't above this one.
pub record WasPurged (opening : Opening) (before after : List Event) (most : ℕ) (row : DeletedRow) : Type 0 where
  pub volume : List ℕ
  pub named : List PurgeRow
  pub among : Contains (map (key_named volume) named) (key_of row)
  pub index : ℕ
  pub served : IsServed opening before after (Purge volume named) index
  pub within : index ≤ most

-- Some rows of the stripe were found and asked for. Then all their blocks were logged, and each row was purged, with indexes that
-- aren't above this one.
pub record StripeWasPurged (Coherent : Type 0) (opening : Opening) (loaded : Rows) (stripe : ℕ) (before after : List Event) (most : ℕ)
    : Type 0 where
  pub it : Purged
  pub between : List Event
  pub found : HasPurged Coherent opening loaded stripe before between it
  pub some : 1 ≤ length it.rows.items
  pub later : BeginsWith after between
  pub logged : AreLogged after (blocks_of_all it.rows.items)
  pub each : Coherent → All (WasPurged opening between after most) it.rows.items

-- ---- why it came to no end

-- why what the service job asks isn't decided
abbrev pub AskRefusalHolds : Type 0 → Opening → List Event → Refusal → Type 0
AskRefusalHolds Coherent opening story refusals.OtherBlocks = ⊥
AskRefusalHolds Coherent opening story refusals.Early = ⊥
AskRefusalHolds Coherent opening story (refusals.Stopped count) = CannotServe story count
AskRefusalHolds Coherent opening story (refusals.PoolEmpty stripe) = Coherent → ⊥
AskRefusalHolds Coherent opening story (refusals.Later held asked) = IsTooMuch Coherent opening story service_id held asked
AskRefusalHolds Coherent opening story refusals.OutOfMemory = Unit {0}

-- why blocks aren't logged
abbrev pub LogFaultHolds : List Event → AckFault → Type 0
LogFaultHolds story (acks.Stopped count) = halt_of Scm story ≡ Some count
LogFaultHolds story acks.NotDue = halt_of Scm story ≡ None
LogFaultHolds story acks.OutOfMemory = Unit {0}

-- what the service job answers then
abbrev pub of_log : AckFault → PassFault
of_log (acks.Stopped count) = faults.ScmStopped count
of_log acks.NotDue = faults.OutOfMemory
of_log acks.OutOfMemory = faults.OutOfMemory

-- Why a purge of the stripe came to no end: the manager refused to find the rows or to decide a Purge, the storage container manager
-- had halted, or memory was wanted.
abbrev pub PassFaultHolds : Type 0 → Opening → ℕ → List Event → List Event → PassFault → Type 0
PassFaultHolds Coherent opening stripe before after (faults.Manager refusal) =
    WasRefused stripe before after refusal ⊎ AskRefusalHolds Coherent opening after refusal
PassFaultHolds Coherent opening stripe before after (faults.ScmStopped count) = halt_of Scm after ≡ Some count
PassFaultHolds Coherent opening stripe before after faults.OutOfMemory = Unit {0}
