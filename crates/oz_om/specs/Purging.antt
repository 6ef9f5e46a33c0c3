-- What was found of a stripe's deleted rows that may go, and what its seat asked for.
use Rattle.std.specs.Prelude.{◌≡◌, ◌↔◌, ℕ, ◌<◌, ◌≤◌, Bool, true, List, [], ◌∷◌, ◌++◌, length, map, Option, None, Some, Result, Contains, All}
use Rattle.std.specs.List.{AllByRecursion, flat_map}
use Rattle.oz_core.specs.declared.event.Event.{Event}
use Rattle.oz_core.specs.declared.event.EventKind.TheVariants.{PurgeAsk}
use Rattle.oz_core.specs.declared.event.Node.TheVariants.{Manager}
use Rattle.oz_core.specs.declared.opening.Opening.{Opening}
use Rattle.oz_core.specs.Manager.{durable_index, halt_of, kept_namespace, last_index, pinned}
use Rattle.oz_core.specs.Seats.{stripe_seat}
use Rattle.oz_core.specs.Stories.{mine}
use Rattle.oz_fields.specs.declared.block.Block.{Block}
use Rattle.oz_locks.specs.Purges.{HaveWholeRows}
use Rattle.oz_names.specs.declared.limits.TheConstants.{STRIPES}
use Rattle.oz_owned.specs.Own.{IsOwn}
use Rattle.oz_owned.specs.Stood.{TablesStand}
use Rattle.oz_reclaim.specs.Reclaimable.{IsAmongFirst, IsReclaimable}
use Rattle.oz_reclaim.specs.declared.finding.TheConstants.{MOST_PURGED}
use Rattle.oz_reclaim.specs.sweep.Found.{IsPartlyPinned}
use Rattle.oz_rows.specs.declared.key.RowKey.{RowKey}
use Rattle.oz_rows.specs.declared.row.Row.{Row}
use Rattle.oz_rows.specs.declared.row.Row.TheVariants as rows
use Rattle.oz_rows.specs.Counts.{AllRise}
use Rattle.oz_rows.specs.RowMaps.{Rows}
use Rattle.oz_turn.specs.Told.{BeginsWith}
use Rattle.oz_om.specs.declared.purging.Purged.{Purged}
use Rattle.oz_om.specs.declared.refusal.Refusal.{Refusal}
use Rattle.oz_om.specs.declared.refusal.Refusal.TheVariants as refusals
use Rattle.oz_om.specs.Keeps.{AreOutOfReach}

-- a deleted row with all its blocks, and its key
abbrev pub DeletedRow : Type 0
DeletedRow = RowKey × List Block

abbrev pub key_of : DeletedRow → RowKey
key_of (key, blocks) = key

abbrev pub blocks_in : DeletedRow → List Block
blocks_in (key, blocks) = blocks

-- the blocks of a row that is there and deleted, and the date of one that was found
abbrev pub deleted_blocks : Option Row → List Block
deleted_blocks (Some (rows.Deleted blocks)) = blocks
deleted_blocks (Some rows.Volume) = []
deleted_blocks (Some rows.Bucket) = []
deleted_blocks (Some (rows.Key number pieces)) = []
deleted_blocks (Some (rows.Open blocks)) = []
deleted_blocks (Some (rows.Snapshot name previous state)) = []
deleted_blocks (Some (rows.SnapshotKey number pieces)) = []
deleted_blocks (Some (rows.Renamed key)) = []
deleted_blocks (Some (rows.Stripe number)) = []
deleted_blocks None = []

abbrev pub dated : (RowKey × ℕ) → ℕ
dated (key, since) = since

-- a found row with its blocks in these rows
abbrev pub with_blocks : Rows → (RowKey × ℕ) → DeletedRow
with_blocks all (key, since) = (key, deleted_blocks (all key))

-- all blocks of these rows, in order
abbrev pub blocks_of_all : List DeletedRow → List Block
blocks_of_all deleted = flat_map blocks_in deleted

-- ---- what may go

-- the stripe's rows up to what is flushed as the story ends
abbrev pub AreFlushed : Opening → Rows → ℕ → List Event → Rows → Type 0
AreFlushed opening loaded stripe story tables = TablesStand opening loaded stripe story (durable_index opening story) tables

-- The deleted row may go as the story ends: what a stop would leave reaches none of its blocks, and no line works on one.
abbrev pub MayGo : Opening → List Event → Rows → RowKey → Type 0
MayGo opening story tables key = IsReclaimable tables (kept_namespace opening story) (pinned story) key

-- none of the stripe's rows that are flushed may go as the story ends
pub record NoneMayGo (opening : Opening) (loaded : Rows) (stripe : ℕ) (story : List Event) : Type 0 where
  pub tables : Rows
  pub flushed : AreFlushed opening loaded stripe story tables
  pub none : (key : RowKey) → MayGo opening story tables key → ⊥

-- ---- what was found

-- As the story ended these were all of the stripe's flushed rows that might go, or the first of them where there are more, with all
-- their blocks.
pub record WereFound (opening : Opening) (loaded : Rows) (stripe : ℕ) (story : List Event) (it : Purged) : Type 0 where
  pub tables : Rows
  pub flushed : AreFlushed opening loaded stripe story tables
  pub whole : AllByRecursion (λ (row : DeletedRow). tables (key_of row) ≡ Some (rows.Deleted (blocks_in row))) it.rows.items
  pub only : AllByRecursion (λ (row : DeletedRow). MayGo opening story tables (key_of row)) it.rows.items
  pub first : (key : RowKey) → MayGo opening story tables key → IsAmongFirst MOST_PURGED (map key_of it.rows.items) key
  pub partly : (it.is_partly_pinned ≡ true) ↔ IsPartlyPinned tables (kept_namespace opening story) (pinned story)

-- What was said of them beside.
pub record IsCounted (opening : Opening) (story : List Event) (it : Purged) : Type 0 where
  pub durable : it.durable ≡ durable_index opening story
  pub in_order : AllRise (map key_of it.rows.items)
  pub few : length it.rows.items ≤ MOST_PURGED
  pub all : (it.is_all ≡ true) ↔ (length it.rows.items < MOST_PURGED)
  pub dated : length it.since.items ≡ length it.rows.items

-- ---- what was asked for

-- the stripe's PurgeAsk for all blocks of some rows, nothing where there are none
abbrev pub asks_for : ℕ → List DeletedRow → List Event
asks_for stripe [] = []
asks_for stripe (row ∷ more) = record { seat = stripe_seat stripe; kind = PurgeAsk (blocks_of_all (row ∷ more)) } ∷ []

-- Behind what was seen before, a story ended as they were found; then the stripe's seat asked for them, if there are any, and gave
-- nothing else.
pub record HasPurged (Coherent : Type 0) (opening : Opening) (loaded : Rows) (stripe : ℕ) (before after : List Event)
    (it : Purged) : Type 0 where
  pub story : List Event
  pub behind : BeginsWith story before
  pub seen : BeginsWith after story
  pub counted : IsCounted opening story it
  pub found : Coherent → WereFound opening loaded stripe story it
  pub asked : mine (stripe_seat stripe) after ≡ mine (stripe_seat stripe) story ++ asks_for stripe it.rows.items

-- why nothing was asked for: the manager had halted, or there was no memory
abbrev pub PurgeRefusalHolds : List Event → Refusal → Type 0
PurgeRefusalHolds story refusals.OtherBlocks = ⊥
PurgeRefusalHolds story refusals.Early = ⊥
PurgeRefusalHolds story (refusals.Stopped count) = halt_of Manager story ≡ Some count
PurgeRefusalHolds story (refusals.PoolEmpty stripe) = ⊥
PurgeRefusalHolds story (refusals.Later held asked) = ⊥
PurgeRefusalHolds story refusals.OutOfMemory = Unit {0}

-- It was refused, and the stripe's seat gave nothing since a story behind what was seen before.
pub record WasRefused (stripe : ℕ) (before after : List Event) (refusal : Refusal) : Type 0 where
  pub story : List Event
  pub behind : BeginsWith story before
  pub seen : BeginsWith after story
  pub silent : mine (stripe_seat stripe) after ≡ mine (stripe_seat stripe) story
  pub holds : PurgeRefusalHolds after refusal

-- ---- of several stripes

-- as some story ended, behind what was seen before, none of the stripe's rows might go
pub record HadNoRows (Coherent : Type 0) (opening : Opening) (loaded : Rows) (stripe : ℕ) (before after : List Event) : Type 0 where
  pub story : List Event
  pub behind : BeginsWith story before
  pub seen : BeginsWith after story
  pub none : Coherent → NoneMayGo opening loaded stripe story

abbrev pub NoneHadAny : Type 0 → Opening → Rows → ℕ → List Event → List Event → Type 0
NoneHadAny Coherent opening loaded end before after = (stripe : ℕ) → stripe < end → HadNoRows Coherent opening loaded stripe before after

-- the rows are those of the first stripe that had some, which it asked for
abbrev pub AreFirstPurged : Type 0 → Opening → Rows → List Event → List Event → List DeletedRow → Type 0
AreFirstPurged Coherent opening loaded before after [] = NoneHadAny Coherent opening loaded STRIPES before after
AreFirstPurged Coherent opening loaded before after (row ∷ more) =
    (stripe : ℕ) × (stripe < STRIPES) × NoneHadAny Coherent opening loaded stripe before after
    × (it : Purged) × (it.rows.items ≡ row ∷ more) × HasPurged Coherent opening loaded stripe before after it

-- one of the stripes was refused, and none before it had any
pub record OneWasRefused (Coherent : Type 0) (opening : Opening) (loaded : Rows) (before after : List Event) (refusal : Refusal)
    : Type 0 where
  pub stripe : ℕ
  pub there : stripe < STRIPES
  pub none_before : NoneHadAny Coherent opening loaded stripe before after
  pub refused : WasRefused stripe before after refusal

-- ---- for private calls

-- What a stripe may ask to be deleted as a story ends, while these are its rows: blocks of its own that are out of reach since what is
-- flushed, that no line works on, and that are those of whole rows.
pub record MayBeAsked (opening : Opening) (loaded : Rows) (stripe : ℕ) (story : List Event) (all : Rows) (blocks : List Block) : Type 0 where
  pub some : 1 ≤ length blocks
  pub own : All (IsOwn loaded stripe story) blocks
  pub front : List Event
  pub begins : BeginsWith story front
  pub flushed : last_index opening front ≤ durable_index opening story
  pub out : AreOutOfReach opening front blocks
  pub unpinned : (block : Block) → Contains blocks block → Contains (pinned story) block → ⊥
  pub whole : HaveWholeRows all blocks
