-- Rows that stood: what the events of a story make of a stripe's rows, and what a stripe's tables are.
use Rattle.std.specs.Prelude.{◌≡◌, ◌≢◌, ℕ, ◌<◌, Bool, List, [], ◌∷◌, ◌++◌, Option, None, Some, if◌then◌else◌}
use Rattle.oz_decision.specs.Meets.{Stand}
use Rattle.oz_effects.specs.Batches.{IsBatchOf}
use Rattle.oz_effects.specs.Build.{AllAreBased}
use Rattle.oz_fields.specs.declared.block.Block.{Block}
use Rattle.oz_rows.specs.declared.entry.RowEntry.{RowEntry}
use Rattle.oz_rows.specs.declared.operation.Change.{Change}
use Rattle.oz_rows.specs.declared.operation.Operation.{Operation}
use Rattle.oz_rows.specs.declared.operation.Operation.TheVariants.{DropOpen}
use Rattle.oz_rows.specs.declared.operation.TheConstants.{END_OF_INDEXES}
use Rattle.oz_rows.specs.RowMaps.{AreRows, Rows, after_changes}
use Rattle.oz_sound.specs.Kept.{HasHome}
use Rattle.oz_sound.specs.Sound.{IsSound}
use Rattle.oz_sound.specs.stripes.Stripes.{AreOf, ChangeOnly, only}
use Rattle.oz_core.specs.declared.event.Event.{Event}
use Rattle.oz_core.specs.declared.event.EventKind.{EventKind}
use Rattle.oz_core.specs.declared.event.EventKind.TheVariants.{Decide}
use Rattle.oz_core.specs.declared.opening.Opening.{Opening}
use Rattle.oz_core.specs.Manager.{namespace_of}
use Rattle.oz_core.specs.Seats.{stripe_seat}
use Rattle.oz_core.specs.Stories.{all_told, mine}
use Rattle.oz_store.specs.granted.Granted.{AreOld, handed_out}
use Rattle.oz_store.specs.striped.Shares.{share_of}
use Rattle.oz_owned.specs.Front.{IsFrontOf}
use Rattle.oz_owned.specs.Own.{IsOwn, IsOwnLocal, NamesLocal}
use Rattle.oz_owned.specs.Swept.{HomesAreKept}

-- there are only so many rows, and each has the one that it needs
pub record AreBased (rows : Rows) : Type 0 where
  pub all : List RowEntry
  pub are : AreRows all rows
  pub based : AllAreBased all

-- ---- what events make of rows

-- a batch makes these rows of those
pub record IsWritten (rows : Rows) (batch : List ℕ) (next : Rows) : Type 0 where
  pub changes : List Change
  pub is_batch : IsBatchOf rows batch changes
  pub leads : next ≡ after_changes changes rows

-- batches do, one after another
unfoldable pub AreWritten : Rows → List (List ℕ) → Rows → Type 0
AreWritten rows [] last = last ≡ rows
AreWritten rows (batch ∷ batches) last = (next : Rows) × IsWritten rows batch next × AreWritten next batches last

-- where operations drop a bucket's sessions, none stands before that
abbrev pub DropsFirst : List Operation → Type 0
DropsFirst items =
    (earlier later : List Operation) (volume bucket : List ℕ)
    → items ≡ earlier ++ DropOpen volume bucket ∷ later → earlier ≡ []

-- The bytes are a batch of the changes, and none of its operations and none of the changes is of another stripe. Sessions
-- are dropped first, if at all.
pub record IsBatchOfStripe (stripe : ℕ) (rows : Rows) (bytes : List ℕ) (changes : List Change) : Type 0 where
  pub batch : IsBatchOf rows bytes changes
  pub operations_own : AreOf stripe batch.items
  pub changes_own : ChangeOnly stripe changes
  pub drops_first : DropsFirst batch.items

-- a Decide of the stripe makes these rows of those by its batch, which is of the stripe alone, at an index that a body may
-- have
pub record IsWrittenBy (stripe : ℕ) (rows : Rows) (index : ℕ) (batch : List ℕ) (next : Rows) : Type 0 where
  pub changes : List Change
  pub of_stripe : IsBatchOfStripe stripe rows batch changes
  pub limit : batch ≢ [] → index < END_OF_INDEXES
  pub leads : next ≡ after_changes changes rows

-- any other event makes nothing of the stripe's rows
abbrev pub IsMadeBy : ℕ → Rows → EventKind → Rows → Type 0
IsMadeBy stripe rows (Decide id index reply batch) next = IsWrittenBy stripe rows index batch next
IsMadeBy stripe rows kind next = next ≡ rows

pub record StepsTo (stripe : ℕ) (rows : Rows) (event : Event) (next : Rows) : Type 0 where
  pub own : event.seat ≡ stripe_seat stripe → IsMadeBy stripe rows event.kind next
  pub others : event.seat ≢ stripe_seat stripe → next ≡ rows

-- the batches that the stripe's Decides wrote whose indexes count, in order
abbrev pub batch_if : Bool → List ℕ → Option (List ℕ)
batch_if counts [] = None
batch_if counts (byte ∷ bytes) = if counts then Some (byte ∷ bytes) else None

abbrev pub batch_of : (ℕ → Bool) → EventKind → Option (List ℕ)
batch_of counts (Decide id index reply batch) = batch_if (counts index) batch
batch_of counts _ = None

abbrev pub batches_of : (ℕ → Bool) → ℕ → List Event → List (List ℕ)
batches_of counts stripe story = all_told (batch_of counts) (mine (stripe_seat stripe) story)

-- ---- rows that stood

-- `At` says what holds of a stripe's rows at a place of a story. From these rows on, behind these events, it held of the
-- rows at each place, up to these last ones.
unfoldable pub HaveStoodFrom : (List Event → Rows → Type 0) → ℕ → List Event → Rows → List Event → Rows → Type 0
HaveStoodFrom At stripe before rows [] last = At before rows × (last ≡ rows)
HaveStoodFrom At stripe before rows (event ∷ story) last =
    At before rows
    × ((next : Rows) × StepsTo stripe rows event next × HaveStoodFrom At stripe (before ++ event ∷ []) next story last)

-- it did so from those that were loaded
abbrev pub HaveStood : (List Event → Rows → Type 0) → Rows → ℕ → List Event → Rows → Type 0
HaveStood At loaded stripe story rows = HaveStoodFrom At stripe [] (only stripe loaded) story rows

-- the rows are those that stood at the front of the story at an index
pub record StoodAtFront (At : List Event → Rows → Type 0) (opening : Opening) (loaded : Rows) (stripe : ℕ)
    (story : List Event) (most : ℕ) (rows : Rows) : Type 0 where
  pub front : List Event
  pub is_front : IsFrontOf opening most story front
  pub stood : HaveStood At loaded stripe front rows

-- ---- what is said of a stripe's rows

-- The rows are in the grammar and sound, and stand for what the namespace of the story has of the stripe. What they name
-- is the stripe's own; and each block of the stripe's own has a home in them, or is logged.
pub record StandAt (opening : Opening) (loaded : Rows) (stripe : ℕ) (story : List Event) (rows : Rows) : Type 0 where
  pub stand : Stand IsSound rows (share_of stripe (namespace_of opening story))
  pub old : AreOld (only stripe loaded) (handed_out stripe story) rows
  pub homes_old : (block : Block) → HasHome rows block → IsOwn loaded stripe story block
  pub keys_old : (local : ℕ) → NamesLocal rows local → IsOwnLocal loaded stripe story local
  pub kept_or_logged : HomesAreKept opening loaded stripe story rows

-- they stood so from those that were loaded, up to these
abbrev pub HasStood : Opening → Rows → ℕ → List Event → Rows → Type 0
HasStood opening loaded stripe story rows = HaveStood (StandAt opening loaded stripe) loaded stripe story rows

-- What a stripe's tables are, to which its rows were brought up to an index: rows that stood at one place of the story,
-- behind which only later indexes were decided.
abbrev pub TablesStand : Opening → Rows → ℕ → List Event → ℕ → Rows → Type 0
TablesStand opening loaded stripe story most tables =
    StoodAtFront (StandAt opening loaded stripe) opening loaded stripe story most tables
