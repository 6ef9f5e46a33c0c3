-- For private calls: a stripe whose seat holds the turn, and what is made over its rows then.
use Rattle.std.specs.Prelude.{◌≡◌, ◌≢◌, ◌↔◌, ℕ, Bool, ◌+◌, ◌<◌, ◌≤◌, true, false, List, [], ◌∷◌, ◌++◌, length, Option}
use Rattle.std.specs.Prelude.{None, Some, All, Any, IfSome, slice_get}
use Rattle.oz_asker.specs.Asked.{IsAskAt}
use Rattle.oz_buffer.specs.Buffer.{AllFollow, Follows}
use Rattle.oz_cache.specs.Cache.{CacheView, last_epoch, newest}
use Rattle.oz_core.specs.declared.event.Event.{Event}
use Rattle.oz_core.specs.declared.event.EventKind.TheVariants.{Ask, Decide}
use Rattle.oz_core.specs.declared.opening.Opening.{Opening}
use Rattle.oz_core.specs.Asks.{pending}
use Rattle.oz_core.specs.Contents.{OpeningBytes}
use Rattle.oz_core.specs.Grants.{IsExcluded}
use Rattle.oz_core.specs.Law.{DecideIsEnabled}
use Rattle.oz_core.specs.Manager.{asked_late, block_of_reply}
use Rattle.oz_core.specs.Seats.{stripe_seat}
use Rattle.oz_om.specs.decider.Promises.{IsDecision}
use Rattle.oz_decision.specs.declared.decision.Decision.{Decision}
use Rattle.oz_decision.specs.Meets.{AreInGrammar}
use Rattle.oz_effects.specs.Batches.{IsBatchOf}
use Rattle.oz_fields.specs.declared.block.Block.{Block}
use Rattle.oz_script.specs.declared.lines.script.Script.{Script}
use Rattle.oz_locks.specs.Pins.{pins_for}
use Rattle.oz_locks.specs.Pool.{IsFirstAllowed, pool_of}
use Rattle.oz_locks.specs.Purges.{HaveWholeRows}
use Rattle.oz_locks.specs.Reclaims.{AreReady}
use Rattle.oz_locks.specs.Stripe.{StripeView}
use Rattle.oz_locks.specs.declared.pool.FreeBlock.{FreeBlock}
use Rattle.oz_names.specs.Names.{stripe_of}
use Rattle.oz_owned.specs.Stood.{IsBatchOfStripe, StandAt}
use Rattle.oz_reclaim.specs.Origins.{SnapshotKeysStay}
use Rattle.oz_requests.specs.declared.reply.Reply.{Reply}
use Rattle.oz_requests.specs.declared.request.AskId.{AskId}
use Rattle.oz_requests.specs.declared.request.Exclude.{Exclude}
use Rattle.oz_requests.specs.declared.request.Request.{Request}
use Rattle.oz_requests.specs.declared.request.Request.TheVariants.{AllocateBlock}
use Rattle.oz_requests.specs.Names.{volume_in}
use Rattle.oz_rows.specs.declared.operation.Change.{Change}
use Rattle.oz_rows.specs.declared.operation.TheConstants.{END_OF_INDEXES}
use Rattle.oz_rows.specs.RowMaps.{Rows, after_changes}
use Rattle.oz_turn.specs.Told.{own_entries}
use Rattle.oz_om.specs.declared.draft.Draft.{Draft}
use Rattle.oz_om.specs.Keeps.{AreAsked, AreOutOfReach, KeepsRows}

-- The id asked something at a place, and nothing behind it.
pub record IsLastAsk (story : List Event) (id : AskId) (place : ℕ) : Type 0 where
  pub request : Request
  pub there : IsAskAt story place id request
  pub last : (later seat : ℕ) (other : Request) → place < later
      → slice_get story later ≡ Some (record { seat = seat; kind = Ask id other }) → ⊥

-- the request of the last Ask of an id, which is undecided, and which the manager hadn't halted before, is the stripe's
pub record IsOpenAsk (story : List Event) (place : ℕ) (id : AskId) (stripe : ℕ) (request : Request) : Type 0 where
  pub there : IsAskAt story place id request
  pub undecided : pending id story ≡ Some request
  pub in_time : asked_late id story ≡ false
  pub of_stripe : stripe_of (volume_in request) ≡ stripe

-- the first of a pool that isn't excluded
abbrev pub IsFirstOf : Exclude → List FreeBlock → Option (Block × ℕ) → Type 0
IsFirstOf exclude pool None = All (λ (free : FreeBlock). IsExcluded exclude free.block free.pipeline) pool
IsFirstOf exclude pool (Some (block, pipeline)) =
    IsFirstAllowed exclude pool (record { block = block; pipeline = pipeline })

-- the reply grants no block but the picked one
pub record IsPickedGrant (reply : Reply) (pick : Option (Block × ℕ)) (granted : Option Block) : Type 0 where
  pub granted_is : granted ≡ block_of_reply reply
  pub picked : (block : Block) → granted ≡ Some block → (pipeline : ℕ) × (pick ≡ Some (block, pipeline))

-- the block that the reply grants stands in the pool
pub record IsGrantOf (pool : List FreeBlock) (reply : Reply) (granted : Option Block) : Type 0 where
  pub granted_is : granted ≡ block_of_reply reply
  pub pooled : IfSome granted (λ block. Any (λ (free : FreeBlock). free.block ≡ block) pool)

-- A decision of a stripe over its rows may be told under an index, and the stripe's rows stand then. What it asked to be
-- deleted, by these events, stays in whole rows, and so does what is out of reach.
pub record IsTellable (Coherent : Type 0) (opening : Opening) (loaded : Rows) (stripe : ℕ) (rows : Rows)
    (given story : List Event) (id : AskId) (reply : Reply) (batch : List ℕ) (changes : List Change) (index : ℕ)
    : Type 0 where
  pub batch_of : IsBatchOf rows batch changes
  pub recorded : (batch ≡ []) ↔ (changes ≡ [])
  pub fit : AreInGrammar (after_changes changes rows)
  pub enabled : Coherent → DecideIsEnabled opening story (stripe_seat stripe) id index reply batch
  pub of_stripe : Coherent → IsBatchOfStripe stripe rows batch changes
  pub stands : Coherent → StandAt opening loaded stripe
      (story ++ record { seat = stripe_seat stripe; kind = Decide id index reply batch } ∷ [])
      (after_changes changes rows)
  pub asked : Coherent → AreAsked loaded stripe given story (after_changes changes rows)
  pub whole : Coherent → (blocks : List Block) → AreOutOfReach opening story blocks → HaveWholeRows rows blocks
      → HaveWholeRows (after_changes changes rows) blocks

module _ {T : Type 0} where
  -- The stripe's seat has just seen the whole story, and its rows stand.
  pub record IsHeld (Coherent : Type 0) (opening : Opening) (bytes : OpeningBytes) (script : Script) (loaded : Rows)
      (s : StripeView T) (story : List Event) : Type 0 where
    pub seen : s.seen ≡ story
    pub follow : AllFollow (Follows Coherent opening bytes script) [] story
    pub own : own_entries (λ (event : Event). event.seat) (stripe_seat s.number) story ≡ s.mine
    pub keeps : KeepsRows Coherent opening loaded s.number s.mine story (newest s.cache)

  -- a session that wants a block gets the first that is left of all Grants to the stripe and isn't excluded
  pub record IsPicked (Agrees : Type 0) (s : StripeView T) (exclude : Exclude)
      (pick : Option (Block × ℕ)) : Type 0 where
    pub left : Agrees → s.pool ≡ pool_of s.number s.seen s.mine
    pub first : IsFirstOf exclude s.pool pick

  -- and no other request gets one
  abbrev pub IsPickFor : Type 0 → StripeView T → Request → Option (Block × ℕ) → Type 0
  IsPickFor Agrees s (AllocateBlock volume bucket key session exclude) pick = IsPicked Agrees s exclude pick
  IsPickFor Agrees s request pick = pick ≡ None

  -- what an id asked at a place was decided over the newest rows of the stripe
  pub record IsMade (Agrees : Type 0) (s : StripeView T) (story : List Event) (place : ℕ) (id : AskId)
      (decision : Decision) : Type 0 where
    pub request : Request
    pub pick : Option (Block × ℕ)
    pub ask : IsOpenAsk story place id s.number request
    pub picked : IsPickFor Agrees s request pick
    pub made : IsDecision (newest s.cache) request pick decision

  -- so far an index is above all that was entered
  pub record IsAbove (s : StripeView T) (index : ℕ) : Type 0 where
    pub entered : last_epoch s.cache < index
    pub flushed : s.flushed < index
    pub limit : index < END_OF_INDEXES

  -- There is all the memory that it takes to tell a decision: in the ledger so much room for the seat, and so many
  -- bytes.
  pub record IsDraft (Coherent : Type 0) (opening : Opening) (loaded : Rows) (s : StripeView T) (story : List Event)
      (id : AskId) (room spare : ℕ) (draft : Draft) : Type 0 where
    pub told_is : draft.told ≡ draft.reply
    pub tellable : IsTellable Coherent opening loaded s.number (newest s.cache) s.mine story id draft.reply draft.batch
        draft.changes draft.index
    pub above : draft.batch ≢ [] → IsAbove s draft.index
    pub granted : IsGrantOf s.pool draft.reply draft.granted
    pub quiet : draft.batch ≡ [] → draft.granted ≡ None
    pub pins_are : draft.pins.items ≡ pins_for id draft.reply
    pub pin_room : length draft.pins.items ≤ s.pin_room
    pub cache_room : length draft.changes ≤ s.cache.spare
    pub ready : AreReady draft.changes s.reclaim
    pub tidy : SnapshotKeysStay draft.changes
    pub event_room : 4 ≤ room
    pub buffer_room : length draft.batch ≤ spare

-- the same rows, with room for more changes
pub record IsRoomier (before after : CacheView) : Type 0 where
  pub rows : after.durable.rows ≡ before.durable.rows
  pub last : after.durable.last_index ≡ before.durable.last_index
  pub entered : after.entered ≡ before.entered

module _ {T : Type 0} where
  -- the last index where nothing is written, and else the next one, above all that was entered
  pub record IsNextIndex (s : StripeView T) (last : ℕ) (is_empty : Bool) (index : ℕ) : Type 0 where
    pub stays : is_empty ≡ true → index ≡ last
    pub rises : is_empty ≡ false → (index ≡ last + 1) × IsAbove s index

module _ {T : Type 0} where
  -- Room was made, and Grants were looked at; the rows and all else are as they were.
  pub record IsDrafting (before after : StripeView T) : Type 0 where
    pub same : after ≡ record before {
      cache = after.cache;
      pool = after.pool;
      known = after.known;
      pin_room = after.pin_room;
      reclaim = after.reclaim;
    }
    pub rows : IsRoomier before.cache after.cache

  -- The stripe's seat added an event to the story that it had seen, each event may follow, and the rows stand.
  pub record IsTold (Coherent : Type 0) (opening : Opening) (bytes : OpeningBytes) (script : Script) (loaded : Rows)
      (before after : StripeView T) : Type 0 where
    pub number : after.number ≡ before.number
    pub event : Event
    pub story : after.seen ≡ before.seen ++ event ∷ []
    pub follow : AllFollow (Follows Coherent opening bytes script) [] after.seen
    pub keeps : KeepsRows Coherent opening loaded after.number after.mine after.seen (newest after.cache)
