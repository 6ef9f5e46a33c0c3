-- What the stripes of the manager are made of, and what they leave: the parts of what was loaded, and their seats.
use Rattle.std.specs.Prelude.{◌≡◌, ℕ, List, [], length, map, Some, slice_get}
use Rattle.oz_cache.specs.Cache.{CacheView}
use Rattle.oz_core.specs.declared.event.Event.{Event}
use Rattle.oz_core.specs.declared.opening.Opening.{Opening}
use Rattle.oz_core.specs.Seats.{stripe_seat}
use Rattle.oz_core.specs.Stories.{mine}
use Rattle.oz_loaded.specs.Parts.{AreParts}
use Rattle.oz_locks.specs.Stripe.{IsAtRest, StripeView}
use Rattle.oz_names.specs.declared.limits.TheConstants.{STRIPES}
use Rattle.oz_rows.specs.declared.entry.RowEntry.{RowEntry}
use Rattle.oz_rows.specs.declared.key.RowKey.{RowKey}
use Rattle.oz_rows.specs.RowMaps.{Rows, row_of}
use Rattle.oz_owned.specs.Stood.{HasStood}
use Rattle.oz_sound.specs.stripes.Stripes.{only}
use Rattle.oz_turn.specs.declared.seat.Seat.{Seat}
use Rattle.oz_turn.specs.declared.told.Told.{Ghosts}
use Rattle.oz_turn.specs.Ring.{TurnId}
use Rattle.oz_turn.specs.Seat.{IsNewSeat, IsReady, mine_of, seen_of}

-- what holds of each stripe's own
module _ {A : Type 0} (IsOf : ℕ → A → Type 0) where
  -- each stands at the place of its stripe
  abbrev pub ArePlaced : List A → Type 0
  ArePlaced items = (stripe : ℕ) (item : A) → slice_get items stripe ≡ Some item → IsOf stripe item

  -- and each stripe has one
  abbrev pub AreOfStripes : List A → Type 0
  AreOfStripes items = (length items ≡ STRIPES) × ArePlaced items

-- The parts are those of the rows that were loaded, with their last index.
pub record ArePartsOf (loaded : Rows) (last_index : ℕ) (parts : List CacheView) : Type 0 where
  pub all : List RowEntry
  pub are : AreParts all last_index parts
  pub rows_are : (key : RowKey) → row_of all key ≡ loaded key

-- so the part of one stripe
pub record IsPartOf (loaded : Rows) (last_index stripe : ℕ) (part : CacheView) : Type 0 where
  pub rows : (key : RowKey) → row_of part.durable.rows key ≡ only stripe loaded key
  pub last_index_is : part.durable.last_index ≡ last_index
  pub entered : part.entered ≡ []

module _ {T : Type 0} {told : Ghosts T Event} where
  -- the stripe's seat of the turn, which has seen and given nothing and doesn't hold the value
  pub record IsUnused (turn : TurnId) (stripe : ℕ) (s : Seat T Event told) : Type 0 where
    pub ready : IsReady turn (stripe_seat stripe) s
    pub seen : seen_of s ≡ []
    pub mine : mine_of s ≡ []

  abbrev pub IsNewStripeSeat : TurnId → ℕ → Seat T Event told → Type 0
  IsNewStripeSeat turn stripe s = IsNewSeat turn (stripe_seat stripe) s

  abbrev pub IsReadyStripeSeat : TurnId → ℕ → Seat T Event told → Type 0
  IsReadyStripeSeat turn stripe s = IsReady turn (stripe_seat stripe) s

  -- what was kept of the stripe while its seat gave and saw what it did
  abbrev pub WasKept : (ℕ → List Event → List Event → Rows → Type 0) → ℕ → Seat T Event told → Type 0
  WasKept Keeps stripe s = (rows : Rows) × Keeps stripe (mine_of s) (seen_of s) rows

  -- What the seat gave are its events in what it has seen, and the stripe's rows stood at each place of that.
  pub record HasStoodIn (opening : Opening) (loaded : Rows) (stripe : ℕ) (s : Seat T Event told) : Type 0 where
    pub own : mine (stripe_seat stripe) (seen_of s) ≡ mine_of s
    pub rows : Rows
    pub stood : HasStood opening loaded stripe (seen_of s) rows

  -- the seats of the stripes in order: new ones, unused ones, and some that don't hold the value
  abbrev pub AreNewStripeSeats : TurnId → List (Seat T Event told) → Type 0
  AreNewStripeSeats turn seats = AreOfStripes (IsNewStripeSeat turn) seats

  abbrev pub AreUnusedStripeSeats : TurnId → List (Seat T Event told) → Type 0
  AreUnusedStripeSeats turn seats = AreOfStripes (IsUnused turn) seats

  abbrev pub AreReadyStripeSeats : TurnId → List (Seat T Event told) → Type 0
  AreReadyStripeSeats turn seats = AreOfStripes (IsReadyStripeSeat turn) seats

-- the rows of stripes, in order
abbrev pub caches_of : {T : Type 0} → List (StripeView T) → List CacheView
caches_of stripes = map (λ s. s.cache) stripes

-- the last index that was loaded, that the disks agree, and what is kept of each stripe
module _ {T : Type 0} (opened : ℕ) (Coherent : Type 0) (Keeps : ℕ → List Event → List Event → Rows → Type 0) where
  -- a stripe at rest that has decided nothing yet, nor seen anything
  pub record IsUndecided (stripe : ℕ) (s : StripeView T) : Type 0 where
    pub numbered : s.number ≡ stripe
    pub rests : IsAtRest opened Coherent Keeps s
    pub mine : s.mine ≡ []
    pub seen : s.seen ≡ []
