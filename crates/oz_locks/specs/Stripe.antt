-- What contracts see of a stripe, and what holds of one at every moment.
use Rattle.std.specs.Prelude.{◌≡◌, ℕ, ◌<◌, ◌≤◌, List, length, take, Option, None, Some, slice_get}
use Rattle.oz_cache.specs.Cache.{CacheView, newest}
use Rattle.oz_core.specs.declared.event.Event.{Event}
use Rattle.oz_names.specs.declared.limits.TheConstants.{STRIPES}
use Rattle.oz_rows.specs.RowMaps.{Rows}
use Rattle.oz_sound.specs.stripes.Stripes.{only}
use Rattle.oz_locks.specs.declared.pins.Pin.{Pin}
use Rattle.oz_locks.specs.declared.pool.FreeBlock.{FreeBlock}
use Rattle.oz_locks.specs.declared.reclaim.Reclaim.{Reclaim}
use Rattle.oz_locks.specs.Flushes.{IsFlushed, flushed_in}
use Rattle.oz_locks.specs.Pins.{AreNamed, ArePinned}
use Rattle.oz_locks.specs.Pool.{AreOfGrants, pool_of}
use Rattle.oz_locks.specs.Purges.{AreAskedWhole}
use Rattle.oz_locks.specs.Reclaims.{KeepsUp}
use Rattle.oz_locks.specs.Rows.{IsReplayed}
use Rattle.oz_locks.specs.Writes.{writes_of}

-- The stripe's number and its rows; the index up to which they were brought down into the tables; the blocks that it may still
-- grant, and how many of the events that its seat has seen were looked at for Grants; the pins, and for how many more there is
-- room; what is kept of rows that may go; what its seat gave and what it has seen, the seat's room, and the value as the seat took
-- it, while it holds it.
pub record StripeView (T : Type 0) : Type 0 where
  pub number : ℕ
  pub cache : CacheView
  pub flushed : ℕ
  pub pool : List FreeBlock
  pub known : ℕ
  pub pins : List Pin
  pub pin_room : ℕ
  pub reclaim : Reclaim
  pub mine : List Event
  pub seen : List Event
  pub room : ℕ
  pub taken : Option T

-- what was loaded: the rows of all stripes, and the last index; and that the disks agree with one another
module _ {T : Type 0} (loaded : Rows) (opened : ℕ) (Coherent : Type 0) where
  pub record IsKept (s : StripeView T) : Type 0 where
    pub there : s.number < STRIPES
    -- The rows are the stripe's own Decides replayed over its own loaded rows.
    pub rows : IsReplayed (only s.number loaded) (writes_of s.mine) s.flushed s.cache
    -- No row is in the tables that isn't flushed.
    pub on_disk : IsFlushed opened s.seen s.flushed
    -- The pool has all that is left of the Grants in the events that were looked at, and its Decides granted none of
    -- others. Over disks that don't agree a later Grant may repeat an earlier one.
    pub looked_at : s.known ≤ length s.seen
    pub pool_is : Coherent → s.pool ≡ pool_of s.number (take s.known s.seen) s.mine
    pub used : Coherent → AreOfGrants s.number (take s.known s.seen) s.mine
    -- What its Decides named is pinned until the line is told, and nothing else is.
    pub pinned : ArePinned s.seen s.mine s.pins
    pub named : AreNamed s.mine s.pins
    -- A deleted row of which a block stands in a PurgeAsk of the stripe has all of them there. Over disks that don't agree
    -- two rows may share a block.
    pub asked : Coherent → AreAskedWhole (newest s.cache) s.mine
    -- What is kept of rows that may go keeps up with them.
    pub reclaims : KeepsUp Coherent s.flushed s.cache s.reclaim

-- the last index that was loaded; that the disks agree; and what holds of each stripe's number, of the events that its
-- seat gave and of those that it has seen, and of its newest rows, while nobody works on it
module _ {T : Type 0} (opened : ℕ) (Coherent : Type 0) (Keeps : ℕ → List Event → List Event → Rows → Type 0) where
  -- The seat doesn't hold the value, and all that it knows to be flushed is in the tables. Over disks that don't agree
  -- nothing is known of indexes. What is kept of each stripe holds.
  pub record IsAtRest (s : StripeView T) : Type 0 where
    pub free : s.taken ≡ None
    pub whole : Coherent → s.flushed ≡ flushed_in opened s.seen
    pub keeps : Keeps s.number s.mine s.seen (newest s.cache)

  -- stripes at rest, each at the place of its number
  abbrev pub AreInOrder : List (StripeView T) → Type 0
  AreInOrder stripes = (n : ℕ) (s : StripeView T) → slice_get stripes n ≡ Some s → (s.number ≡ n) × IsAtRest s

  -- all sixteen of them
  abbrev pub AreSixteen : List (StripeView T) → Type 0
  AreSixteen stripes = (length stripes ≡ STRIPES) × AreInOrder stripes
