-- For private calls: the seats of a run as its threads begin, and as they leave it.
use Rattle.std.specs.Prelude.{◌≡◌, ℕ, ◌+◌, ◌<◌, List, [], ◌++◌, length}
use Rattle.oz_core.specs.declared.event.Event.{Event}
use Rattle.oz_core.specs.declared.opening.Opening.{Opening}
use Rattle.oz_core.specs.Seats.{IsDatanodeSeat, flusher_seat, scm_seat, service_seat, stripe_seat}
use Rattle.oz_names.specs.declared.limits.TheConstants.{STRIPES}
use Rattle.oz_headline.specs.Seated.{ArePlaced, HasStoodIn}
use Rattle.oz_rows.specs.RowMaps.{Rows}
use Rattle.oz_running.specs.Run.{IsQuietSeat}
use Rattle.oz_service.specs.Pass.{AskedMore}
use Rattle.oz_turn.specs.declared.seat.Seat.{Seat}
use Rattle.oz_turn.specs.declared.told.Told.{Ghosts}
use Rattle.oz_turn.specs.Ring.{TurnId}
use Rattle.oz_turn.specs.Seat.{IsNewSeat, IsReady, mine_of, seen_of}

module _ {T : Type 0} {told : Ghosts T Event} where
  -- new seats with the numbers from this one on
  abbrev pub AreNewFrom : TurnId → ℕ → List (Seat T Event told) → Type 0
  AreNewFrom turn first seats = ArePlaced (λ n s. IsNewSeat turn (first + n) s) seats

  -- The list goes on by seats with the numbers of their places, which don't hold the value.
  pub record AddsReady (turn : TurnId) (before after : List (Seat T Event told)) : Type 0 where
    pub more : List (Seat T Event told)
    pub behind : after ≡ before ++ more
    pub ready : ArePlaced (λ n s. IsReady turn (length before + n) s) more

  -- What is kept of the manager's disk, and of the storage container manager, by what a seat has seen and given; and of
  -- a datanode by its seat.
  module _ (turn : TurnId) (Coherent : Type 0) (opening : Opening) (loaded : Rows)
      (FlusherKept ScmKept : List Event → List Event → Type 0) (IsServed : ℕ → Seat T Event told → Type 0) where
    -- What a seat of this number leaves with: the flusher's, the storage container manager's and a datanode's with what
    -- is kept of them, a stripe's with its rows. The service job's asked alone, and a quiet one gave nothing.
    pub record HasLeft (number : ℕ) (s : Seat T Event told) : Type 0 where
      pub ready : IsReady turn number s
      pub flusher : number ≡ flusher_seat → FlusherKept (seen_of s) (mine_of s)
      pub service : number ≡ service_seat → AskedMore [] (mine_of s)
      pub scm : number ≡ scm_seat → ScmKept (seen_of s) (mine_of s)
      pub datanode : (dn : ℕ) → IsDatanodeSeat opening dn number → IsServed dn s
      pub quiet : IsQuietSeat opening number → mine_of s ≡ []
      pub stripe : Coherent → (stripe : ℕ) → stripe < STRIPES → number ≡ stripe_seat stripe
          → HasStoodIn opening loaded stripe s

    -- each seat of the turn left so, at the place of its number
    abbrev pub HaveLeft : List (Seat T Event told) → Type 0
    HaveLeft seats = ArePlaced HasLeft seats
