-- What contracts see of a storage container manager with its seat, and what it keeps.
use Rattle.std.specs.Prelude.{◌≡◌, ◌↔◌, ℕ, ◌≤◌, true, false, List, Contains, Some, None, length, if◌then◌else◌}
use Rattle.std.specs.FinMap.{get}
use Rattle.std.specs.Option.{option_map}
use Rattle.oz_dellog.specs.declared.logged.Logged.{Logged}
use Rattle.oz_dellog.specs.declared.txn.Txn.{Txn}
use Rattle.oz_dellog.specs.Log.{Log}
use Rattle.oz_dellog.specs.Logged.{is_acknowledged_by, nobody, txn_of}
use Rattle.oz_core.specs.declared.event.Event.{Event}
use Rattle.oz_core.specs.declared.event.Node.TheVariants.{Scm}
use Rattle.oz_core.specs.declared.opening.Container.{Container}
use Rattle.oz_core.specs.declared.opening.Opening.{Opening}
use Rattle.oz_core.specs.Manager.{halt_of}
use Rattle.oz_core.specs.Scm.{Containers, acknowledgers, containers, is_retired, last_txn, logs, next_id, ups}
use Rattle.oz_core.specs.Seats.{scm_seat}
use Rattle.oz_scm.specs.declared.grants.container.Container.{Container as MadeContainer}
use Rattle.oz_scm.specs.grants.Made.{container_at, log_of}
use Rattle.oz_scm.specs.Scm.{State}
use Rattle.oz_turn.specs.Told.{own_entries}
use Rattle.oz_world.specs.Faults.{Rose}

-- the storage container manager, what its seat has seen of the story, the events that it gave, and for how many more it
-- has room
pub record ScmView (D : Type 0) : Type 0 where
  pub scm : State D
  pub seen : List Event
  pub mine : List Event
  pub room : ℕ

-- a container that was made, as the law of a story has it
abbrev pub as_told : MadeContainer → Container
as_told made = record { pipeline = made.pipeline; state = made.state; granted = made.granted }

-- containers in the order of their numbers are those of a map: each number has the same, or none
abbrev pub AreContainers : List MadeContainer → Containers → Type 0
AreContainers made all = (number : ℕ) → get all number ≡ option_map as_told (container_at made number)

-- What stands under a number of the log was logged and isn't retired, and the flags are those of who acknowledged it.
pub record IsUnretired (opening : Opening) (story : List Event) (number : ℕ) (logged : Logged) : Type 0 where
  pub there : Contains (logs opening story) (txn_of number logged)
  pub unretired : is_retired number story ≡ false
  pub flags : length logged.acknowledged ≡ length nobody
  pub acknowledged : (dn : ℕ) → is_acknowledged_by logged dn ≡ true ↔ Contains (acknowledgers opening story number) dn

-- A log of deleted blocks is that of a story: it has the transactions that were logged and aren't retired, and no other.
-- What was logged, acknowledged or retired has a number that is at most the last.
pub record IsLogOf (opening : Opening) (story : List Event) (log : Log) : Type 0 where
  pub last : log.last ≡ last_txn opening story
  pub each : (number : ℕ) (logged : Logged) → get log.unretired number ≡ Some logged
      → IsUnretired opening story number logged
  pub all : (txn : Txn) → Contains (logs opening story) txn → is_retired txn.number story ≡ false
      → option_map (txn_of txn.number) (get log.unretired txn.number) ≡ Some txn
  pub logged_old : (txn : Txn) → Contains (logs opening story) txn → txn.number ≤ log.last
  pub acknowledged_old : (number dn : ℕ) → Contains (acknowledgers opening story number) dn → number ≤ log.last
  pub retired_old : (number : ℕ) → is_retired number story ≡ true → number ≤ log.last

-- It stands for what the events that its seat gave make of what was opened; its disk had failed so often once it was
-- loaded, and has failed so often now.
pub record IsKept {D : Type 0} (opening : Opening) (loaded : ℕ) (scm : State D) (faults : ℕ) (seen mine : List Event) : Type 0 where
  -- The events that the seat gave are those of the storage container manager in the story.
  pub own : own_entries (λ (event : Event). event.seat) scm_seat seen ≡ mine
  -- A Halt stands there exactly where a call on the disk has failed, with the count of faults.
  pub halt : halt_of Scm mine ≡ (if scm.stopped then Some faults else None)
  pub nodes : scm.made.nodes ≡ length opening.nodes
  pub next : scm.made.next_id ≡ next_id opening mine
  pub made : AreContainers scm.made.containers (containers opening mine)
  pub up : scm.up ≡ ups opening mine
  -- The log is the story's while no call on the disk has failed.
  pub log : scm.stopped ≡ false → IsLogOf opening mine (log_of scm.made)
  pub no_fewer : loaded ≤ faults
  pub rose : scm.stopped ≡ true → Rose loaded faults
