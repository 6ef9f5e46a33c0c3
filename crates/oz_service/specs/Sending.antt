-- What is due of the log of deleted blocks, when nothing is, and why no more was sent.
use Rattle.std.specs.Prelude.{◌≡◌, ℕ, ◌≤◌, ◌<◌, Bool, true, false, ◌&&◌, not, List, [], ◌∷◌, filter, filter_map}
use Rattle.std.specs.Prelude.{Option, None, Some, Result, Ok, Err, Contains, All}
use Rattle.std.specs.FinMap.{entries}
use Rattle.std.specs.List.{list_all}
use Rattle.oz_core.specs.declared.event.Event.{Event}
use Rattle.oz_core.specs.declared.event.Node.TheVariants.{Scm}
use Rattle.oz_core.specs.declared.opening.Opening.{Opening}
use Rattle.oz_core.specs.Manager.{halt_of}
use Rattle.oz_core.specs.Scm.{acknowledgers, is_up, logs, members}
use Rattle.oz_dellog.specs.declared.logged.Logged.{Logged}
use Rattle.oz_dellog.specs.declared.txn.Txn.{Txn}
use Rattle.oz_dellog.specs.Logged.{is_acknowledged_by, txn_of}
use Rattle.oz_kept.specs.reopened.Left.{IsUnretired}
use Rattle.oz_scm.specs.grants.Log.{IsLocalCount}
use Rattle.oz_scm.specs.grants.Made.{Made}
use Rattle.oz_scm_events.specs.declared.acking.AckFault.{AckFault}
use Rattle.oz_scm_events.specs.declared.acking.AckFault.TheVariants as acks
use Rattle.oz_service.specs.declared.deleting.due.Due.{Due}
use Rattle.oz_service.specs.declared.pass.fault.PassFault.{PassFault}
use Rattle.oz_service.specs.declared.pass.fault.PassFault.TheVariants.{Manager, ScmStopped, OutOfMemory}
use Rattle.oz_service.specs.Settled.{UpAcknowledged}
use Rattle.oz_turn.specs.Told.{BeginsWith}

-- ---- what is due

-- the members of its container that are up and haven't acknowledged it
abbrev pub receivers : Opening → List Event → Logged → List ℕ
receivers opening story logged =
    filter (λ dn. is_up dn story && not (is_acknowledged_by logged dn)) (members opening story logged.container)

-- whether each member has acknowledged it
abbrev pub is_whole : Opening → List Event → Logged → Bool
is_whole opening story logged = list_all (is_acknowledged_by logged) (members opening story logged.container)

-- It is to be sent to these; to none, but retired, where each member has acknowledged it; and else nothing is due.
abbrev pub due_where : Txn → List ℕ → Bool → Option Due
due_where txn [] false = None
due_where txn [] true = Some (record { txn = txn; receivers = [] })
due_where txn (dn ∷ dns) whole = Some (record { txn = txn; receivers = dn ∷ dns })

-- what is due of what stands under a number, and of all that does
abbrev pub due_in : Opening → List Event → ℕ × Logged → Option Due
due_in opening story entry =
    due_where (txn_of entry.0 entry.1) (receivers opening story entry.1) (is_whole opening story entry.1)

abbrev pub dues_in : Opening → List Event → Made → List Due
dues_in opening story made = filter_map (due_in opening story) (entries made.unretired)

-- its number and its count of ids are such as a transaction has, and its receivers are among so many datanodes
pub record IsSound (count : ℕ) (due : Due) : Type 0 where
  pub number : 1 ≤ due.txn.number
  pub counted : IsLocalCount due.txn.locals
  pub there : All (λ dn. dn < count) due.receivers

-- it is logged, and its receivers are members of its container
pub record MayBeSent (opening : Opening) (story : List Event) (due : Due) : Type 0 where
  pub logged : Contains (logs opening story) due.txn
  pub members : All (Contains (members opening story due.txn.container)) due.receivers

-- ---- when nothing is

-- Each transaction that isn't retired is acknowledged by the members that are up, and none by all its members.
pub record NothingIsDue (opening : Opening) (story : List Event) : Type 0 where
  pub acknowledged : UpAcknowledged opening story
  pub few : (txn : Txn) → IsUnretired opening story txn
      → All (Contains (acknowledgers opening story txn.number)) (members opening story txn.container) → ⊥

-- it was so at a place since the first events, and the others go on from there
pub record WasSince (Holds : List Event → Type 0) (before after : List Event) : Type 0 where
  pub place : List Event
  pub since : BeginsWith place before
  pub within : BeginsWith after place
  pub so : Holds place

-- at a place since nothing was due
abbrev pub NoneIsToSend : Opening → List Event → List Event → Type 0
NoneIsToSend opening before after = WasSince (NothingIsDue opening) before after

-- ---- why no more was sent

-- The storage container manager has halted with this count. Of want of memory nothing is known.
abbrev pub IsSendFault : List Event → PassFault → Type 0
IsSendFault story (Manager refusal) = ⊥
IsSendFault story (ScmStopped count) = halt_of Scm story ≡ Some count
IsSendFault story OutOfMemory = Unit {0}

-- so it was at a place since
abbrev pub WasSendFault : List Event → List Event → PassFault → Type 0
WasSendFault before after fault = WasSince (λ story. IsSendFault story fault) before after

-- what the storage container manager answered, for who sends: that a thing isn't due is no fault
abbrev pub as_sent : Result (Unit {0}) AckFault → Result (Unit {0}) PassFault
as_sent (Ok done) = Ok done
as_sent (Err (acks.Stopped count)) = Err (ScmStopped count)
as_sent (Err acks.NotDue) = Ok tt
as_sent (Err acks.OutOfMemory) = Err OutOfMemory
