-- What came of sending a transaction of the log of deleted blocks to a datanode, as who sent it has seen it.
use Rattle.std.specs.Prelude.{◌≡◌, ℕ, Bool, true, false, List, ◌∷◌, ◌++◌, None, Some, Result, Ok, Err, IfErr, OnOk, is_some}
use Rattle.oz_core.specs.declared.event.Event.{Event}
use Rattle.oz_core.specs.declared.event.EventKind.{EventKind}
use Rattle.oz_core.specs.declared.event.EventKind.TheVariants.{AckDel, Halt, Retire}
use Rattle.oz_core.specs.declared.event.Node.TheVariants.{Datanode, Scm}
use Rattle.oz_core.specs.declared.opening.Opening.{Opening}
use Rattle.oz_core.specs.Manager.{halt_of}
use Rattle.oz_core.specs.Nodes.{is_running}
use Rattle.oz_core.specs.Seats.{scm_seat}
use Rattle.oz_dellog.specs.declared.txn.Txn.{Txn}
use Rattle.oz_dellog.specs.Log.{is_done}
use Rattle.oz_entries.specs.Node.{Node}
use Rattle.oz_node_events.specs.declared.refusal.ChangeRefusal.{ChangeRefusal}
use Rattle.oz_node_events.specs.declared.refusal.ChangeRefusal.TheVariants.{Stopped, Halted, Failed, OutOfMemory}
use Rattle.oz_node_events.specs.Commands.{by_node}
use Rattle.oz_node_events.specs.Deleting.{delete_kind}
use Rattle.oz_scm.specs.grants.Made.{Made, log_of, may_ack}
use Rattle.oz_scm_events.specs.declared.acking.AckFault.{AckFault}
use Rattle.oz_scm_events.specs.Left.{IsMadeOf}
use Rattle.oz_scm_events.specs.Noted.{IsNoteRefusal, own_noted}
use Rattle.oz_service.specs.declared.deleting.noted.Noted.{Noted}
use Rattle.oz_turn.specs.Told.{BeginsWith, own_entries}

-- the event was told since this was seen, and stands in the story
pub record WasTold (event : Event) (seen story : List Event) : Type 0 where
  pub front : List Event
  pub behind : List Event
  pub parts : story ≡ seen ++ (front ++ event ∷ behind)

-- The datanode has applied the transaction: it told which of its blocks it held.
pub record WasApplied (dn : ℕ) (txn : Txn) (seen story : List Event) : Type 0 where
  pub held : Node
  pub told : WasTold (by_node dn (delete_kind dn held txn)) seen story

-- By the answer: it was applied; a line had stopped the datanode, which hasn't halted; a disk of it had failed before; one failed
-- since, and its Halt was told. Of want of memory nothing is known.
abbrev pub AppliedSo : Type 0 → ℕ → Txn → List Event → List Event → Result (Unit {0}) ChangeRefusal → Type 0
AppliedSo Coherent dn txn seen story (Ok done) = WasApplied dn txn seen story
AppliedSo Coherent dn txn seen story (Err Stopped) =
    (halt_of (Datanode dn) story ≡ None) × (Coherent → is_running dn story ≡ false)
AppliedSo Coherent dn txn seen story (Err (Halted count)) = halt_of (Datanode dn) story ≡ Some count
AppliedSo Coherent dn txn seen story (Err (Failed count)) = WasTold (by_node dn (Halt (Datanode dn) count)) seen story
AppliedSo Coherent dn txn seen story (Err OutOfMemory) = Unit {0}

-- The storage container manager, which had given some events and has given more since, answers so where it is asked to note this.
-- It was noted exactly if that was due by what its events had made of the opening, and it hadn't halted, its disk did its work, and
-- there was memory.
pub record IsNotedSo (opening : Opening) (kind : EventKind) (is_due : Made → Bool) (mine later : List Event)
    (answer : Result (Unit {0}) AckFault) : Type 0 where
  pub made : Made
  pub is_made : halt_of Scm mine ≡ None → IsMadeOf opening mine made
  pub given : later ≡ own_noted (is_some (halt_of Scm mine)) kind mine answer
  pub running : OnOk answer (halt_of Scm mine ≡ None)
  pub due : OnOk answer (is_due made ≡ true)
  pub refused : IfErr answer (IsNoteRefusal later (is_due made))

-- First the acknowledgement of a datanode was to be noted, and then that the transaction is retired, all behind what was seen. The
-- story has what was given.
pub record WasNoted (opening : Opening) (dn number : ℕ) (seen story : List Event) (noted : Noted) : Type 0 where
  pub before : List Event
  pub between : List Event
  pub behind : List Event
  pub since : BeginsWith between (own_entries (λ (event : Event). event.seat) scm_seat seen)
  pub acknowledged : IsNotedSo opening (AckDel dn number) (λ made. may_ack made number dn) before between noted.acknowledged
  pub retired : IsNotedSo opening (Retire number) (λ made. is_done (log_of made) number) between behind noted.retired
  pub own : own_entries (λ (event : Event). event.seat) scm_seat story ≡ behind

-- It was applied, and at a later place it was noted; or it wasn't applied.
abbrev pub SentSo : Type 0 → Opening → ℕ → Txn → List Event → List Event → Result Noted ChangeRefusal → Type 0
SentSo Coherent opening dn txn seen story (Ok noted) =
    WasApplied dn txn seen story × WasNoted opening dn txn.number seen story noted
SentSo Coherent opening dn txn seen story (Err refusal) = AppliedSo Coherent dn txn seen story (Err refusal)
