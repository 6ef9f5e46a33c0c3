-- What stops a run before its work: its status, its text, and what is then so.
use Rattle.std.specs.Prelude.{◌≡◌, ℕ, List, [], take, Option, IfSome, Ok, Err}
use Rattle.oz_cluster.specs.declared.stop.Stop.{Stop}
use Rattle.oz_cluster.specs.declared.stop.Stop.TheVariants.{Words, Read, Script, Store, OutOfMemory}
use Rattle.oz_world.specs.Disk.{Seen}
use Rattle.oz_running.specs.declared.disk_run.disks.Disks.{Disks}
use Rattle.oz_running.specs.disk_run.Refused.{AreAtMostLoaded, IsRefusedFor}
use Rattle.oz_running.specs.fault.StoreFault.{StoreFault}
use Rattle.oz_running.specs.fault.StoreFault.TheVariants as store
use Rattle.oz_core.specs.declared.event.Event.{Event}
use Rattle.oz_script.specs.declared.lines.script.Script.{Script as Lines}
use Rattle.oz_script.specs.declared.draft.fault.ScriptFault.TheVariants.{At}
use Rattle.oz_running.specs.status.Status.{Status}
use Rattle.oz_running.specs.status.Status.TheVariants as status
use Rattle.oz_script.specs.draft.Causes.{cause_text}
use Rattle.oz_running.specs.Printed.{Says, memory_fault}
use Rattle.oz_cluster.specs.Texts.{words_fault, script_fault, store_text, read_fault}
use Rattle.oz_script.specs.Parsing.{ParsesTo}
use Rattle.oz_cluster.specs.Streams.{script_limit, TakesUpTo, IsReadThrough}
use Rattle.oz_command.specs.command_line.Words.{IsRun, IsFirstFault}

-- the status that the program ends with
abbrev pub status_of_store : StoreFault → Status
status_of_store (store.Disk name) = status.Disk
status_of_store (store.Damaged name offset) = status.Damaged
status_of_store (store.Nodes recorded given) = status.Damaged
status_of_store (store.Ids next seen) = status.Damaged
status_of_store store.OutOfMemory = status.OutOfMemory

abbrev pub status_of : Stop → Status
status_of (Script line cause) = status.Script
status_of (Words place) = status.Words
status_of Read = status.Read
status_of (Store fault) = status_of_store fault
status_of OutOfMemory = status.OutOfMemory

-- the text that is written
abbrev pub text_of : Stop → List ℕ
text_of (Script line cause) = script_fault line (cause_text cause)
text_of (Words place) = words_fault place
text_of Read = read_fault
text_of (Store fault) = store_text fault
text_of OutOfMemory = memory_fault

-- the script that is read from what a source has left
abbrev pub IsScriptOf : Option (List ℕ) → Lines → Type 0
IsScriptOf left script = IfSome left (λ text. ParsesTo (take script_limit text) (Ok script))

-- what is left is a script
abbrev pub IsScript : Option (List ℕ) → Type 0
IsScript left = (script : Lines) × IsScriptOf left script

-- what the words and the script were where this stopped the run, whose count of faults rose, and why the disks weren't
-- loaded
abbrev pub IsSo : List (List ℕ) → Option (List ℕ) → Type 0 → (StoreFault → Type 0) → Stop → Type 0
IsSo words left source_rose Refused (Script line cause) =
    IsRun words × IfSome left (λ text. ParsesTo (take script_limit text) (Err (At line cause)))
IsSo words left source_rose Refused (Words place) = IsFirstFault words place
IsSo words left source_rose Refused Read = IsRun words × source_rose
IsSo words left source_rose Refused (Store fault) = IsRun words × IsScript left × Refused fault
IsSo words left source_rose Refused OutOfMemory = Unit {0}

-- what becomes of the disks where this stops a run: they weren't touched, or they were at most loaded
abbrev pub Spares : {D : Type 0} → (D → Seen) → Stop → Disks D → Disks D → Type 0
Spares see (Script line cause) before after = after ≡ before
Spares see (Words place) before after = after ≡ before
Spares see Read before after = after ≡ before
Spares see (Store fault) before after = AreAtMostLoaded see before after
Spares see OutOfMemory before after = AreAtMostLoaded see before after

-- how much of the source was read where this stops a run
abbrev pub Reads : Stop → Option (List ℕ) → Option (List ℕ) → Type 0
Reads (Script line cause) before after = IsReadThrough before after
Reads (Words place) before after = after ≡ before
Reads Read before after = TakesUpTo script_limit before after
Reads (Store fault) before after = IsReadThrough before after
Reads OutOfMemory before after = TakesUpTo script_limit before after

-- Something stopped a run before its work. It wrote what that was, no story was told, and the disks lost nothing.
pub record IsStopped {D : Type 0} (see : D → Seen) (words : List (List ℕ)) (left left_after : Option (List ℕ))
    (before after : Disks D) (source_rose : Type 0) (held_before held_after : Option (List ℕ)) (sink_rose : Type 0)
    (story : List Event) (status : Status) : Type 0 where
  pub stop : Stop
  pub so : IsSo words left source_rose (IsRefusedFor see before after) stop
  pub status_is : status ≡ status_of stop
  pub said : Says (text_of stop) held_before held_after sink_rose
  pub untold : story ≡ []
  pub reads : Reads stop left left_after
  pub spared : Spares see stop before after
