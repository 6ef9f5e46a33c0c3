-- Why a run ends with each status, and with which status wrong words, a wrong script and wrong disks end it.
use Rattle.std.specs.Prelude.{◌≡◌, ◌⊎◌, ℕ, ◌≤◌, List, take, Option, Some, Err, IfSome}
use Rattle.oz_script.specs.declared.draft.fault.Cause.{Cause}
use Rattle.oz_script.specs.declared.draft.fault.ScriptFault.TheVariants.{At}
use Rattle.oz_journal.specs.Grammar.{IsJournal}
use Rattle.oz_loaded.specs.Loads.{IsLoaded}
use Rattle.oz_loaded.specs.Unseated.{UnseatedView}
use Rattle.oz_running.specs.declared.disk_run.disks.Disks.{Disks}
use Rattle.oz_running.specs.disk_run.Refused.{IsRefusedFor}
use Rattle.oz_running.specs.status.Status.TheVariants as ends
use Rattle.oz_running.specs.AllLoad.{AllLoad}
use Rattle.oz_running.specs.fault.StoreFault.{StoreFault}
use Rattle.oz_world.specs.Disk.{Seen}
use Rattle.oz_cluster.specs.Disks.{ADiskRose}
use Rattle.oz_cluster.specs.Stopped.{IsScript, status_of_store}
use Rattle.oz_cluster.specs.Wrong.{IsWrong}
use Rattle.oz_script.specs.Parsing.{ParsesTo}
use Rattle.oz_cluster.specs.Streams.{script_limit}
use Rattle.oz_command.specs.command_line.Words.{IsRun, IsFirstFault}

-- the bytes of a manager's disk load
abbrev pub IsLoadedOf : List ℕ → Type 0
IsLoadedOf bytes =
    (bodies : List (List ℕ)) × IsJournal bytes bodies × ((unseated : UnseatedView) × IsLoaded bodies unseated)

-- the run came to its work
pub record HasBegun {D : Type 0} (see : D → Seen) (words : List (List ℕ)) (left : Option (List ℕ)) (disks : Disks D)
    : Type 0 where
  pub given : IsRun words
  pub script : IsScript left
  pub loads : IfSome (see disks.manager).told IsLoadedOf
  pub right : (fault : StoreFault) → IsWrong see disks fault → ⊥

-- All disks tell bytes that load, and no id on them is granted again.
pub record StoreLoads {D : Type 0} (see : D → Seen) (disks : Disks D) : Type 0 where
  pub bytes : List ℕ
  pub told : (see disks.manager).told ≡ Some bytes
  pub bodies : List (List ℕ)
  pub journal : IsJournal bytes bodies
  pub unseated : UnseatedView
  pub manager : IsLoaded bodies unseated
  pub nodes : AllLoad see unseated.greatest_id disks.scm disks.nodes.items

-- the first fault of what a source has left
abbrev pub IsFaultOf : List ℕ → ℕ → Cause → Type 0
IsFaultOf text line cause = ParsesTo (take script_limit text) (Err (At line cause))

-- With 1, 2 and 6 the script, the words or the disks were wrong. 3, 4 and 5 come only where the source, the sink or a
-- disk counted a fault. Wrong words end with 2, a wrong script with 1 where it could be read, and wrong disks with 6
-- where they could be read; each of them, and a run that came to its work, may end with 7, that memory ran out.
pub record StatusCauses {D : Type 0} (see : D → Seen) (words : List (List ℕ)) (left : Option (List ℕ))
    (before after : Disks D) (source_rose sink_rose : Type 0) (status : ℕ) : Type 0 where
  pub known : status ≤ 7
  pub done : status ≡ 0 → HasBegun see words left before
  pub script : status ≡ 1 → IsRun words × IfSome left (λ text. (line : ℕ) × (cause : Cause) × IsFaultOf text line cause)
  pub words_fault : status ≡ 2 → (place : ℕ) × IsFirstFault words place
  pub read : status ≡ 3 → IsRun words × source_rose
  pub unwritten : status ≡ 4 → HasBegun see words left before × sink_rose
  pub disk_fault : status ≡ 5 → IsRun words × IsScript left × ADiskRose see before after
  pub damaged : status ≡ 6 → IsRun words × IsScript left
      × ((fault : StoreFault) × (status_of_store fault ≡ ends.Damaged) × IsRefusedFor see before after fault)
  pub wrong_words : (place : ℕ) → IsFirstFault words place → (status ≡ 2) ⊎ (status ≡ 7)
  pub wrong_script : IsRun words → (text : List ℕ) (line : ℕ) (cause : Cause) → left ≡ Some text
      → IsFaultOf text line cause → (status ≡ 1) ⊎ ((status ≡ 3) ⊎ (status ≡ 7))
  pub wrong_disks : IsRun words → (text : List ℕ) → left ≡ Some text → IsScript left → (fault : StoreFault)
      → IsWrong see before fault → (status ≡ 3) ⊎ ((status ≡ 5) ⊎ ((status ≡ 6) ⊎ (status ≡ 7)))
