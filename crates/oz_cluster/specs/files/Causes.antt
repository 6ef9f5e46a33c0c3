-- Why a transfer ends with each status, and with which status wrong words, too many bytes and wrong disks end it.
use Rattle.std.specs.Prelude.{◌≡◌, ◌⊎◌, ℕ, ◌<◌, ◌≤◌, List, length, Option, IfSome, Some}
use Rattle.oz_cluster.specs.declared.files.stops.TheConstants.{LONGEST_FILE}
use Rattle.oz_cluster.specs.declared.files.words.Way.TheVariants.{Put, Get}
use Rattle.oz_cluster.specs.files.Streams.{Stream}
use Rattle.oz_cluster.specs.files.Stopped.{HasGiven}
use Rattle.oz_cluster.specs.files.Words.{IsFirstFault, IsTransfer, IsTransferOf}
use Rattle.oz_cluster.specs.Disks.{ADiskRose}
use Rattle.oz_cluster.specs.StatusCauses.{IsLoadedOf}
use Rattle.oz_cluster.specs.Stopped.{status_of_store}
use Rattle.oz_cluster.specs.Wrong.{IsWrong}
use Rattle.oz_running.specs.status.Status.TheVariants as ends
use Rattle.oz_running.specs.fault.StoreFault.{StoreFault}
use Rattle.oz_running.specs.declared.disk_run.disks.Disks.{Disks}
use Rattle.oz_running.specs.disk_run.Refused.{IsRefusedFor}
use Rattle.oz_world.specs.Disk.{Seen}

module _ {D : Type 0} (see : D → Seen) (words : List (List ℕ)) (before after : Disks D) (source out : Stream) where
  -- the transfer came to its work
  pub record HasWorked : Type 0 where
    pub begun : HasGiven words source.before source.after
    pub loads : IfSome (see before.manager).told IsLoadedOf
    pub right : (fault : StoreFault) → IsWrong see before fault → ⊥

  -- the source of a put has more bytes than it takes
  abbrev pub IsTooLong : Type 0
  IsTooLong = IsTransferOf Put words × IfSome source.before (λ text. LONGEST_FILE < length text)

  -- With 1, 2 and 6 the source, the words or the disks were wrong. 3, 4 and 5 come only where the source, the sink or a
  -- disk counted a fault, 3 only of a put and 4 only of a get. With 8 the line was told another answer.
  pub record TransferCauses (status : ℕ) : Type 0 where
    pub known : status ≤ 8
    pub done : status ≡ 0 → HasWorked
    pub too_long : status ≡ 1 → IsTooLong
    pub words_fault : status ≡ 2 → (place : ℕ) × IsFirstFault words place
    pub read : status ≡ 3 → IsTransferOf Put words × source.rose
    pub unwritten : status ≡ 4 → HasWorked × IsTransferOf Get words × out.rose
    pub disk_fault : status ≡ 5 → HasGiven words source.before source.after × ADiskRose see before after
    pub damaged : status ≡ 6 → HasGiven words source.before source.after
        × ((fault : StoreFault) × (status_of_store fault ≡ ends.Damaged) × IsRefusedFor see before after fault)
    pub refused : status ≡ 8 → HasWorked
    pub wrong_words : (place : ℕ) → IsFirstFault words place → (status ≡ 2) ⊎ (status ≡ 7)
    pub more_bytes : IsTransferOf Put words → (text : List ℕ) → source.before ≡ Some text → LONGEST_FILE < length text
        → (status ≡ 1) ⊎ ((status ≡ 3) ⊎ (status ≡ 7))
    pub wrong_disks : IsTransfer words → (fault : StoreFault) → IsWrong see before fault
        → (status ≡ 1) ⊎ ((status ≡ 3) ⊎ ((status ≡ 5) ⊎ ((status ≡ 6) ⊎ (status ≡ 7))))
