-- What the middle of a run leaves: one story, and all nodes as the story makes them.
use Rattle.std.specs.Prelude.{◌≡◌, ◌≢◌, ◌↔◌, ℕ, ◌<◌, Bool, true, false, List, [], All, Option}
use Rattle.oz_buffer.specs.Buffer.{AllFollow, Follows, buffer_of}
use Rattle.oz_core.specs.declared.event.Event.{Event}
use Rattle.oz_core.specs.declared.event.Node.{Node}
use Rattle.oz_core.specs.declared.opening.Opening.{Opening}
use Rattle.oz_core.specs.Contents.{OpeningBytes}
use Rattle.oz_core.specs.Seats.{IsDatanodeSeat, flusher_seat, scm_seat, service_seat, stripe_seat}
use Rattle.oz_core.specs.Stories.{mine}
use Rattle.oz_flusher.specs.flushing.Kept.{IsKept}
use Rattle.oz_headline.specs.halts.Nodes.{AreAsTold, ScmIsAsTold}
use Rattle.oz_headline.specs.Counts.{AreToldAsMany}
use Rattle.oz_script.specs.declared.lines.script.Script.{Script}
use Rattle.oz_names.specs.declared.limits.TheConstants.{STRIPES}
use Rattle.oz_headline.specs.Keeps.{HasRun}
use Rattle.oz_rows.specs.RowMaps.{Rows}
use Rattle.oz_running.specs.declared.ran.Ran.{Ran}
use Rattle.oz_service.specs.Pass.{AskedMore}
use Rattle.oz_world.specs.Disk.{Images, Seen, seen}

-- the seat of the caller, or of a datanode that isn't there
pub record IsQuietSeat (opening : Opening) (seat : ℕ) : Type 0 where
  pub behind_service : service_seat < seat
  pub before_stripes : seat < stripe_seat 0
  pub not_scm : seat ≢ scm_seat
  pub not_datanode : (dn : ℕ) → IsDatanodeSeat opening dn seat → ⊥

-- Each client of the script was told as many lines as it has, and where no write of the manager's disk failed nothing that
-- was decided is left to be flushed.
pub record IsWorkedOff (stopped : Bool) (script : Script) (story : List Event) : Type 0 where
  pub told : AreToldAsMany script story
  pub flushed : stopped ≡ false → buffer_of story ≡ []

-- What disks tell, their clocks and images, and how often they have failed; that they agree; what was opened, with its
-- bytes and the bodies of the manager's journal; the script; how often the disks of each node had failed once they were
-- loaded; what was seen of the manager's disk then; and the rows that were loaded from it.
module _ {D : Type 0} (told : D → Option (List ℕ)) (clock : D → ℕ) (image : D → Images) (faults : D → ℕ)
    (Coherent : Type 0) (opening : Opening) (bytes : OpeningBytes) (bodies : List (List ℕ)) (script : Script)
    (counts : Node → ℕ) (begun : Seen) (loaded : Rows) where
  -- of a turn with so many seats
  pub record IsRun (seats : ℕ) (ran : Ran D) : Type 0 where
    pub follow : AllFollow (Follows Coherent opening bytes script) [] ran.story.items
    -- The flusher, with the manager's disk, and each stripe of the manager.
    pub kept : IsKept Coherent opening bodies begun ran.journal.stopped ran.story.items
        (mine flusher_seat ran.story.items)
        (seen (told ran.journal.disk) (clock ran.journal.disk) (image ran.journal.disk) (faults ran.journal.disk))
    pub stood : Coherent → (stripe : ℕ) → stripe < STRIPES
        → (rows : Rows) × HasRun opening loaded ran.story.items stripe rows
    -- The storage container manager and each datanode are what the whole story makes of them.
    pub scm : ScmIsAsTold faults opening counts ran.story.items ran.scm
    pub datanodes : AreAsTold told clock image faults Coherent opening bytes script counts ran.story.items ran.nodes.items
    -- The service job asked, and gave nothing else. The caller and datanodes that aren't there gave nothing.
    pub asked : AskedMore [] (mine service_seat ran.story.items)
    pub quiet : (seat : ℕ) → IsQuietSeat opening seat → mine seat ran.story.items ≡ []
    pub seated : All (λ event. event.seat < seats) ran.story.items
    pub done : (ran.is_done ≡ true) ↔ IsWorkedOff ran.journal.stopped script ran.story.items
