-- For private calls: a run, and what its story tells where it is one history.
use Rattle.std.specs.Prelude.{◌≡◌, ℕ, false, List, [], IfSome, Option, length, if◌then◌else◌}
use Rattle.oz_core.specs.declared.event.Node.{Node}
use Rattle.oz_core.specs.declared.opening.Opening.{Opening}
use Rattle.oz_core.specs.Contents.{OpeningBytes}
use Rattle.oz_buffer.specs.Buffer.{buffer_of}
use Rattle.oz_core.specs.Manager.{durable_index, last_index, swapped_index}
use Rattle.oz_datanode.specs.Datanode.{Runs, State as Datanode}
use Rattle.oz_datanode.specs.declared.disks.NodeDisks.{NodeDisks}
use Rattle.oz_headline.specs.full.Full.{JournalStands}
use Rattle.oz_headline.specs.halts.Disks.{AreAsMany, OtherDisks, OtherNodes, all_disks, some_halted}
use Rattle.oz_headline.specs.declared.status.Status.TheVariants.{Disk, Done}
use Rattle.oz_headline.specs.Disks.{manager_disk}
use Rattle.oz_headline.specs.NamedHalts.{HaltsAreNamed, StatusNamesHalts}
use Rattle.oz_headline.specs.Headline.{Headline}
use Rattle.oz_journal.specs.Grammar.{IsJournal}
use Rattle.oz_script.specs.declared.lines.script.Script.{Script}
use Rattle.oz_loaded.specs.Loads.{IsLoaded}
use Rattle.oz_loaded.specs.Unseated.{UnseatedView}
use Rattle.oz_headline.specs.NodeSeat.{IsAsOpened}
use Rattle.oz_headline.specs.Loads.{AreNodesFrom, IsScmFrom}
use Rattle.oz_headline.specs.Stays.{IsIdle}
use Rattle.oz_rows.specs.RowMaps.{Rows}
use Rattle.oz_running.specs.declared.ran.Ran.{Ran}
use Rattle.oz_running.specs.Run.{IsRun}
use Rattle.oz_scm.specs.Scm.{State as Scm}
use Rattle.oz_world.specs.Disk.{Images, Seen}

-- bodies make what was loaded, and the bytes are a journal of them where the disk tells its bytes
abbrev pub IsLoadedOf : Option (List ℕ) → UnseatedView → Type 0
IsLoadedOf told unseated =
    (bodies : List (List ℕ)) × IsLoaded bodies unseated × IfSome told (λ bytes. IsJournal bytes bodies)

-- the other nodes were loaded from some disks
pub record WereLoaded {D : Type 0} (see : D → Seen) (scm : Scm D) (nodes : List (Datanode D)) : Type 0 where
  pub disk : D
  pub disks : List (NodeDisks D)
  pub scm_from : IsScmFrom see (length disks) disk scm
  pub nodes_from : AreNodesFrom see 0 disks nodes

-- The datanode of this number runs, with nothing half written. Where the disks agree it holds what the opening says, and its
-- journal stands for that.
pub record IsOpened {D : Type 0} (told : D → Option (List ℕ)) (clock : D → ℕ) (image : D → Images) (faults : D → ℕ)
    (Coherent : Type 0) (opening : Opening) (bytes : OpeningBytes) (dn : ℕ) (node : Datanode D) : Type 0 where
  pub number : node.id ≡ dn
  pub runs : Runs faults node
  pub idle : IsIdle node
  pub opened : Coherent → IsAsOpened told clock image faults opening bytes node
  pub journal : Coherent → JournalStands told node

-- all nodes but the manager, and those that a run leaves
abbrev pub other_nodes : {D : Type 0} → Scm D → List (Datanode D) → OtherNodes D
other_nodes scm datanodes = record { scm = scm; datanodes = datanodes }

abbrev pub left_by : {D : Type 0} → Ran D → OtherNodes D
left_by ran = other_nodes ran.scm ran.nodes.items

-- how disks are seen; that they agree; what was opened, with its bytes and the bodies of the journal; the script; how often
-- the disks of each node had failed once they were loaded; what was seen of the manager's disk then; and the rows that were
-- loaded
module _ {D : Type 0} (see : D → Seen) (Coherent : Type 0) (opening : Opening) (bytes : OpeningBytes)
    (bodies : List (List ℕ)) (script : Script) (counts : Node → ℕ) (begun : Seen) (loaded : Rows) where
  -- what a run of so many seats over these nodes leaves, whatever the disks were before they were loaded
  pub record IsTold (seats : ℕ) (nodes : OtherNodes D) (ran : Ran D) : Type 0 where
    pub run : IsRun (λ disk. (see disk).told) (λ disk. (see disk).clock) (λ disk. (see disk).image)
        (λ disk. (see disk).faults) Coherent opening bytes bodies script counts begun loaded seats ran
    pub headline : Coherent → (before : D) (others : OtherDisks D)
        → Headline opening bytes script (all_disks see
        (manager_disk begun.faults begun.clock ran.journal.stopped (see before) (see ran.journal.disk)) others nodes
        (left_by ran)) ran.story.items
    pub halted : (before : D) (others : OtherDisks D) → AreAsMany others nodes (left_by ran)
        → HaltsAreNamed (all_disks see
        (manager_disk begun.faults begun.clock ran.journal.stopped (see before) (see ran.journal.disk)) others nodes
        (left_by ran)) ran.story.items
    pub status : StatusNamesHalts (if some_halted ran.journal.stopped (left_by ran) then Disk else Done) ran.story.items
    pub all_flushed : Coherent → ran.journal.stopped ≡ false
        → swapped_index opening ran.story.items ≡ durable_index opening ran.story.items
    pub all_taken : Coherent → buffer_of ran.story.items ≡ []
        → swapped_index opening ran.story.items ≡ last_index opening ran.story.items
