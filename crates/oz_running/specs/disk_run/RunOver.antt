-- What a run over the disks of all nodes leaves.
use Rattle.std.specs.Prelude.{◌≡◌, ◌↔◌, ℕ, ◌≤◌, Bool, true, false, List, [], IfSome, IsSome, IsSomeAnd, if◌then◌else◌}
use Rattle.oz_core.specs.declared.event.Event.{Event}
use Rattle.oz_core.specs.declared.opening.Opening.{Opening}
use Rattle.oz_core.specs.Contents.{OpeningBytes}
use Rattle.oz_buffer.specs.Buffer.{buffer_of}
use Rattle.oz_core.specs.Manager.{durable_index, last_index}
use Rattle.oz_running.specs.disk_run.Coherent.{IsCoherentStore}
use Rattle.oz_running.specs.disk_run.Disks.{counts_loaded}
use Rattle.oz_headline.specs.halts.Disks.{AreAsMany, OtherDisks, OtherNodes, all_disks, some_halted}
use Rattle.oz_headline.specs.halts.Nodes.{AreAsTold, ScmIsAsTold}
use Rattle.oz_headline.specs.declared.status.Status.TheVariants.{Disk, Done}
use Rattle.oz_headline.specs.Disks.{manager_disk}
use Rattle.oz_headline.specs.NamedHalts.{HaltsAreNamed, StatusNamesHalts}
use Rattle.oz_headline.specs.Headline.{Headline}
use Rattle.oz_journal.specs.Grammar.{IsJournal}
use Rattle.oz_journal.specs.Load.{IsLeftAlone, IsLoadable, loaded_at}
use Rattle.oz_running.specs.Run.{IsWorkedOff}
use Rattle.oz_script.specs.declared.lines.script.Script.{Script}
use Rattle.oz_loaded.specs.Loads.{IsLoaded}
use Rattle.oz_loaded.specs.Unseated.{UnseatedView}
use Rattle.oz_namespace.specs.declared.namespace.Namespace.{Namespace}
use Rattle.oz_headline.specs.restored.Opens.{OpensUpTo, StandUpTo}
use Rattle.oz_rows.specs.RowMaps.{row_of}
use Rattle.oz_headline.specs.store_opening.Openings.{opening_bytes, opening_of}
use Rattle.oz_world.specs.Disk.{Images, Seen}

-- While a disk is loaded a stop leaves what it would have left before, or at most one byte in the place of at most one.
abbrev pub LoadingKeeps : Seen → List ℕ → Images → Type 0
LoadingKeeps disk bytes image =
    (moment : ℕ) (left : List ℕ) → disk.clock ≤ moment → moment ≤ loaded_at disk.clock bytes → image moment left →
    (was : List ℕ) × disk.image disk.clock was × IsLeftAlone was left

-- Bytes are a journal that stands for the namespace after the Decides up to an index, which is its last.
abbrev pub OpensAs : Opening → List Event → List ℕ → ℕ → Type 0
OpensAs opening story left most =
    (bodies : List (List ℕ)) × IsJournal left bodies × StandUpTo opening story bodies most

-- How disks are seen; the script; of the manager's disk: what it was before the run and is after it, and whether a write of
-- it has failed since it was loaded; and of the other nodes: their disks before the run, and these nodes as they were
-- loaded and at the end.
module _ {D : Type 0} (see : D → Seen) (script : Script) (before after : D) (stopped : Bool) (others : OtherDisks D)
    (nodes left : OtherNodes D) where
  -- The story is one history of the script from what was opened on, with these bytes of blocks. So often the manager's
  -- disk had failed once it was loaded, and at this moment that ended.
  pub record IsOneHistory (opening : Opening) (bytes : OpeningBytes) (faults first : ℕ) (story : List Event)
      : Type 0 where
    pub headline : Headline opening bytes script
        (all_disks see (manager_disk faults first stopped (see before) (see after)) others nodes left) story
    -- Where no write failed and nothing is left to be flushed, all that was decided is stable.
    pub all_stable : stopped ≡ false → buffer_of story ≡ [] → durable_index opening story ≡ last_index opening story
    -- A stop at any moment from then on leaves a journal that opens as the store after a first part of the story, with
    -- all that was flushed by that moment.
    pub stops : IsSome (see before).told → (moment : ℕ) (held : List ℕ) → first ≤ moment → moment ≤ (see after).clock
        → (see after).image moment held → OpensUpTo opening story moment held
    -- Where no write failed, what the disk tells at the end opens as the store after all that is flushed.
    pub reopens : stopped ≡ false → IsSome (see before).told
        → IsSomeAnd (see after).told (λ held. OpensAs opening story held (durable_index opening story))

  -- A run over disks, with its story, and whether its work is done.
  pub record IsRunOver (story : List Event) (is_done : Bool) : Type 0 where
    -- What was loaded: of the bodies that the bytes of the disk are a journal of, where it tells its bytes.
    pub bodies : List (List ℕ)
    pub unseated : UnseatedView
    pub loaded : IsLoaded bodies unseated
    pub journal : IfSome (see before).told (λ bytes. IsJournal bytes bodies)
    -- How often the disk had failed once it was loaded, and the moment at which that ended.
    pub faults : ℕ
    pub first : ℕ
    pub no_fewer : (see before).faults ≤ faults
    pub ended : IfSome (see before).told (λ bytes. first ≡ loaded_at (see before).clock bytes)
    -- Where all that was loaded is a coherent store over a namespace, the story is one history from its opening.
    pub coherent : (namespace : Namespace)
        → let opening = opening_of unseated namespace nodes.scm.made nodes.datanodes in
        let bytes = opening_bytes see nodes.datanodes in
        IsCoherentStore see others.datanodes (row_of loaded.all) opening bytes
        → IsOneHistory opening bytes faults first story
    -- Whatever the rows are, the storage container manager is what its events make of what was loaded of it, and each
    -- datanode halted and was stopped as its events tell. Where all that was loaded is a coherent store each one that hasn't
    -- halted has the blocks of the story, and whatever a stop leaves of both its disks has their contents.
    pub scm : (namespace : Namespace)
        → ScmIsAsTold (λ disk. (see disk).faults) (opening_of unseated namespace nodes.scm.made nodes.datanodes)
        (counts_loaded see faults nodes) story left.scm
    pub datanodes : (namespace : Namespace)
        → let opening = opening_of unseated namespace nodes.scm.made nodes.datanodes in
        let bytes = opening_bytes see nodes.datanodes in
        AreAsTold (λ disk. (see disk).told) (λ disk. (see disk).clock) (λ disk. (see disk).image)
        (λ disk. (see disk).faults) (IsCoherentStore see others.datanodes (row_of loaded.all) opening bytes) opening
        bytes script (counts_loaded see faults nodes) story left.datanodes
    -- Each Halt is named, and there is one exactly where a call on a disk failed.
    pub many : AreAsMany others nodes left
    pub halted : HaltsAreNamed
        (all_disks see (manager_disk faults first stopped (see before) (see after)) others nodes left) story
    pub status : StatusNamesHalts (if some_halted stopped left then Disk else Done) story
    pub done : (is_done ≡ true) ↔ IsWorkedOff stopped script story
    -- What a stop left while the manager's disk was loaded stands.
    pub loading : IfSome (see before).told (λ bytes.
        IsLoadable bytes ((see before).image (see before).clock) → LoadingKeeps (see before) bytes (see after).image)
