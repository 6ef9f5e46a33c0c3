-- What a run promises of the story that it prints, and of its disks.
use Rattle.std.specs.Prelude.{◌≡◌, ◌≢◌, ◌⊎◌, ℕ, Bool, List, length, Option}
use Rattle.oz_cluster.specs.Stopped.{IsScriptOf, IsStopped}
use Rattle.oz_cluster.specs.Streams.{IsReadThrough}
use Rattle.oz_core.specs.declared.event.Event.{Event}
use Rattle.oz_core.specs.Fits.{AllAreTold}
use Rattle.oz_core.specs.Manager.{durable_index, last_index}
use Rattle.oz_running.specs.declared.disk_run.disks.Disks.{Disks}
use Rattle.oz_running.specs.disk_run.Coherent.{IsCoherentStore}
use Rattle.oz_running.specs.disk_run.Disks.{others_of}
use Rattle.oz_running.specs.disk_run.StoreRun.{IsStoreRun}
use Rattle.oz_running.specs.halts.Disks.{all_disks}
use Rattle.oz_running.specs.status.Status.{Status}
use Rattle.oz_running.specs.status.Status.TheVariants.{Done, OutOfMemory}
use Rattle.oz_running.specs.Counts.{AreToldAsMany}
use Rattle.oz_running.specs.Disks.{manager_disk}
use Rattle.oz_running.specs.NamedHalts.{HaltsAreNamed, StatusNamesHalts}
use Rattle.oz_running.specs.Headline.{Headline}
use Rattle.oz_running.specs.Printed.{IsPrinted}
use Rattle.oz_running.specs.Statuses.{status_number}
use Rattle.oz_script.specs.declared.lines.script.Script.{Script}
use Rattle.oz_namespace.specs.declared.namespace.Namespace.{Namespace}
use Rattle.oz_rows.specs.RowMaps.{row_of}
use Rattle.oz_running.specs.store_opening.Openings.{opening_bytes, opening_of}
use Rattle.oz_command.specs.command_line.Words.{IsRunWith}
use Rattle.oz_world.specs.Disk.{Seen}

module _ {D : Type 0} (see : D → Seen) (words : List (List ℕ)) (left left_after : Option (List ℕ))
    (before after : Disks D) (held_before held_after : Option (List ℕ)) (sink_rose : Type 0) (story : List Event) where
  -- A run of a script over disks, all of which it loads and then writes to. What it wrote is the report of its story, in
  -- which each line is told unless memory ran out. Where all disks are a coherent store over a namespace, the story is one
  -- history from their opening, and where all went well each decision in it is stable.
  pub record IsOneRun (status : Status) : Type 0 where
    pub script : Script
    pub workers : ℕ
    pub given : IsRunWith words (length before.nodes.items) workers
    pub parsed : IsScriptOf left script
    pub read : IsReadThrough left left_after
    pub any_halted : Bool
    pub is_done : Bool
    -- what was loaded, and what became of it
    pub store : IsStoreRun see script before after any_halted story is_done
    pub printed : IsPrinted status script story held_before held_after sink_rose
    pub ended : StatusNamesHalts status story
    pub told : status ≢ OutOfMemory → AreToldAsMany script story
    pub halted : HaltsAreNamed (all_disks see
        (manager_disk store.over.faults store.over.first store.stopped (see before.manager) (see after.manager))
        (others_of before) store.nodes store.left) story
    pub headline : (namespace : Namespace)
        → let opening = opening_of store.over.unseated namespace store.nodes.scm.made store.nodes.datanodes in
        let bytes = opening_bytes see store.nodes.datanodes in
        IsCoherentStore see before.nodes.items (row_of store.over.loaded.all) opening bytes
        → Headline opening bytes script (all_disks see
        (manager_disk store.over.faults store.over.first store.stopped (see before.manager) (see after.manager))
        (others_of before) store.nodes store.left) story
        × (status ≢ OutOfMemory → AllAreTold script story)
        × (status ≡ Done → durable_index opening story ≡ last_index opening story)

  -- A run was stopped before its work, and says why; or it worked, and its story is one history.
  abbrev pub RunEnds : Type 0 → ℕ → Type 0
  RunEnds source_rose number =
      (status : Status) × (number ≡ status_number status)
      × (IsStopped see words left left_after before after source_rose held_before held_after sink_rose story status
      ⊎ IsOneRun status)
