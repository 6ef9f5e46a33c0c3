-- What a transfer promises of its story, of its disks, and of what it takes and gives.
use Rattle.std.specs.Prelude.{◌≡◌, ◌⊎◌, ℕ, Bool, List, [], length, Some, if◌then◌else◌}
use Rattle.oz_cluster.specs.declared.files.outcome.Outcome.{Outcome}
use Rattle.oz_cluster.specs.declared.files.stops.TransferStop.{TransferStop}
use Rattle.oz_cluster.specs.declared.files.stops.TransferStop.TheVariants.{Words, Read, TooLong, Store, OutOfMemory}
use Rattle.oz_cluster.specs.declared.files.words.Way.{Way}
use Rattle.oz_cluster.specs.files.Answers.{IsToldAt}
use Rattle.oz_cluster.specs.files.Asked.{script_for, told_in}
use Rattle.oz_cluster.specs.files.Endings.{EndsSo, IsSaid}
use Rattle.oz_cluster.specs.files.Given.{IsGiven}
use Rattle.oz_cluster.specs.files.Outcomes.{outcome_number}
use Rattle.oz_cluster.specs.files.Stopped.{IsSo, outcome_of, text_of}
use Rattle.oz_cluster.specs.files.Streams.{IsAsBefore, Stream}
use Rattle.oz_cluster.specs.files.Words.{IsTransferWith, key_word}
use Rattle.oz_command.specs.declared.paths.KeyPath.{KeyPath}
use Rattle.oz_core.specs.declared.event.Event.{Event}
use Rattle.oz_running.specs.halts.Disks.{all_disks}
use Rattle.oz_running.specs.status.Status.TheVariants as status
use Rattle.oz_running.specs.Disks.{manager_disk}
use Rattle.oz_running.specs.NamedHalts.{HaltsAreNamed, StatusNamesHalts}
use Rattle.oz_running.specs.Headline.{Headline}
use Rattle.oz_namespace.specs.declared.namespace.Namespace.{Namespace}
use Rattle.oz_running.specs.store_opening.Openings.{opening_bytes, opening_of}
use Rattle.oz_requests.specs.declared.answer.Answer.{Answer}
use Rattle.oz_rows.specs.RowMaps.{row_of}
use Rattle.oz_running.specs.declared.disk_run.disks.Disks.{Disks}
use Rattle.oz_running.specs.disk_run.Coherent.{IsCoherentStore}
use Rattle.oz_running.specs.disk_run.Disks.{others_of}
use Rattle.oz_running.specs.disk_run.Refused.{AreAtMostLoaded, IsRefusedFor}
use Rattle.oz_running.specs.disk_run.StoreRun.{IsStoreRun}
use Rattle.oz_world.specs.Disk.{Seen}

-- what becomes of the disks where this stops a transfer: they weren't touched, or they were at most loaded
abbrev pub Spares : {D : Type 0} → (D → Seen) → Disks D → Disks D → TransferStop → Type 0
Spares see before after (Words place) = after ≡ before
Spares see before after Read = after ≡ before
Spares see before after TooLong = after ≡ before
Spares see before after (Store fault) = AreAtMostLoaded see before after
Spares see before after OutOfMemory = AreAtMostLoaded see before after

module _ {D : Type 0} (see : D → Seen) (words : List (List ℕ)) (before after : Disks D) (source out errors : Stream)
    (story : List Event) where
  -- Something stopped a transfer before its work. It said what that was, wrote nothing, no story was told, and the disks
  -- lost nothing.
  pub record IsTransferStopped (outcome : Outcome) : Type 0 where
    pub stop : TransferStop
    pub so : IsSo words source.before source.after source.rose (IsRefusedFor see before after) stop
    pub outcome_is : outcome ≡ outcome_of stop
    pub said : IsSaid (text_of stop) errors
    pub unwritten : IsAsBefore out
    pub untold : story ≡ []
    pub spared : Spares see before after stop

  -- One line ran over disks, all of which were loaded and then written to: a put of all that the source had, or a get.
  -- What the line was told last says how the transfer ends and what it wrote. Where all disks are a coherent store over a
  -- namespace, the story is one history from their opening, and the answer means what it says.
  pub record IsOneTransfer (outcome : Outcome) : Type 0 where
    pub way : Way
    pub path : KeyPath
    pub workers : ℕ
    pub asked : IsTransferWith words way path (length before.nodes.items) workers
    pub given : List ℕ
    pub took : IsGiven way source.before source.after given
    pub any_halted : Bool
    pub is_done : Bool
    pub store : IsStoreRun see (script_for way path given) before after any_halted story is_done
    pub ends : EndsSo (length given) (key_word words) story any_halted out errors way outcome
    pub named : StatusNamesHalts (if any_halted then status.Disk else status.Done) story
    pub halted : HaltsAreNamed (all_disks see
        (manager_disk store.over.faults store.over.first store.stopped (see before.manager) (see after.manager))
        (others_of before) store.nodes store.left) story
    pub headline : (namespace : Namespace)
        → let opening = opening_of store.over.unseated namespace store.nodes.scm.made store.nodes.datanodes in
        let bytes = opening_bytes see store.nodes.datanodes in
        IsCoherentStore see before.nodes.items (row_of store.over.loaded.all) opening bytes
        → Headline opening bytes (script_for way path given) (all_disks see
        (manager_disk store.over.faults store.over.first store.stopped (see before.manager) (see after.manager))
        (others_of before) store.nodes store.left) story
        × ((answer : Answer) → told_in story ≡ Some answer → IsToldAt opening bytes path given way story answer)

  -- A transfer was stopped before its work, and says why; or its line ran.
  abbrev pub TransferEnds : ℕ → Type 0
  TransferEnds number =
      (outcome : Outcome) × (number ≡ outcome_number outcome) × (IsTransferStopped outcome ⊎ IsOneTransfer outcome)
