-- What is so where something stopped a transfer before its work.
use Rattle.std.proofs.Common.{◌≡◌, ◌⊎◌, ⊎_elim, ℕ, List, [], Option, refl, sym, subst}
use Rattle.oz_cluster.specs.declared.files.outcome.Outcome.{Outcome}
use Rattle.oz_cluster.specs.declared.files.stops.TransferStop.{TransferStop}
use Rattle.oz_cluster.specs.declared.files.stops.TransferStop.TheVariants.{Words, Read, TooLong, Store, OutOfMemory}
use Rattle.oz_cluster.specs.files.Endings.{IsSaid}
use Rattle.oz_cluster.specs.files.Given.{file_limit}
use Rattle.oz_cluster.specs.files.Stopped.{IsSo, outcome_of, text_of}
use Rattle.oz_cluster.specs.files.Streams.{IsAsBefore, Stream}
use Rattle.oz_cluster.specs.files.Transfers.{IsTransferStopped, Spares}
use Rattle.oz_cluster.specs.Streams.{TakesUpTo}
use Rattle.oz_core.specs.declared.event.Event.{Event}
use Rattle.oz_running.specs.fault.StoreFault.{StoreFault}
use Rattle.oz_running.specs.declared.disk_run.disks.Disks.{Disks}
use Rattle.oz_running.specs.disk_run.Refused.{AreAtMostLoaded, IsRefusedFor}
use Rattle.oz_running.specs.disk_run.laws.Untouched.{left_as_are}
use Rattle.oz_world.specs.Disk.{Seen}

spared_early : {D : Type 0} (see : D → Seen) (stop : TransferStop) (words : List (List ℕ)) (left left_after : Option (List ℕ)) (rose : Type 0) (disks : Disks D) → IsSo words left left_after rose (λ fault. ⊥) stop → Spares see disks disks stop
spared_early see (Words place) words left left_after rose disks so = refl
spared_early see Read words left left_after rose disks so = refl
spared_early see TooLong words left left_after rose disks so = refl
spared_early see (Store fault) words left left_after rose disks so = absurd so.1
spared_early see OutOfMemory words left left_after rose disks so = left_as_are see disks

so_early : (words : List (List ℕ)) (left left_after : Option (List ℕ)) (rose : Type 0) (Refused : StoreFault → Type 0) (stop : TransferStop) → IsSo words left left_after rose (λ fault. ⊥) stop → IsSo words left left_after rose Refused stop
so_early words left left_after rose Refused (Words place) so = so
so_early words left left_after rose Refused Read so = so
so_early words left left_after rose Refused TooLong so = so
so_early words left left_after rose Refused (Store fault) so = absurd so.1
so_early words left left_after rose Refused OutOfMemory so = so

module _ {D : Type 0} (see : D → Seen) (words : List (List ℕ)) (source out errors : Stream) (story : List Event) (stop why : TransferStop) (outcome : Outcome)
    (which : (why ≡ stop) ⊎ (why ≡ OutOfMemory)) (is : outcome ≡ outcome_of why) (said : IsSaid (text_of why) errors) (silent : IsAsBefore out) (untold : story ≡ []) (taken : TakesUpTo file_limit source.before source.after) where
  -- what stopped a transfer, or that there was no memory to say it
  stopped : (before after : Disks D) → IsSo words source.before source.after source.rose (IsRefusedFor see before after) stop → Spares see before after stop → AreAtMostLoaded see before after
      → IsTransferStopped see words before after source out errors story outcome
  stopped before after so spared lost = record {
    stop = why;
    so = ⊎_elim (λ same. subst (IsSo words source.before source.after source.rose (IsRefusedFor see before after)) (sym same) so)
        (λ none. subst (IsSo words source.before source.after source.rose (IsRefusedFor see before after)) (sym none) taken) which;
    outcome_is = is;
    said = said;
    unwritten = silent;
    untold = untold;
    spared = ⊎_elim (λ same. subst (λ (r : TransferStop). Spares see before after r) (sym same) spared) (λ none. subst (λ (r : TransferStop). Spares see before after r) (sym none) lost) which;
  }

  -- before the disks were asked
  pub stopped_before : (disks : Disks D) → IsSo words source.before source.after source.rose (λ fault. ⊥) stop → IsTransferStopped see words disks disks source out errors story outcome
  stopped_before disks so =
      stopped disks disks (so_early words source.before source.after source.rose (IsRefusedFor see disks disks) stop so)
      (spared_early see stop words source.before source.after source.rose disks so) (left_as_are see disks)

  -- while they were loaded
  pub stopped_while : (before after : Disks D) (fault : StoreFault) → stop ≡ Store fault → IsSo words source.before source.after source.rose (IsRefusedFor see before after) (Store fault) → AreAtMostLoaded see before after
      → IsTransferStopped see words before after source out errors story outcome
  stopped_while before after fault same so lost =
      stopped before after (subst (IsSo words source.before source.after source.rose (IsRefusedFor see before after)) (sym same) so)
      (subst (λ (r : TransferStop). Spares see before after r) (sym same) lost) lost
