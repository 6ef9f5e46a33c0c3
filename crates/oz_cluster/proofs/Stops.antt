-- What is so where something stopped a run before its work.
use Rattle.std.proofs.Common.{◌≡◌, ◌⊎◌, ⊎_elim, ℕ, List, [], Option, refl, sym, subst}
use Rattle.oz_world.specs.Disk.{Seen}
use Rattle.oz_core.specs.declared.event.Event.{Event}
use Rattle.oz_cluster.specs.declared.stop.Stop.{Stop}
use Rattle.oz_cluster.specs.declared.stop.Stop.TheVariants.{Words, Read, Script, Store, OutOfMemory}
use Rattle.oz_cluster.specs.Stopped.{status_of, text_of, IsSo, Reads, Spares, IsStopped}
use Rattle.oz_cluster.specs.Streams.{script_limit, TakesUpTo}
use Rattle.oz_running.specs.declared.disk_run.disks.Disks.{Disks}
use Rattle.oz_running.specs.disk_run.Refused.{AreAtMostLoaded, IsRefusedFor}
use Rattle.oz_running.specs.disk_run.laws.Untouched.{left_as_are}
use Rattle.oz_running.specs.status.Status.{Status}
use Rattle.oz_running.specs.Printed.{Says}
use Rattle.oz_running.specs.fault.StoreFault.{StoreFault}

module _ {D : Type 0} (see : D → Seen) where
  spared_early : (stop : Stop) (words : List (List ℕ)) (left : Option (List ℕ)) (source_rose : Type 0) (disks : Disks D) → IsSo words left source_rose (λ fault. ⊥) stop → Spares see stop disks disks
  spared_early (Script line cause) words left source_rose disks so = refl
  spared_early (Words place) words left source_rose disks so = refl
  spared_early Read words left source_rose disks so = refl
  spared_early (Store fault) words left source_rose disks so = absurd so.2
  spared_early OutOfMemory words left source_rose disks so = left_as_are see disks

so_early : (words : List (List ℕ)) (left : Option (List ℕ)) (source_rose : Type 0) (Refused : StoreFault → Type 0) (stop : Stop) → IsSo words left source_rose (λ fault. ⊥) stop → IsSo words left source_rose Refused stop
so_early words left source_rose Refused (Script line cause) so = so
so_early words left source_rose Refused (Words place) so = so
so_early words left source_rose Refused Read so = so
so_early words left source_rose Refused (Store fault) so = absurd so.2
so_early words left source_rose Refused OutOfMemory so = tt

module _ {D : Type 0} (see : D → Seen) (words : List (List ℕ)) (left left_after : Option (List ℕ)) (source_rose : Type 0) (held_before held_after : Option (List ℕ)) (sink_rose : Type 0) (story : List Event) (stop why : Stop) (status : Status)
    (which : (why ≡ stop) ⊎ (why ≡ OutOfMemory)) (is : status ≡ status_of why) (said : Says (text_of why) held_before held_after sink_rose) (untold : story ≡ []) (reads : Reads stop left left_after) (taken : TakesUpTo script_limit left left_after) where
  -- what stopped a run, or that there was no memory to say it
  stopped : (before after : Disks D) → IsSo words left source_rose (IsRefusedFor see before after) stop → Spares see stop before after → AreAtMostLoaded see before after
      → IsStopped see words left left_after before after source_rose held_before held_after sink_rose story status
  stopped before after so spared lost = record {
    stop = why;
    so = ⊎_elim (λ same. subst (IsSo words left source_rose (IsRefusedFor see before after)) (sym same) so) (λ none. subst (IsSo words left source_rose (IsRefusedFor see before after)) (sym none) tt) which;
    status_is = is;
    said = said;
    untold = untold;
    reads = ⊎_elim (λ same. subst (λ (r : Stop). Reads r left left_after) (sym same) reads) (λ none. subst (λ (r : Stop). Reads r left left_after) (sym none) taken) which;
    spared = ⊎_elim (λ same. subst (λ (r : Stop). Spares see r before after) (sym same) spared) (λ none. subst (λ (r : Stop). Spares see r before after) (sym none) lost) which;
  }

  -- before the disks were asked
  pub stopped_early : (disks : Disks D) → IsSo words left source_rose (λ fault. ⊥) stop → IsStopped see words left left_after disks disks source_rose held_before held_after sink_rose story status
  stopped_early disks so = stopped disks disks (so_early words left source_rose (IsRefusedFor see disks disks) stop so) (spared_early see stop words left source_rose disks so) (left_as_are see disks)

  -- while they were loaded
  pub stopped_late : (before after : Disks D) (fault : StoreFault) → stop ≡ Store fault → IsSo words left source_rose (IsRefusedFor see before after) (Store fault) → AreAtMostLoaded see before after
      → IsStopped see words left left_after before after source_rose held_before held_after sink_rose story status
  stopped_late before after fault same so lost =
      stopped before after (subst (IsSo words left source_rose (IsRefusedFor see before after)) (sym same) so)
      (subst (λ (r : Stop). Spares see r before after) (sym same) lost) lost
