-- The count of a node that halted rose.
use Rattle.std.proofs.Common.{◌≡◌, ◌≢◌, ⊎_elim, ℕ, ◌≤◌, ◌<◌, Bool, true, false, cond, List, [], ◌∷◌, length, None, Some, refl, sym, ap, ◌∙◌, subst, arith}
use Rattle.std.proofs.lemmas.Bool.{cases_lt, false≢true}
use Rattle.oz_core.specs.declared.event.Event.{Event}
use Rattle.oz_core.specs.declared.event.Node.{Node}
use Rattle.oz_core.specs.declared.event.Node.TheVariants.{Manager, Scm, Datanode}
use Rattle.oz_core.specs.Manager.{halt_of}
use Rattle.oz_datanode.specs.Datanode.{State as NodeState, count_of, meta_of, slots_of}
use Rattle.oz_headline.specs.Disks.{RunDisk, faults_after, faults_loaded, has_stopped, manager_disk, together}
use Rattle.oz_headline.specs.NamedHalts.{HaltsAreNamed}
use Rattle.oz_headline.specs.halts.Disks.{AreAsMany, OtherDisks, OtherNodes, all_disks}
use Rattle.oz_headline.specs.halts.Rising.{DatanodeRose, ItsCountRose}
use Rattle.oz_headline.proofs.halts_lemmas.Halts.{absent_stopped, its_after, its_loaded, none_counted, there}
use Rattle.oz_world.specs.Disk.{Seen}
use Rattle.oz_world.specs.Faults.{Rose}

module _ {D : Type 0} (faults : D → ℕ) (see : D → Seen) (sees : (d : D) → (see d).faults ≡ faults d) (managers_loaded first : ℕ) (stopped : Bool) (begun managers_after : Seen)
    (before : OtherDisks D) (loaded after : OtherNodes D) (story : List Event) (many : AreAsMany before loaded after) where
  abbrev disks : List RunDisk
  disks = all_disks see (manager_disk managers_loaded first stopped begun managers_after) before loaded after

  abbrev nodes : List (NodeState D)
  nodes = after.datanodes

  module _ (halts : HaltsAreNamed disks story) where
    -- a call on a disk of a node that halted has failed
    has_failed : (node : Node) → halt_of node story ≢ None → has_stopped node disks ≡ true
    has_failed node halted = by (has_stopped node disks) refl
      where
        by : (t : Bool) → has_stopped node disks ≡ t → has_stopped node disks ≡ true
        by true is = is
        by false is = absurd (halted ((halts node).halt ∙ ap (λ (t : Bool). cond t (Some (faults_after node disks)) None) is))

    rose_so : (node : Node) (was is : ℕ) → halt_of node story ≢ None → faults_loaded node disks ≡ was → faults_after node disks ≡ is → Rose was is
    rose_so node was is halted loaded_is after_is =
        subst (λ (n : ℕ). Rose was n) after_is (subst (λ (n : ℕ). Rose n (faults_after node disks)) loaded_is ((halts node).rose (has_failed node halted)))

    of_manager : halt_of Manager story ≢ None → Rose managers_loaded managers_after.faults
    of_manager halted =
        rose_so Manager managers_loaded managers_after.faults halted
        (ap (λ (l : List ℕ). together (managers_loaded ∷ l)) (none_counted see Manager (λ dn. refl) (λ dn. refl) (λ (disk : RunDisk). disk.faults) 0 before.datanodes loaded.datanodes nodes))
        (ap (λ (l : List ℕ). together (managers_after.faults ∷ l)) (none_counted see Manager (λ dn. refl) (λ dn. refl) (λ (disk : RunDisk). disk.after.faults) 0 before.datanodes loaded.datanodes nodes))

    of_scm : halt_of Scm story ≢ None → Rose (faults loaded.scm.disk) (faults after.scm.disk)
    of_scm halted =
        rose_so Scm (faults loaded.scm.disk) (faults after.scm.disk) halted
        (ap (λ (l : List ℕ). together ((see loaded.scm.disk).faults ∷ l)) (none_counted see Scm (λ dn. refl) (λ dn. refl) (λ (disk : RunDisk). disk.faults) 0 before.datanodes loaded.datanodes nodes)
        ∙ sees loaded.scm.disk)
        (ap (λ (l : List ℕ). together ((see after.scm.disk).faults ∷ l)) (none_counted see Scm (λ dn. refl) (λ dn. refl) (λ (disk : RunDisk). disk.after.faults) 0 before.datanodes loaded.datanodes nodes)
        ∙ sees after.scm.disk)

    of_datanode : (dn : ℕ) → halt_of (Datanode dn) story ≢ None → DatanodeRose faults dn loaded.datanodes after.datanodes
    of_datanode dn halted = ⊎_elim here absent (cases_lt dn (length nodes))
      where
        count_is : (m : NodeState D) → together ((see (meta_of m)).faults ∷ (see (slots_of m)).faults ∷ []) ≡ count_of faults m
        count_is m = rw (sees (meta_of m), sees (slots_of m)) refl

        here : dn < length nodes → DatanodeRose faults dn loaded.datanodes after.datanodes
        here less =
            let it = there nodes dn less in
            let was = there loaded.datanodes dn (omega (arith, less, many.loaded_count)) in record {
              loaded = was.0;
              after = it.0;
              was_loaded = was.1;
              is_after = it.1;
              rose = rose_so (Datanode dn) (count_of faults was.0) (count_of faults it.0) halted
                  (ap together (its_loaded see dn 0 dn before.datanodes loaded.datanodes nodes was.0 many.before_count many.loaded_count was.1 (omega arith)) ∙ count_is was.0)
                  (ap together (its_after see dn 0 dn before.datanodes loaded.datanodes nodes it.0 many.before_count many.loaded_count it.1 (omega arith)) ∙ count_is it.0);
            }

        absent : length nodes ≤ dn → DatanodeRose faults dn loaded.datanodes after.datanodes
        absent above =
            let none = absent_stopped see dn 0 before.datanodes loaded.datanodes nodes (λ n less is. absurd (omega (arith, less, is, above))) in
            absurd (false≢true (sym none ∙ has_failed (Datanode dn) halted))

    pub counted : (node : Node) → halt_of node story ≢ None → ItsCountRose faults managers_loaded managers_after.faults loaded after node
    counted Manager halted = of_manager halted
    counted Scm halted = of_scm halted
    counted (Datanode dn) halted = of_datanode dn halted
