-- Why a run ends with its status.
use Rattle.std.proofs.Common.{◌≡◌, ◌≢◌, ◌⊎◌, ⊎_elim, inl, inr, ℕ, zero, suc, ◌≤◌, Bool, List, take, length, Option, Some, None, IfSome, Ok, Err, refl, ◌∙◌, ap, subst, arith}
use Rattle.oz_world.specs.Disk.{Seen}
use Rattle.oz_journal.specs.Grammar.{IsJournal}
use Rattle.oz_core.specs.declared.event.Event.{Event}
use Rattle.oz_core.specs.declared.event.Node.{Node}
use Rattle.oz_core.specs.Manager.{halt_of}
use Rattle.oz_cluster.specs.declared.stop.Stop.{Stop}
use Rattle.oz_cluster.specs.declared.stop.Stop.TheVariants.{Words, Read, Script, Store, OutOfMemory}
use Rattle.oz_cluster.specs.Disks.{ADiskRose}
use Rattle.oz_cluster.specs.Headline.{RunEnds}
use Rattle.oz_cluster.specs.Stopped.{status_of, status_of_store, IsScript, IsScriptOf, IsSo}
use Rattle.oz_cluster.specs.StatusCauses.{HasBegun, IsFaultOf, IsLoadedOf, StatusCauses}
use Rattle.oz_cluster.specs.Streams.{script_limit}
use Rattle.oz_cluster.specs.Wrong.{IsWrong}
use Rattle.oz_cluster.proofs.Right.{OneThing, nothing_is_wrong}
use Rattle.oz_cluster.proofs.Rising.{disk_rose, node_rose}
use Rattle.oz_running.specs.declared.disk_run.disks.Disks.{Disks}
use Rattle.oz_running.specs.disk_run.Disks.{others_of}
use Rattle.oz_running.specs.disk_run.Refused.{IsRefusedFor}
use Rattle.oz_script.specs.declared.draft.fault.Cause.{Cause}
use Rattle.oz_script.specs.declared.draft.fault.ScriptFault.TheVariants.{At}
use Rattle.oz_running.specs.halts.Disks.{AreAsMany, OtherDisks, OtherNodes, all_disks}
use Rattle.oz_running.specs.halts.Rising.{ItsCountRose}
use Rattle.oz_running.specs.status.Status.{Status}
use Rattle.oz_running.specs.status.Status.TheVariants as ends
use Rattle.oz_running.specs.Disks.{manager_disk}
use Rattle.oz_running.specs.NamedHalts.{HaltsAreNamed, StatusNamesHalts}
use Rattle.oz_running.specs.Printed.{IsPrinted}
use Rattle.oz_running.specs.Statuses.{status_number}
use Rattle.oz_script.specs.declared.lines.script.Script.{Script as Lines}
use Rattle.oz_loaded.specs.Loads.{IsLoaded}
use Rattle.oz_loaded.specs.Unseated.{UnseatedView}
use Rattle.oz_running.specs.fault.StoreFault.{StoreFault}
use Rattle.oz_running.specs.fault.StoreFault.TheVariants as store
use Rattle.oz_script.specs.Parsing.{ParsesTo}
use Rattle.oz_script.specs.laws.OneAnswer.{one_answer}
use Rattle.oz_command.specs.command_line.Words.{IsRun, IsFirstFault}

-- The causes of each status.

pub no_script_and_fault : (text : List ℕ) (line : ℕ) (cause : Cause) (left : Option (List ℕ)) → left ≡ Some text → IsFaultOf text line cause → IsScript left → ⊥
no_script_and_fault text line cause None is wrong script = absurd (cc is)
no_script_and_fault text line cause (Some other) is wrong script =
    let same : other ≡ text = cc is in
    let good : ParsesTo (take script_limit text) (Ok script.0) = subst (λ (t : List ℕ). ParsesTo (take script_limit t) (Ok script.0)) same script.1 in
    absurd (cc (one_answer (take script_limit text) (Err (At line cause)) (Ok script.0) wrong good))

some_fault : (left : Option (List ℕ)) (line : ℕ) (cause : Cause) → IfSome left (λ text. ParsesTo (take script_limit text) (Err (At line cause))) → IfSome left (λ text. (line : ℕ) × (cause : Cause) × IsFaultOf text line cause)
some_fault None line cause h = tt
some_fault (Some text) line cause h = (line, cause, h)

fault_and_script : (left : Option (List ℕ)) (text : List ℕ) (line : ℕ) (cause : Cause) → left ≡ Some text → IfSome left (λ text. ParsesTo (take script_limit text) (Err (At line cause))) → IsScript left → ⊥
fault_and_script None text line cause is wrong script = absurd (cc is)
fault_and_script (Some other) text line cause is wrong script = absurd (cc (one_answer (take script_limit other) (Err (At line cause)) (Ok script.0) wrong script.1))

-- what was loaded of a disk that tells its bytes
pub loads_of : (told : Option (List ℕ)) (bodies : List (List ℕ)) (unseated : UnseatedView) → IsLoaded bodies unseated → IfSome told (λ bytes. IsJournal bytes bodies) → IfSome told IsLoadedOf
loads_of None bodies unseated loaded journal = tt
loads_of (Some bytes) bodies unseated loaded journal = (bodies, journal, (unseated, loaded))

-- where the status is Disk a node has halted
pub halted_one : (status : Status) (story : List Event) → status ≡ ends.Disk → StatusNamesHalts status story → (node : Node) × (halt_of node story ≢ None)
halted_one status story is halts = subst (λ (s : Status). StatusNamesHalts s story) is halts

module _ (one : OneThing) (run_has_no_fault : (words : List (List ℕ)) (place : ℕ) → IsRun words → IsFirstFault words place → ⊥) where
  module _ {D : Type 0} (see : D → Seen) (words : List (List ℕ)) (left : Option (List ℕ)) (before after : Disks D) (source_rose sink_rose : Type 0) (number : ℕ) where
    abbrev Causes : Type 0
    Causes = StatusCauses see words left before after source_rose sink_rose number

    -- what it says where the disks weren't loaded, by the number of the status
    module _ (fault : StoreFault) (run : IsRun words) (script : IsScript left) where
      store_causes : number ≤ 7 → (5 ≤ number) → (number ≡ 5 → ADiskRose see before after)
          → (number ≡ 6 → (other : StoreFault) × (status_of_store other ≡ ends.Damaged) × IsRefusedFor see before after other)
          → Causes
      store_causes known least failed wrong = record {
        known = known;
        done = λ is. absurd (omega (arith, least, is));
        script = λ is. absurd (omega (arith, least, is));
        words_fault = λ is. absurd (omega (arith, least, is));
        read = λ is. absurd (omega (arith, least, is));
        unwritten = λ is. absurd (omega (arith, least, is));
        disk_fault = λ is. (run, script, failed is);
        damaged = λ is. (run, script, wrong is);
        wrong_words = λ place it. absurd (run_has_no_fault words place run it);
        wrong_script = λ run text line cause is wrong. absurd (no_script_and_fault text line cause left is wrong script);
        wrong_disks = λ run text is script other wrong. by number refl;
      }
        where
          by : (n : ℕ) → number ≡ n → (number ≡ 3) ⊎ ((number ≡ 5) ⊎ ((number ≡ 6) ⊎ (number ≡ 7)))
          by (suc (suc (suc (suc (suc zero))))) is = inr (inl is)
          by (suc (suc (suc (suc (suc (suc zero)))))) is = inr (inr (inl is))
          by (suc (suc (suc (suc (suc (suc (suc zero))))))) is = inr (inr (inr is))
          by zero is = absurd (omega (arith, least, is))
          by (suc zero) is = absurd (omega (arith, least, is))
          by (suc (suc zero)) is = absurd (omega (arith, least, is))
          by (suc (suc (suc zero))) is = inl is
          by (suc (suc (suc (suc zero)))) is = absurd (omega (arith, least, is))
          by (suc (suc (suc (suc (suc (suc (suc (suc n)))))))) is = absurd (omega (arith, known, is))

    -- something stopped the run before its work
    stop_causes : (stop : Stop) → IsSo words left source_rose (IsRefusedFor see before after) stop → number ≡ status_number (status_of stop) → Causes
    stop_causes (Script line cause) so n = record {
      known = omega (arith, n);
      done = λ is. absurd (omega (arith, n, is));
      script = λ is. (so.0, some_fault left line cause so.1);
      words_fault = λ is. absurd (omega (arith, n, is));
      read = λ is. absurd (omega (arith, n, is));
      unwritten = λ is. absurd (omega (arith, n, is));
      disk_fault = λ is. absurd (omega (arith, n, is));
      damaged = λ is. absurd (omega (arith, n, is));
      wrong_words = λ place wrong. absurd (run_has_no_fault words place so.0 wrong);
      wrong_script = λ run text where_it why is wrong. inl n;
      wrong_disks = λ run text is script other wrong. absurd (fault_and_script left text line cause is so.1 script);
    }
    stop_causes (Words place) so n = record {
      known = omega (arith, n);
      done = λ is. absurd (omega (arith, n, is));
      script = λ is. absurd (omega (arith, n, is));
      words_fault = λ is. (place, so);
      read = λ is. absurd (omega (arith, n, is));
      unwritten = λ is. absurd (omega (arith, n, is));
      disk_fault = λ is. absurd (omega (arith, n, is));
      damaged = λ is. absurd (omega (arith, n, is));
      wrong_words = λ other wrong. inl n;
      wrong_script = λ run text line cause is wrong. absurd (run_has_no_fault words place run so);
      wrong_disks = λ run text is script other wrong. absurd (run_has_no_fault words place run so);
    }
    stop_causes Read so n = record {
      known = omega (arith, n);
      done = λ is. absurd (omega (arith, n, is));
      script = λ is. absurd (omega (arith, n, is));
      words_fault = λ is. absurd (omega (arith, n, is));
      read = λ is. so;
      unwritten = λ is. absurd (omega (arith, n, is));
      disk_fault = λ is. absurd (omega (arith, n, is));
      damaged = λ is. absurd (omega (arith, n, is));
      wrong_words = λ place wrong. absurd (run_has_no_fault words place so.0 wrong);
      wrong_script = λ run text line cause is wrong. inr (inl n);
      wrong_disks = λ run text is script other wrong. inl n;
    }
    stop_causes (Store (store.Disk name)) so n =
        store_causes (store.Disk name) so.0 so.1 (omega (arith, n)) (omega (arith, n)) (λ is. disk_rose see before after name so.2) (λ is. absurd (omega (arith, n, is)))
    stop_causes (Store (store.Damaged name offset)) so n =
        store_causes (store.Damaged name offset) so.0 so.1 (omega (arith, n)) (omega (arith, n)) (λ is. absurd (omega (arith, n, is))) (λ is. (store.Damaged name offset, refl, so.2))
    stop_causes (Store (store.Nodes recorded given)) so n =
        store_causes (store.Nodes recorded given) so.0 so.1 (omega (arith, n)) (omega (arith, n)) (λ is. absurd (omega (arith, n, is))) (λ is. (store.Nodes recorded given, refl, so.2))
    stop_causes (Store (store.Ids next seen)) so n =
        store_causes (store.Ids next seen) so.0 so.1 (omega (arith, n)) (omega (arith, n)) (λ is. absurd (omega (arith, n, is))) (λ is. (store.Ids next seen, refl, so.2))
    stop_causes (Store store.OutOfMemory) so n =
        store_causes store.OutOfMemory so.0 so.1 (omega (arith, n)) (omega (arith, n)) (λ is. absurd (omega (arith, n, is))) (λ is. absurd (omega (arith, n, is)))
    stop_causes OutOfMemory so n = record {
      known = omega (arith, n);
      done = λ is. absurd (omega (arith, n, is));
      script = λ is. absurd (omega (arith, n, is));
      words_fault = λ is. absurd (omega (arith, n, is));
      read = λ is. absurd (omega (arith, n, is));
      unwritten = λ is. absurd (omega (arith, n, is));
      disk_fault = λ is. absurd (omega (arith, n, is));
      damaged = λ is. absurd (omega (arith, n, is));
      wrong_words = λ place wrong. inr n;
      wrong_script = λ run text line cause is wrong. inr (inr n);
      wrong_disks = λ run text is script other wrong. inr (inr (inr n));
    }

    -- the run came to its work
    module _ (given : IsRun words) (script : Lines) (parsed : IsScriptOf left script) (loads : IfSome (see before.manager).told IsLoadedOf) (right : (fault : StoreFault) → IsWrong see before fault → ⊥) where
      work_causes : number ≤ 7 → (number ≡ 4 → sink_rose) → (number ≡ 5 → ADiskRose see before after) → (number ≡ 1 → ⊥) → (number ≡ 2 → ⊥) → (number ≡ 3 → ⊥) → (number ≡ 6 → ⊥) → Causes
      work_causes known sink disk no_script no_words no_read no_damage = record {
        known = known;
        done = λ is. begun;
        script = λ is. absurd (no_script is);
        words_fault = λ is. absurd (no_words is);
        read = λ is. absurd (no_read is);
        unwritten = λ is. (begun, sink is);
        disk_fault = λ is. (given, (script, parsed), disk is);
        damaged = λ is. absurd (no_damage is);
        wrong_words = λ place wrong. absurd (run_has_no_fault words place given wrong);
        wrong_script = λ run text line cause is wrong. absurd (no_script_and_fault text line cause left is wrong (script, parsed));
        wrong_disks = λ run text is script other wrong. absurd (right other wrong);
      }
        where
          begun : HasBegun see words left before
          begun = record { given = given; script = (script, parsed); loads = loads; right = right }

      pub printed_causes : (status : Status) (story : List Event) (held_before held_after : Option (List ℕ)) → number ≡ status_number status → IsPrinted status script story held_before held_after sink_rose → (status ≡ ends.Disk → ADiskRose see before after) → Causes
      printed_causes ends.Done story held_before held_after n printed disk = work_causes (omega (arith, n)) (λ is. absurd (omega (arith, n, is))) (λ is. absurd (omega (arith, n, is))) (λ is. omega (arith, n, is)) (λ is. omega (arith, n, is)) (λ is. omega (arith, n, is)) (λ is. omega (arith, n, is))
      printed_causes ends.Script story held_before held_after n printed disk = absurd printed
      printed_causes ends.Words story held_before held_after n printed disk = absurd printed
      printed_causes ends.Read story held_before held_after n printed disk = absurd printed
      printed_causes ends.Unwritten story held_before held_after n printed disk = work_causes (omega (arith, n)) (λ is. printed.1) (λ is. absurd (omega (arith, n, is))) (λ is. omega (arith, n, is)) (λ is. omega (arith, n, is)) (λ is. omega (arith, n, is)) (λ is. omega (arith, n, is))
      printed_causes ends.Disk story held_before held_after n printed disk = work_causes (omega (arith, n)) (λ is. absurd (omega (arith, n, is))) (λ is. disk refl) (λ is. omega (arith, n, is)) (λ is. omega (arith, n, is)) (λ is. omega (arith, n, is)) (λ is. omega (arith, n, is))
      printed_causes ends.Damaged story held_before held_after n printed disk = absurd printed
      printed_causes ends.OutOfMemory story held_before held_after n printed disk = work_causes (omega (arith, n)) (λ is. absurd (omega (arith, n, is))) (λ is. absurd (omega (arith, n, is))) (λ is. omega (arith, n, is)) (λ is. omega (arith, n, is)) (λ is. omega (arith, n, is)) (λ is. omega (arith, n, is))

  pub causes_of : {D : Type 0} (see : D → Seen)
      → ((begun disk : D) (faults first : ℕ) (stopped : Bool) (others : OtherDisks D) (loaded later : OtherNodes D) (story : List Event) (node : Node) → AreAsMany others loaded later
      → HaltsAreNamed (all_disks see (manager_disk faults first stopped (see begun) (see disk)) others loaded later) story → halt_of node story ≢ None
      → ItsCountRose (λ (d : D). (see d).faults) faults (see disk).faults loaded later node)
      → (words : List (List ℕ)) (left left_after : Option (List ℕ)) (before after : Disks D) (held_before held_after : Option (List ℕ)) (sink_rose : Type 0) (story : List Event) (source_rose : Type 0) (number : ℕ)
      → RunEnds see words left left_after before after held_before held_after sink_rose story source_rose number
      → StatusCauses see words left before after source_rose sink_rose number
  causes_of see rises words left left_after before after held_before held_after sink_rose story source_rose number ending = ⊎_elim
      (λ ended. stop_causes see words left before after source_rose sink_rose number ended.stop ended.so (ending.1 ∙ ap status_number ended.status_is))
      (λ run.
      let store = run.store in
      let over = store.over in
      printed_causes see words left before after source_rose sink_rose number (length before.nodes.items, run.workers, run.given) run.script run.parsed
      (loads_of (see before.manager).told over.bodies over.unseated over.loaded over.journal)
      (nothing_is_wrong see one before over.bodies over.unseated over.loaded over.journal store.nodes.scm store.scm_loaded store.nodes.datanodes store.nodes_loaded store.fresh)
      ending.0 story held_before held_after ending.1 run.printed
      (λ is.
      let it = halted_one ending.0 story is run.ended in
      node_rose see before after run.script run.any_halted story run.is_done store it.0
      (rises before.manager after.manager over.faults over.first store.stopped (others_of before) store.nodes store.left story it.0 over.many run.halted it.1)))
      ending.2
