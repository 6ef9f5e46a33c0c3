-- Why a transfer ends with its status.
use Rattle.std.proofs.Common.{◌≡◌, ◌≢◌, ◌⊎◌, ⊎_elim, inl, inr, ℕ, zero, suc, ◌<◌, ◌≤◌, Bool, true, false, List, [], ◌∷◌, length, Option, Some, None, IfSome, refl, sym, ◌∙◌, ap, subst, arith}
use Rattle.std.specs.Prelude.{slice_index, if◌then◌else◌}
use Rattle.oz_cluster.specs.declared.files.outcome.Outcome.{Outcome}
use Rattle.oz_cluster.specs.declared.files.outcome.Outcome.TheVariants as ends
use Rattle.oz_cluster.specs.declared.files.stops.TheConstants.{LONGEST_FILE}
use Rattle.oz_cluster.specs.declared.files.stops.TransferStop.{TransferStop}
use Rattle.oz_cluster.specs.declared.files.stops.TransferStop.TheVariants.{Words, Read, TooLong, Store, OutOfMemory}
use Rattle.oz_cluster.specs.declared.files.words.Way.{Way}
use Rattle.oz_cluster.specs.declared.files.words.Way.TheVariants.{Put, Get}
use Rattle.oz_cluster.specs.files.Causes.{HasWorked, TransferCauses}
use Rattle.oz_cluster.specs.files.Endings.{EndsSo, IsCutOff}
use Rattle.oz_cluster.specs.files.Given.{IsGiven}
use Rattle.oz_cluster.specs.files.Outcomes.{outcome_number}
use Rattle.oz_cluster.specs.files.Stopped.{HasGiven, IsSo, outcome_of}
use Rattle.oz_cluster.specs.files.Streams.{Stream}
use Rattle.oz_cluster.specs.files.Transfers.{IsOneTransfer, TransferEnds}
use Rattle.oz_cluster.specs.files.Words.{IsTransfer, IsTransferOf, verb_of}
use Rattle.oz_cluster.specs.Disks.{ADiskRose}
use Rattle.oz_cluster.specs.StatusCauses.{IsLoadedOf}
use Rattle.oz_cluster.specs.Stopped.{status_of_store}
use Rattle.oz_cluster.specs.Wrong.{IsWrong}
use Rattle.oz_cluster.proofs.Causes.{halted_one, loads_of}
use Rattle.oz_cluster.proofs.Right.{OneThing, nothing_is_wrong}
use Rattle.oz_cluster.proofs.Rising.{disk_rose, node_rose}
use Rattle.oz_cluster.proofs.TransferWords.{transfer_has_no_fault}
use Rattle.oz_core.specs.declared.event.Event.{Event}
use Rattle.oz_core.specs.declared.event.Node.{Node}
use Rattle.oz_core.specs.Manager.{halt_of}
use Rattle.oz_running.specs.halts.Disks.{AreAsMany, OtherDisks, OtherNodes, all_disks}
use Rattle.oz_running.specs.halts.Rising.{ItsCountRose}
use Rattle.oz_running.specs.status.Status.{Status}
use Rattle.oz_running.specs.status.Status.TheVariants as status
use Rattle.oz_running.specs.Disks.{manager_disk}
use Rattle.oz_running.specs.NamedHalts.{HaltsAreNamed, StatusNamesHalts}
use Rattle.oz_running.specs.fault.StoreFault.{StoreFault}
use Rattle.oz_running.specs.fault.StoreFault.TheVariants as store
use Rattle.oz_running.specs.declared.disk_run.disks.Disks.{Disks}
use Rattle.oz_running.specs.disk_run.Disks.{others_of}
use Rattle.oz_running.specs.disk_run.Refused.{IsRefusedFor}
use Rattle.oz_world.specs.Disk.{Seen}

-- ---- words say one way

verbs_apart : verb_of Put ≡ verb_of Get → ⊥
verbs_apart same = let first : 112 ≡ 103 = ap (λ (l : List ℕ). slice_index l 0) same in absurd (omega (arith, first))

put_or_get : (words : List (List ℕ)) → IsTransferOf Put words → IsTransferOf Get words → ⊥
put_or_get [] put get = put.3
put_or_get (verb ∷ []) put get = put.3
put_or_get (verb ∷ dir ∷ []) put get = put.3
put_or_get (verb ∷ dir ∷ key ∷ options) put get = verbs_apart (sym put.3.0 ∙ get.3.0)

-- what was given wasn't too long
not_too_long : (words : List (List ℕ)) (left left_after : Option (List ℕ)) → HasGiven words left left_after → IsTransferOf Put words → (text : List ℕ) → left ≡ Some text → LONGEST_FILE < length text → ⊥
not_too_long words left left_after has put text is long = by has.way has.words_are has.took
  where
    by : (way : Way) → IsTransferOf way words → IsGiven way left left_after has.given → ⊥
    by Get get took = put_or_get words put get
    by Put its took =
        let all : has.given ≡ text = subst (λ (o : Option (List ℕ)). IfSome o (λ text. has.given ≡ text)) is took.0 in
        let most = took.1 in
        absurd (omega (arith, ap length all, most, long))

module _ (one : OneThing) where
  module _ {D : Type 0} (see : D → Seen) (words : List (List ℕ)) (before after : Disks D) (source out : Stream) (number : ℕ) where
    abbrev Why : Type 0
    Why = TransferCauses see words before after source out number

    any : (way : Way) → IsTransferOf way words → IsTransfer words
    any way it = (way, it)

    -- the disks weren't loaded
    module _ (fault : StoreFault) (has : HasGiven words source.before source.after) where
      store_causes : number ≤ 7 → 5 ≤ number → (number ≡ 5 → ADiskRose see before after)
          → (number ≡ 6 → (other : StoreFault) × (status_of_store other ≡ status.Damaged) × IsRefusedFor see before after other)
          → Why
      store_causes known least failed wrong = record {
        known = omega (arith, known);
        done = λ is. absurd (omega (arith, least, is));
        too_long = λ is. absurd (omega (arith, least, is));
        words_fault = λ is. absurd (omega (arith, least, is));
        read = λ is. absurd (omega (arith, least, is));
        unwritten = λ is. absurd (omega (arith, least, is));
        disk_fault = λ is. (has, failed is);
        damaged = λ is. (has, wrong is);
        refused = λ is. absurd (omega (arith, known, is));
        wrong_words = λ place it. absurd (transfer_has_no_fault words place (any has.way has.words_are) it);
        more_bytes = λ put text is long. absurd (not_too_long words source.before source.after has put text is long);
        wrong_disks = λ it other other_wrong. by number refl;
      }
        where
          by : (n : ℕ) → number ≡ n → (number ≡ 1) ⊎ ((number ≡ 3) ⊎ ((number ≡ 5) ⊎ ((number ≡ 6) ⊎ (number ≡ 7))))
          by (suc (suc (suc (suc (suc zero))))) is = inr (inr (inl is))
          by (suc (suc (suc (suc (suc (suc zero)))))) is = inr (inr (inr (inl is)))
          by (suc (suc (suc (suc (suc (suc (suc zero))))))) is = inr (inr (inr (inr is)))
          by zero is = absurd (omega (arith, least, is))
          by (suc zero) is = absurd (omega (arith, least, is))
          by (suc (suc zero)) is = absurd (omega (arith, least, is))
          by (suc (suc (suc zero))) is = absurd (omega (arith, least, is))
          by (suc (suc (suc (suc zero)))) is = absurd (omega (arith, least, is))
          by (suc (suc (suc (suc (suc (suc (suc (suc n)))))))) is = absurd (omega (arith, known, is))

    -- something stopped the transfer before its work
    stop_causes : (stop : TransferStop) → IsSo words source.before source.after source.rose (IsRefusedFor see before after) stop → number ≡ outcome_number (outcome_of stop) → Why
    stop_causes (Words place) so n = record {
      known = omega (arith, n);
      done = λ is. absurd (omega (arith, n, is));
      too_long = λ is. absurd (omega (arith, n, is));
      words_fault = λ is. (place, so.0);
      read = λ is. absurd (omega (arith, n, is));
      unwritten = λ is. absurd (omega (arith, n, is));
      disk_fault = λ is. absurd (omega (arith, n, is));
      damaged = λ is. absurd (omega (arith, n, is));
      refused = λ is. absurd (omega (arith, n, is));
      wrong_words = λ other wrong. inl n;
      more_bytes = λ put text is long. absurd (transfer_has_no_fault words place (any Put put) so.0);
      wrong_disks = λ it fault wrong. absurd (transfer_has_no_fault words place it so.0);
    }
    stop_causes Read so n = record {
      known = omega (arith, n);
      done = λ is. absurd (omega (arith, n, is));
      too_long = λ is. absurd (omega (arith, n, is));
      words_fault = λ is. absurd (omega (arith, n, is));
      read = λ is. (so.0, so.1);
      unwritten = λ is. absurd (omega (arith, n, is));
      disk_fault = λ is. absurd (omega (arith, n, is));
      damaged = λ is. absurd (omega (arith, n, is));
      refused = λ is. absurd (omega (arith, n, is));
      wrong_words = λ place wrong. absurd (transfer_has_no_fault words place (any Put so.0) wrong);
      more_bytes = λ put text is long. inr (inl n);
      wrong_disks = λ it fault wrong. inr (inl n);
    }
    stop_causes TooLong so n = record {
      known = omega (arith, n);
      done = λ is. absurd (omega (arith, n, is));
      too_long = λ is. (so.0, so.1);
      words_fault = λ is. absurd (omega (arith, n, is));
      read = λ is. absurd (omega (arith, n, is));
      unwritten = λ is. absurd (omega (arith, n, is));
      disk_fault = λ is. absurd (omega (arith, n, is));
      damaged = λ is. absurd (omega (arith, n, is));
      refused = λ is. absurd (omega (arith, n, is));
      wrong_words = λ place wrong. absurd (transfer_has_no_fault words place (any Put so.0) wrong);
      more_bytes = λ put text is long. inl n;
      wrong_disks = λ it fault wrong. inl n;
    }
    stop_causes (Store (store.Disk name)) so n =
        store_causes (store.Disk name) so.0 (omega (arith, n)) (omega (arith, n)) (λ is. disk_rose see before after name so.1) (λ is. absurd (omega (arith, n, is)))
    stop_causes (Store (store.Damaged name offset)) so n =
        store_causes (store.Damaged name offset) so.0 (omega (arith, n)) (omega (arith, n)) (λ is. absurd (omega (arith, n, is))) (λ is. (store.Damaged name offset, refl, so.1))
    stop_causes (Store (store.Nodes recorded given)) so n =
        store_causes (store.Nodes recorded given) so.0 (omega (arith, n)) (omega (arith, n)) (λ is. absurd (omega (arith, n, is))) (λ is. (store.Nodes recorded given, refl, so.1))
    stop_causes (Store (store.Ids next seen)) so n =
        store_causes (store.Ids next seen) so.0 (omega (arith, n)) (omega (arith, n)) (λ is. absurd (omega (arith, n, is))) (λ is. (store.Ids next seen, refl, so.1))
    stop_causes (Store store.OutOfMemory) so n =
        store_causes store.OutOfMemory so.0 (omega (arith, n)) (omega (arith, n)) (λ is. absurd (omega (arith, n, is))) (λ is. absurd (omega (arith, n, is)))
    stop_causes OutOfMemory so n = record {
      known = omega (arith, n);
      done = λ is. absurd (omega (arith, n, is));
      too_long = λ is. absurd (omega (arith, n, is));
      words_fault = λ is. absurd (omega (arith, n, is));
      read = λ is. absurd (omega (arith, n, is));
      unwritten = λ is. absurd (omega (arith, n, is));
      disk_fault = λ is. absurd (omega (arith, n, is));
      damaged = λ is. absurd (omega (arith, n, is));
      refused = λ is. absurd (omega (arith, n, is));
      wrong_words = λ place wrong. inr n;
      more_bytes = λ put text is long. inr (inr n);
      wrong_disks = λ it fault wrong. inr (inr (inr (inr n)));
    }

    -- the transfer came to its work
    module _ (worked : HasWorked see words before after source out) where
      work_causes : number ≤ 8 → (number ≡ 4 → IsTransferOf Get words × out.rose) → (number ≡ 5 → ADiskRose see before after) → (number ≡ 1 → ⊥) → (number ≡ 2 → ⊥) → (number ≡ 3 → ⊥) → (number ≡ 6 → ⊥) → Why
      work_causes known sink disk no_length no_words no_read no_damage = record {
        known = known;
        done = λ is. worked;
        too_long = λ is. absurd (no_length is);
        words_fault = λ is. absurd (no_words is);
        read = λ is. absurd (no_read is);
        unwritten = λ is. (worked, (sink is).0, (sink is).1);
        disk_fault = λ is. (worked.begun, disk is);
        damaged = λ is. absurd (no_damage is);
        refused = λ is. worked;
        wrong_words = λ place wrong. absurd (transfer_has_no_fault words place (any worked.begun.way worked.begun.words_are) wrong);
        more_bytes = λ put text is long. absurd (not_too_long words source.before source.after worked.begun put text is long);
        wrong_disks = λ it fault wrong. absurd (worked.right fault wrong);
      }

      cut_off : (size : ℕ) (story : List Event) (key : List ℕ) (any_halted : Bool) (errors : Stream) (way : Way) → IsTransferOf way words → IsCutOff size key story any_halted out errors way → IsTransferOf Get words × out.rose
      cut_off size story key any_halted errors Put its cut = absurd cut
      cut_off size story key any_halted errors Get its cut = (its, cut.3)

      pub ended_causes : (size : ℕ) (key : List ℕ) (story : List Event) (any_halted : Bool) (errors : Stream) (way : Way) → IsTransferOf way words → (outcome : Outcome) → number ≡ outcome_number outcome
          → EndsSo size key story any_halted out errors way outcome → (any_halted ≡ true → ADiskRose see before after) → Why
      ended_causes size key story any_halted errors way its ends.Done n so disk = work_causes (omega (arith, n)) (λ is. absurd (omega (arith, n, is))) (λ is. absurd (omega (arith, n, is))) (λ is. omega (arith, n, is)) (λ is. omega (arith, n, is)) (λ is. omega (arith, n, is)) (λ is. omega (arith, n, is))
      ended_causes size key story any_halted errors way its ends.TooLong n so disk = absurd so
      ended_causes size key story any_halted errors way its ends.Words n so disk = absurd so
      ended_causes size key story any_halted errors way its ends.Read n so disk = absurd so
      ended_causes size key story any_halted errors way its ends.Unwritten n so disk = work_causes (omega (arith, n)) (λ is. cut_off size story key any_halted errors way its so.0) (λ is. absurd (omega (arith, n, is))) (λ is. omega (arith, n, is)) (λ is. omega (arith, n, is)) (λ is. omega (arith, n, is)) (λ is. omega (arith, n, is))
      ended_causes size key story any_halted errors way its ends.Disk n so disk = work_causes (omega (arith, n)) (λ is. absurd (omega (arith, n, is))) (λ is. disk so.0) (λ is. omega (arith, n, is)) (λ is. omega (arith, n, is)) (λ is. omega (arith, n, is)) (λ is. omega (arith, n, is))
      ended_causes size key story any_halted errors way its ends.Damaged n so disk = absurd so
      ended_causes size key story any_halted errors way its ends.OutOfMemory n so disk = work_causes (omega (arith, n)) (λ is. absurd (omega (arith, n, is))) (λ is. absurd (omega (arith, n, is))) (λ is. omega (arith, n, is)) (λ is. omega (arith, n, is)) (λ is. omega (arith, n, is)) (λ is. omega (arith, n, is))
      ended_causes size key story any_halted errors way its ends.Refused n so disk = work_causes (omega (arith, n)) (λ is. absurd (omega (arith, n, is))) (λ is. absurd (omega (arith, n, is))) (λ is. omega (arith, n, is)) (λ is. omega (arith, n, is)) (λ is. omega (arith, n, is)) (λ is. omega (arith, n, is))

  named_disk : (any_halted : Bool) (story : List Event) → any_halted ≡ true → StatusNamesHalts (if any_halted then status.Disk else status.Done) story → (node : Node) × (halt_of node story ≢ None)
  named_disk any_halted story is named = halted_one (if any_halted then status.Disk else status.Done) story (ap (λ (b : Bool). if b then status.Disk else status.Done) is) named

  pub transfer_causes : {D : Type 0} (see : D → Seen)
      → ((begun disk : D) (faults first : ℕ) (stopped : Bool) (others : OtherDisks D) (loaded later : OtherNodes D) (story : List Event) (node : Node) → AreAsMany others loaded later
      → HaltsAreNamed (all_disks see (manager_disk faults first stopped (see begun) (see disk)) others loaded later) story → halt_of node story ≢ None
      → ItsCountRose (λ (d : D). (see d).faults) faults (see disk).faults loaded later node)
      → (words : List (List ℕ)) (before after : Disks D) (source out errors : Stream) (story : List Event) (number : ℕ)
      → TransferEnds see words before after source out errors story number
      → TransferCauses see words before after source out number
  transfer_causes see rises words before after source out errors story number ending = ⊎_elim
      (λ ended. stop_causes see words before after source out number ended.stop ended.so (ending.1 ∙ ap outcome_number ended.outcome_is))
      (λ run.
      let store = run.store in
      let over = store.over in
      let its : IsTransferOf run.way words = (run.path, length before.nodes.items, run.workers, run.asked) in
      let worked : HasWorked see words before after source out = record {
        begun = record { way = run.way; words_are = its; given = run.given; took = run.took };
        loads = loads_of (see before.manager).told over.bodies over.unseated over.loaded over.journal;
        right = nothing_is_wrong see one before over.bodies over.unseated over.loaded over.journal store.nodes.scm store.scm_loaded store.nodes.datanodes store.nodes_loaded store.fresh;
      } in
      ended_causes see words before after source out number worked (length run.given) _ story run.any_halted errors run.way its ending.0 ending.1 run.ends
      (λ is.
      let it = named_disk run.any_halted story is run.named in
      node_rose see before after _ run.any_halted story run.is_done store it.0
      (rises before.manager after.manager over.faults over.first store.stopped (others_of before) store.nodes store.left story it.0 over.many run.halted it.1)))
      ending.2
