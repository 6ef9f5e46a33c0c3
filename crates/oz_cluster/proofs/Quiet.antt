-- A run that nothing disturbs, and an empty disk.
use Rattle.std.proofs.Common.{◌≡◌, ◌⊎◌, ⊎_elim, inl, inr, ℕ, zero, suc, ◌≤◌, true, false, List, [], length, Option, Some, IfSome, refl, sym, ◌∙◌, ap, subst, arith}
use Rattle.std.proofs.lemmas.Bool.{false≢true}
use Rattle.oz_cluster.specs.Disks.{ADiskRose}
use Rattle.oz_cluster.specs.StatusCauses.{StatusCauses, StoreLoads}
use Rattle.oz_cluster.specs.Stopped.{IsScript, status_of_store}
use Rattle.oz_cluster.proofs.NoRows.{no_rows_are_sound}
use Rattle.oz_cluster.proofs.Causes.{no_script_and_fault}
use Rattle.oz_core.specs.Contents.{OpeningBytes}
use Rattle.oz_datanode.specs.declared.disks.NodeDisks.{NodeDisks}
use Rattle.oz_running.specs.declared.disk_run.disks.Disks.{Disks}
use Rattle.oz_running.specs.disk_run.Refused.{ManagerIsRefused, ManagerIsSo, NodesAreRefused, store_fault_of}
use Rattle.oz_effects.specs.Build.{Builds, BuildsFrom, no_head}
use Rattle.oz_running.specs.status.Status.TheVariants as ends
use Rattle.oz_journal.specs.declared.load_fault.LoadFault.{LoadFault}
use Rattle.oz_journal.specs.declared.load_fault.LoadFault.TheVariants as load
use Rattle.oz_journal.specs.Grammar.{IsJournal}
use Rattle.oz_loaded.specs.Counted.{IsGreatestId}
use Rattle.oz_loaded.specs.Loads.{IsDamagedDisk, IsLoaded}
use Rattle.oz_loaded.specs.Unseated.{UnseatedView}
use Rattle.oz_namespace.specs.Namespace.{nothing}
use Rattle.oz_running.specs.fault.StoreFault.{StoreFault}
use Rattle.oz_running.specs.fault.StoreFault.TheVariants as store
use Rattle.oz_running.specs.AllLoad.{AllLoad, is_of_bytes}
use Rattle.oz_running.specs.Refused.{IsSo}
use Rattle.oz_rows.specs.declared.entry.RowEntry.{RowEntry}
use Rattle.oz_rows.specs.RowMaps.{row_of}
use Rattle.oz_sound.specs.Sound.{IsSound}
use Rattle.oz_sound.specs.StandsFor.{StandsFor}
use Rattle.oz_store.specs.Store.{IsStore, empty_store}
use Rattle.oz_command.specs.command_line.Words.{IsRun, IsFirstFault}
use Rattle.oz_world.specs.Disk.{Seen}

-- ids of the same rows
no_greater : (all : List RowEntry) (id other : ℕ) → IsGreatestId (row_of all) id → IsGreatestId (row_of all) other → id ≤ other
no_greater all id other its that = ⊎_elim (λ none. omega (arith, none)) (λ row. that.none_above row.0 row.1 id row.2 row.3) its.reached

is_bytes : (fault : StoreFault) → status_of_store fault ≡ ends.Damaged → is_of_bytes fault ≡ true
is_bytes (store.Disk name) is = absurd (cc is)
is_bytes (store.Damaged name offset) is = refl
is_bytes (store.Nodes recorded given) is = refl
is_bytes (store.Ids next seen) is = refl
is_bytes store.OutOfMemory is = absurd (cc is)

at_some : {A : Type 0} (o : Option A) (x : A) (P : A → Type 0) → o ≡ Some x → IfSome o P → P x
at_some o x P is may = subst (λ (o : Option _). IfSome o P) is may

module _ {D : Type 0} (see : D → Seen)
    (one : (bytes : List ℕ) (bodies others : List (List ℕ)) (unseated other : UnseatedView) → IsJournal bytes bodies → (this : IsLoaded bodies unseated) → IsJournal bytes others → (that : IsLoaded others other)
    → (this.all ≡ that.all) × (unseated.last_index ≡ other.last_index))
    (not_both : (bytes : List ℕ) (bodies : List (List ℕ)) (unseated : UnseatedView) (offset : ℕ) → IsJournal bytes bodies → IsLoaded bodies unseated → IsDamagedDisk bytes offset → ⊥)
    (not_refused : (greatest : ℕ) (scm : D) (nodes : List (NodeDisks D)) (scm_left : D) (nodes_left : List (NodeDisks D)) (fault : StoreFault) → AllLoad see greatest scm nodes
    → IsSo see greatest scm nodes scm_left nodes_left fault → is_of_bytes fault ≡ false)
    (before after : Disks D) (loads : StoreLoads see before) where
  -- disks that load aren't refused for what they have
  by_manager : (fault : StoreFault) → status_of_store fault ≡ ends.Damaged → ManagerIsRefused see before after fault → ⊥
  by_manager fault is refused = by refused.why refused.so refused.named
    where
      by : (why : LoadFault) → ManagerIsSo (see before.manager) (see after.manager) why → fault ≡ store_fault_of why → ⊥
      by load.Disk so named = cc (sym is ∙ ap status_of_store named)
      by (load.Damaged offset) so named =
          not_both loads.bytes loads.bodies loads.unseated offset loads.journal loads.manager (at_some (see before.manager).told loads.bytes (λ bytes. IsDamagedDisk bytes offset) loads.told so)
      by load.OutOfMemory so named = cc (sym is ∙ ap status_of_store named)

  by_nodes : (fault : StoreFault) → status_of_store fault ≡ ends.Damaged → NodesAreRefused see before after fault → ⊥
  by_nodes fault is refused =
      let its = refused.manager in
      let journal = at_some (see before.manager).told loads.bytes (λ bytes. IsJournal bytes its.bodies) loads.told its.journal in
      let rows : its.loaded.all ≡ loads.manager.all = (one loads.bytes its.bodies loads.bodies its.unseated loads.unseated journal its.loaded loads.journal loads.manager).0 in
      let their : IsGreatestId (row_of loads.manager.all) its.unseated.greatest_id = subst (λ (l : List RowEntry). IsGreatestId (row_of l) its.unseated.greatest_id) rows its.loaded.greatest_id in
      let least = no_greater loads.manager.all its.unseated.greatest_id loads.unseated.greatest_id their loads.manager.greatest_id in
      let most = no_greater loads.manager.all loads.unseated.greatest_id its.unseated.greatest_id loads.manager.greatest_id their in
      let same : refused.greatest ≡ loads.unseated.greatest_id = its.are ∙ omega (arith, least, most) in
      let so = subst (λ (n : ℕ). IsSo see n before.scm before.nodes.items after.scm after.nodes.items fault) same refused.so in
      false≢true (sym (not_refused loads.unseated.greatest_id before.scm before.nodes.items after.scm after.nodes.items fault loads.nodes so) ∙ is_bytes fault is)

  pub quiet_is_done : ((words : List (List ℕ)) (place : ℕ) → IsRun words → IsFirstFault words place → ⊥)
      → (words : List (List ℕ)) (text : List ℕ) (source_rose sink_rose : Type 0) (status : ℕ) → StatusCauses see words (Some text) before after source_rose sink_rose status
      → IsRun words → IsScript (Some text) → (source_rose → ⊥) → (sink_rose → ⊥) → (ADiskRose see before after → ⊥) → (status ≡ 0) ⊎ (status ≡ 7)
  quiet_is_done no_fault words text source_rose sink_rose status causes run script source sink failed = by status refl
    where
      by : (n : ℕ) → status ≡ n → (status ≡ 0) ⊎ (status ≡ 7)
      by zero is = inl is
      by (suc zero) is = let wrong = (causes.script is).1 in absurd (no_script_and_fault text wrong.0 wrong.1 (Some text) refl wrong.2 script)
      by (suc (suc zero)) is = let wrong = causes.words_fault is in absurd (no_fault words wrong.0 run wrong.1)
      by (suc (suc (suc zero))) is = absurd (source (causes.read is).1)
      by (suc (suc (suc (suc zero)))) is = absurd (sink (causes.unwritten is).1)
      by (suc (suc (suc (suc (suc zero))))) is = absurd (failed (causes.disk_fault is).2)
      by (suc (suc (suc (suc (suc (suc zero)))))) is = let wrong = (causes.damaged is).2 in absurd (⊎_elim (by_manager wrong.0 wrong.1) (by_nodes wrong.0 wrong.1) wrong.2)
      by (suc (suc (suc (suc (suc (suc (suc zero))))))) is = inr is
      by (suc (suc (suc (suc (suc (suc (suc (suc n)))))))) is = let known = causes.known in absurd (omega (arith, known, is))

-- a disk of at most one byte makes no rows
pub empty_opens : ((bodies : List (List ℕ)) (all other : List RowEntry) (index last : ℕ) → Builds bodies all index → Builds bodies other last → (all ≡ other) × (index ≡ last))
    → {bytes_are : OpeningBytes} → IsStore (row_of []) empty_store bytes_are
    → (bytes : List ℕ) (bodies : List (List ℕ)) (unseated : UnseatedView) → length bytes ≤ 1 → IsJournal bytes bodies → (this : IsLoaded bodies unseated)
    → StandsFor (row_of this.all) nothing × IsSound (row_of this.all) × (unseated.last_index ≡ 0)
unfolding BuildsFrom
empty_opens one_table store bytes bodies unseated short journal this =
    let none : bodies ≡ [] = ⊎_elim (λ few. few.1) (λ many. absurd (omega (arith, many.0, short))) journal in
    let builds : Builds bodies [] 0 = subst (λ (l : List (List ℕ)). Builds l [] 0) (sym none) (no_head, (refl, refl), refl) in
    let same = one_table bodies this.all [] unseated.last_index 0 this.builds builds in (
      subst (λ (l : List RowEntry). StandsFor (row_of l) nothing) (sym same.0) store.stands,
      subst (λ (l : List RowEntry). IsSound (row_of l)) (sym same.0) (no_rows_are_sound store.sound),
      same.1,
    )
