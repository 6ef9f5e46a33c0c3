-- A further Delete takes what nothing reaches that is left.
use Rattle.std.proofs.Common.{◌≡◌, ⊎_elim, ℕ, suc, ◌==◌, Bool, true, false, ◌&&◌, List, [], ◌∷◌, filter, Contains, cond, refl, sym, ◌∙◌, ap, subst, arith}
use Rattle.std.proofs.lemmas.Bool.{eq-eqb}
use Rattle.std.specs.List.{list_any}
use Rattle.oz_dellog.specs.declared.txn.Txn.{Txn}
use Rattle.oz_fields.specs.declared.block.Block.{Block}
use Rattle.oz_script.specs.declared.lines.script.Script.{Script}
use Rattle.oz_model.specs.Reach.{IsReached}
use Rattle.oz_core.specs.declared.event.Event.{Event}
use Rattle.oz_core.specs.declared.event.EventKind.{EventKind}
use Rattle.oz_core.specs.declared.event.EventKind.TheVariants.{Halt, Delete}
use Rattle.oz_core.specs.declared.event.Node.TheVariants.{Datanode}
use Rattle.oz_core.specs.declared.opening.Opening.{Opening}
use Rattle.oz_core.specs.Coherent.{IsCoherent}
use Rattle.oz_core.specs.Contents.{OpeningBytes}
use Rattle.oz_core.specs.Law.{IsLegal, KindIsEnabled, DeleteIsEnabled}
use Rattle.oz_core.specs.Nodes.{holds}
use Rattle.oz_core.specs.Scm.{logs, names_block}
use Rattle.oz_kept.specs.laws.Reached.{in_none}
use Rattle.oz_kept.specs.laws.Deleted.{first_or_later, one_passes}
use Rattle.oz_kept.specs.reopened.laws.Logged.{is_going, going_away}
use Rattle.oz_halted.specs.halting.laws.OneLog.{log_grows}
use Rattle.oz_halted.specs.Further.{HasOneMore, MayBeLeftByAll, IsOfLog}

pub of_filtered : {A : Type 0} (p : A → Bool) (l : List A) (x : A) → Contains (filter p l) x → Contains l x
of_filtered p [] x among = absurd (in_none x among)
of_filtered {A} p (first ∷ l) x among = by (p first) among (of_filtered p l x)
  where
    behind : Contains l x → Contains (first ∷ l) x
    behind later = (suc later.0, omega (arith, later.1), later.2)

    by : (t : Bool) → Contains (cond t (first ∷ filter p l) (filter p l)) x → (Contains (filter p l) x → Contains l x) → Contains (first ∷ l) x
    by true among rest = ⊎_elim (λ same. (0, omega arith, same)) (λ later. behind (rest later)) (first_or_later first x (filter p l) among)
    by false among rest = behind (rest among)

pub names_it : (txn : Txn) (local : ℕ) → Contains txn.locals local → names_block (record { container = txn.container; local = local }) txn ≡ true
names_it txn local among =
    ap (λ (t : Bool). t && list_any (λ other. other == local) txn.locals) (eq-eqb txn.container txn.container refl)
    ∙ one_passes (λ other. other == local) txn.locals local among (eq-eqb local local refl)

module _ (opening : Opening) (bytes : OpeningBytes) (script : Script) (story : List Event) (most : ℕ) (left : Opening) (given : OpeningBytes) (coherent : IsCoherent opening bytes) (legal : IsLegal opening story)
    (is : MayBeLeftByAll opening bytes script story most left given) where
  logged_away : (txn : Txn) (local : ℕ) → Contains (logs opening story) txn → Contains txn.locals local → IsReached left.namespace (record { container = txn.container; local = local }) → ⊥
  logged_away txn local there among reached =
      let block : Block = record { container = txn.container; local = local } in
      let going = is_going opening story block legal (one_passes (names_block block) (logs opening story) txn there (names_it txn local among)) in
      going_away opening story most left block legal coherent.log is.manager is.within.stable going reached

  pub delete_takes : (dn number local : ℕ) (locals : List ℕ) (longer : List Event) (more : HasOneMore opening bytes script (Datanode dn) story longer) → more.further ≡ Delete dn number locals → Contains locals local
      → IsOfLog opening story left number local
  delete_takes dn number local locals longer more is_delete among =
      let enabled : DeleteIsEnabled opening more.before more.seat dn number locals = subst (λ (kind : EventKind). KindIsEnabled opening more.before more.seat kind) is_delete more.enabled in
      let halt : Event = record { seat = more.seat; kind = Halt (Datanode dn) more.count } in
      let there : Contains (logs opening story) enabled.txn = subst (λ (l : List Event). Contains (logs opening l) enabled.txn) (sym more.halted) (log_grows opening more.before (halt ∷ more.behind) enabled.txn enabled.logged) in
      let its : Contains enabled.txn.locals local = of_filtered (λ local. holds opening more.before dn (record { container = enabled.txn.container; local = local })) enabled.txn.locals local (subst (λ (l : List ℕ). Contains l local) enabled.held among) in
      record {
        txn = enabled.txn;
        there = there;
        of_number = enabled.of_number;
        names = its;
        unreached = logged_away enabled.txn local there its;
      }
