-- What is left of a block that wasn't put, once its chunks are abandoned.
use Rattle.std.proofs.Common.{◌≡◌, ◌⊎◌, inl, inr, ℕ, Bool, true, false, not, ◌&&◌, List, Option, Some, IsSome, Err, IfSome, refl, sym, ap, ◌∙◌, subst}
use Rattle.std.proofs.lemmas.Bool.{false≢true}
use Rattle.oz_datanode.specs.Datanode.{State, is_halted, node_in, meta_of, slots_of, stop_of}
use Rattle.oz_datanode.specs.Pairs.{Content, HaveAll, NodeHolds}
use Rattle.oz_datanode.specs.declared.refusal.NodeRefusal.{NodeRefusal}
use Rattle.oz_datanode.specs.declared.refusal.NodeRefusal.TheVariants as refusals
use Rattle.oz_datanode.specs.laws.GoingOn.{go_on_then}
use Rattle.oz_fields.specs.declared.block.Block.{Block}
use Rattle.oz_world.specs.Disk.{Images}
use Rattle.oz_replicas.specs.Nodes.{PutGoes, WriteGoes, unput_of}
use Rattle.oz_replicas.specs.Outcomes.{Halts}
use Rattle.oz_replicas.specs.Stays.{Stays}
use Rattle.oz_replicas.proofs.Staying.{runs_parts, runs_from, stays_on, read_still}

-- it ran and doesn't any more
abbrev pub stopped_then : Bool → Bool → Bool
stopped_then before after = not before && after

none_stopped : (before after : Bool) → after ≡ before → (not before && after) ≡ false
none_stopped true after same = refl
none_stopped false after same = same

has_stopped : (before after : Bool) → before ≡ false → after ≡ true → (not before && after) ≡ true
has_stopped true after ran halted = absurd (false≢true (sym ran))
has_stopped false after ran halted = halted

module _ {D : Type 0} (told : D → Option (List ℕ)) (clock : D → ℕ) (image : D → Images) (faults : D → ℕ) (block : Block) (bytes : List ℕ) where
  halts_or_not : (T : Type 0) (count : ℕ) (old before mid new : State D) → Stays told clock image faults old before → Stays told clock image faults mid new → ((stop_of faults before ≡ Some count) × (mid ≡ before)) ⊎ Halts told clock image faults block bytes before mid count
      → WriteGoes {T = T} told clock image faults block bytes old new (Err (unput_of (not (is_halted old) && is_halted new) (refusals.Stopped count)))
  halts_or_not T count old before mid new first last (inl was) =
      let same : is_halted new ≡ is_halted old = last.halted ∙ (ap (λ (n : State D). is_halted n) was.1 ∙ first.halted) in
      let rest : Stays told clock image faults before new = subst (λ (n : State D). Stays told clock image faults n new) was.1 last in
      subst (λ (b : Bool). WriteGoes {T = T} told clock image faults block bytes old new (Err (unput_of b (refusals.Stopped count)))) (sym (none_stopped (is_halted old) (is_halted new) same)) (before, (first, was.0, rest))
  halts_or_not T count old before mid new first last (inr halts) =
      let ran : is_halted old ≡ false = sym first.halted ∙ (runs_parts faults before halts.ran).0 in
      let halted : is_halted new ≡ true = last.halted ∙ halts.halted in
      subst (λ (b : Bool). WriteGoes {T = T} told clock image faults block bytes old new (Err (unput_of b (refusals.Stopped count)))) (sym (has_stopped (is_halted old) (is_halted new) ran halted)) (before, (mid, (first, halts, last)))

  pub gave_up : (T S : Type 0) (refusal : NodeRefusal) (old mid new : State D) → PutGoes {T = T} told clock image faults block bytes old mid (Err refusal) → Stays told clock image faults mid new → told (slots_of new) ≡ told (slots_of mid)
      → (is_halted new ≡ false → (contents : Block → Content) → (IsSome (told (meta_of new)) → IfSome (told (slots_of new)) (HaveAll contents (node_in new))) → NodeHolds told clock image faults contents new)
      → WriteGoes {T = S} told clock image faults block bytes old new (Err (unput_of (not (is_halted old) && is_halted new) refusal))
  gave_up T S (refusals.Stopped count) old mid new goes last slots at_rest = halts_or_not S count old goes.0 mid new goes.1.0 last goes.1.1
  gave_up T S (refusals.Full used asked capacity) old mid new goes last slots at_rest =
      (goes.0, (goes.1.0, goes.1.1.0, subst (λ (n : State D). Stays told clock image faults n new) goes.1.1.1 last))
  gave_up T S (refusals.NotOpen state) old mid new goes last slots at_rest =
      (goes.0, (goes.1.0, goes.1.1.0, subst (λ (n : State D). Stays told clock image faults n new) goes.1.1.1 last))
  gave_up T S refusals.NoBlock old mid new goes last slots at_rest = absurd goes.1.1
  gave_up T S (refusals.Bad kept found) old mid new goes last slots at_rest = absurd goes.1.1
  gave_up T S refusals.OutOfMemory old mid new goes last slots at_rest = stays_on told clock image faults old goes.0 new goes.1.0 (elim goes.1.1 [
    | inl same ↦ subst (λ (n : State D). Stays told clock image faults n new) same last
    | inr lacks ↦
        let ran = runs_parts faults goes.0 lacks.0 in
        let whole : is_halted new ≡ false = last.halted ∙ (lacks.1.halted ∙ ran.0) in
        let on : new.stopped ≡ false = last.line ∙ (lacks.1.line ∙ ran.1) in record {
          id = last.id ∙ lacks.1.id;
          node = last.node ∙ lacks.1.node;
          journal = last.journal ∙ lacks.1.journal;
          halted = last.halted ∙ lacks.1.halted;
          line = last.line ∙ lacks.1.line;
          stop = runs_from faults new whole on ∙ sym lacks.0;
          holds = λ contents holding. at_rest whole contents (read_still told clock image faults contents goes.0 new (last.node ∙ lacks.1.node) (last.journal ∙ lacks.1.journal) (slots ∙ lacks.1.slots) holding);
          goes_on = go_on_then told faults goes.0 mid new lacks.2 last.goes_on;
        }
  ])
