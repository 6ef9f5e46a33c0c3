-- What is given of chunks that were copied.
use Rattle.std.proofs.Common.{◌≡◌, ◌⊎◌, inl, ℕ, List, [], length, Option, None, Some, refl, sym, subst}
use Rattle.oz_datanode.specs.Datanode.{State}
use Rattle.oz_datanode.specs.Unverified.{AreAsKept, joined}
use Rattle.oz_datanode.specs.declared.unverified.Unverified.{Unverified}
use Rattle.oz_fields.specs.declared.block.Block.{Block}
use Rattle.oz_world.specs.Disk.{Images}
use Rattle.oz_replicas.specs.Notes.{Subject}
use Rattle.oz_replicas.specs.Outcomes.{Gives, HasOther, IsAbsent}
use Rattle.oz_replicas.specs.Reading.{IsGiven, IsLost, Opens}
use Rattle.oz_replicas.specs.declared.note.Note.{Note}

module _ {D : Type 0} (told : D → Option (List ℕ)) (clock : D → ℕ) (image : D → Images) (faults : D → ℕ) (subject : Subject) (size : ℕ) (old new : State D) where
  pub none_opens : (said : List Note) (given : Option (List ℕ)) → given ≡ None → IsLost told faults subject size old new said → IsGiven told clock image faults subject size old new given said
  none_opens said given none lost = subst (λ (o : Option (List ℕ)). IsGiven told clock image faults subject size old new o said) (sym none) lost

  pub chunks_open : (block : Block) (chunks : List Unverified) (given : Option (List ℕ)) → subject.block ≡ block → (AreAsKept chunks → length (joined chunks) ≡ size → Gives told clock image faults block size (joined chunks) old new) → Opens size (Some chunks) given → IsGiven told clock image faults subject size old new given []
  chunks_open block chunks given own gives opens =
      subst (λ (o : Option (List ℕ)). IsGiven told clock image faults subject size old new o []) (sym opens.0)
      (refl, subst (λ (b : Block). Gives told clock image faults b size (joined chunks) old new) (sym own) (gives opens.1 opens.2))

  pub absent_lost : (block : Block) → subject.block ≡ block → IsAbsent faults block old ⊎ HasOther told faults block size old new → IsLost told faults subject size old new []
  absent_lost block own lost = inl (refl, subst (λ (b : Block). IsAbsent faults b old ⊎ HasOther told faults b size old new) (sym own) lost)
