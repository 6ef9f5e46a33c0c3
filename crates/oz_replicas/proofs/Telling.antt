-- What the notes of one datanode come to.
use Rattle.std.proofs.Common.{◌≡◌, inl, inr, ℕ, List, [], ◌∷◌, length, Contains, Option, None, Some, refl, sym, ap, ◌∙◌, subst}
use Rattle.oz_core.specs.declared.event.PutRefusal.{PutRefusal}
use Rattle.oz_core.specs.declared.event.PutRefusal.TheVariants as refusals
use Rattle.oz_datanode.specs.Datanode.{State, stop_of}
use Rattle.oz_fields.specs.declared.block.Block.{Block}
use Rattle.oz_world.specs.Disk.{Images}
use Rattle.oz_replicas.specs.Notes.{Subject, IsMember, IsPiece, Leads, Goes}
use Rattle.oz_replicas.specs.Outcomes.{HasAlready, IsPut, IsReason, Halts, FindsBad}
use Rattle.oz_replicas.specs.Reading.{IsLost}
use Rattle.oz_replicas.specs.Stays.{Stays}
use Rattle.oz_replicas.specs.Writing.{Answers}
use Rattle.oz_replicas.specs.declared.note.Note.{Note}
use Rattle.oz_replicas.specs.declared.note.Note.TheVariants as notes
use Rattle.oz_replicas.proofs.Staying.{stays_itself, halted_stop}

module _ {D : Type 0} (told : D → Option (List ℕ)) (clock : D → ℕ) (image : D → Images) (faults : D → ℕ) (subject : Subject) where
  pub leads_put : (dn : ℕ) (block : Block) (size : ℕ) (bytes : List ℕ) (before new : State D) → subject.block ≡ block → subject.bytes ≡ bytes → IsMember subject dn before → size ≡ length bytes → IsPiece bytes → IsPut told clock image faults block bytes before new → Leads told clock image faults subject (notes.Put dn block size) before new
  leads_put dn block size bytes before new own its member whole piece put =
      (member, sym own, whole ∙ sym (ap (λ (l : List ℕ). length l) its), subst IsPiece (sym its) piece, subst (λ (b : Block). IsPut told clock image faults b subject.bytes before new) (sym own) (subst (λ (l : List ℕ). IsPut told clock image faults block l before new) (sym its) put))

  pub leads_refused : (dn : ℕ) (block : Block) (bytes : List ℕ) (refusal : PutRefusal) (node : State D) → subject.block ≡ block → subject.bytes ≡ bytes → IsMember subject dn node → IsReason faults block bytes node refusal → Leads told clock image faults subject (notes.Refused dn block refusal) node node
  leads_refused dn block bytes refusal node own its member reason =
      (member, sym own, subst (λ (b : Block). IsReason faults b subject.bytes node refusal) (sym own) (subst (λ (l : List ℕ). IsReason faults block l node refusal) (sym its) reason), refl)

  pub leads_stopped : (dn : ℕ) (block : Block) (count : ℕ) (node : State D) → subject.block ≡ block → IsMember subject dn node → stop_of faults node ≡ Some count → Leads told clock image faults subject (notes.Refused dn block (refusals.Stopped count)) node node
  leads_stopped dn block count node own member stop = (member, sym own, stop, refl)

  pub leads_halt : (dn : ℕ) (block : Block) (bytes : List ℕ) (count : ℕ) (before after : State D) → subject.block ≡ block → subject.bytes ≡ bytes → IsMember subject dn before → Halts told clock image faults block bytes before after count → Leads told clock image faults subject (notes.Halt dn count) before after
  leads_halt dn block bytes count before after own its member halts =
      (member, subst (λ (b : Block). Halts told clock image faults b subject.bytes before after count) (sym own) (subst (λ (l : List ℕ). Halts told clock image faults block l before after count) (sym its) halts))

  pub leads_bad : (dn : ℕ) (block : Block) (old new : State D) → subject.block ≡ block → IsMember subject dn old → FindsBad told clock image faults block old new → Leads told clock image faults subject (notes.Bad dn block) old new
  leads_bad dn block old new own member bad = (member, sym own, subst (λ (b : Block). FindsBad told clock image faults b old new) (sym own) bad)

  -- a datanode is a member as long as its number stays
  pub member_still : (dn : ℕ) (old new : State D) → new.id ≡ old.id → IsMember subject dn old → IsMember subject dn new
  member_still dn old new same member = record { member = member.member; its = member.its ∙ sym same }

  pub goes_one : (note : Note) (old before after new : State D) → Stays told clock image faults old before → Leads told clock image faults subject note before after → Stays told clock image faults after new → Goes told clock image faults subject (note ∷ []) old new
  goes_one note old before after new first leads last = (before, (after, (first, leads, last)))

  pub goes_two : (one two : Note) (old before after new : State D) → Stays told clock image faults old before → Leads told clock image faults subject one before after → Leads told clock image faults subject two after after → Stays told clock image faults after new → Goes told clock image faults subject (one ∷ two ∷ []) old new
  goes_two one two old before after new first leads more last = (before, (after, (first, leads, (after, (after, (stays_itself told clock image faults after, more, last))))))

  pub none_already : (node : State D) → HasAlready faults subject.block node → Answers told clock image faults subject node node None []
  none_already node has = record {
    noted_so = inl refl;
    goes = stays_itself told clock image faults node;
    already = λ none. has;
  }

  pub put_answers : (dn : ℕ) (block : Block) (size : ℕ) (old before new : State D) → subject.block ≡ block → dn ≡ old.id → size ≡ length subject.bytes → Stays told clock image faults old before → Leads told clock image faults subject (notes.Put dn block size) before new → Answers told clock image faults subject old new None (notes.Put dn block size ∷ [])
  put_answers dn block size old before new its own whole first leads = record {
    noted_so = inr (same dn block size its own whole);
    goes = goes_one (notes.Put dn block size) old before new new first leads (stays_itself told clock image faults new);
    already = λ none. absurd (some none);
  } where
    same : (dn : ℕ) (block : Block) (size : ℕ) → subject.block ≡ block → dn ≡ old.id → size ≡ length subject.bytes → notes.Put dn block size ∷ [] ≡ notes.Put old.id subject.block (length subject.bytes) ∷ []
    same dn block size its own whole = cc

    some : notes.Put dn block size ∷ [] ≡ [] → ⊥
    some none = cc

  pub refused_answers : (dn : ℕ) (block : Block) (refusal : PutRefusal) (old before new : State D) → subject.block ≡ block → dn ≡ old.id → Stays told clock image faults old before → Leads told clock image faults subject (notes.Refused dn block refusal) before before → Stays told clock image faults before new → Answers told clock image faults subject old new (Some refusal) (notes.Refused dn block refusal ∷ [])
  refused_answers dn block refusal old before new its own first leads last = record {
    noted_so = inl (same dn block its own);
    goes = goes_one (notes.Refused dn block refusal) old before before new first leads last;
    already = λ none. absurd (some none);
  } where
    same : (dn : ℕ) (block : Block) → subject.block ≡ block → dn ≡ old.id → notes.Refused dn block refusal ∷ [] ≡ notes.Refused old.id subject.block refusal ∷ []
    same dn block its own = cc

    some : notes.Refused dn block refusal ∷ [] ≡ [] → ⊥
    some none = cc

  pub halt_answers : (dn : ℕ) (block : Block) (count : ℕ) (refusal : PutRefusal) (old before after new : State D) → subject.block ≡ block → dn ≡ old.id → refusal ≡ refusals.Stopped count → Stays told clock image faults old before → Leads told clock image faults subject (notes.Halt dn count) before after → Leads told clock image faults subject (notes.Refused dn block (refusals.Stopped count)) after after → Stays told clock image faults after new
      → Answers told clock image faults subject old new (Some refusal) (notes.Halt dn count ∷ notes.Refused dn block (refusals.Stopped count) ∷ [])
  halt_answers dn block count refusal old before after new its own is first leads more last = record {
    noted_so = inr (count, is, same dn block its own refusal is);
    goes = goes_two (notes.Halt dn count) (notes.Refused dn block (refusals.Stopped count)) old before after new first leads more last;
    already = λ none. absurd (some none);
  } where
    same : (dn : ℕ) (block : Block) → subject.block ≡ block → dn ≡ old.id → (refusal : PutRefusal) → refusal ≡ refusals.Stopped count → notes.Halt dn count ∷ notes.Refused dn block (refusals.Stopped count) ∷ [] ≡ notes.Halt old.id count ∷ notes.Refused old.id subject.block refusal ∷ []
    same dn block its own refusal is = cc

    some : notes.Halt dn count ∷ notes.Refused dn block (refusals.Stopped count) ∷ [] ≡ [] → ⊥
    some none = cc

  pub member_of : (dn : ℕ) (node : State D) → dn ≡ node.id → Contains subject.members node.id → IsMember subject dn node
  member_of dn node own there = record { member = subst (λ (n : ℕ). Contains subject.members n) (sym own) there; its = own }

  -- where a datanode's disk failed it is stopped with its count
  pub leads_stop_after : (dn : ℕ) (block : Block) (bytes : List ℕ) (count : ℕ) (before after : State D) → subject.block ≡ block → IsMember subject dn before → Halts told clock image faults block bytes before after count → Leads told clock image faults subject (notes.Refused dn block (refusals.Stopped count)) after after
  leads_stop_after dn block bytes count before after own member halts =
      leads_stopped dn block count after own (member_still dn before after halts.id member) (halted_stop faults after halts.halted ∙ sym (ap (λ (n : ℕ). Some n) halts.counted))

  -- ---- reading

  pub bad_lost : (dn : ℕ) (block : Block) (size : ℕ) (old new : State D) → subject.block ≡ block → dn ≡ old.id → IsLost told faults subject size old new (notes.Bad dn block ∷ [])
  bad_lost dn block size old new its own = inr (inl (same dn block its own))
    where
      same : (dn : ℕ) (block : Block) → subject.block ≡ block → dn ≡ old.id → notes.Bad dn block ∷ [] ≡ notes.Bad old.id subject.block ∷ []
      same dn block its own = cc

  pub stopped_lost : (dn : ℕ) (block : Block) (count size : ℕ) (old new : State D) → subject.block ≡ block → dn ≡ old.id → IsLost told faults subject size old new (notes.Refused dn block (refusals.Stopped count) ∷ [])
  stopped_lost dn block count size old new its own = inr (inr (inl (count, same dn block its own)))
    where
      same : (dn : ℕ) (block : Block) → subject.block ≡ block → dn ≡ old.id → notes.Refused dn block (refusals.Stopped count) ∷ [] ≡ notes.Refused old.id subject.block (refusals.Stopped count) ∷ []
      same dn block its own = cc

  pub halt_lost : (dn : ℕ) (block : Block) (count size : ℕ) (old new : State D) → subject.block ≡ block → dn ≡ old.id → IsLost told faults subject size old new (notes.Halt dn count ∷ notes.Refused dn block (refusals.Stopped count) ∷ [])
  halt_lost dn block count size old new its own = inr (inr (inr (count, same dn block its own)))
    where
      same : (dn : ℕ) (block : Block) → subject.block ≡ block → dn ≡ old.id → notes.Halt dn count ∷ notes.Refused dn block (refusals.Stopped count) ∷ [] ≡ notes.Halt old.id count ∷ notes.Refused old.id subject.block (refusals.Stopped count) ∷ []
      same dn block its own = cc
