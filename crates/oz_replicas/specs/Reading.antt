-- What reading a piece from the members of its block comes to.
use Rattle.std.specs.Prelude.{◌≡◌, ◌⊎◌, ℕ, ◌<◌, List, [], ◌∷◌, length, take, Option, None, Some}
use Rattle.oz_core.specs.declared.event.PutRefusal.TheVariants as refusals
use Rattle.oz_datanode.specs.Datanode.{State}
use Rattle.oz_datanode.specs.Unverified.{AreAsKept, joined}
use Rattle.oz_datanode.specs.declared.unverified.Unverified.{Unverified}
use Rattle.oz_replicas.specs.Notes.{Subject, Goes}
use Rattle.oz_replicas.specs.Outcomes.{Gives, HasOther, IsAbsent}
use Rattle.oz_replicas.specs.declared.note.Note.{Note}
use Rattle.oz_replicas.specs.declared.note.Note.TheVariants as notes
use Rattle.oz_world.specs.Disk.{Images}

-- why a datanode doesn't give so many bytes of a block: it hasn't the block, or not in this length, and nothing is noted;
-- a chunk isn't sound; it is stopped; or a disk failed
abbrev pub IsLost : {D : Type 0} → (D → Option (List ℕ)) → (D → ℕ) → Subject → ℕ → State D → State D → List Note → Type 0
IsLost told faults subject size old new said =
    ((said ≡ []) × (IsAbsent faults subject.block old ⊎ HasOther told faults subject.block size old new))
    ⊎ ((said ≡ notes.Bad old.id subject.block ∷ [])
    ⊎ (((count : ℕ) × (said ≡ notes.Refused old.id subject.block (refusals.Stopped count) ∷ []))
    ⊎ ((count : ℕ) × (said ≡ notes.Halt old.id count ∷ notes.Refused old.id subject.block (refusals.Stopped count) ∷ []))))

-- A datanode gave these bytes, or none.
abbrev pub IsGiven : {D : Type 0} → (D → Option (List ℕ)) → (D → ℕ) → (D → Images) → (D → ℕ) → Subject → ℕ → State D
    → State D → Option (List ℕ) → List Note → Type 0
IsGiven told clock image faults subject size old new (Some bytes) said =
    (said ≡ []) × Gives told clock image faults subject.block size bytes old new
IsGiven told clock image faults subject size old new None said = IsLost told faults subject size old new said

-- What is given of chunks that were copied: their bytes, where each has the digest that is kept of it and they are so many.
-- Where none were copied none are given.
abbrev pub Opens : ℕ → Option (List Unverified) → Option (List ℕ) → Type 0
Opens size None given = given ≡ None
Opens size (Some chunks) given = (given ≡ Some (joined chunks)) × AreAsKept chunks × (length (joined chunks) ≡ size)

-- The member of this number gave them under its lock, and that was noted. The noter then knows all that is kept beside it.
pub record Gave {D K N : Type 0} (told : D → Option (List ℕ)) (clock : D → ℕ) (image : D → Images) (faults : D → ℕ)
    (stands : K → State D → Type 0) (noted : N → List Note → N → Type 0) (knows : N → K → Type 0) (subject : Subject) (size dn : ℕ)
    (given : Option (List ℕ)) (before after : N) : Type 0 where
  pub old : State D
  pub new : State D
  pub member : old.id ≡ dn
  pub kept : (value : K) × stands value old
  pub left : (value : K) × (stands value new × knows after value)
  pub said : List Note
  pub told_so : noted before said after
  pub goes : Goes told clock image faults subject said old new
  pub given_so : IsGiven told clock image faults subject size old new given said

-- The first of these members that gave bytes gave these. It is none where none did.
abbrev pub IsFirstGiven : {D K N : Type 0} → (D → Option (List ℕ)) → (D → ℕ) → (D → Images) → (D → ℕ)
    → (K → State D → Type 0) → (N → List Note → N → Type 0) → (N → K → Type 0) → Subject → ℕ → List ℕ → Option (List ℕ) → N → N → Type 0
IsFirstGiven told clock image faults stands noted knows subject size [] given before after = (given ≡ None) × (after ≡ before)
IsFirstGiven {D} {K} {N} told clock image faults stands noted knows subject size (dn ∷ members) given before after =
    ((bytes : List ℕ) × ((given ≡ Some bytes)
    × Gave told clock image faults stands noted knows subject size dn (Some bytes) before after))
    ⊎ ((next : N) × (Gave told clock image faults stands noted knows subject size dn None before next
    × IsFirstGiven told clock image faults stands noted knows subject size members given next after))

-- Some of the members gave none, and the next one's lock was let go with nothing noted for want of memory.
pub record ReadsShort {D K N : Type 0} (told : D → Option (List ℕ)) (clock : D → ℕ) (image : D → Images) (faults : D → ℕ)
    (stands : K → State D → Type 0) (noted : N → List Note → N → Type 0) (knows : N → K → Type 0) (subject : Subject) (size : ℕ)
    (members : List ℕ) (before after : N) : Type 0 where
  pub count : ℕ
  pub fewer : count < length members
  pub reached : N
  pub none_gave : IsFirstGiven told clock image faults stands noted knows subject size (take count members) None before reached
  pub none : noted reached [] after
