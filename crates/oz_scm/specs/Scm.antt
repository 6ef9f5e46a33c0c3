-- What is seen of the storage container manager, and what a disk stands for.
use Rattle.std.specs.Prelude.{◌≡◌, ◌⊎◌, ℕ, ◌+◌, Bool, List, [], ◌∷◌, Option, Some, None, Result, Ok, Err, slice_get}
use Rattle.oz_scm.specs.declared.grants.entry.Entry.TheVariants.{Nodes}
use Rattle.oz_scm.specs.grants.Build.{Makes, FailsAt}
use Rattle.oz_scm.specs.grants.Entries.{entry_bytes}
use Rattle.oz_scm.specs.grants.Made.{Made, begun}
use Rattle.oz_journal.specs.Grammar.{IsJournal, IsDamagedAt, places}
use Rattle.oz_scm.specs.declared.fault.ScmFault.{ScmFault}

-- the disk, whether a call on it has failed, what the entries make, and of each datanode whether it is up
pub record State (D : Type 0) : Type 0 where
  pub disk : D
  pub stopped : Bool
  pub made : Made
  pub up : List Bool

-- what bodies make for so many datanodes: without bodies, what there is before any grant
abbrev pub made_for : ℕ → Option Made → Made
made_for given None = begun given
made_for given (Some made) = made

-- Bytes from which this is loaded with so many datanodes: a journal whose bodies make it.
pub record StandsFor (given : ℕ) (bytes : List ℕ) (made : Made) : Type 0 where
  pub bodies : List (List ℕ)
  pub journal : IsJournal bytes bodies
  pub found : Option Made
  pub makes : Makes bodies found
  pub is : made ≡ made_for given found
  pub agrees : made.nodes ≡ given

-- a journal that names so many datanodes
pub record IsOfNodes (recorded : ℕ) (bytes : List ℕ) : Type 0 where
  pub bodies : List (List ℕ)
  pub journal : IsJournal bytes bodies
  pub made : Made
  pub makes : Makes bodies (Some made)
  pub names : made.nodes ≡ recorded

-- what a disk tells, if it does, is a journal whose bodies make this
abbrev pub Keeps : Option (List ℕ) → Made → Type 0
Keeps told made =
    (bytes : List ℕ) → told ≡ Some bytes → (bodies : List (List ℕ)) × IsJournal bytes bodies × Makes bodies (Some made)

-- one of these bodies of a journal is damaged, and its first bad field has this place on the disk
pub record IsFaultIn (bodies : List (List ℕ)) (offset : ℕ) : Type 0 where
  pub count : ℕ
  pub at : ℕ
  pub fails : FailsAt bodies count at
  pub begin : ℕ
  pub begins : slice_get (places 0 bodies) count ≡ Some begin
  pub place : offset ≡ begin + at

-- the bytes are no journal, or one of its bodies is damaged
abbrev pub IsDamagedDisk : List ℕ → ℕ → Type 0
IsDamagedDisk bytes offset =
    IsDamagedAt bytes offset ⊎ ((bodies : List (List ℕ)) × IsJournal bytes bodies × IsFaultIn bodies offset)

-- the bodies after a load: where there was none, the one that names so many datanodes
abbrev pub or_first : ℕ → List (List ℕ) → List (List ℕ)
or_first given [] = entry_bytes (Nodes given) ∷ []
or_first given (body ∷ bodies) = body ∷ bodies

-- whatever was loaded from the bytes before is loaded from those after
abbrev pub StandsStill : ℕ → List ℕ → List ℕ → Type 0
StandsStill given before after = (made : Made) → StandsFor given before made → StandsFor given after made

-- the disk after a load: that of the storage container manager, or the one that comes back
abbrev pub disk_after : {D : Type 0} → Result (State D) (D × ScmFault) → D
disk_after (Ok scm) = scm.disk
disk_after (Err refused) = refused.0
