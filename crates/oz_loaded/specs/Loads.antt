-- What a manager's disk has, and where it is damaged.
use Rattle.std.specs.Prelude.{◌≡◌, ◌⊎◌, ℕ, ◌+◌, List, Option, Some, Result, Ok, Err, IfSome, slice_get}
use Rattle.oz_effects.specs.Build.{Builds, FailsAt}
use Rattle.oz_journal.specs.declared.load_fault.LoadFault.{LoadFault}
use Rattle.oz_journal.specs.Grammar.{IsDamagedAt, IsJournal, TellsBodies, places}
use Rattle.oz_journal.specs.Journal.{State}
use Rattle.oz_rows.specs.declared.entry.RowEntry.{RowEntry}
use Rattle.oz_rows.specs.RowMaps.{KeysRise, row_of}
use Rattle.oz_loaded.specs.Counted.{IsGreatestId, left_in}
use Rattle.oz_loaded.specs.Parts.{AreParts}
use Rattle.oz_loaded.specs.Unseated.{UnseatedView}

-- the bodies make rows, and these are the rows in parts with what was counted of them
pub record IsLoaded (bodies : List (List ℕ)) (unseated : UnseatedView) : Type 0 where
  pub all : List RowEntry
  pub builds : Builds bodies all unseated.last_index
  pub in_order : KeysRise all
  pub parts : AreParts all unseated.last_index unseated.parts
  pub greatest_id : IsGreatestId (row_of all) unseated.greatest_id
  pub left : unseated.left ≡ left_in all

-- Bodies make what was loaded. Where the disk told its bytes they are a journal of these bodies, which it tells after
-- the load too.
abbrev pub Loads : Option (List ℕ) → Option (List ℕ) → UnseatedView → Type 0
Loads before told unseated =
    (bodies : List (List ℕ)) × IsLoaded bodies unseated
    × IfSome before (λ bytes. IsJournal bytes bodies × TellsBodies told bodies)

-- one of these bodies of a journal is damaged, and its first bad field has this place on the disk
pub record IsFaultIn (bodies : List (List ℕ)) (offset : ℕ) : Type 0 where
  pub count : ℕ
  pub at : ℕ
  pub fails : FailsAt bodies count at
  pub begin : ℕ
  pub begins : slice_get (places 0 bodies) count ≡ Some begin
  pub place : offset ≡ begin + at

-- the bytes are no journal, or one of its bodies is damaged
abbrev pub IsDamagedDisk : List ℕ → ℕ → Type 0
IsDamagedDisk bytes offset =
    IsDamagedAt bytes offset ⊎ ((bodies : List (List ℕ)) × IsJournal bytes bodies × IsFaultIn bodies offset)

-- the disk after a load: the flusher's, or the one that comes back
abbrev pub disk_after : {D : Type 0} → Result (UnseatedView × State D) (D × LoadFault) → D
disk_after (Ok loaded) = loaded.1.disk
disk_after (Err refused) = refused.0
