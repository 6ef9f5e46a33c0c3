-- What adding a body, and taking all bodies away, do to a journal's disk, whatever comes of the call.
use Rattle.std.specs.Prelude.{◌≡◌, ℕ, ◌+◌, List, [], ◌∷◌, ◌++◌, Result, IfSome, OnOk}
use Rattle.oz_world.specs.Disk.{Seen, TellsAsBefore, IsStable}
use Rattle.oz_world.specs.Faults.{HasCause}
use Rattle.oz_world.specs.Moments.{Elapses, LeavesOnly}
use Rattle.oz_journal.specs.Grammar.{IsJournal, TellsBodies}
use Rattle.oz_journal.specs.Journal.{IsBeforeOrAfter}

-- Four calls of the disk that each take a moment, up to the first that fails. A call that succeeded has made stable
-- what the disk tells.
pub record Settles {T E : Type 0} (before after : Seen) (result : Result T E) : Type 0 where
  pub telling : TellsAsBefore before.told after.told
  pub stable : OnOk result (IfSome after.told (IsStable after.image after.clock))
  pub time : Elapses before.clock after.clock before.image after.image
  pub moments : OnOk result (after.clock ≡ before.clock + 4)
  pub cause : HasCause before.faults after.faults result

-- One body more, behind those that the disk told. A stop at any moment of the call leaves them, or them and the body.
-- One at the moment at which a call has succeeded leaves the body too.
pub record Appends {T E : Type 0} (body : List ℕ) (before after : Seen) (result : Result T E) : Type 0 where
  pub settled : Settles before after result
  pub tells : (bodies : List (List ℕ)) → TellsBodies before.told bodies
      → OnOk result (TellsBodies after.told (bodies ++ body ∷ []))
  pub leaves : (bodies : List (List ℕ)) → TellsBodies before.told bodies
      → LeavesOnly (IsBeforeOrAfter bodies body) before.clock after.clock after.image
  pub acknowledged : (bodies : List (List ℕ)) → TellsBodies before.told bodies
      → OnOk result ((left : List ℕ) → after.image after.clock left → IsJournal left (bodies ++ body ∷ []))

-- No body is left. Nothing is said of what a stop in the middle of the call leaves.
pub record Clears {T E : Type 0} (before after : Seen) (result : Result T E) : Type 0 where
  pub settled : Settles before after result
  pub tells : (bodies : List (List ℕ)) → TellsBodies before.told bodies → OnOk result (TellsBodies after.told [])
