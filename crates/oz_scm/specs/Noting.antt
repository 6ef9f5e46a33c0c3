-- What a call does that adds one entry to the journal, whatever comes of it. The entry may follow what was made.
use Rattle.std.specs.Prelude.{◌≡◌, ◌⊎◌, ℕ, ◌+◌, ◌≤◌, Bool, true, false, List, [], ◌∷◌, ◌++◌, Some, Result, is_err}
use Rattle.std.specs.Prelude.{IfErr, IfSome, OnOk, OnErr}
use Rattle.oz_scm.specs.declared.grants.entry.Entry.{Entry}
use Rattle.oz_scm.specs.grants.Entries.{entry_bytes}
use Rattle.oz_scm.specs.grants.Made.{Made, after_entry}
use Rattle.oz_journal.specs.Grammar.{IsJournal, TellsBodies}
use Rattle.oz_world.specs.Disk.{Seen, TellsAsBefore}
use Rattle.oz_world.specs.Faults.{Rose}
use Rattle.oz_world.specs.Moments.{Elapses, LeavesOnly}
use Rattle.oz_scm.specs.Scm.{State, StandsFor}

-- the bodies, and the entry behind them
abbrev pub with_entry : List (List ℕ) → Entry → List (List ℕ)
with_entry bodies entry = bodies ++ entry_bytes entry ∷ []

-- bytes that stand for these bodies, or for these and the entry
abbrev pub IsBeforeOrNoted : Entry → List (List ℕ) → List ℕ → Type 0
IsBeforeOrNoted entry bodies left = IsJournal left bodies ⊎ IsJournal left (with_entry bodies entry)

-- bytes from which the same is loaded, or what the entry makes of it
abbrev pub StandsOrNoted : Made → Entry → List ℕ → Type 0
StandsOrNoted made entry left =
    StandsFor made.nodes left made
    ⊎ ((later : Made) × (after_entry entry (Some made) ≡ Some later) × StandsFor made.nodes left later)

-- A call that adds an entry. Its error is how often the disk has failed.
pub record Notes {D T : Type 0} (entry : Entry) (old new : State D) (before after : Seen) (result : Result T ℕ) : Type 0 where
  -- Where it succeeds what the entry makes is made, by one body more, which is stable.
  pub made : OnOk result (after_entry entry (Some old.made) ≡ Some new.made)
  pub tells : (bodies : List (List ℕ)) → TellsBodies before.told bodies
      → OnOk result (TellsBodies after.told (with_entry bodies entry))
  pub acknowledged : (bodies : List (List ℕ)) → TellsBodies before.told bodies
      → OnOk result ((left : List ℕ) → after.image after.clock left → IsJournal left (with_entry bodies entry))
  pub moments : OnOk result (after.clock ≡ before.clock + 4)
  pub same : OnErr result (new.made ≡ old.made)
  pub ups : new.up ≡ old.up
  -- A stop at any moment of the call leaves the bodies, or these and the one of the entry.
  pub leaves : old.stopped ≡ false → (bodies : List (List ℕ)) → TellsBodies before.told bodies
      → LeavesOnly (IsBeforeOrNoted entry bodies) before.clock after.clock after.image
  pub stands : old.stopped ≡ false → IfSome before.told (λ bytes.
      LeavesOnly (StandsOrNoted old.made entry) before.clock after.clock after.image)
  pub telling : TellsAsBefore before.told after.told
  pub time : Elapses before.clock after.clock before.image after.image
  -- It fails where it was stopped, and then nothing changes at all, and where the disk failed in the call.
  pub stops : new.stopped ≡ is_err result
  pub still : old.stopped ≡ true → new ≡ old
  pub count : IfErr result (λ count. count ≡ after.faults)
  pub cause : old.stopped ≡ false → new.stopped ≡ true → Rose before.faults after.faults
  pub never_falls : before.faults ≤ after.faults
