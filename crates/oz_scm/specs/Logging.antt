-- What a call does that logs a deletion, whatever comes of it.
use Rattle.std.specs.Prelude.{◌≡◌, ℕ, false, Option, None, Some, Result, Ok, Err, IfSome, IfNone}
use Rattle.oz_dellog.specs.declared.txn.Txn.{Txn}
use Rattle.oz_scm.specs.declared.grants.entry.Entry.TheVariants.{Logged}
use Rattle.oz_world.specs.Disk.{Seen}
use Rattle.oz_scm.specs.declared.fault.ScmStop.{ScmStop}
use Rattle.oz_scm.specs.declared.fault.ScmStop.TheVariants.{Stopped, OutOfMemory}
use Rattle.oz_scm.specs.Noting.{Notes}
use Rattle.oz_scm.specs.Scm.{State}

-- what is answered of an entry that was to be added: the error is how often the disk has failed; None where there was no
-- memory for it
abbrev pub noted : {T : Type 0} → Result T ScmStop → Option (Result T ℕ)
noted (Ok x) = Some (Ok x)
noted (Err (Stopped count)) = Some (Err count)
noted (Err OutOfMemory) = None

-- A call that logs a transaction. Where it wants memory it hadn't stopped, and nothing changes at all.
pub record Logs {D T : Type 0} (txn : Txn) (old new : State D) (before after : Seen) (result : Result T ScmStop) : Type 0 where
  pub notes : IfSome (noted result) (Notes (Logged txn) old new before after)
  pub wants : IfNone (noted result) ((old.stopped ≡ false) × (new ≡ old))
