-- What the requests on snapshots record.
use Rattle.std.specs.Prelude.{◌≡◌, ◌⊎◌, ℕ, List, []}
use Rattle.oz_decision.specs.declared.decision.Decision.{Decision}
use Rattle.oz_names.specs.declared.code.Code.{Code as AnyCode}
use Rattle.oz_reclaim.specs.Creates.{Creates}
use Rattle.oz_reclaim.specs.Decisions.{IsSoundDecision}
use Rattle.oz_reclaim.specs.Marks.{Marks}
use Rattle.oz_requests.specs.declared.reply.Reply.{Reply}
use Rattle.oz_requests.specs.declared.reply.Reply.TheVariants.{Code, Done}
use Rattle.oz_requests.specs.declared.request.Request.{Request}
use Rattle.oz_requests.specs.declared.request.Request.TheVariants.{CreateSnapshot, DeleteSnapshot, InfoSnapshot}
use Rattle.oz_requests.specs.declared.request.Request.TheVariants.{ListSnapshots}
use Rattle.oz_rows.specs.declared.operation.Change.{Change}
use Rattle.oz_rows.specs.RowMaps.{Rows}

abbrev pub IsOnSnapshots : Request → Type 0
IsOnSnapshots (CreateSnapshot volume bucket snapshot) = Unit {0}
IsOnSnapshots (DeleteSnapshot volume bucket snapshot) = Unit {0}
IsOnSnapshots (ListSnapshots volume bucket) = Unit {0}
IsOnSnapshots (InfoSnapshot volume bucket snapshot) = Unit {0}
IsOnSnapshots request = ⊥

abbrev pub IsNothing : List ℕ → List Change → Type 0
IsNothing bytes changes = (bytes ≡ []) × (changes ≡ [])

-- a request is refused, and nothing is recorded
abbrev pub IsRefused : Reply → List ℕ → List Change → Type 0
IsRefused reply bytes changes = (code : AnyCode) × (reply ≡ Code code) × IsNothing bytes changes

-- A snapshot is made or marked, or the request is refused. The others record nothing.
abbrev pub AreRecorded : Rows → Request → Reply → List ℕ → List Change → Type 0
AreRecorded all (CreateSnapshot volume bucket name) reply bytes changes =
    ((reply ≡ Done) × Creates all volume bucket name bytes changes) ⊎ IsRefused reply bytes changes
AreRecorded all (DeleteSnapshot volume bucket name) reply bytes changes =
    ((reply ≡ Done) × Marks all volume bucket name bytes changes) ⊎ IsRefused reply bytes changes
AreRecorded all request reply bytes changes = IsNothing bytes changes

-- the decision on a request on snapshots
pub record IsSnapshotDecision (all : Rows) (request : Request) (decision : Decision) : Type 0 where
  pub kept : IsSoundDecision all request decision
  pub exact : AreRecorded all request decision.reply decision.bytes decision.changes
