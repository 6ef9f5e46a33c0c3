-- What a decision promises.
use Rattle.std.specs.Prelude.{◌≡◌, ◌↔◌, []}
use Rattle.oz_decision.specs.declared.decision.Decision.{Decision}
use Rattle.oz_decision.specs.Meets.{AreInGrammar, IsSafe, Meets, Stand, granted_in}
use Rattle.oz_namespace.specs.declared.namespace.Namespace.{Namespace}
use Rattle.oz_reclaim.specs.Origins.{RowsComeFrom, SnapshotKeysStay}
use Rattle.oz_reclaim.specs.Service.{AreServed, operations_for}
use Rattle.oz_requests.specs.declared.reply.Reply.TheVariants.{Done}
use Rattle.oz_requests.specs.declared.request.Request.{Request}
use Rattle.oz_rows.specs.Operations.{batch_bytes}
use Rattle.oz_rows.specs.RowMaps.{Rows, after_changes}
use Rattle.oz_sound.specs.Sound.{IsSound, IsSoundButRenames}

-- what every decision on a request promises of the rows that it was made on
pub record IsSoundDecision (all : Rows) (request : Request) (decision : Decision) : Type 0 where
  -- The reply is that of one thread, and sound rows stay so and stand for what one thread leaves.
  pub meets : (namespace : Namespace) → Stand IsSound all namespace
      → Meets IsSound all namespace request decision.reply decision.bytes decision.changes
  -- All of that but for what renamed rows say needs nothing of them.
  pub but_renames : (namespace : Namespace) → Stand IsSoundButRenames all namespace
      → Meets IsSoundButRenames all namespace request decision.reply decision.bytes decision.changes
  -- Rows that stand for no namespace stay such that a journal may hold them.
  pub safe : AreInGrammar all → IsSafe all decision.bytes decision.changes
  pub recorded : (decision.bytes ≡ []) ↔ (decision.changes ≡ [])
  -- Where deleted and renamed rows come from, and that the keys of snapshots stay.
  pub origins : RowsComeFrom all (after_changes decision.changes all) (granted_in decision.reply)
  pub tidy : SnapshotKeysStay decision.changes

-- The decision on a request of the manager's own: it is never refused, and what isn't to be done any more is passed over.
pub record IsServed (all : Rows) (request : Request) (decision : Decision) : Type 0 where
  pub done : decision.reply ≡ Done
  pub kept : IsSoundDecision all request decision
  pub exact : AreServed all request decision.changes
  pub operations : decision.bytes ≡ batch_bytes (operations_for request decision.changes)
