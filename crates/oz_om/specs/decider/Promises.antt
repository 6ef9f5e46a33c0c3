-- What the decision on a request promises of the rows that it was made on.
use Rattle.std.specs.Prelude.{◌≡◌, ◌↔◌, ℕ, ◌≤◌, [], length, Option}
use Rattle.oz_om.specs.decider.Premises.{GrantsNew, IsInGrammarFor}
use Rattle.oz_om.specs.decider.Records.{AreRecorded, operations_for}
use Rattle.oz_om.specs.decider.Sizes.{most_bytes}
use Rattle.oz_decision.specs.declared.decision.Decision.{Decision}
use Rattle.oz_decision.specs.Meets.{AreInGrammar, IsSafe, Stand, Meets, granted_in}
use Rattle.oz_fields.specs.declared.block.Block.{Block}
use Rattle.oz_model.specs.Grants.{IsPicked}
use Rattle.oz_names.specs.Names.{stripe_of}
use Rattle.oz_namespace.specs.declared.namespace.Namespace.{Namespace}
use Rattle.oz_owned.specs.Stood.{IsBatchOfStripe}
use Rattle.oz_reclaim.specs.Origins.{RowsComeFrom, SnapshotKeysStay}
use Rattle.oz_requests.specs.declared.request.Family.TheVariants.{Allocation}
use Rattle.oz_requests.specs.declared.request.Request.{Request}
use Rattle.oz_requests.specs.Families.{family_of}
use Rattle.oz_requests.specs.Names.{volume_in}
use Rattle.oz_rows.specs.Operations.{batch_bytes}
use Rattle.oz_rows.specs.RowMaps.{Rows, after_changes}
use Rattle.oz_sound.specs.Sound.{IsSound, IsSoundButRenames}
use Rattle.oz_sound.specs.stripes.Stripes.{ChangeOnly}

pub record IsDecision (rows : Rows) (request : Request) (pick : Option (Block × ℕ)) (decision : Decision) : Type 0 where
  -- The reply is that of one thread, and sound rows stay so and stand for what one thread leaves.
  pub meets : GrantsNew rows request pick
      → (namespace : Namespace) → Stand IsSound rows namespace
      → Meets IsSound rows namespace request decision.reply decision.bytes decision.changes
  -- All of that but for what renamed rows say needs nothing of what they say.
  pub but_renames : GrantsNew rows request pick
      → (namespace : Namespace) → Stand IsSoundButRenames rows namespace
      → Meets IsSoundButRenames rows namespace request decision.reply decision.bytes decision.changes
  -- Rows that stand for no namespace stay such that a journal may hold them.
  pub safe : AreInGrammar rows → IsSafe rows decision.bytes decision.changes
  -- No row of another stripe changes, and no operation speaks of one.
  pub own : ChangeOnly (stripe_of (volume_in request)) decision.changes
  pub own_batch : (namespace : Namespace) → Stand IsSoundButRenames rows namespace
      → IsBatchOfStripe (stripe_of (volume_in request)) rows decision.bytes decision.changes
  -- No block is granted but the picked one.
  pub picked : family_of request ≡ Allocation → IsPicked pick decision.reply
  -- Of the rows that no namespace shows, those change that the deciding crate records.
  pub exact : AreRecorded rows request decision.reply decision.bytes decision.changes
  pub operations : decision.bytes ≡ batch_bytes (operations_for request decision.changes)
  pub recorded : (decision.bytes ≡ []) ↔ (decision.changes ≡ [])
  pub size : IsInGrammarFor rows request → length decision.bytes ≤ most_bytes request
  -- Where deleted and renamed rows come from, and that no block comes to keys and sessions but the granted one.
  pub origins : (namespace : Namespace) → Stand IsSoundButRenames rows namespace
      → RowsComeFrom rows (after_changes decision.changes rows) (granted_in decision.reply)
  -- The keys of a snapshot change only where its own row does.
  pub tidy : SnapshotKeysStay decision.changes
