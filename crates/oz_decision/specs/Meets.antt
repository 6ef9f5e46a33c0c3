-- What a decision promises of the rows that it was made on.
use Rattle.std.specs.Prelude.{◌≡◌, ◌⊎◌, ℕ, ◌≤◌, List, [], ◌∷◌, Option, None, Some, length}
use Rattle.oz_decision.specs.declared.decision.TheConstants.{LONGEST_BATCH}
use Rattle.oz_effects.specs.Batches.{IsBatchOf}
use Rattle.oz_fields.specs.declared.block.Block.{Block}
use Rattle.oz_model.specs.Answers.{Answers, after, WritesNothing}
use Rattle.oz_namespace.specs.declared.namespace.Namespace.{Namespace}
use Rattle.oz_requests.specs.declared.reply.Reply.{Reply}
use Rattle.oz_requests.specs.declared.reply.Reply.TheVariants as replies
use Rattle.oz_requests.specs.declared.request.PurgeRow.{PurgeRow}
use Rattle.oz_requests.specs.declared.request.Request.{Request}
use Rattle.oz_requests.specs.declared.request.Request.TheVariants.{Purge}
use Rattle.oz_rows.specs.declared.key.RowKey.{RowKey}
use Rattle.oz_rows.specs.declared.key.RowKey.TheVariants as keys
use Rattle.oz_rows.specs.declared.row.Row.{Row}
use Rattle.oz_rows.specs.declared.operation.Change.{Change}
use Rattle.oz_rows.specs.Rows.{RowFits}
use Rattle.oz_rows.specs.RowMaps.{after_changes, Rows}
use Rattle.oz_sound.specs.Kept.{KeepsBlocks}
use Rattle.oz_sound.specs.Sound.{StandsIn}
use Rattle.oz_sound.specs.StandsFor.{StandsFor}

-- each row keeps the rules of the grammar
abbrev pub AreInGrammar : Rows → Type 0
AreInGrammar rows = (key : RowKey) (row : Row) → rows key ≡ Some row → RowFits key row

-- Rows in the grammar that are sound, in the sense that is given, and the namespace that they stand for.
pub record Stand (Sound : Rows → Type 0) (rows : Rows) (namespace : Namespace) : Type 0 where
  pub fit : AreInGrammar rows
  pub stands : StandsFor rows namespace
  pub sound : Sound rows

-- The bytes are a batch of the changes, no longer than a batch may be, and leave rows that a journal may hold.
pub record IsSafe (rows : Rows) (bytes : List ℕ) (changes : List Change) : Type 0 where
  pub batch : IsBatchOf rows bytes changes
  pub size : length bytes ≤ LONGEST_BATCH
  pub fit : AreInGrammar (after_changes changes rows)

-- the block that a reply grants
abbrev pub granted_in : Reply → Option Block
granted_in (replies.Granted block pipeline) = Some block
granted_in reply = None

-- the block stands in one of these deleted rows of a volume
abbrev pub IsInOneOf : Rows → List ℕ → List PurgeRow → Block → Type 0
IsInOneOf rows volume [] block = ⊥
IsInOneOf rows volume (row ∷ others) block =
    StandsIn rows block (keys.Deleted volume row.bucket row.owner row.key row.local)
    ⊎ IsInOneOf rows volume others block

-- A Purge alone may take blocks away: those of the rows that it names.
abbrev pub MayGo : Rows → Request → Block → Type 0
MayGo rows (Purge volume named) block = IsInOneOf rows volume named block
MayGo rows request block = ⊥

-- The reply is that of one thread. The bytes are a batch of the changes, which lead to rows that stand for what one thread
-- leaves. Where that is what was there, nothing changes; but for a service request, which may change rows then. No block
-- is lost but by a Purge, and none is made but the one that the reply grants.
pub record Meets (Sound : Rows → Type 0) (rows : Rows) (namespace : Namespace) (request : Request) (reply : Reply) (bytes : List ℕ)
    (changes : List Change) : Type 0 where
  pub answers : Answers namespace request reply
  pub batch : IsBatchOf rows bytes changes
  pub leads : Stand Sound (after_changes changes rows) (after namespace request reply)
  pub blocks : KeepsBlocks rows (after_changes changes rows) (granted_in reply) (MayGo rows request)
  pub keeps : WritesNothing namespace request reply → changes ≡ []
