-- What a decision rests on beside the rows that it is made over.
use Rattle.std.specs.Prelude.{ℕ, Option}
use Rattle.oz_decision.specs.Meets.{AreInGrammar}
use Rattle.oz_fields.specs.declared.block.Block.{Block}
use Rattle.oz_om_session.specs.Picks.{IsNew}
use Rattle.oz_requests.specs.declared.request.Request.{Request}
use Rattle.oz_requests.specs.declared.request.Request.TheVariants.{AllocateBlock, CreateSnapshot, DeleteSnapshot}
use Rattle.oz_rows.specs.RowMaps.{Rows}

-- A block that is granted was never used: no block of the rows has its local id.
abbrev pub GrantsNew : Rows → Request → Option (Block × ℕ) → Type 0
GrantsNew rows (AllocateBlock volume bucket key session exclude) pick = IsNew rows pick
GrantsNew rows request pick = Unit {0}

-- How long a name is in a snapshot's batch, rows in the grammar say. No other batch needs them for that.
abbrev pub IsInGrammarFor : Rows → Request → Type 0
IsInGrammarFor rows (CreateSnapshot volume bucket snapshot) = AreInGrammar rows
IsInGrammarFor rows (DeleteSnapshot volume bucket snapshot) = AreInGrammar rows
IsInGrammarFor rows request = Unit {0}
