-- What the manager's own requests make of rows.
use Rattle.std.specs.Prelude.{◌≡◌, ◌⊎◌, ℕ, ◌≤◌, List, [], ◌∷◌, ◌++◌, length, map, Some}
use Rattle.std.specs.List.{AllByRecursion, Contains}
use Rattle.oz_decision.specs.Drafts.{row_by_row}
use Rattle.oz_effects.specs.Effects.{operation_changes}
use Rattle.oz_fields.specs.declared.block.Block.{Block}
use Rattle.oz_reclaim.specs.Reach.{IsShown}
use Rattle.oz_reclaim.specs.Work.{IsMarked, IsNextOwner, OwnsRow}
use Rattle.oz_requests.specs.declared.request.PurgeRow.{PurgeRow}
use Rattle.oz_requests.specs.declared.request.Request.{Request}
use Rattle.oz_requests.specs.declared.request.Request.TheVariants.{MoveDeleted, Purge, PurgeSnapshot}
use Rattle.oz_rows.specs.Counts.{AllDiffer}
use Rattle.oz_rows.specs.declared.entry.RowEntry.{RowEntry}
use Rattle.oz_rows.specs.declared.key.RowKey.{RowKey}
use Rattle.oz_rows.specs.declared.key.RowKey.TheVariants as keys
use Rattle.oz_rows.specs.declared.operation.Change.{Change}
use Rattle.oz_rows.specs.declared.row.Row.TheVariants as rows
use Rattle.oz_rows.specs.declared.operation.Operation.{Operation}
use Rattle.oz_rows.specs.declared.operation.Operation.TheVariants as operations
use Rattle.oz_rows.specs.declared.operation.TheConstants.{MOST_REMOVALS}
use Rattle.oz_rows.specs.Operations.{OperationFits}
use Rattle.oz_rows.specs.RowMaps.{Rows, AreRows, gone}
use Rattle.oz_rows.specs.Rows.{KeyFits}
use Rattle.oz_sound.specs.Sound.{StandsIn}

-- the key of the row that a Purge names
abbrev pub key_named : List ℕ → PurgeRow → RowKey
key_named volume row = keys.Deleted volume row.bucket row.owner row.key row.local

-- none of the row's blocks is in reach
abbrev pub IsUnreached : Rows → RowKey → Type 0
IsUnreached all key = (block : Block) → StandsIn all block key → IsShown all block → ⊥

-- The Purge names a row that is there, whose key keeps the rules of rows, and none of whose blocks is in reach.
pub record IsPurged (all : Rows) (volume : List ℕ) (named : List PurgeRow) (key : RowKey) : Type 0 where
  pub named_so : Contains (map (key_named volume) named) key
  pub fits : KeyFits key
  pub blocks : List Block
  pub row : all key ≡ Some (rows.Deleted blocks)
  pub unreached : IsUnreached all key

-- Exactly these rows go, each once.
pub record ArePurged (all : Rows) (volume : List ℕ) (named : List PurgeRow) (changes : List Change) : Type 0 where
  pub rows_gone : List RowKey
  pub are : changes ≡ map gone rows_gone
  pub differ : AllDiffer rows_gone
  pub each : AllByRecursion (IsPurged all volume named) rows_gone
  pub every : (key : RowKey) → IsPurged all volume named key → Contains rows_gone key

-- the rows of a deleted snapshot may go on to this owner
pub record MayMove (all : Rows) (volume bucket : List ℕ) (number to : ℕ) : Type 0 where
  pub fits : OperationFits (operations.MoveDeleted volume bucket number to)
  pub marked : IsMarked all volume bucket number
  pub next : IsNextOwner all volume bucket number to

-- a deleted snapshot owns nothing any more
pub record IsWorkedOff (all : Rows) (volume bucket : List ℕ) (number : ℕ) : Type 0 where
  pub fits : OperationFits (operations.DropKeys volume bucket number)
  pub marked : IsMarked all volume bucket number
  pub owns_nothing : OwnsRow all volume bucket number → ⊥

-- its rows go on where they may, and else nothing changes
abbrev pub AreMoved : Rows → List ℕ → List ℕ → ℕ → ℕ → List Change → Type 0
AreMoved all volume bucket number to changes =
    (MayMove all volume bucket number to
    × ((entries : List RowEntry) → AreRows entries all
    → changes ≡ operation_changes entries (operations.MoveDeleted volume bucket number to)))
    ⊎ ((MayMove all volume bucket number to → ⊥) × (changes ≡ []))

-- its own rows go where it owns nothing, and else nothing changes
abbrev pub AreDropped : Rows → List ℕ → List ℕ → ℕ → List Change → Type 0
AreDropped all volume bucket number changes =
    (IsWorkedOff all volume bucket number
    × ((entries : List RowEntry) → AreRows entries all
    → changes ≡ operation_changes entries (operations.DropKeys volume bucket number)
    ++ gone (keys.Snapshot volume bucket number) ∷ []))
    ⊎ ((IsWorkedOff all volume bucket number → ⊥) × (changes ≡ []))

-- no deleted row with one of these local ids has a block in reach
abbrev pub AreUnreached : Rows → List ℕ → Type 0
AreUnreached all known =
    (volume bucket key : List ℕ) (owner local : ℕ) → Contains known local
    → IsUnreached all (keys.Deleted volume bucket owner key local)

-- The rows change as the request is decided.
abbrev pub AreServed : Rows → Request → List Change → Type 0
AreServed all (Purge volume named) changes = ArePurged all volume named changes
AreServed all (MoveDeleted volume bucket number to) changes = AreMoved all volume bucket number to changes
AreServed all (PurgeSnapshot volume bucket number) changes = AreDropped all volume bucket number changes
AreServed all request changes = ⊥

-- the operations that make the changes, none where there are none
abbrev pub operations_for : Request → List Change → List Operation
operations_for (MoveDeleted volume bucket number to) [] = []
operations_for (MoveDeleted volume bucket number to) (change ∷ changes) =
    operations.MoveDeleted volume bucket number to ∷ []
operations_for (PurgeSnapshot volume bucket number) [] = []
operations_for (PurgeSnapshot volume bucket number) (change ∷ changes) =
    operations.DropKeys volume bucket number ∷ operations.Remove (keys.Snapshot volume bucket number) ∷ []
operations_for request changes = row_by_row changes

-- A Purge names no more rows than may be removed at a time.
abbrev pub NamesFew : Request → Type 0
NamesFew (Purge volume named) = length named ≤ MOST_REMOVALS
NamesFew request = Unit {0}

abbrev pub IsPurge : Request → Type 0
IsPurge (Purge volume named) = Unit {0}
IsPurge request = ⊥
