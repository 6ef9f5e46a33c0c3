-- What a sweep finds, over rows that are sound.
use Rattle.std.specs.Prelude.{◌≡◌, ◌⊎◌, ◌&&◌, ℕ, Bool, false, not, List, [], Option, None, Some}
use Rattle.std.specs.List.{Contains, list_any}
use Rattle.oz_decision.specs.Meets.{AreInGrammar}
use Rattle.oz_fields.specs.declared.block.Block.{Block}
use Rattle.oz_model.specs.Reach.{IsReached}
use Rattle.oz_namespace.specs.declared.namespace.Namespace.{Namespace}
use Rattle.oz_reclaim.specs.Gathered.{AreAllOf}
use Rattle.oz_reclaim.specs.declared.sweep.homes.Homes.{Homes}
use Rattle.oz_reclaim.specs.sweep.Homes.{Keys, home_of}
use Rattle.oz_rows.specs.declared.entry.RowEntry.{RowEntry}
use Rattle.oz_rows.specs.declared.key.RowKey.{RowKey}
use Rattle.oz_rows.specs.declared.row.Row.{Row}
use Rattle.oz_rows.specs.declared.row.Row.TheVariants as rows
use Rattle.oz_rows.specs.RowMaps.{Rows}
use Rattle.oz_sound.specs.Sound.{BlocksAreSound}
use Rattle.oz_sound.specs.StandsFor.{StandsFor}

-- the key of a row that was found with its date
abbrev pub keyed : (RowKey × ℕ) → RowKey
keyed (key, since) = key

-- the rows keep the grammar, their blocks are sound, and they stand for the namespace
pub record IsBacked (all : Rows) (namespace : Namespace) : Type 0 where
  pub fit : AreInGrammar all
  pub blocks : BlocksAreSound all
  pub stand : StandsFor all namespace

-- a deleted row none of whose blocks is in reach has a block that is pinned, and one that isn't
pub record IsPartlyPinned (all : Rows) (namespace : Namespace) (pinned : List Block) : Type 0 where
  pub key : RowKey
  pub blocks : List Block
  pub row : all key ≡ Some (rows.Deleted blocks)
  pub unreached : (block : Block) → Contains blocks block → IsReached namespace block → ⊥
  pub one : Block
  pub pinned_one : Contains blocks one × Contains pinned one
  pub other : Block
  pub free_one : Contains blocks other × (Contains pinned other → ⊥)

-- For a private call: some blocks of the deleted row pass the test, and others don't.
abbrev pub is_partly : (Block → Bool) → Row → Bool
is_partly test (rows.Deleted blocks) = list_any test blocks && list_any (λ block. not (test block)) blocks
is_partly test rows.Volume = false
is_partly test rows.Bucket = false
is_partly test (rows.Key number pieces) = false
is_partly test (rows.Open blocks) = false
is_partly test (rows.Snapshot name previous state) = false
is_partly test (rows.SnapshotKey number pieces) = false
is_partly test (rows.Renamed key) = false
is_partly test (rows.Stripe number) = false

-- For private calls: the same of the row with this key.
abbrev pub is_partly_row : (Block → Bool) → Option Row → Bool
is_partly_row test None = false
is_partly_row test (Some row) = is_partly test row

abbrev pub is_partly_at : Rows → (Block → Bool) → Option RowKey → Bool
is_partly_at all test None = false
is_partly_at all test (Some key) = is_partly_row test (all key)

-- one of all rows of the kind is such a one
abbrev pub TellsOfAll : Rows → ℕ → (Block → Bool) → Bool → Type 0
TellsOfAll all kind test is = (found : List RowEntry) × AreAllOf all kind found × (is ≡ list_any (λ (entry : RowEntry). is_partly test entry.row) found)

-- one of those that have pinned blocks is
abbrev pub TellsOfHomes : Rows → Keys → List Block → (Block → Bool) → Bool → Type 0
TellsOfHomes all keys pinned test is = is ≡ list_any (λ (block : Block). is_partly_at all test (home_of keys block)) pinned

-- Where blocks are pinned, it is told by the keys of the rows that have them, or by all rows where those don't tell.
abbrev pub TellsPartly : Rows → ℕ → Homes → List Block → (Block → Bool) → Bool → Type 0
TellsPartly all kind homes pinned test is = ((pinned ≡ []) × (is ≡ false))
    ⊎ TellsOfAll all kind test is
    ⊎ ((homes.is_shared ≡ false) × TellsOfHomes all homes.keys.entries pinned test is)
