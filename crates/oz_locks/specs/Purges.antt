-- The blocks that a stripe asked to be deleted.
use Rattle.std.specs.Prelude.{◌≡◌, ℕ, List, Option, None, Some, Contains}
use Rattle.oz_core.specs.declared.event.Event.{Event}
use Rattle.oz_core.specs.declared.event.EventKind.{EventKind}
use Rattle.oz_core.specs.declared.event.EventKind.TheVariants.{PurgeAsk}
use Rattle.oz_core.specs.Stories.{all_told}
use Rattle.oz_fields.specs.declared.block.Block.{Block}
use Rattle.oz_rows.specs.declared.key.RowKey.TheVariants as keys
use Rattle.oz_rows.specs.declared.row.Row.TheVariants as rows
use Rattle.oz_rows.specs.RowMaps.{Rows}

-- the blocks of each PurgeAsk among a stripe's own events
abbrev pub asked_in : EventKind → Option (List Block)
asked_in (PurgeAsk blocks) = Some blocks
asked_in _ = None

abbrev pub asked_by : List Event → List (List Block)
asked_by mine = all_told asked_in mine

-- A deleted row that has one of these blocks has no other ones.
abbrev pub HaveWholeRows : Rows → List Block → Type 0
HaveWholeRows all blocks =
    (volume bucket key : List ℕ) (owner local : ℕ) (of_row : List Block) (block other : Block)
    → all (keys.Deleted volume bucket owner key local) ≡ Some (rows.Deleted of_row)
    → Contains of_row block → Contains blocks block → Contains of_row other → Contains blocks other

-- So it is for the blocks of each PurgeAsk of a stripe: a deleted row of which a block stands there has all of them there.
abbrev pub AreAskedWhole : Rows → List Event → Type 0
AreAskedWhole all mine = (blocks : List Block) → Contains (asked_by mine) blocks → HaveWholeRows all blocks
