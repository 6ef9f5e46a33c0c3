-- Rows of stripes have no blocks.
use Rattle.std.proofs.Common.{◌≡◌, ℕ}
use mathlib.Core.Bool.{false≢true}
use Rattle.oz_fields.specs.declared.block.Block.{Block}
use Rattle.std.specs.List.{list_any}
use Rattle.std.proofs.Common.{true}
use Rattle.std.proofs.Common.{Some}
use Rattle.oz_rows.specs.declared.key.RowKey.{RowKey}
use Rattle.oz_rows.specs.declared.key.RowKey.TheVariants as keys
use Rattle.oz_rows.specs.declared.row.Row.{Row}
use Rattle.oz_rows.specs.declared.row.Row.TheVariants as rows
use Rattle.oz_rows.specs.Rows.{RowFits, ValueFits}
use Rattle.oz_rows.specs.RowMaps.{Rows, is_block}
use Rattle.oz_sound.specs.Sound.{blocks_of}
use Rattle.oz_sound.specs.frames.Sessions.{StripesAreBare}

no_block : (stripe : ℕ) (row : Row) (block : Block) → ValueFits (keys.Stripe stripe) row → list_any (is_block block) (blocks_of row) ≡ true → ⊥
no_block stripe (rows.Stripe number) block fits has = false≢true has
no_block stripe row block fits has = absurd fits

-- those of rows in the grammar
pub bare_stripes : (all : Rows) → ((key : RowKey) (row : Row) → all key ≡ Some row → RowFits key row) → StripesAreBare all
bare_stripes all fit stripe block stands = no_block stripe stands.row block (fit (keys.Stripe stripe) stands.row stands.there).1 stands.has
