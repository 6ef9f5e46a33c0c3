-- The block that is picked for a session.
use Rattle.std.specs.Prelude.{◌≡◌, ℕ, Option, None, Some}
use Rattle.oz_fields.specs.declared.block.Block.{Block}
use Rattle.oz_rows.specs.declared.key.RowKey.{RowKey}
use Rattle.oz_rows.specs.Rows.{IsBlock}
use Rattle.oz_rows.specs.RowMaps.{Rows}
use Rattle.oz_sound.specs.Sound.{StandsIn}

-- a picked block has numbers as blocks have them
abbrev pub IsPick : Option (Block × ℕ) → Type 0
IsPick None = Unit {0}
IsPick (Some (block, pipeline)) = IsBlock block

-- no block of these rows has the local id of the picked one
abbrev pub IsNew : Rows → Option (Block × ℕ) → Type 0
IsNew rows None = Unit {0}
IsNew rows (Some (block, pipeline)) =
    (twin : Block) (key : RowKey) → StandsIn rows twin key → twin.local ≡ block.local → ⊥
