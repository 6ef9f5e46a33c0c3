-- For calls inside this crate alone.

-- Which of the named rows go.
use Rattle.std.specs.Prelude.{◌≡◌, ◌⊎◌, ◌↔◌, ℕ, Bool, true, List, [], ◌∷◌, ◌++◌}
use Rattle.std.specs.List.{AllByRecursion, Contains}
use Rattle.oz_fields.specs.declared.block.Block.{Block}
use Rattle.oz_requests.specs.declared.request.PurgeRow.{PurgeRow}
use Rattle.oz_rows.specs.declared.key.RowKey.{RowKey}
use Rattle.oz_rows.specs.RowMaps.{Rows}
use Rattle.oz_rows.specs.Rows.{KeyFits}
use Rattle.oz_sound.specs.Sound.{StandsIn}
use Rattle.oz_reclaim.specs.Found.{HasFree}
use Rattle.oz_reclaim.specs.Reach.{IsShown}

-- the test tells of each block of this row whether it is in reach
abbrev pub Tells : Rows → (Block → Bool) → RowKey → Type 0
Tells all test key = (block : Block) → StandsIn all block key → (test block ≡ true) ↔ IsShown all block

-- a deleted row is there, the test is passed by none of its blocks, and its key keeps the rules of rows
abbrev pub Goes : Rows → (Block → Bool) → RowKey → Type 0
Goes all test key = KeyFits key × HasFree all test key

-- a key is put behind others, unless it is among them
abbrev pub IsPut : RowKey → List RowKey → List RowKey → Type 0
IsPut key before now =
    ((now ≡ before ++ key ∷ []) × (Contains before key → ⊥)) ⊎ ((now ≡ before) × Contains before key)

-- all local ids of these rows are known
abbrev pub AreKnown : List PurgeRow → List ℕ → Type 0
AreKnown named known = AllByRecursion (λ (row : PurgeRow). Contains known row.local) named
