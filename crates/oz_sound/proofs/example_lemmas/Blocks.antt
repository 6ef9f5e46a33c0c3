-- What holds of each block of each entry holds wherever a block stands.
use Rattle.std.proofs.Common.{◌≡◌, ◌⊎◌, ◌&&◌, ◌||◌, ◌==◌, ℕ, Bool, true, false, List, [], ◌∷◌, refl, ◌∙◌, ap, subst, inl, inr, arith}
use mathlib.Core.Bool.{false≢true}
use Rattle.std.specs.List.{list_all, list_any}
use Rattle.std.proofs.lemmas.Bool.{eq-eqb}
use Rattle.std.proofs.lemmas.Bool.Decides.{nat_tests}
use Rattle.oz_fields.specs.declared.block.Block.{Block}
use Rattle.oz_rows.specs.declared.key.RowKey.{RowKey}
use Rattle.oz_rows.specs.declared.entry.RowEntry.{RowEntry}
use Rattle.oz_rows.specs.RowMaps.{is_block, row_of, KeysRise}
use Rattle.oz_sound.specs.Sound.{blocks_of, StandsIn}
use Rattle.oz_sound.proofs.example_lemmas.Lists.{IsAmong, split_and, split_or, some_item}
use Rattle.oz_sound.proofs.example_lemmas.Entries.{row_passes, own_row}

pub eq_from : (a b : ℕ) → (a == b) ≡ true → a ≡ b
eq_from a b e = grind (arith, nat_tests)

pub same_block : (a b : Block) → is_block a b ≡ true → b ≡ a
same_block a b e =
    let parts = split_and (b.container == a.container) (b.local == a.local) e in
    let container : b.container ≡ a.container = eq_from b.container a.container parts.0 in
    let local : b.local ≡ a.local = eq_from b.local a.local parts.1 in
    λ i. record { container = container i; local = local i }

pub block_itself : (a : Block) → is_block a a ≡ true
block_itself a = ap (λ (t : Bool). t && (a.local == a.local)) (eq-eqb a.container a.container refl) ∙ eq-eqb a.local a.local refl

-- a block of a list passes where each does
passes : (test : Block → Bool) (blocks : List Block) → list_all test blocks ≡ true → (a : Block) → list_any (is_block a) blocks ≡ true → test a ≡ true
passes test [] all a among = absurd (false≢true among)
passes test (b ∷ blocks) all a among = by (split_or (is_block a b) (list_any (is_block a) blocks) among) (passes test blocks parts.1 a)
  where
    parts : (test b ≡ true) × (list_all test blocks ≡ true)
    parts = split_and (test b) (list_all test blocks) all

    by : (is_block a b ≡ true) ⊎ (list_any (is_block a) blocks ≡ true) → (list_any (is_block a) blocks ≡ true → test a ≡ true) → test a ≡ true
    by (inl here) later = subst (λ (c : Block). test c ≡ true) (same_block a b here) parts.0
    by (inr there) later = later there

is_in : (a : Block) (blocks : List Block) → IsAmong a blocks → list_any (is_block a) blocks ≡ true
is_in a [] among = absurd among
is_in a (b ∷ blocks) (inl here) = ap (λ (t : Bool). t || list_any (is_block a) blocks) (subst (λ (c : Block). is_block a c ≡ true) here (block_itself a))
is_in a (b ∷ blocks) (inr later) = by (is_block a b) (is_in a blocks later)
  where
    by : (t : Bool) → list_any (is_block a) blocks ≡ true → (t || list_any (is_block a) blocks) ≡ true
    by true e = refl
    by false e = e

-- each block of each entry passes, and one does
abbrev pub each_block : (RowKey → Block → Bool) → List RowEntry → Bool
each_block test rows = list_all (λ (entry : RowEntry). list_all (test entry.key) (blocks_of entry.row)) rows

abbrev pub some_block : (RowKey → Block → Bool) → List RowEntry → Bool
some_block test rows = list_any (λ (entry : RowEntry). list_any (test entry.key) (blocks_of entry.row)) rows

pub block_passes : (test : RowKey → Block → Bool) (rows : List RowEntry) → each_block test rows ≡ true → (block : Block) (key : RowKey) → StandsIn (row_of rows) block key → test key block ≡ true
block_passes test rows all block key stands = passes (test key) (blocks_of stands.row) (row_passes (λ key row. list_all (test key) (blocks_of row)) rows all key stands.row stands.there) block stands.has

pub found_block : (test : RowKey → Block → Bool) (rows : List RowEntry) → KeysRise rows → some_block test rows ≡ true → (block : Block) × (key : RowKey) × StandsIn (row_of rows) block key × (test key block ≡ true)
found_block test rows rise e =
    let found = some_item (λ (entry : RowEntry). list_any (test entry.key) (blocks_of entry.row)) rows e in
    let entry = found.0 in
    let block = some_item (test entry.key) (blocks_of entry.row) found.2 in
    (block.0, entry.key, record { row = entry.row; there = own_row rows rise entry found.1; has = is_in block.0 (blocks_of entry.row) block.1 }, block.2)
