-- What the tests of a key's row tell.
use Rattle.std.proofs.Common.{◌≡◌, ◌==◌, ℕ, Bool, true, ◌&&◌, nat_le, List, [], ◌∷◌, length, Option, Some, refl, sym, arith}
use Rattle.std.proofs.lemmas.Bool.Decides.{nat_tests}
use Rattle.std.specs.List.{AllByRecursion, list_all}
use Rattle.oz_fields.specs.declared.block.Block.{Block}
use Rattle.oz_fields.specs.declared.block.Piece.{Piece}
use Rattle.oz_model.specs.Reach.{blocks_of}
use Rattle.oz_rows.specs.declared.key.RowKey.TheVariants as keys
use Rattle.oz_rows.specs.declared.row.Row.{Row}
use Rattle.oz_rows.specs.declared.row.Row.TheVariants as rows
use Rattle.oz_rows.specs.Rows.{IsBlock, IsPiece, AreItems, RowFits}
use Rattle.oz_rows.specs.RowMaps.{is_block}
use Rattle.oz_decision.specs.Sessions.{is_good}
use Rattle.oz_decision.specs.Versions.{is_version, version_at}
use Rattle.oz_decision.specs.laws.SessionRows.{front, back, both, at_most, from_at_most, good_block, block_is_good}

block_of : ℕ → ℕ → Block
block_of container local = record { container = container; local = local }

one_number : (a b : ℕ) → (a == b) ≡ true → a ≡ b
one_number a b e = grind (arith, nat_tests, e)

itself_number : (a : ℕ) → (a == a) ≡ true
itself_number a = grind (arith, nat_tests)

pub one_block : (a b : Block) → is_block a b ≡ true → a ≡ b
unfolding block_of
one_block a b e =
    let container = one_number b.container a.container (front _ _ e) in
    let local = one_number b.local a.local (back (b.container == a.container) (b.local == a.local) e) in
    λ i. block_of (sym container i) (sym local i)

pub block_itself : (a : Block) → is_block a a ≡ true
block_itself a = both (a.container == a.container) _ (itself_number a.container) (itself_number a.local)

-- the blocks of good pieces
pub good_blocks_of : (pieces : List Piece) → list_all (λ (piece : Piece). is_good piece.block) pieces ≡ true → AllByRecursion IsBlock (blocks_of pieces)
good_blocks_of [] e = tt
good_blocks_of (piece ∷ pieces) e = (good_block piece.block (front (is_good piece.block) _ e), good_blocks_of pieces (back (is_good piece.block) _ e))

pub as_many : (pieces : List Piece) → length (blocks_of pieces) ≡ length pieces
as_many [] = refl
as_many (piece ∷ pieces) = omega (arith, as_many pieces)

pub good_version : (version : Option Row) → is_version version ≡ true → AreItems IsBlock (version_at version)
good_version (Some (rows.Key number pieces)) e = (
  (let few = at_most (length pieces) 256 (front (nat_le (length pieces) 256) _ e) in let same = as_many pieces in omega (arith, few, same)),
  good_blocks_of pieces (back (nat_le (length pieces) 256) _ e),
)
good_version version e = ((omega arith), tt)

each_good : (pieces : List Piece) → AllByRecursion IsPiece pieces → list_all (λ (piece : Piece). is_good piece.block) pieces ≡ true
each_good [] all = refl
each_good (piece ∷ pieces) all = both (is_good piece.block) _ (block_is_good piece.block all.0.0) (each_good pieces all.1)

-- a key's row in the grammar keeps the rules
pub version_is_good : (v b k : List ℕ) (row : Row) → RowFits (keys.Key v b k) row → is_version (Some row) ≡ true
version_is_good v b k (rows.Key number pieces) fits =
    both (nat_le (length pieces) 256) _ (from_at_most (length pieces) 256 fits.1.1.0) (each_good pieces fits.1.1.1)
version_is_good v b k row fits = refl
