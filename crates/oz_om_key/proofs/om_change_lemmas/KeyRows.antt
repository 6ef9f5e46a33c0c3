-- What the test of a key's row tells, and which rows fit.
use Rattle.std.proofs.Common.{◌≡◌, ◌<◌, ℕ, Bool, true, false, nat_le, nat_lt, List, [], ◌∷◌, length, Option, None, Some, is_some, cond, refl, sym, ◌∙◌, ap, subst, arith}
use mathlib.Core.Bool.{false≢true}
use Rattle.std.specs.Prelude.{◌^◌}
use Rattle.std.proofs.lemmas.Option.{same_Some}
use Rattle.std.specs.List.{AllByRecursion, list_all}
use Rattle.oz_fields.specs.declared.block.Block.{Block}
use Rattle.oz_fields.specs.declared.block.Piece.{Piece}
use Rattle.oz_model.specs.Reach.{blocks_of}
use Rattle.oz_names.specs.declared.code.Code.TheVariants.{InvalidVolumeName, InvalidBucketName, InvalidKeyName}
use Rattle.oz_names.specs.Names.{IsKeyName, is_key_name}
use Rattle.oz_names.specs.laws.NameTests.{volume_name-from, key_name-from, key_name-passes}
use Rattle.oz_requests.specs.declared.request.Request.TheVariants.{DeleteKey, RenameKey}
use Rattle.oz_requests.specs.Names.{key_named, name_fault}
use Rattle.oz_rows.specs.declared.key.RowKey.TheVariants as keys
use Rattle.oz_rows.specs.declared.row.Row.{Row}
use Rattle.oz_rows.specs.declared.row.Row.TheVariants as rows
use Rattle.oz_rows.specs.Rows.{IsNumber, IsBlock, IsPiece, AreItems, KeyFits, RowFits}
use Rattle.oz_rows.specs.RowMaps.{Rows}
use Rattle.oz_decision.specs.Sessions.{is_good}
use Rattle.oz_decision.specs.Versions.{version_at}
use Rattle.oz_decision.specs.laws.SessionRows.{front, back, both, at_most, from_at_most, under, from_under, good_block, block_is_good, volume_is, bucket_is, key_is}
use Rattle.oz_decision.specs.laws.Versions.{as_many}
use Rattle.oz_om_key.specs.om_change.Numbers.{MayBeNoted}
use Rattle.oz_om_key.specs.om_change.Keys.{is_good_piece, are_good_pieces, is_key, number_at, IsKey}

good_piece : (piece : Piece) → is_good_piece piece ≡ true → IsPiece piece
good_piece piece e =
    let size = back (is_good piece.block) _ e in
    let some = under 0 piece.length (front (nat_lt 0 piece.length) _ size) in
    (good_block piece.block (front (is_good piece.block) _ e), (omega (arith, some)), at_most piece.length 65536 (back (nat_lt 0 piece.length) _ size))

piece_is_good : (piece : Piece) → IsPiece piece → is_good_piece piece ≡ true
piece_is_good piece is =
    let some = is.1 in
    both (is_good piece.block) _ (block_is_good piece.block is.0) (both (nat_lt 0 piece.length) _ (from_under 0 piece.length (omega (arith, some))) (from_at_most piece.length 65536 is.2))

each_piece : (pieces : List Piece) → list_all is_good_piece pieces ≡ true → AllByRecursion IsPiece pieces
each_piece [] e = tt
each_piece (piece ∷ pieces) e = (good_piece piece (front (is_good_piece piece) _ e), each_piece pieces (back (is_good_piece piece) _ e))

each_is_good : (pieces : List Piece) → AllByRecursion IsPiece pieces → list_all is_good_piece pieces ≡ true
each_is_good [] all = refl
each_is_good (piece ∷ pieces) all = both (is_good_piece piece) _ (piece_is_good piece all.0) (each_is_good pieces all.1)

good_pieces : (pieces : List Piece) → are_good_pieces pieces ≡ true → AreItems IsPiece pieces
good_pieces pieces e = (at_most (length pieces) 256 (front (nat_le (length pieces) 256) _ e), each_piece pieces (back (nat_le (length pieces) 256) _ e))

pieces_are_good : (pieces : List Piece) → AreItems IsPiece pieces → are_good_pieces pieces ≡ true
pieces_are_good pieces are = both (nat_le (length pieces) 256) _ (from_at_most (length pieces) 256 are.0) (each_is_good pieces are.1)

-- what the row of a key is
pub record KeyRow (row : Option Row) : Type 0 where
  pub number : ℕ
  pub pieces : List Piece
  pub is : row ≡ Some (rows.Key number pieces)
  pub number_fits : IsNumber number
  pub pieces_fit : AreItems IsPiece pieces

pub key_row : (row : Option Row) → is_key row ≡ true → number_at row < 2 ^ 64 → KeyRow row
key_row (Some (rows.Key number pieces)) e small = record {
  number = number;
  pieces = pieces;
  is = refl;
  number_fits = ((let over = under 0 number (front (nat_lt 0 number) _ e) in omega (arith, over)), small);
  pieces_fit = good_pieces pieces (back (nat_lt 0 number) _ e);
}
key_row row e small = absurd (false≢true e)

-- in the grammar each row of a key is one
pub row_is_key : (v b k : List ℕ) (row : Row) → RowFits (keys.Key v b k) row → is_key (Some row) ≡ true
row_is_key v b k (rows.Key number pieces) fits = let least = fits.1.0.0 in both (nat_lt 0 number) _ (from_under 0 number (omega (arith, least))) (pieces_are_good pieces fits.1.1)
row_is_key v b k row fits = absurd fits.1

its_blocks : (pieces : List Piece) → AllByRecursion IsPiece pieces → AllByRecursion IsBlock (blocks_of pieces)
its_blocks [] all = tt
its_blocks (piece ∷ pieces) all = (all.0.0, its_blocks pieces all.1)

module _ (all : Rows) (v b k : List ℕ) (is : IsKey all v b k) where
  abbrev row : Option Row
  row = all (keys.Key v b k)

  pub its_row : KeyRow row
  its_row = key_row row is.key_there is.small

  pub blocks_fit : AreItems IsBlock (version_at row)
  blocks_fit = subst (λ o. AreItems IsBlock (version_at o)) (sym its_row.is)
      ((let few = its_row.pieces_fit.0 in let same = as_many its_row.pieces in omega (arith, few, same)), its_blocks its_row.pieces its_row.pieces_fit.1)

-- the names of the requests
pub key_fits : (v b k : List ℕ) → name_fault (DeleteKey v b k) ≡ None → KeyFits (keys.Key v b k)
key_fits v b k named = (volume_is v b k [] named, bucket_is v b k [] named, key_is v b k [] named)

module _ (v b k to : List ℕ) (named : name_fault (RenameKey v b k to) ≡ None) where
  pub old_fits : KeyFits (keys.Key v b k)
  old_fits = (volume_is v b k (key_named to ∷ []) named, bucket_is v b k (key_named to ∷ []) named, key_is v b k (key_named to ∷ []) named)

  last : cond (is_key_name to) None (Some InvalidKeyName) ≡ None
  last =
      let volume = volume_name-from v old_fits.0 in
      let bucket = volume_name-from b old_fits.1 in
      let key = key_name-from k old_fits.2 in
      (λ i. cond (sym volume i) (cond (sym bucket i) (cond (sym key i) (cond (is_key_name to) None (Some InvalidKeyName)) (Some InvalidKeyName)) (Some InvalidBucketName)) (Some InvalidVolumeName)) ∙ named

  to_named : (t : Bool) → is_key_name to ≡ t → is_key_name to ≡ true
  to_named true e = e
  to_named false e = absurd (false≢true (ap is_some (sym last ∙ ap (λ (t : Bool). cond t None (Some InvalidKeyName)) e)))

  pub new_name : IsKeyName to
  new_name = key_name-passes to (to_named (is_key_name to) refl)

  -- what stood in the key's row fits under the new name
  pub new_fits : (all : Rows) → IsKey all v b k → (row : Row) → all (keys.Key v b k) ≡ Some row → RowFits (keys.Key v b to) row
  new_fits all is row e =
      let it = its_row all v b k is in
      subst (RowFits (keys.Key v b to)) (same_Some (rows.Key it.number it.pieces) row (sym it.is ∙ e)) ((old_fits.0, old_fits.1, new_name), (it.number_fits, it.pieces_fit))

  each_noted : (blocks : List Block) → AllByRecursion IsBlock blocks → AllByRecursion (MayBeNoted v b k) blocks
  each_noted [] fits = tt
  each_noted (block ∷ blocks) fits = (((old_fits.0, old_fits.1, omega arith, fits.0.1), old_fits.2), each_noted blocks fits.1)

  -- the renamed row of each block of the key keeps the rules
  pub may_note : (all : Rows) → IsKey all v b k → AllByRecursion (MayBeNoted v b k) (version_at (all (keys.Key v b k)))
  may_note all is = each_noted (version_at (all (keys.Key v b k))) (blocks_fit all v b k is).1
