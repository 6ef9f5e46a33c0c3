-- What the tests of a session's row tell.
use Rattle.std.proofs.Common.{
  ◌≡◌,
  ◌≤◌,
  ◌<◌,
  ℕ,
  Bool,
  true,
  false,
  ◌&&◌,
  ◌+◌,
  nat_le,
  nat_lt,
  List,
  [],
  ◌∷◌,
  ◌++◌,
  length,
  Option,
  None,
  Some,
  is_some,
  cond,
  get_or,
  refl,
  sym,
  ◌∙◌,
  ap,
  subst,
  arith,
}
use mathlib.Core.Bool.{false≢true}
use Rattle.std.proofs.lemmas.Bool.Decides.{nat_tests}
use Rattle.std.specs.List.{AllByRecursion, list_all}
use Rattle.oz_fields.specs.declared.block.Block.{Block}
use Rattle.oz_rows.specs.declared.key.RowKey.TheVariants as keys
use Rattle.oz_rows.specs.declared.row.Row.{Row}
use Rattle.oz_rows.specs.declared.row.Row.TheVariants as rows
use Rattle.oz_rows.specs.Reading.{is_block_number}
use Rattle.oz_rows.specs.Rows.{IsBlockNumber, IsBlock, AreItems, RowFits}
use Rattle.oz_names.specs.declared.code.Code.TheVariants.{InvalidVolumeName, InvalidBucketName, InvalidKeyName}
use Rattle.oz_names.specs.Names.{IsVolumeName, IsKeyName, is_key_name}
use Rattle.oz_names.specs.laws.NameTests.{volume_name-from, key_name-passes}
use Rattle.oz_requests.specs.declared.request.Request.TheVariants.{DeleteKey}
use Rattle.oz_requests.specs.Names.{Named, volume_named, bucket_named, key_named, first_fault, name_fault}
use Rattle.oz_decision.specs.laws.Refusing.{volume_fits, bucket_fits}
use Rattle.oz_decision.specs.Sessions.{blocks_at, is_good, are_good, is_open}

pub front : (a b : Bool) → a && b ≡ true → a ≡ true
front true b e = refl
front false b e = e

pub back : (a b : Bool) → a && b ≡ true → b ≡ true
back true b e = e
back false b e = absurd (false≢true e)

pub both : (a b : Bool) → a ≡ true → b ≡ true → a && b ≡ true
both true b e f = f
both false b e f = absurd (false≢true e)

pub at_most : (a b : ℕ) → nat_le a b ≡ true → a ≤ b
at_most a b e = grind (arith, nat_tests, e)

pub from_at_most : (a b : ℕ) → a ≤ b → nat_le a b ≡ true
from_at_most a b e = grind (arith, nat_tests, e)

pub over : (a b : ℕ) → nat_le a b ≡ false → b < a
over a b e = grind (arith, nat_tests, e)

pub under : (a b : ℕ) → nat_lt a b ≡ true → a < b
under a b e = grind (arith, nat_tests, e)

pub from_under : (a b : ℕ) → a < b → nat_lt a b ≡ true
from_under a b e = grind (arith, nat_tests, e)

block_number : (n : ℕ) → is_block_number n ≡ true → IsBlockNumber n
block_number n e = (at_most 1 n (front (nat_le 1 n) _ e), at_most n _ (back (nat_le 1 n) _ e))

is_number : (n : ℕ) → IsBlockNumber n → is_block_number n ≡ true
is_number n is = both (nat_le 1 n) _ (from_at_most 1 n is.0) (from_at_most n _ is.1)

pub good_block : (block : Block) → is_good block ≡ true → IsBlock block
good_block block e =
    (block_number block.container (front (is_block_number block.container) _ e), block_number block.local (back (is_block_number block.container) _ e))

pub block_is_good : (block : Block) → IsBlock block → is_good block ≡ true
block_is_good block is = both (is_block_number block.container) _ (is_number block.container is.0) (is_number block.local is.1)

each_good : (blocks : List Block) → list_all is_good blocks ≡ true → AllByRecursion IsBlock blocks
each_good [] e = tt
each_good (block ∷ blocks) e = (good_block block (front (is_good block) _ e), each_good blocks (back (is_good block) _ e))

each_is_good : (blocks : List Block) → AllByRecursion IsBlock blocks → list_all is_good blocks ≡ true
each_is_good [] all = refl
each_is_good (block ∷ blocks) all = both (is_good block) _ (block_is_good block all.0) (each_is_good blocks all.1)

pub good_blocks : (blocks : List Block) → are_good blocks ≡ true → AreItems IsBlock blocks
good_blocks blocks e = (at_most (length blocks) 256 (front (nat_le (length blocks) 256) _ e), each_good blocks (back (nat_le (length blocks) 256) _ e))

blocks_are_good : (blocks : List Block) → AreItems IsBlock blocks → are_good blocks ≡ true
blocks_are_good blocks are = both (nat_le (length blocks) 256) _ (from_at_most (length blocks) 256 are.0) (each_is_good blocks are.1)

-- what an open row is
pub record OpenRow (number : ℕ) (row : Option Row) : Type 0 where
  pub is : row ≡ Some (rows.Open (blocks_at row))
  pub number_fits : 1 ≤ number
  pub blocks_fit : AreItems IsBlock (blocks_at row)

pub open_row : (number : ℕ) (row : Option Row) → is_open number row ≡ true → OpenRow number row
open_row number (Some (rows.Open blocks)) e = record {
  is = refl;
  number_fits = (let over = under 0 number (front (nat_lt 0 number) _ e) in omega (arith, over));
  blocks_fit = good_blocks blocks (back (nat_lt 0 number) _ e);
}
open_row number row e = absurd (false≢true e)

-- in the grammar each row of a session's key is one
pub row_is_open : (v b k : List ℕ) (number : ℕ) (row : Row) → RowFits (keys.Open v b k number) row → is_open number (Some row) ≡ true
row_is_open v b k number (rows.Open blocks) fits = let least =
    fits.0.3.0 in both (nat_lt 0 number) _ (from_under 0 number (omega (arith, least))) (blocks_are_good blocks fits.1)
row_is_open v b k number row fits = absurd fits.1

-- good names
module _ (v b k : List ℕ) (others : List Named) (named : first_fault (volume_named v ∷ bucket_named b ∷ key_named k ∷ others) ≡ None) where
  key_named_well : (t : Bool) → is_key_name k ≡ t → is_key_name k ≡ true
  key_named_well true e = e
  key_named_well false e =
      let volume = volume_name-from v (volume_fits v (bucket_named b ∷ key_named k ∷ others) named) in
      let bucket = volume_name-from b (bucket_fits v b (key_named k ∷ others) named) in
      let code : first_fault (volume_named v ∷ bucket_named b ∷ key_named k ∷ others) ≡ Some InvalidKeyName =
      λ i. cond (volume i) (cond (bucket i) (cond (e i) (first_fault others) (Some InvalidKeyName)) (Some InvalidBucketName))
      (Some InvalidVolumeName) in
      absurd (false≢true (ap is_some (sym named ∙ code)))

  pub volume_is : IsVolumeName v
  volume_is = volume_fits v (bucket_named b ∷ key_named k ∷ others) named

  pub bucket_is : IsVolumeName b
  bucket_is = bucket_fits v b (key_named k ∷ others) named

  pub key_is : IsKeyName k
  key_is = key_name-passes k (key_named_well (is_key_name k) refl)

pub all_append : {A : Type 0} (P : A → Type 0) (a b : List A) → AllByRecursion P a → AllByRecursion P b → AllByRecursion P (a ++ b)
all_append P [] b p q = q
all_append P (x ∷ a) b p q = (p.0, all_append P a b p.1 q)

pub size_with_one : {A : Type 0} (l : List A) (x : A) → length (l ++ x ∷ []) ≡ length l + 1
size_with_one [] x = refl
size_with_one (y ∷ l) x = omega (arith, size_with_one l x)

-- blocks that stand in a deleted row under the local id of the first
pub deleted_fits : (v b k : List ℕ) → name_fault (DeleteKey v b k) ≡ None → (first : Block) (others : List Block) → AreItems IsBlock (first ∷ others)
    → RowFits (keys.Deleted v b 0 k first.local) (rows.Deleted (first ∷ others))
deleted_fits v b k named first others fit = ((volume_is v b k [] named, bucket_is v b k [] named, (omega arith), key_is v b k [] named, fit.1.0.1), (fit, refl))

pub deleted_of : (v b k : List ℕ) → name_fault (DeleteKey v b k) ≡ None → (blocks lent : List Block) (first : Block) → lent ≡ blocks → 0 < length lent
    → first ≡ get_or lent 0 first → AreItems IsBlock blocks → RowFits (keys.Deleted v b 0 k first.local) (rows.Deleted blocks)
deleted_of v b k named blocks [] first same some e fit = absurd (omega (arith, some))
deleted_of v b k named blocks (x ∷ l) first same some e fit =
    subst (λ (f : Block). RowFits (keys.Deleted v b 0 k f.local) (rows.Deleted blocks)) (sym e)
    (subst (λ (bs : List Block). RowFits (keys.Deleted v b 0 k x.local) (rows.Deleted bs)) same
    (deleted_fits v b k named x l (subst (AreItems IsBlock) (sym same) fit)))
