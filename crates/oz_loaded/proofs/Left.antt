-- The blocks that are left are those of deleted rows.
use Rattle.std.proofs.Common.{◌≡◌, ◌⊎◌, ◌↔◌, inl, inr, ◌==◌, ◌&&◌, ◌||◌, ℕ, zero, suc, Bool, true, false, List, [], ◌∷◌, Some, Contains, cond, refl, sym, ◌∙◌, ap, arith}
use mathlib.Core.Bool.{false≢true}
use Rattle.std.specs.List.{flat_map, list_any}
use Rattle.std.proofs.lemmas.Bool.Decides.{nat_tests}
use Rattle.std.proofs.lemmas.List.Concat.{flat_map-cons}
use Rattle.std.proofs.lemmas.List.Folds.{list_any-append}
use Rattle.oz_fields.specs.declared.block.Block.{Block}
use Rattle.oz_rows.specs.declared.key.RowKey.{RowKey}
use Rattle.oz_rows.specs.declared.key.RowKey.TheVariants as keys
use Rattle.oz_rows.specs.declared.row.Row.{Row}
use Rattle.oz_rows.specs.declared.row.Row.TheVariants as rows
use Rattle.oz_rows.specs.declared.entry.RowEntry.{RowEntry}
use Rattle.oz_rows.specs.RowMaps.{KeysRise, is_block, is_same, row_of}
use Rattle.oz_rows.specs.Rows.{RowFits}
use Rattle.oz_rows.specs.laws.Same.{same_is_one}
use Rattle.oz_sound.specs.Sound.{blocks_of}
use Rattle.oz_store.specs.Store.{IsInADeletedRow}
use Rattle.oz_sound.specs.stripes.laws.Lists.{each_found}
use Rattle.std.specs.List.{AllByRecursion}
use Rattle.oz_loaded.specs.Counted.{deleted_blocks, left_in}
use Rattle.oz_loaded.proofs.Greatest.{is_itself, or_true}

-- ---- a block among others

block_from : ℕ → ℕ → Block
block_from container local = record { container = container; local = local }

one_block : (block other : Block) → is_block block other ≡ true → other ≡ block
unfolding block_from
one_block block other e = by (other.container == block.container) (other.local == block.local) refl refl e
  where
    by : (s t : Bool) → (other.container == block.container) ≡ s → (other.local == block.local) ≡ t → (s && t) ≡ true → other ≡ block
    by true true container local both =
        let c : other.container ≡ block.container = grind (arith, nat_tests, container) in
        let l : other.local ≡ block.local = grind (arith, nat_tests, local) in
        λ i. block_from (c i) (l i)
    by true false container local both = absurd (false≢true both)
    by false t container local both = absurd (false≢true both)

among_from : (blocks : List Block) (block : Block) → Contains blocks block → list_any (is_block block) blocks ≡ true
among_from [] block (k, below, is) = absurd (omega (arith, below))
among_from (first ∷ blocks) block (zero, below, is) = ap (λ (b : Block). is_block block b || list_any (is_block block) blocks) is ∙ ap (λ (t : Bool). t || list_any (is_block block) blocks) (is_itself block)
among_from (first ∷ blocks) block (suc k, below, is) = ap (λ (t : Bool). is_block block first || t) (among_from blocks block (k, omega (arith, below), is)) ∙ or_true (is_block block first)

among_to : (blocks : List Block) (block : Block) → list_any (is_block block) blocks ≡ true → Contains blocks block
among_to [] block has = absurd (false≢true has)
among_to (first ∷ blocks) block has = by (is_block block first) refl has (among_to blocks block)
  where
    by : (t : Bool) → is_block block first ≡ t → (t || list_any (is_block block) blocks) ≡ true → (list_any (is_block block) blocks ≡ true → Contains blocks block) → Contains (first ∷ blocks) block
    by true e any later = (0, omega arith, one_block block first e)
    by false e any later = let behind = later any in (suc behind.0, omega (arith, behind.1), behind.2)

or_either : (s t : Bool) → (s || t) ≡ true → (s ≡ true) ⊎ (t ≡ true)
or_either true t e = inl refl
or_either false t e = inr e

-- ---- the blocks of all deleted rows

blocks_in : RowEntry → List Block
blocks_in entry = deleted_blocks entry.key entry.row

any_left : (x : RowEntry) (l : List RowEntry) (block : Block) → list_any (is_block block) (left_in (x ∷ l)) ≡ (list_any (is_block block) (deleted_blocks x.key x.row) || list_any (is_block block) (left_in l))
unfolding blocks_in
any_left x l block = ap (list_any (is_block block)) (flat_map-cons blocks_in x l) ∙ list_any-append (is_block block) (blocks_in x) (flat_map blocks_in l)

module _ (all : List RowEntry) (block : Block) where
  deleted_row : (key : RowKey) (row : Row) → list_any (is_block block) (deleted_blocks key row) ≡ true → row_of all key ≡ Some row → IsInADeletedRow (row_of all) block
  deleted_row (keys.Deleted volume bucket owner key local) (rows.Deleted blocks) has is = record {
    volume = volume;
    bucket = bucket;
    owner = owner;
    key = key;
    local = local;
    has = record { row = rows.Deleted blocks; there = is; has = has };
  }
  deleted_row key row has is = absurd (false≢true has)

  found_in : (l : List RowEntry) → AllByRecursion (λ (entry : RowEntry). row_of all entry.key ≡ Some entry.row) l → list_any (is_block block) (left_in l) ≡ true → IsInADeletedRow (row_of all) block
  found_in [] stand has = absurd (false≢true has)
  found_in (x ∷ l) stand has = by (or_either _ _ (sym (any_left x l block) ∙ has)) (found_in l stand.1)
    where
      by : (list_any (is_block block) (deleted_blocks x.key x.row) ≡ true) ⊎ (list_any (is_block block) (left_in l) ≡ true) → (list_any (is_block block) (left_in l) ≡ true → IsInADeletedRow (row_of all) block) → IsInADeletedRow (row_of all) block
      by (inl here) later = deleted_row x.key x.row here stand.0
      by (inr behind) later = later behind

in_row : (l : List RowEntry) (block : Block) (key : RowKey) (row : Row) → row_of l key ≡ Some row → list_any (is_block block) (deleted_blocks key row) ≡ true → list_any (is_block block) (left_in l) ≡ true
in_row [] block key row is has = absurd (cc is)
in_row (x ∷ l) block key row is has = any_left x l block ∙ by (is_same x.key key) refl is (λ found. in_row l block key row found has)
  where
    one_row : (a b : Row) → Some a ≡ Some b → a ≡ b
    one_row a b e = cc

    by : (t : Bool) → is_same x.key key ≡ t → cond t (Some x.row) (row_of l key) ≡ Some row → (row_of l key ≡ Some row → list_any (is_block block) (left_in l) ≡ true) → (list_any (is_block block) (deleted_blocks x.key x.row) || list_any (is_block block) (left_in l)) ≡ true
    by true e found later =
        let k = same_is_one x.key key e in
        let r = one_row x.row row found in
        ap (λ (t : Bool). t || list_any (is_block block) (left_in l)) ((λ i. list_any (is_block block) (deleted_blocks (k i) (r i))) ∙ has)
    by false e found later = ap (λ (t : Bool). list_any (is_block block) (deleted_blocks x.key x.row) || t) (later found) ∙ or_true _

fits_deleted : (block : Block) (volume bucket key : List ℕ) (owner local : ℕ) (row : Row) → RowFits (keys.Deleted volume bucket owner key local) row → list_any (is_block block) (blocks_of row) ≡ true
    → list_any (is_block block) (deleted_blocks (keys.Deleted volume bucket owner key local) row) ≡ true
fits_deleted block volume bucket key owner local (rows.Deleted blocks) fits has = has
fits_deleted block volume bucket key owner local row fits has = absurd fits.1

pub left_is : (all : List RowEntry) → KeysRise all → ((key : RowKey) (row : Row) → row_of all key ≡ Some row → RowFits key row) → (block : Block) → Contains (left_in all) block ↔ IsInADeletedRow (row_of all) block
left_is all rise fit block = (
  λ has. found_in all block all (each_found all rise) (among_from (left_in all) block has),
  λ (stands : IsInADeletedRow (row_of all) block).
      among_to (left_in all) block (in_row all block _ stands.has.row stands.has.there
      (fits_deleted block stands.volume stands.bucket stands.key stands.owner stands.local stands.has.row (fit _ stands.has.row stands.has.there) stands.has.has)),
)
