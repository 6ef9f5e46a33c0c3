-- A walk finds the greatest local id.
use Rattle.std.proofs.Common.{◌≡◌, ◌⊎◌, inl, inr, ◌==◌, ◌&&◌, ◌||◌, ℕ, ◌≤◌, nat_le, max, Bool, true, false, List, [], ◌∷◌, Option, None, Some, IsSome, cond, refl, sym, ◌∙◌, ap, subst, arith}
use mathlib.Core.Bool.{false≢true}
use Rattle.std.specs.List.{list_any}
use Rattle.std.specs.Ordering.{is_eq}
use Rattle.std.proofs.lemmas.Bool.Decides.{nat_tests}
use Rattle.oz_fields.specs.declared.block.Block.{Block}
use Rattle.oz_rows.specs.declared.key.RowKey.{RowKey}
use Rattle.oz_rows.specs.declared.row.Row.{Row}
use Rattle.oz_rows.specs.declared.entry.RowEntry.{RowEntry}
use Rattle.oz_rows.specs.RowMaps.{KeysRise, is_block, is_same, row_of}
use Rattle.oz_rows.specs.laws.Following.{found_over}
use Rattle.oz_rows.specs.laws.Order.{itself}
use Rattle.oz_rows.specs.laws.Same.{same_is_one}
use Rattle.oz_sound.specs.Sound.{blocks_of}
use Rattle.oz_store.specs.Store.{local_in}
use Rattle.oz_loaded.specs.Counted.{HasId, IsGreatestId, greatest_in, greatest_local, greatest_of, or_none}

max_is : (m n : ℕ) → (max m n ≡ m) ⊎ (max m n ≡ n)
max_is m n = by (nat_le m n) refl
  where
    by : (t : Bool) → nat_le m n ≡ t → (max m n ≡ m) ⊎ (max m n ≡ n)
    by true e = let le : m ≤ n = grind (arith, nat_tests, e) in inr (omega (arith, le))
    by false e = let le : n ≤ m = grind (arith, nat_tests, e) in inl (omega (arith, le))

-- ---- blocks

local_same : (block other : Block) → is_block block other ≡ true → other.local ≡ block.local
local_same block other e = by (other.container == block.container) (other.local == block.local) refl e
  where
    by : (s t : Bool) → (other.local == block.local) ≡ t → (s && t) ≡ true → other.local ≡ block.local
    by true true same both = grind (arith, nat_tests, same)
    by true false same both = absurd (false≢true both)
    by false t same both = absurd (false≢true both)

pub is_itself : (block : Block) → is_block block block ≡ true
is_itself block =
    let container : (block.container == block.container) ≡ true = grind (arith, nat_tests) in
    let local : (block.local == block.local) ≡ true = grind (arith, nat_tests) in
    λ i. container i && local i

pub or_true : (t : Bool) → (t || true) ≡ true
or_true true = refl
or_true false = refl

above_block : (blocks : List Block) (block : Block) → list_any (is_block block) blocks ≡ true → block.local ≤ greatest_local blocks
above_block [] block has = absurd (false≢true has)
above_block (first ∷ blocks) block has = by (is_block block first) refl has (above_block blocks block)
  where
    by : (t : Bool) → is_block block first ≡ t → (t || list_any (is_block block) blocks) ≡ true → (list_any (is_block block) blocks ≡ true → block.local ≤ greatest_local blocks) → block.local ≤ max first.local (greatest_local blocks)
    by true e any later = omega (arith, local_same block first e)
    by false e any later = omega (arith, later any)

reached_block : (blocks : List Block) → (greatest_local blocks ≡ 0) ⊎ ((block : Block) × (list_any (is_block block) blocks ≡ true) × (block.local ≡ greatest_local blocks))
reached_block [] = inl refl
reached_block (first ∷ blocks) = by (max_is first.local (greatest_local blocks)) (reached_block blocks)
  where
    by : (max first.local (greatest_local blocks) ≡ first.local) ⊎ (max first.local (greatest_local blocks) ≡ greatest_local blocks)
        → (greatest_local blocks ≡ 0) ⊎ ((block : Block) × (list_any (is_block block) blocks ≡ true) × (block.local ≡ greatest_local blocks))
        → (max first.local (greatest_local blocks) ≡ 0) ⊎ ((block : Block) × ((is_block block first || list_any (is_block block) blocks) ≡ true) × (block.local ≡ max first.local (greatest_local blocks)))
    by (inl e) later = inr (first, ap (λ (t : Bool). t || list_any (is_block first) blocks) (is_itself first), sym e)
    by (inr e) (inl none) = inl (e ∙ none)
    by (inr e) (inr (block, has, is)) = inr (block, ap (λ (t : Bool). is_block block first || t) has ∙ or_true (is_block block first), is ∙ sym e)

-- ---- one row

above_of : (entry : RowEntry) (other : ℕ) → HasId entry.key entry.row other → other ≤ greatest_of entry
above_of entry other (inl (block, has, is)) = omega (arith, above_block (blocks_of entry.row) block has, is)
above_of entry other (inr is) = omega (arith, ap or_none is)

reached_of : (entry : RowEntry) → (greatest_of entry ≡ 0) ⊎ HasId entry.key entry.row (greatest_of entry)
reached_of entry = by (max_is (or_none (local_in entry.key)) (greatest_local (blocks_of entry.row))) (local_in entry.key) refl (reached_block (blocks_of entry.row))
  where
    by : (greatest_of entry ≡ or_none (local_in entry.key)) ⊎ (greatest_of entry ≡ greatest_local (blocks_of entry.row)) → (o : Option ℕ) → local_in entry.key ≡ o
        → (greatest_local (blocks_of entry.row) ≡ 0) ⊎ ((block : Block) × (list_any (is_block block) (blocks_of entry.row) ≡ true) × (block.local ≡ greatest_local (blocks_of entry.row)))
        → (greatest_of entry ≡ 0) ⊎ HasId entry.key entry.row (greatest_of entry)
    by (inl e) None is later = inl (e ∙ ap or_none is)
    by (inl e) (Some id) is later = inr (inr (is ∙ ap Some (sym (e ∙ ap or_none is))))
    by (inr e) o is (inl none) = inl (e ∙ none)
    by (inr e) o is (inr (block, has, same)) = inr (inl (block, has, same ∙ sym e))

-- ---- all rows

some_row : (a b : Row) → Some a ≡ Some b → a ≡ b
some_row a b e = cc

none_above : (all : List RowEntry) (key : RowKey) (row : Row) (other : ℕ) → row_of all key ≡ Some row → HasId key row other → other ≤ greatest_in all
none_above [] key row other is has = absurd (cc is)
none_above (x ∷ l) key row other is has = by (is_same x.key key) refl is (λ later. none_above l key row other later has)
  where
    by : (t : Bool) → is_same x.key key ≡ t → cond t (Some x.row) (row_of l key) ≡ Some row → (row_of l key ≡ Some row → other ≤ greatest_in l) → other ≤ max (greatest_of x) (greatest_in l)
    by true e found later =
        let here = subst (λ (k : RowKey). HasId k row other) (sym (same_is_one x.key key e)) has in
        omega (arith, above_of x other (subst (λ (r : Row). HasId x.key r other) (sym (some_row x.row row found)) here))
    by false e found later = omega (arith, later found)

abbrev IsReached : List RowEntry → ℕ → Type 0
IsReached all id = (key : RowKey) × (row : Row) × (row_of all key ≡ Some row) × HasId key row id

reached : (all : List RowEntry) → KeysRise all → (greatest_in all ≡ 0) ⊎ IsReached all (greatest_in all)
reached [] rise = inl refl
reached (x ∷ l) rise = by (max_is (greatest_of x) (greatest_in l)) (reached_of x) (reached l rise.1)
  where
    behind : (key : RowKey) (row : Row) → row_of l key ≡ Some row → row_of (x ∷ l) key ≡ Some row
    behind key row is =
        let below = found_over x.key key l rise.0 (subst IsSome (sym is) refl) in
        ap (λ o. cond (is_eq o) (Some x.row) (row_of l key)) below ∙ is

    by : (max (greatest_of x) (greatest_in l) ≡ greatest_of x) ⊎ (max (greatest_of x) (greatest_in l) ≡ greatest_in l)
        → (greatest_of x ≡ 0) ⊎ HasId x.key x.row (greatest_of x) → (greatest_in l ≡ 0) ⊎ IsReached l (greatest_in l)
        → (max (greatest_of x) (greatest_in l) ≡ 0) ⊎ IsReached (x ∷ l) (max (greatest_of x) (greatest_in l))
    by (inl e) (inl none) later = inl (e ∙ none)
    by (inl e) (inr has) later = inr (x.key, x.row, ap (λ o. cond (is_eq o) (Some x.row) (row_of l x.key)) (itself x.key), subst (HasId x.key x.row) (sym e) has)
    by (inr e) here (inl none) = inl (e ∙ none)
    by (inr e) here (inr (key, row, is, has)) = inr (key, row, behind key row is, subst (HasId key row) (sym e) has)

pub is_greatest : (all : List RowEntry) → KeysRise all → IsGreatestId (row_of all) (greatest_in all)
is_greatest all rise = record { none_above = none_above all; reached = reached all rise }
