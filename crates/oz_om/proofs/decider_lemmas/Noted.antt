-- What holds of all renamed rows that a rename puts.
use Rattle.std.proofs.Common.{◌≡◌, ℕ, Bool, true, false, ◌||◌, List, [], ◌∷◌, map, filter, cond, refl, sym, ap, subst}
use mathlib.Core.Bool.{false≢true}
use Rattle.std.specs.List.{AllByRecursion, list_any}
use Rattle.oz_decision.specs.laws.Versions.{block_itself, one_block}
use Rattle.oz_fields.specs.declared.block.Block.{Block}
use Rattle.oz_om_key.specs.om_change.Noting.{is_wanted, note, noted}
use Rattle.oz_rows.specs.declared.operation.Change.{Change}
use Rattle.oz_rows.specs.RowMaps.{Rows, is_block}

-- a block of those that are kept is one of all
pub in_kept : (test : Block → Bool) (block : Block) (l : List Block) → list_any (is_block block) (filter test l) ≡ true → list_any (is_block block) l ≡ true
in_kept test block [] e = e
in_kept test block (x ∷ l) e = by (test x) (is_block block x) refl (in_kept test block l) e
  where
    by : (t s : Bool) → is_block block x ≡ s → (list_any (is_block block) (filter test l) ≡ true → list_any (is_block block) l ≡ true) → list_any (is_block block) (cond t (x ∷ filter test l) (filter test l)) ≡ true → s || list_any (is_block block) l ≡ true
    by t true is later e = refl
    by true false is later e = later (subst (λ (s : Bool). s || list_any (is_block block) (filter test l) ≡ true) is e)
    by false false is later e = later e

or_right : (s t : Bool) → t ≡ true → s || t ≡ true
or_right true t e = refl
or_right false t e = e

notes_each : (P : Change → Type 0) (v b k : List ℕ) (blocks : List Block) → ((block : Block) → list_any (is_block block) blocks ≡ true → P (note v b k block)) → AllByRecursion P (map (note v b k) blocks)
notes_each P v b k [] holds = tt
notes_each P v b k (block ∷ blocks) holds = (
  holds block (ap (λ (t : Bool). t || list_any (is_block block) blocks) (block_itself block)),
  notes_each P v b k blocks (λ one has. holds one (or_right (is_block one block) (list_any (is_block one) blocks) has)),
)

pub noted_each : (P : Change → Type 0) (all : Rows) (v b k numbers : List ℕ) (blocks : List Block) → ((block : Block) → list_any (is_block block) blocks ≡ true → P (note v b k block)) → AllByRecursion P (noted all v b k numbers blocks)
noted_each P all v b k numbers blocks holds = notes_each P v b k (filter (is_wanted all v b k numbers) blocks) (λ block has. holds block (in_kept (is_wanted all v b k numbers) block blocks has))

-- what holds of each block of a list, holds of one that is among them
pub among : (P : Block → Type 0) (blocks : List Block) → AllByRecursion P blocks → (block : Block) → list_any (is_block block) blocks ≡ true → P block
among P [] each block has = absurd (false≢true has)
among P (x ∷ blocks) each block has = by (is_block block x) refl (among P blocks each.1 block) has
  where
    by : (t : Bool) → is_block block x ≡ t → (list_any (is_block block) blocks ≡ true → P block) → t || list_any (is_block block) blocks ≡ true → P block
    by true same later e = subst P (sym (one_block block x same)) each.0
    by false other later e = later e
