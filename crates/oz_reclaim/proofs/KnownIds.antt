-- Whether something is in reach of deleted rows whose local ids are known: a test that tells of all blocks says it.
use Rattle.std.proofs.Common.{◌≡◌, ◌↔◌, ℕ, Bool, true, false, List, [], ◌∷◌, Some, is_some, cond, refl, sym, ap, subst}
use mathlib.Core.Bool.{false≢true}
use Rattle.std.proofs.lemmas.Option.{same_Some}
use Rattle.std.specs.List.{AllByRecursion, list_any}
use Rattle.oz_fields.specs.declared.block.Block.{Block}
use Rattle.oz_reclaim.specs.Gathered.{AreAllOf, IsOfKind}
use Rattle.oz_reclaim.specs.Known.{IsClearIfKnown, IsOfKnown}
use Rattle.oz_reclaim.specs.Reach.{IsShown}
use Rattle.oz_reclaim.specs.Service.{AreUnreached}
use Rattle.oz_reclaim.specs.laws.Reach.{among, contains}
use Rattle.oz_reclaim.proofs.FreeRows.{fails, none_passes}
use Rattle.oz_rows.specs.declared.entry.RowEntry.{RowEntry}
use Rattle.oz_rows.specs.declared.key.RowKey.{RowKey}
use Rattle.oz_rows.specs.declared.key.RowKey.TheVariants as keys
use Rattle.oz_rows.specs.declared.row.Row.{Row}
use Rattle.oz_rows.specs.RowMaps.{Rows, is_same, row_of}
use Rattle.oz_rows.specs.laws.Same.{same_is_one}
use Rattle.oz_sound.specs.Sound.{blocks_of}

at_key : (P : RowEntry → Type 0) (l : List RowEntry) (key : RowKey) (row : Row) → row_of l key ≡ Some row → AllByRecursion P l → P (record { key = key; row = row })
at_key P [] key row e all = absurd (false≢true (ap is_some e))
at_key P (x ∷ l) key row e all = by (is_same x.key key) refl e (λ later. at_key P l key row later all.1)
  where
    by : (t : Bool) → is_same x.key key ≡ t → cond t (Some x.row) (row_of l key) ≡ Some row → (row_of l key ≡ Some row → P (record { key = key; row = row })) → P (record { key = key; row = row })
    by true same e later = subst (λ (k : RowKey). P (record { key = k; row = row })) (same_is_one x.key key same) (subst (λ (r : Row). P (record { key = x.key; row = r })) (same_Some x.row row e) all.0)
    by false not e later = later e

module _ (all : Rows) (test : Block → Bool) (tells : (block : Block) → (test block ≡ true) ↔ IsShown all block) (known : List ℕ) where
  clear : AreUnreached all known → (key : RowKey) (row : Row) → all key ≡ Some row → IsOfKnown known key → list_any test (blocks_of row) ≡ false
  clear away (keys.Deleted v b owner k local) row there of_known =
      none_passes test (blocks_of row) (λ block has passes. away v b k owner local of_known block (record { row = row; there = there; has = among block (blocks_of row) has }) ((tells block).0 passes))
  clear away key row there of_known = absurd of_known

  all_clear : AreUnreached all known → (kind : ℕ) (l : List RowEntry) → AllByRecursion (IsOfKind all kind) l → AllByRecursion (IsClearIfKnown known test) l
  all_clear away kind [] are = tt
  all_clear away kind (x ∷ l) are = (clear away x.key x.row are.0.1, all_clear away kind l are.1)

  module _ (kind : ℕ) (is_kind : kind ≡ 5) (found : List RowEntry) (are : AreAllOf all kind found) where
    pub unreached_clear : AreUnreached all known → AllByRecursion (IsClearIfKnown known test) found
    unreached_clear away = all_clear away kind found are.each

    pub clear_unreached : AllByRecursion (IsClearIfKnown known test) found → AreUnreached all known
    clear_unreached are_clear v b k owner local of_known block stands shown =
        let there = are.every (keys.Deleted v b owner k local) stands.row (sym is_kind) stands.there in
        let none = at_key (IsClearIfKnown known test) found (keys.Deleted v b owner k local) stands.row there are_clear of_known in
        fails test (blocks_of stands.row) block none (contains block (blocks_of stands.row) stands.has) ((tells block).1 shown)
