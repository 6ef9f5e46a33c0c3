-- What is held of rows that were gathered is what they show.
use Rattle.std.proofs.Common.{◌≡◌, ◌↔◌, ◌⊎◌, inl, inr, ⊎_elim, ℕ, Bool, true, false, ◌||◌, List, [], ◌∷◌, Some, is_some, cond, refl, sym, ◌∙◌, ap}
use mathlib.Core.Bool.{false≢true}
use Rattle.std.proofs.lemmas.Option.{same_Some}
use Rattle.std.specs.List.{AllByRecursion, list_any}
use Rattle.oz_fields.specs.declared.block.Block.{Block}
use Rattle.oz_reclaim.specs.Gathered.{AreAllOf, IsOfKind}
use Rattle.oz_reclaim.specs.Reach.{is_shown, IsShown}
use Rattle.oz_reclaim.specs.Shown.{shows, IsShownByKind, IsShownIn}
use Rattle.oz_reclaim.proofs.Between.{front, back, both}
use Rattle.oz_rows.specs.declared.entry.RowEntry.{RowEntry}
use Rattle.oz_rows.specs.declared.key.RowKey.{RowKey}
use Rattle.oz_rows.specs.declared.key.RowKey.TheVariants as keys
use Rattle.oz_rows.specs.declared.row.Row.{Row}
use Rattle.oz_rows.specs.RowMaps.{Rows, is_same, row_of}
use Rattle.oz_rows.specs.laws.Same.{same_is_one}
use Rattle.oz_sound.specs.Sound.{StandsIn}

pub or_cases : (a b : Bool) → a || b ≡ true → (a ≡ true) ⊎ (b ≡ true)
or_cases true b e = inl refl
or_cases false b e = inr e

pub or_first : (a b : Bool) → a ≡ true → a || b ≡ true
or_first true b e = refl
or_first false b e = absurd (false≢true e)

pub or_second : (a b : Bool) → b ≡ true → a || b ≡ true
or_second true b e = refl
or_second false b e = e

abbrev entry_of : RowKey → Row → RowEntry
entry_of key row = record { key = key; row = row }

-- a test that an entry passes is passed by one of rows where its key has its row
pub row_passes : (test : RowKey → Row → Bool) (l : List RowEntry) (key : RowKey) (row : Row) → row_of l key ≡ Some row → test key row ≡ true → list_any (λ (entry : RowEntry). test entry.key entry.row) l ≡ true
row_passes test [] key row found passes = absurd (false≢true (ap is_some found))
row_passes test (x ∷ l) key row found passes = by (is_same x.key key) refl found (row_passes test l key row)
  where
    by : (t : Bool) → is_same x.key key ≡ t → cond t (Some x.row) (row_of l key) ≡ Some row → (row_of l key ≡ Some row → test key row ≡ true → list_any (λ (entry : RowEntry). test entry.key entry.row) l ≡ true)
        → test x.key x.row || list_any (λ (entry : RowEntry). test entry.key entry.row) l ≡ true
    by true same found later =
        or_first (test x.key x.row) _ (ap (λ k. test k x.row) (same_is_one x.key key same) ∙ ap (test key) (same_Some x.row row found) ∙ passes)
    by false same found later = or_second (test x.key x.row) _ (later found passes)

module _ (all : Rows) (kind : ℕ) (block : Block) where
  one_shows : (l : List RowEntry) → AllByRecursion (IsOfKind all kind) l → list_any (shows all block) l ≡ true → IsShownByKind all kind block
  one_shows [] each e = absurd (false≢true e)
  one_shows (x ∷ l) each e = ⊎_elim
      (λ here. record {
        key = x.key;
        its_kind = each.0.0;
        shown = front (is_shown all x.key) _ here;
        stands = record { row = x.row; there = each.0.1; has = back (is_shown all x.key) _ here };
      })
      (one_shows l each.1)
      (or_cases (shows all block x) _ e)

  pub shown_in : (found : List RowEntry) → AreAllOf all kind found → (before now : Bool) → now ≡ before || list_any (shows all block) found → IsShownIn all kind block before now
  shown_in found are before now e = (
    (λ is. ⊎_elim inl (λ any. inr (one_shows found are.each any)) (or_cases before _ (sym e ∙ is))),
    λ some. e ∙ ⊎_elim (or_first before _) (λ by_kind. or_second before _ (given by_kind)) some,
  )
    where
      given : IsShownByKind all kind block → list_any (shows all block) found ≡ true
      given it = row_passes (λ key row. shows all block (entry_of key row)) found it.key it.stands.row (are.every it.key it.stands.row it.its_kind it.stands.there) (both (is_shown all it.key) _ it.shown it.stands.has)

-- the three kinds of rows that show blocks
pub three_kinds : (all : Rows) (block : Block) (zero one two three : Bool) (first second third : ℕ) → first ≡ 3 → second ≡ 4 → third ≡ 7 → zero ≡ false
    → IsShownIn all first block zero one → IsShownIn all second block one two → IsShownIn all third block two three → (three ≡ true) ↔ IsShown all block
three_kinds all block zero one two three first second third is_first is_second is_third none keys_shown sessions_shown snapshots_shown = (
  (λ e. ⊎_elim
      (λ e. ⊎_elim
      (λ e. ⊎_elim (λ e. absurd (false≢true (sym none ∙ e))) by_kind (keys_shown.0 e))
      by_kind (sessions_shown.0 e))
      by_kind (snapshots_shown.0 e)),
  λ it. by_key it.key it.shown it.stands,
)
  where
    by_kind : {kind : ℕ} → IsShownByKind all kind block → IsShown all block
    by_kind it = record { key = it.key; shown = it.shown; stands = it.stands }

    by_key : (key : RowKey) → is_shown all key ≡ true → StandsIn all block key → three ≡ true
    by_key (keys.Key v b k) shown stands = snapshots_shown.1 (inl (sessions_shown.1 (inl (keys_shown.1 (inr (record { key = keys.Key v b k; its_kind = sym is_first; shown = shown; stands = stands }))))))
    by_key (keys.Open v b k n) shown stands = snapshots_shown.1 (inl (sessions_shown.1 (inr (record { key = keys.Open v b k n; its_kind = sym is_second; shown = shown; stands = stands }))))
    by_key (keys.SnapshotKey v b n k) shown stands = snapshots_shown.1 (inr (record { key = keys.SnapshotKey v b n k; its_kind = sym is_third; shown = shown; stands = stands }))
    by_key key shown stands = absurd (false≢true shown)
