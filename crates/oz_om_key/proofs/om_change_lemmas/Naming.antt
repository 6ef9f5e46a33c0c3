-- A key gets another name, and the old one is noted: what renamed rows say stays true.
use Rattle.std.proofs.Common.{◌≡◌, inl, inr, ℕ, ◌&&◌, not, Bool, true, false, List, [], ◌∷◌, Option, None, Some, IsSome, is_some, cond, refl, sym, ◌∙◌, ap, arith}
use mathlib.Core.Bool.{false≢true}
use Rattle.std.proofs.lemmas.Option.{same_Some}
use Rattle.std.specs.List.{list_any}
use Rattle.oz_decision.specs.Meets.{AreInGrammar}
use Rattle.oz_decision.specs.Versions.{version_at}
use Rattle.oz_fields.specs.declared.block.Block.{Block}
use Rattle.oz_fields.specs.declared.block.Piece.{Piece}
use Rattle.oz_om_key.specs.om_change.Noting.{AreSnapshotNumbers, noted}
use Rattle.oz_reclaim.specs.Held.{AreNumbers, is_held}
use Rattle.oz_reclaim.specs.Renames.{IsBeside, KeyRenamed, NotesName}
use Rattle.oz_reclaim.specs.laws.Held.{held_by_pass}
use Rattle.oz_reclaim.specs.laws.Renames.{rename_keeps}
use Rattle.oz_rows.specs.declared.key.RowKey.{RowKey}
use Rattle.oz_rows.specs.declared.key.RowKey.TheVariants as keys
use Rattle.oz_rows.specs.declared.operation.Change.{Change}
use Rattle.oz_rows.specs.declared.row.Row.{Row}
use Rattle.oz_rows.specs.declared.row.Row.TheVariants as rows
use Rattle.oz_rows.specs.RowMaps.{Rows, is_block, is_same, put, gone, after_changes}
use Rattle.oz_rows.specs.laws.Same.{same_is_one}
use Rattle.oz_sound.specs.Sound.{IsSound, RenamesAreSound, SnapshotHas, StandsIn, blocks_of}
use Rattle.oz_sound.specs.StandsFor.{is_among}
use Rattle.oz_om_key.proofs.om_change_lemmas.Batches.{untouched}
use Rattle.oz_om_key.proofs.om_change_lemmas.Noted.{IsNoted, comes, notes_all, noting, still_there}
use Rattle.oz_om_key.proofs.om_change_lemmas.RenameMoves.{itself_key}

-- the numbers of rows in the grammar are those that the pass wants
numbers_are : (all : Rows) (v b numbers : List ℕ) → AreInGrammar all → AreSnapshotNumbers all v b numbers → AreNumbers all v b numbers
numbers_are all v b numbers fit are = record { rise = are.rise; every = λ n some. by n (all (keys.Snapshot v b n)) refl some }
  where
    by : (n : ℕ) (o : Option Row) → all (keys.Snapshot v b n) ≡ o → IsSome o → is_among n numbers ≡ true
    by n None e some = absurd (false≢true some)
    by n (Some row) e some = let least = (fit (keys.Snapshot v b n) row e).0.2.0 in are.every n (omega (arith, least), ap is_some e)

module _ (all : Rows) (v b k to : List ℕ) (number : ℕ) (pieces : List Piece) (there : all (keys.Key v b k) ≡ Some (rows.Key number pieces)) (free : all (keys.Key v b to) ≡ None) (numbers : List ℕ) where
  abbrev of_key : RowKey
  of_key = keys.Key v b k

  abbrev of_new : RowKey
  of_new = keys.Key v b to

  abbrev row : Row
  row = rows.Key number pieces

  abbrev blocks : List Block
  blocks = version_at (Some row)

  abbrev mid : Rows
  mid = after_changes (gone of_key ∷ put of_new row ∷ []) all

  abbrev now : Rows
  now = after_changes (noted all v b k numbers blocks) mid

  still : (q : RowKey) → ((l : ℕ) → is_same (keys.Renamed v b 0 l) q ≡ false) → now q ≡ mid q
  still q apart = untouched (noted all v b k numbers blocks) q (notes_all all v b k numbers (λ (change : Change). is_same change.key q ≡ false) (λ l r. apart l) blocks) (mid q)

  -- both are different rows
  apart_now : is_same of_new of_key ≡ false
  apart_now = by (is_same of_new of_key) refl
    where
      by : (t : Bool) → is_same of_new of_key ≡ t → t ≡ false
      by false e = refl
      by true e = absurd (false≢true (sym (ap is_some free) ∙ ap (λ q. is_some (all q)) (same_is_one of_new of_key e) ∙ ap is_some there))

  in_row : (block : Block) → list_any (is_block block) blocks ≡ true → StandsIn all block of_key
  in_row block among = record { row = row; there = there; has = among }

  among_row : (block : Block) → StandsIn all block of_key → list_any (is_block block) blocks ≡ true
  among_row block stands = ap (λ (r : Row). list_any (is_block block) (blocks_of r)) (same_Some row stands.row (sym there ∙ stands.there)) ∙ stands.has

  both_are : (s t : Bool) → s && t ≡ true → s ≡ true
  both_are true t e = refl
  both_are false t e = e

  none_there : (o : Option Row) → not (is_some o) ≡ true → o ≡ None
  none_there None e = refl
  none_there (Some r) e = absurd (false≢true e)

  beside : (place : RowKey) → IsBeside place → now place ≡ all place
  beside (keys.Volume w) is = still (keys.Volume w) (λ l. refl)
  beside (keys.Bucket w c) is = still (keys.Bucket w c) (λ l. refl)
  beside (keys.Open w c q m) is = still (keys.Open w c q m) (λ l. refl)
  beside (keys.Deleted w c o q l) is = still (keys.Deleted w c o q l) (λ m. refl)
  beside (keys.Snapshot w c m) is = still (keys.Snapshot w c m) (λ l. refl)
  beside (keys.SnapshotKey w c m q) is = still (keys.SnapshotKey w c m q) (λ l. refl)
  beside (keys.Stripe s) is = still (keys.Stripe s) (λ l. refl)
  beside place is = absurd is

  notes_name : (place : RowKey) → IsNoted all v b k numbers place blocks → now place ≡ Some (rows.Renamed k) → NotesName all now v b k place
  notes_name place found is = record {
    block = found.block;
    stands = in_row found.block found.among;
    its_place = found.its_place;
    none_before = ap all found.its_place ∙ none_there (all (keys.Renamed v b 0 found.block.local)) (both_are _ (is_held all v b found.block k numbers) found.is);
    row = is;
  }

  module _ (fit : AreInGrammar all) (sound : IsSound all) (are : AreSnapshotNumbers all v b numbers) where
    comes_there : (block : Block) (n : ℕ) (name : List ℕ) → StandsIn all block of_key → SnapshotHas all v b n block name → IsSome (now (keys.Renamed v b 0 block.local))
    comes_there block n name stands has = by (all (keys.Renamed v b 0 block.local)) refl
      where
        held : is_held all v b block k numbers ≡ true
        held = (held_by_pass all fit sound.numbers v b k block sound.renames stands numbers (numbers_are all v b numbers fit are)).1 (n, name, has)

        by : (o : Option Row) → all (keys.Renamed v b 0 block.local) ≡ o → IsSome (now (keys.Renamed v b 0 block.local))
        by (Some r) e = still_there all v b k numbers blocks (keys.Renamed v b 0 block.local) (all (keys.Renamed v b 0 block.local)) (ap is_some e)
        by None e = comes all v b k numbers block (ap (λ o. not (is_some o) && is_held all v b block k numbers) e ∙ held) blocks (among_row block stands) (all (keys.Renamed v b 0 block.local))

    key_renamed : KeyRenamed all now v b k to
    key_renamed = record {
      beside = beside;
      gone = still of_key (λ l. refl) ∙ (λ i. cond (apart_now i) (Some row) (cond (itself_key of_key i) None (all of_key)));
      free = free;
      moved = still of_new (λ l. refl) ∙ ap (λ (t : Bool). cond t (Some row) (cond (is_same of_key of_new) None (all of_new))) (itself_key of_new) ∙ sym there;
      others = λ w c q e f. still (keys.Key w c q) (λ l. refl) ∙ (λ i. cond (f i) (Some row) (cond (e i) None (all (keys.Key w c q))));
      renamed = λ w c o l. elim (noting all v b k numbers blocks (keys.Renamed w c o l) (all (keys.Renamed w c o l))) [
        | inl same ↦ inl same
        | inr found ↦ inr (notes_name (keys.Renamed w c o l) found.0 found.1)
      ];
      noted = comes_there;
    }

    pub renames_stay : AreInGrammar now → RenamesAreSound now
    renames_stay fit_now = rename_keeps all now v b k to key_renamed fit_now sound.blocks sound.numbers sound.renames
