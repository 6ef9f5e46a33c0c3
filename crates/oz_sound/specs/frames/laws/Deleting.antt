-- A key's row goes, and its blocks stand in a deleted row.
use Rattle.std.proofs.Common.{◌≡◌, ◌≢◌, ℕ, Bool, true, false, List, Option, None, Some, IsSome, is_some, cond, refl, sym, ◌∙◌, ap, inl, inr, ◌⊎◌}
use mathlib.Core.Bool.{false≢true}
use Rattle.std.proofs.lemmas.Option.{same_Some}
use Rattle.std.specs.List.{list_any}
use Rattle.oz_fields.specs.declared.block.Piece.{Piece}
use Rattle.oz_rows.specs.declared.key.RowKey.{RowKey}
use Rattle.oz_rows.specs.declared.key.RowKey.TheVariants as keys
use Rattle.oz_rows.specs.declared.row.Row.{Row}
use Rattle.oz_rows.specs.declared.row.Row.TheVariants as rows
use Rattle.oz_rows.specs.RowMaps.{Rows, is_same, is_block, after_changes}
use Rattle.oz_sound.specs.Sound.{StandsIn, blocks_of, IsUsing, IsSoundButRenames}
use Rattle.oz_rows.specs.laws.Same.{same_is_one}
use Rattle.oz_sound.specs.frames.Moves.{NamesStay}
use Rattle.oz_sound.specs.frames.Parts.{parted, IsParted, KeepsNumbers}
use Rattle.oz_sound.specs.frames.Sessions.{blocks_in, MayBeDeleted}
use Rattle.oz_sound.specs.frames.laws.Moving.{at_most}

some_apart : {A : Type 0} {a : A} → Some a ≡ None → ⊥
some_apart e = false≢true (sym (ap is_some e))

there_before : (t : Bool) (row : Option Row) → IsSome (cond t None row) → IsSome row
there_before true row some = absurd (false≢true some)
there_before false row some = some

module _ (all : Rows) (v b k : List ℕ) (number local : ℕ) (pieces : List Piece) (may : MayBeDeleted all v b k number local pieces) where
  abbrev from : RowKey
  from = keys.Key v b k

  abbrev to : RowKey
  to = keys.Deleted v b 0 k local

  abbrev row : Row
  row = rows.Deleted (blocks_in pieces)

  abbrev now : Rows
  now = after_changes (parted from None to (Some row)) all

  pub becomes : IsParted all from None to (Some row)
  becomes = record {
    home = tt;
    new_home = tt;
    keeper = λ keeper. tt;
    same_bucket = refl;
    apart = refl;
    left_from = λ block has. absurd (some_apart (sym has.1));
    moved_from = λ block has. record {
      row = rows.Key number pieces;
      there = may.row;
      has = ap (λ (r : Row). list_any (is_block block) (blocks_of r)) (same_Some row has.0 has.1) ∙ has.2;
    };
    all_there = λ block stands. inr (
      row,
      refl,
      ap (λ (r : Row). list_any (is_block block) (blocks_of r)) (same_Some (rows.Key number pieces) stands.row (sym may.row ∙ stands.there))
          ∙ stands.has,
    );
    not_both = λ block one two. some_apart (sym one.1);
    was_empty = λ block stands. some_apart (sym stands.there ∙ may.free);
  }

  pub names_stay : NamesStay all now
  names_stay w c q block stands = by_test (is_same from (keys.Key w c q)) stands.there
    where
      by_test : (t : Bool) → cond t None (all (keys.Key w c q)) ≡ Some stands.row → StandsIn all block (keys.Key w c q)
          ⊎ ((name : List ℕ) × (m : ℕ) × StandsIn all block (keys.Open w c name m))
      by_test true there = absurd (some_apart (sym there))
      by_test false there = inl (record { row = stands.row; there = there; has = stands.has })

  owner_before : (w c q : List ℕ) (o l : ℕ) → IsSome (now (keys.Deleted w c o q l)) → o ≢ 0 → IsSome (all (keys.Deleted w c o q l))
  owner_before w c q o l some other = by_test (is_same to (keys.Deleted w c o q l)) refl some
    where
      by_test : (t : Bool) → is_same to (keys.Deleted w c o q l) ≡ t → IsSome (cond t (Some row) (all (keys.Deleted w c o q l)))
          → IsSome (all (keys.Deleted w c o q l))
      by_test true e some = let same = same_is_one to (keys.Deleted w c o q l) e in absurd (other (let zero : o ≡ 0 = cc in zero))
      by_test false e some = some

  using_before : (w c : List ℕ) (one : List ℕ × Option ℕ) → IsUsing now w c one → IsUsing all w c one
  using_before w c (q, None) some = there_before (is_same from (keys.Key w c q)) (all (keys.Key w c q)) some
  using_before w c (q, Some m) some = some

  pub keeps : IsSoundButRenames all → KeepsNumbers all now
  keeps sound = record {
    bare = may.bare;
    open_key = λ w c q m block stands. (m, record { row = stands.row; there = stands.there; has = stands.has });
    sessions = λ w c q m some. some;
    owners = owner_before;
    few = λ w c. at_most _ _ 4096 (using_before w c) (sound.counts.keys_and_sessions w c);
  }
