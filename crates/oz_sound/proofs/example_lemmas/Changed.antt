-- Lists of rows of which some are left out, or that get one more.
use Rattle.std.proofs.Common.{◌≡◌, Bool, true, false, List, [], ◌∷◌, filter, None, Some, cond, refl, sym, ◌∙◌, ap, subst}
use mathlib.Core.Bool.{false≢true}
use Rattle.std.specs.Ordering.{is_eq, is_lt}
use Rattle.std.specs.declared.cmp.Ordering.{Ordering}
use Rattle.std.specs.declared.cmp.Ordering.TheVariants.{Less, Equal, Greater}
use Rattle.oz_rows.specs.declared.key.RowKey.{RowKey}
use Rattle.oz_rows.specs.declared.entry.RowEntry.{RowEntry}
use Rattle.oz_rows.specs.Order.{key_order}
use Rattle.oz_rows.specs.RowMaps.{row_of, is_same}
use Rattle.oz_sound.proofs.example_lemmas.Keys.{same_is_one, same_self}

-- the rows whose keys pass a test
module _ (test : RowKey → Bool) where
  abbrev pub those : List RowEntry → List RowEntry
  those rows = filter (λ (entry : RowEntry). test entry.key) rows

  pub row_of_those : (rows : List RowEntry) (key : RowKey) → row_of (those rows) key ≡ cond (test key) (row_of rows key) None
  row_of_those [] key = by (test key)
    where
      by : (t : Bool) → row_of [] key ≡ cond t (row_of [] key) None
      by true = refl
      by false = refl
  row_of_those (x ∷ l) key = by (test x.key) refl (is_same x.key key) refl (row_of_those l key)
    where
      by : (t : Bool) → test x.key ≡ t → (s : Bool) → is_same x.key key ≡ s → row_of (those l) key ≡ cond (test key) (row_of l key) None
          → row_of (cond t (x ∷ those l) (those l)) key ≡ cond (test key) (cond s (Some x.row) (row_of l key)) None
      by true e true f later =
          let pass : test key ≡ true = sym (ap test (same_is_one x.key key f)) ∙ e in
          ap (λ (s : Bool). cond s (Some x.row) (row_of (those l) key)) f ∙ sym (ap (λ (t : Bool). cond t (Some x.row) None) pass)
      by true e false f later = ap (λ (s : Bool). cond s (Some x.row) (row_of (those l) key)) f ∙ later
      by false e true f later =
          let fail : test key ≡ false = sym (ap test (same_is_one x.key key f)) ∙ e in
          later ∙ ap (λ (t : Bool). cond t (row_of l key) None) fail ∙ sym (ap (λ (t : Bool). cond t (Some x.row) None) fail)
      by false e false f later = later

-- a row put at its place
abbrev pub placed : RowEntry → List RowEntry → List RowEntry
placed entry [] = entry ∷ []
placed entry (x ∷ rows) = cond (is_lt (key_order x.key entry.key)) (x ∷ placed entry rows) (entry ∷ x ∷ rows)

not_both : (o : Ordering) → is_lt o ≡ true → is_eq o ≡ true → false ≡ true
not_both Less lt eq = eq
not_both Equal lt eq = lt
not_both Greater lt eq = eq

pub row_of_placed : (entry : RowEntry) (rows : List RowEntry) (key : RowKey) → row_of (placed entry rows) key ≡ cond (is_same entry.key key) (Some entry.row) (row_of rows key)
row_of_placed entry [] key = refl
row_of_placed entry (x ∷ l) key = by (is_lt (key_order x.key entry.key)) refl (is_same x.key key) refl (is_same entry.key key) refl (row_of_placed entry l key)
  where
    by : (t : Bool) → is_lt (key_order x.key entry.key) ≡ t → (s : Bool) → is_same x.key key ≡ s → (q : Bool) → is_same entry.key key ≡ q
        → row_of (placed entry l) key ≡ cond (is_same entry.key key) (Some entry.row) (row_of l key)
        → row_of (cond t (x ∷ placed entry l) (entry ∷ x ∷ l)) key ≡ cond q (Some entry.row) (cond s (Some x.row) (row_of l key))
    by true less true here true own later =
        let one : x.key ≡ entry.key = same_is_one x.key key here ∙ sym (same_is_one entry.key key own) in
        absurd (false≢true (not_both (key_order x.key entry.key) less (subst (λ (k : RowKey). is_same x.key k ≡ true) one (same_self x.key))))
    by true less true here false own later = ap (λ (s : Bool). cond s (Some x.row) (row_of (placed entry l) key)) here
    by true less false here q own later =
        ap (λ (s : Bool). cond s (Some x.row) (row_of (placed entry l) key)) here ∙ later ∙ ap (λ (q : Bool). cond q (Some entry.row) (row_of l key)) own
    by false less s here q own later =
        ap (λ (q : Bool). cond q (Some entry.row) (row_of (x ∷ l) key)) own ∙ ap (λ (s : Bool). cond q (Some entry.row) (cond s (Some x.row) (row_of l key))) here
