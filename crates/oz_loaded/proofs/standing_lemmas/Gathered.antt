-- The rows of a part are those of all rows whose keys begin with its fields.
use Rattle.std.proofs.Common.{◌≡◌, ℕ, Bool, true, false, List, [], ◌∷◌, ◌++◌, length, take, Option, None, Some, cond, refl, sym, ◌∙◌, ap, subst}
use Rattle.std.specs.List.{AllByRecursion}
use Rattle.std.specs.Cmp.Lexicographic.{slice_cmp}
use Rattle.std.specs.Ordering.{is_eq, nat_cmp}
use Rattle.std.specs.declared.cmp.Ordering.TheVariants.{Less, Equal, Greater}
use Rattle.std.specs.FinMap.{nat_cmp-IsAntisymmetric, slice_cmp-IsAntisymmetric}
use Rattle.std.proofs.lemmas.Cmp.{lists_total, nat_list_cmp_total, tied_itself}
use Rattle.oz_effects.specs.Parts.{IsPart, fields_of, part_order}
use Rattle.oz_rows.specs.declared.key.RowKey.{RowKey}
use Rattle.oz_rows.specs.declared.row.Row.{Row}
use Rattle.oz_rows.specs.declared.entry.RowEntry.{RowEntry}
use Rattle.oz_rows.specs.RowMaps.{AreRows, KeysRise, row_of}
use Rattle.oz_rows.specs.laws.Order.{equal_from_test}
use Rattle.oz_sound.specs.stripes.Parts.{part_of}
use Rattle.oz_sound.specs.stripes.laws.Lists.{taken, left_out, each_found, part_rises, row_of_part}

module _ (front : List (List ℕ)) where
  abbrev pub is_in : RowKey → Bool
  is_in key = is_eq (part_order front key)

  past_lower : (lower rest : List RowEntry) → AllByRecursion (λ entry. part_order front entry.key ≡ Greater) lower → part_of is_in (lower ++ rest) ≡ part_of is_in rest
  past_lower [] rest all = refl
  past_lower (x ∷ lower) rest all = left_out is_in x (lower ++ rest) (ap is_eq all.0) ∙ past_lower lower rest all.1

  with_part : (part rest : List RowEntry) → AllByRecursion (λ entry. part_order front entry.key ≡ Equal) part → part_of is_in rest ≡ [] → part_of is_in (part ++ rest) ≡ part
  with_part [] rest all none = none
  with_part (x ∷ part) rest all none = taken is_in x (part ++ rest) (ap is_eq all.0) ∙ ap (λ (l : List RowEntry). x ∷ l) (with_part part rest all.1 none)

  none_greater : (greater : List RowEntry) → AllByRecursion (λ entry. part_order front entry.key ≡ Less) greater → part_of is_in greater ≡ []
  none_greater [] all = refl
  none_greater (x ∷ greater) all = left_out is_in x greater (ap is_eq all.0) ∙ none_greater greater all.1

  pub is_part : (all part : List RowEntry) → KeysRise all → ((l : List RowEntry) → AreRows l (row_of all) → IsPart l front part) → part ≡ part_of is_in all
  is_part all part rise are =
      let it = are all (record { in_order = rise; rows_are = λ key. refl }) in
      sym (ap (part_of is_in) it.parts ∙ past_lower it.lower (part ++ it.greater) it.before ∙ with_part part it.greater it.among (none_greater it.greater it.behind))

  pub begins_with : (key : RowKey) → is_in key ≡ true → front ≡ take (length front) (fields_of key)
  begins_with key e = slice_cmp-IsAntisymmetric (slice_cmp-IsAntisymmetric nat_cmp-IsAntisymmetric) front (take (length front) (fields_of key)) (equal_from_test (part_order front key) e)

  pub begun : (key : RowKey) → front ≡ take (length front) (fields_of key) → is_in key ≡ true
  begun key e = ap is_eq (subst (λ (fields : List (List ℕ)). slice_cmp (slice_cmp nat_cmp) front fields ≡ Equal) e (tied_itself (lists_total nat_list_cmp_total) front))

  -- a row of the part begins with its fields, and is found under its key among all rows
  abbrev pub IsFound : List RowEntry → RowEntry → Type 0
  IsFound all x = (is_in x.key ≡ true) × (row_of all x.key ≡ Some x.row)

  one_found : (t : Bool) (o : Option Row) (row : Row) → cond t o None ≡ Some row → (t ≡ true) × (o ≡ Some row)
  one_found true o row e = (refl, e)
  one_found false o row e = absurd (cc e)

  each_of : (all l : List RowEntry) → AllByRecursion (λ (x : RowEntry). row_of (part_of is_in all) x.key ≡ Some x.row) l → AllByRecursion (IsFound all) l
  each_of all [] found = tt
  each_of all (x ∷ l) found = (one_found (is_in x.key) (row_of all x.key) x.row (sym (row_of_part is_in all x.key) ∙ found.0), each_of all l found.1)

  pub each_in : (all : List RowEntry) → KeysRise all → AllByRecursion (IsFound all) (part_of is_in all)
  each_in all rise = each_of all (part_of is_in all) (each_found (part_of is_in all) (part_rises is_in all rise))

pub each_so : {A : Type 0} (P Q : A → Type 0) → ((a : A) → P a → Q a) → (l : List A) → AllByRecursion P l → AllByRecursion Q l
each_so P Q so [] all = tt
each_so P Q so (x ∷ l) all = (so x all.0, each_so P Q so l all.1)
