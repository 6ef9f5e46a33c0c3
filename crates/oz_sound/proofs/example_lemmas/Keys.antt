-- Keys that tie are one key: a key can be told from its kind and its fields.
use Rattle.std.proofs.Common.{◌≡◌, ◌==◌, ℕ, true, List, [], ◌∷◌, get_or, refl, sym, ◌∙◌, ap, if◌then◌else◌}
use mathlib.Core.Bool.{false≢true}
use Rattle.std.specs.FinMap.{nat_cmp-IsAntisymmetric, slice_cmp-IsAntisymmetric}
use Rattle.std.specs.Ordering.{is_eq, is_lt}
use Rattle.std.specs.declared.cmp.Ordering.{Ordering}
use Rattle.std.specs.declared.cmp.Ordering.TheVariants.{Less, Equal, Greater}
use Rattle.std.proofs.lemmas.Cmp.{lists_total, nat_list_cmp_total, tied_itself}
use Rattle.oz_rows.specs.declared.key.RowKey.{RowKey}
use Rattle.oz_rows.specs.declared.key.RowKey.TheVariants as keys
use Rattle.oz_rows.specs.Rows.{kind_of}
use Rattle.oz_rows.specs.Order.{key_fields}
use Rattle.oz_rows.specs.RowMaps.{is_same}

abbrev told : RowKey → List (List ℕ)
told key = (kind_of key ∷ []) ∷ key_fields key

key_from : ℕ → List ℕ → List ℕ → List ℕ → List ℕ → List ℕ → RowKey
key_from kind a b c d e =
    let number = λ (field : List ℕ). get_or field 0 0 in
    if kind == 1 then keys.Volume a else (
    if kind == 2 then keys.Bucket a b else (
    if kind == 3 then keys.Key a b c else (
    if kind == 4 then keys.Open a b c (number d) else (
    if kind == 5 then keys.Deleted a b (number c) d (number e) else (
    if kind == 6 then keys.Snapshot a b (number c) else (
    if kind == 7 then keys.SnapshotKey a b (number c) d else (
    if kind == 8 then keys.Renamed a b (number c) (number d) else
    keys.Stripe (number a))))))))

again : List (List ℕ) → RowKey
again l = let field = λ (i : ℕ). get_or l i [] in key_from (get_or (field 0) 0 0) (field 1) (field 2) (field 3) (field 4) (field 5)

again_told : (key : RowKey) → again (told key) ≡ key
unfolding again key_from
again_told (keys.Volume a) = refl
again_told (keys.Bucket a b) = refl
again_told (keys.Key a b c) = refl
again_told (keys.Open a b c d) = refl
again_told (keys.Deleted a b c d e) = refl
again_told (keys.Snapshot a b c) = refl
again_told (keys.SnapshotKey a b c d) = refl
again_told (keys.Renamed a b c d) = refl
again_told (keys.Stripe a) = refl

pub equal_from_test : (o : Ordering) → is_eq o ≡ true → o ≡ Equal
equal_from_test Equal e = refl
equal_from_test Less e = absurd (false≢true e)
equal_from_test Greater e = absurd (false≢true e)

pub less_from_test : (o : Ordering) → is_lt o ≡ true → o ≡ Less
less_from_test Less e = refl
less_from_test Equal e = absurd (false≢true e)
less_from_test Greater e = absurd (false≢true e)

pub same_is_one : (a b : RowKey) → is_same a b ≡ true → a ≡ b
same_is_one a b e =
    let tied = slice_cmp-IsAntisymmetric (slice_cmp-IsAntisymmetric nat_cmp-IsAntisymmetric) (told a) (told b) (equal_from_test _ e) in
    sym (again_told a) ∙ ap again tied ∙ again_told b

pub same_self : (key : RowKey) → is_same key key ≡ true
same_self key = ap is_eq (tied_itself (lists_total nat_list_cmp_total) (told key))
