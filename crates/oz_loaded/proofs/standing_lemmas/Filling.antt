-- What is found in a map that was filled from rows.
use Rattle.std.proofs.Common.{◌≡◌, Bool, true, false, List, [], ◌∷◌, Option, None, Some, IsSome, cond, refl, sym, ◌∙◌, ap, subst}
use Rattle.std.specs.List.{AllByRecursion, fold}
use Rattle.std.specs.Cmp.{IsTotalOrder}
use Rattle.std.specs.Ordering.{eq_by_cmp, is_eq}
use Rattle.std.specs.declared.cmp.Ordering.{Ordering}
use Rattle.std.specs.FinMap.{FinMap, IsAntisymmetric, empty, get, get-empty, get-insert}
use Rattle.std.proofs.lemmas.Cmp.{tied_itself}
use Rattle.oz_rows.specs.declared.key.RowKey.{RowKey}
use Rattle.oz_rows.specs.declared.row.Row.{Row}
use Rattle.oz_rows.specs.declared.entry.RowEntry.{RowEntry}
use Rattle.oz_rows.specs.RowMaps.{row_of, is_same}
use Rattle.oz_rows.specs.laws.Order.{equal_from_test}
use Rattle.oz_rows.specs.laws.Same.{same_is_one}
use Rattle.oz_loaded.specs.standing.Made.{entered, filled}

pub same_value : {A : Type 0} (a b : A) → Some a ≡ Some b → a ≡ b
same_value a b e = cc

module _ {K V : Type 0} {R : K → K → Ordering} (total : IsTotalOrder R) (apart : IsAntisymmetric R) where
  -- what is found after one more is that one, or was found before
  pub found_after : (P : K → V → Type 0) (made : FinMap R V) (picked : Option (K × V)) → ((k : K) (v : V) → picked ≡ Some (k, v) → P k v) → ((k : K) (v : V) → get made k ≡ Some v → P k v) → (k : K) (v : V) → get (entered made picked) k ≡ Some v → P k v
  found_after P made None one before k v e = before k v e
  found_after P made (Some (key, value)) one before k v e = by (eq_by_cmp R k key) refl
    where
      by : (t : Bool) → eq_by_cmp R k key ≡ t → P k v
      by true same =
          let key_is : k ≡ key = apart k key (equal_from_test (R k key) same) in
          let found : Some value ≡ Some v = sym (get-insert total made key value k ∙ ap (λ (t : Bool). cond t (Some value) (get made k)) same) ∙ e in
          subst (λ (q : K). P q v) (sym key_is) (subst (P key) (same_value value v found) (one key value refl))
      by false other = before k v (sym (get-insert total made key value k ∙ ap (λ (t : Bool). cond t (Some value) (get made k)) other) ∙ e)

  pub kept_after : (made : FinMap R V) (picked : Option (K × V)) (k : K) → IsSome (get made k) → IsSome (get (entered made picked) k)
  kept_after made None k some = some
  kept_after made (Some (key, value)) k some = subst IsSome (sym (get-insert total made key value k)) (by (eq_by_cmp R k key))
    where
      by : (t : Bool) → IsSome (cond t (Some value) (get made k))
      by true = refl
      by false = some

  pub there_after : (made : FinMap R V) (k : K) (v : V) → get (entered made (Some (k, v))) k ≡ Some v
  there_after made k v = get-insert total made k v k ∙ ap (λ (t : Bool). cond t (Some v) (get made k)) (ap is_eq (tied_itself total k))

  pub other_after : (made : FinMap R V) (key k : K) (v : V) → eq_by_cmp R k key ≡ false → get (entered made (Some (key, v))) k ≡ get made k
  other_after made key k v other = get-insert total made key v k ∙ ap (λ (t : Bool). cond t (Some v) (get made k)) other

  module _ (pick : RowEntry → Option (K × V)) where
    abbrev one : FinMap R V → RowEntry → FinMap R V
    one made entry = entered made (pick entry)

    found : (P : K → V → Type 0) (made : FinMap R V) (l : List RowEntry) → AllByRecursion (λ (x : RowEntry). (k : K) (v : V) → pick x ≡ Some (k, v) → P k v) l → ((k : K) (v : V) → get made k ≡ Some v → P k v) → (k : K) (v : V) → get (fold one made l) k ≡ Some v → P k v
    found P made [] all before k v e = before k v e
    found P made (x ∷ l) all before k v e = found P (one made x) l all.1 (found_after P made (pick x) all.0 before) k v e

    kept : (made : FinMap R V) (l : List RowEntry) (k : K) → IsSome (get made k) → IsSome (get (fold one made l) k)
    kept made [] k some = some
    kept made (x ∷ l) k some = kept (one made x) l k (kept_after made (pick x) k some)

    shown : (made : FinMap R V) (l : List RowEntry) (key : RowKey) (row : Row) (k : K) (v : V) → pick (record { key = key; row = row }) ≡ Some (k, v) → row_of l key ≡ Some row → IsSome (get (fold one made l) k)
    shown made [] key row k v is e = absurd (cc e)
    shown made (x ∷ l) key row k v is e = by (is_same x.key key) refl (shown (one made x) l key row k v is)
      where
        by : (t : Bool) → is_same x.key key ≡ t → (row_of l key ≡ Some row → IsSome (get (fold one (one made x) l) k)) → IsSome (get (fold one (one made x) l) k)
        by true same later =
            let key_is : x.key ≡ key = same_is_one x.key key same in
            let row_is : x.row ≡ row = same_value x.row row (sym (ap (λ (t : Bool). cond t (Some x.row) (row_of l key)) same) ∙ e) in
            let picked : pick x ≡ Some (k, v) = ap pick (λ i. record { key = key_is i; row = row_is i }) ∙ is in
            kept (one made x) l k (subst (λ (o : Option (K × V)). IsSome (get (entered made o) k)) (sym picked) (subst IsSome (sym (there_after made k v)) refl))
        by false other later = later (sym (ap (λ (t : Bool). cond t (Some x.row) (row_of l key)) other) ∙ e)

    -- in a map that was filled from none
    pub found_filled : (P : K → V → Type 0) (l : List RowEntry) → AllByRecursion (λ (x : RowEntry). (k : K) (v : V) → pick x ≡ Some (k, v) → P k v) l → (k : K) (v : V) → get (filled {R = R} pick l) k ≡ Some v → P k v
    found_filled P l all = found P empty l all (λ k v e. absurd (cc (sym (get-empty R k) ∙ e)))

    pub shown_filled : (l : List RowEntry) (key : RowKey) (row : Row) (k : K) (v : V) → pick (record { key = key; row = row }) ≡ Some (k, v) → row_of l key ≡ Some row → IsSome (get (filled {R = R} pick l) k)
    shown_filled l = shown empty l
