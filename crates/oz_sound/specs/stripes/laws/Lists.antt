-- The rows of a part, in order.
use Rattle.std.proofs.Common.{◌≡◌, Bool, true, false, ◌||◌, List, [], ◌∷◌, ◌++◌, Option, None, Some, IsSome, cond, refl, sym, ◌∙◌, ap, subst}
use mathlib.Core.Bool.{false≢true}
use Rattle.std.specs.List.{AllByRecursion, filter, flat_map, list_any}
use Rattle.std.specs.Ordering.{is_eq, is_gt}
use Rattle.std.specs.declared.cmp.Ordering.{Ordering}
use Rattle.std.specs.declared.cmp.Ordering.TheVariants.{Less, Equal, Greater}
use Rattle.std.proofs.lemmas.List.Concat.{flat_map-cons}
use Rattle.oz_rows.specs.declared.key.RowKey.{RowKey}
use Rattle.oz_rows.specs.declared.row.Row.{Row}
use Rattle.oz_rows.specs.declared.entry.RowEntry.{RowEntry}
use Rattle.oz_rows.specs.Order.{key_order}
use Rattle.oz_rows.specs.RowMaps.{row_of, is_same, IsBelow, KeysRise}
use Rattle.oz_rows.specs.laws.Order.{itself, below_above}
use Rattle.oz_rows.specs.laws.Same.{same_is_one}
use Rattle.oz_rows.specs.laws.Following.{found_over, first_least}
use Rattle.oz_sound.specs.stripes.Parts.{part_of}

-- ---- rows in order are told by the row of each key

found_first : (x : RowEntry) (l : List RowEntry) → row_of (x ∷ l) x.key ≡ Some x.row
found_first x l = ap (λ (t : Bool). cond t (Some x.row) (row_of l x.key)) (ap is_eq (itself x.key))

none_behind : (x : RowEntry) (l : List RowEntry) (key : RowKey) → KeysRise (x ∷ l) → is_same x.key key ≡ true → row_of l key ≡ None
none_behind x l key rise same = by (row_of l key) refl
  where
    by : (o : Option Row) → row_of l key ≡ o → row_of l key ≡ None
    by None e = e
    by (Some row) e =
        let below = found_over x.key key l rise.0 (subst IsSome (sym e) refl) in
        absurd (false≢true (sym (ap is_eq below) ∙ same))

one_first : (x y : RowEntry) (a b : List RowEntry) → KeysRise (x ∷ a) → KeysRise (y ∷ b) → ((key : RowKey) → row_of (x ∷ a) key ≡ row_of (y ∷ b) key)
    → x.key ≡ y.key
one_first x y a b rise_a rise_b same = by (key_order x.key y.key) refl
  where
    y_not_above : is_gt (key_order y.key x.key) ≡ false
    y_not_above = first_least y b x.key rise_b (subst IsSome (sym (sym (same x.key) ∙ found_first x a)) refl)

    x_not_above : is_gt (key_order x.key y.key) ≡ false
    x_not_above = first_least x a y.key rise_a (subst IsSome (sym (same y.key ∙ found_first y b)) refl)

    by : (o : Ordering) → key_order x.key y.key ≡ o → x.key ≡ y.key
    by Less e = absurd (false≢true (sym y_not_above ∙ ap is_gt (below_above x.key y.key e)))
    by Equal e = same_is_one x.key y.key (ap is_eq e)
    by Greater e = absurd (false≢true (sym x_not_above ∙ ap is_gt e))

one_row : (a b : Row) → Some a ≡ Some b → a ≡ b
one_row a b e = cc

entry : RowKey → Row → RowEntry
entry key row = record { key = key; row = row }

one_entry : (x y : RowEntry) → x.key ≡ y.key → x.row ≡ y.row → x ≡ y
unfolding entry
one_entry x y key row = ap (λ (k : RowKey). entry k x.row) key ∙ ap (λ (r : Row). entry y.key r) row

pub one_list : (a b : List RowEntry) → KeysRise a → KeysRise b → ((key : RowKey) → row_of a key ≡ row_of b key) → a ≡ b
one_list [] [] rise_a rise_b same = refl
one_list [] (y ∷ b) rise_a rise_b same = let clash : None ≡ Some y.row = same y.key ∙ found_first y b in absurd cc
one_list (x ∷ a) [] rise_a rise_b same = let clash : None ≡ Some x.row = sym (same x.key) ∙ found_first x a in absurd cc
one_list (x ∷ a) (y ∷ b) rise_a rise_b same =
    let key = one_first x y a b rise_a rise_b same in
    let row = one_row x.row y.row (sym (found_first x a) ∙ same x.key ∙ ap (row_of (y ∷ b)) key ∙ found_first y b) in
    ap (λ (first : RowEntry). first ∷ a) (one_entry x y key row)
    ∙ ap (λ (rest : List RowEntry). y ∷ rest) (one_list a b rise_a.1 rise_b.1 (λ other. behind key other (is_same x.key other) refl))
  where
    behind : x.key ≡ y.key → (other : RowKey) (t : Bool) → is_same x.key other ≡ t → row_of a other ≡ row_of b other
    behind key other true e = none_behind x a other rise_a e ∙ sym (none_behind y b other rise_b (ap (λ (key : RowKey). is_same key other) (sym key) ∙ e))
    behind key other false e =
        sym (ap (λ (t : Bool). cond t (Some x.row) (row_of a other)) e) ∙ same other
        ∙ ap (λ (t : Bool). cond t (Some y.row) (row_of b other)) (ap (λ (key : RowKey). is_same key other) (sym key) ∙ e)

-- each row is found under its key
has_rows : (first : RowEntry) (l rest : List RowEntry) → AllByRecursion (λ other. IsBelow first.key other.key) rest
    → AllByRecursion (λ (x : RowEntry). row_of l x.key ≡ Some x.row) rest → AllByRecursion (λ (x : RowEntry). row_of (first ∷ l) x.key ≡ Some x.row) rest
has_rows first l [] below found = tt
has_rows first l (x ∷ rest) below found =
    (ap (λ (t : Bool). cond t (Some first.row) (row_of l x.key)) (ap is_eq below.0) ∙ found.0, has_rows first l rest below.1 found.1)

pub each_found : (l : List RowEntry) → KeysRise l → AllByRecursion (λ (x : RowEntry). row_of l x.key ≡ Some x.row) l
each_found [] rise = tt
each_found (x ∷ l) rise = (found_first x l, has_rows x l l rise.0 (each_found l rise.1))

-- ---- a part of the rows

module _ (p : RowKey → Bool) where
  pub taken : (x : RowEntry) (l : List RowEntry) → p x.key ≡ true → part_of p (x ∷ l) ≡ x ∷ part_of p l
  taken x l e = ap (λ (t : Bool). cond t (x ∷ part_of p l) (part_of p l)) e

  pub left_out : (x : RowEntry) (l : List RowEntry) → p x.key ≡ false → part_of p (x ∷ l) ≡ part_of p l
  left_out x l e = ap (λ (t : Bool). cond t (x ∷ part_of p l) (part_of p l)) e

  all_of_part : (P : RowEntry → Type 0) (l : List RowEntry) → AllByRecursion P l → AllByRecursion P (part_of p l)
  all_of_part P [] all = tt
  all_of_part P (x ∷ l) all = by (p x.key) refl (all_of_part P l all.1)
    where
      by : (t : Bool) → p x.key ≡ t → AllByRecursion P (part_of p l) → AllByRecursion P (part_of p (x ∷ l))
      by true e rest = subst (AllByRecursion P) (sym (taken x l e)) (all.0, rest)
      by false e rest = subst (AllByRecursion P) (sym (left_out x l e)) rest

  pub part_rises : (l : List RowEntry) → KeysRise l → KeysRise (part_of p l)
  part_rises [] rise = tt
  part_rises (x ∷ l) rise = by (p x.key) refl (part_rises l rise.1)
    where
      by : (t : Bool) → p x.key ≡ t → KeysRise (part_of p l) → KeysRise (part_of p (x ∷ l))
      by true e rest = subst KeysRise (sym (taken x l e)) (all_of_part (λ other. IsBelow x.key other.key) l rise.0, rest)
      by false e rest = subst KeysRise (sym (left_out x l e)) rest

  pub row_of_part : (l : List RowEntry) (q : RowKey) → row_of (part_of p l) q ≡ cond (p q) (row_of l q) None
  row_of_part [] q = by (p q)
    where
      by : (t : Bool) → row_of [] q ≡ cond t (row_of [] q) None
      by true = refl
      by false = refl
  row_of_part (x ∷ l) q = by (p x.key) refl (is_same x.key q) refl (row_of_part l q)
    where
      outside : p q ≡ false → cond (p q) (row_of l q) None ≡ cond (p q) (row_of (x ∷ l) q) None
      outside e = ap (λ (t : Bool). cond t (row_of l q) None) e ∙ sym (ap (λ (t : Bool). cond t (row_of (x ∷ l) q) None) e)

      found : (m : List RowEntry) → is_same x.key q ≡ true → row_of (x ∷ m) q ≡ Some x.row
      found m same = ap (λ (t : Bool). cond t (Some x.row) (row_of m q)) same

      passed : (m : List RowEntry) → is_same x.key q ≡ false → row_of (x ∷ m) q ≡ row_of m q
      passed m other = ap (λ (t : Bool). cond t (Some x.row) (row_of m q)) other

      by : (t : Bool) → p x.key ≡ t → (s : Bool) → is_same x.key q ≡ s → row_of (part_of p l) q ≡ cond (p q) (row_of l q) None
          → row_of (part_of p (x ∷ l)) q ≡ cond (p q) (row_of (x ∷ l) q) None
      by true e true same rest =
          ap (λ (m : List RowEntry). row_of m q) (taken x l e) ∙ found (part_of p l) same ∙ sym (found l same)
          ∙ sym (ap (λ (t : Bool). cond t (row_of (x ∷ l) q) None) (ap p (sym (same_is_one x.key q same)) ∙ e))
      by true e false other rest =
          ap (λ (m : List RowEntry). row_of m q) (taken x l e) ∙ passed (part_of p l) other ∙ rest
          ∙ ap (λ (r : Option Row). cond (p q) r None) (sym (passed l other))
      by false e true same rest =
          ap (λ (m : List RowEntry). row_of m q) (left_out x l e) ∙ rest
          ∙ outside (ap p (sym (same_is_one x.key q same)) ∙ e)
      by false e false other rest =
          ap (λ (m : List RowEntry). row_of m q) (left_out x l e) ∙ rest
          ∙ ap (λ (r : Option Row). cond (p q) r None) (sym (passed l other))

  pub in_part : (l : List RowEntry) (q : RowKey) → p q ≡ true → row_of (part_of p l) q ≡ row_of l q
  in_part l q e = row_of_part l q ∙ ap (λ (t : Bool). cond t (row_of l q) None) e

  pub out_of_part : (l : List RowEntry) (q : RowKey) → p q ≡ false → row_of (part_of p l) q ≡ None
  out_of_part l q e = row_of_part l q ∙ ap (λ (t : Bool). cond t (row_of l q) None) e

  -- what the others give nothing to
  pub mapped : {A : Type 0} (f : RowEntry → List A) → ((x : RowEntry) → p x.key ≡ false → f x ≡ []) → (l : List RowEntry)
      → flat_map f (part_of p l) ≡ flat_map f l
  mapped f none [] = refl
  mapped {A} f none (x ∷ l) = by (p x.key) refl (mapped f none l)
    where
      by : (t : Bool) → p x.key ≡ t → flat_map f (part_of p l) ≡ flat_map f l → flat_map f (part_of p (x ∷ l)) ≡ flat_map f (x ∷ l)
      by true e rest = ap (flat_map f) (taken x l e) ∙ flat_map-cons f x (part_of p l) ∙ ap (λ (later : List A). f x ++ later) rest ∙ sym (flat_map-cons f x l)
      by false e rest = ap (flat_map f) (left_out x l e) ∙ rest ∙ sym (flat_map-cons f x l ∙ ap (λ (first : List A). first ++ flat_map f l) (none x e))

  -- and what none of them has
  pub any_of_part : (f : RowEntry → Bool) (l : List RowEntry) → AllByRecursion (λ (x : RowEntry). p x.key ≡ false → f x ≡ false) l
      → list_any f (part_of p l) ≡ list_any f l
  any_of_part f [] none = refl
  any_of_part f (x ∷ l) none = by (p x.key) refl (any_of_part f l none.1)
    where
      by : (t : Bool) → p x.key ≡ t → list_any f (part_of p l) ≡ list_any f l → list_any f (part_of p (x ∷ l)) ≡ list_any f (x ∷ l)
      by true e rest = ap (list_any f) (taken x l e) ∙ ap (λ (later : Bool). f x || later) rest
      by false e rest = ap (list_any f) (left_out x l e) ∙ rest ∙ sym (ap (λ (first : Bool). first || list_any f l) (none.0 e))

pub mapped_alike : {A : Type 0} (f g : RowEntry → List A) (l : List RowEntry) → AllByRecursion (λ (x : RowEntry). f x ≡ g x) l → flat_map f l ≡ flat_map g l
mapped_alike f g [] same = refl
mapped_alike {A} f g (x ∷ l) same =
    flat_map-cons f x l ∙ ap (λ (first : List A). first ++ flat_map f l) same.0 ∙ ap (λ (rest : List A). g x ++ rest) (mapped_alike f g l same.1)
    ∙ sym (flat_map-cons g x l)
