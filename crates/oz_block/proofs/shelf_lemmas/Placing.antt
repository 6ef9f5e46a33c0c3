-- Where a chunk belongs among those that were written.
use Rattle.std.proofs.Common.{◌≡◌, ℕ, ◌+◌, ◌<◌, ◌≤◌, true, false, List, [], ◌∷◌, ◌++◌, length, take, drop, get_or, insert, refl, sym, ap, ◌∙◌, add-one, drop-cons, append_assoc}
use Rattle.std.proofs.lemmas.Bool.{cond-true, cond-false}
use Rattle.std.proofs.lemmas.List.{take_more}
use Rattle.std.proofs.Math.ListN.{drop_of_length-le}
use Rattle.oz_block.specs.declared.shelf.written.Written.{Written}
use Rattle.oz_block.specs.shelf.Written.{inserted, is_behind}

module _ (written : List Written) (one : Written) (i : ℕ) where
  -- it belongs behind those before this place
  abbrev pub BelongsFrom : Type 0
  BelongsFrom = take i written ++ inserted (drop i written) one ≡ inserted written one

  unrolled : (d : Written) → i < length written → drop i written ≡ get_or written i d ∷ drop (i + 1) written
  unrolled d less = rw (add-one) (drop-cons written i d less)

  pub belongs_here : (d : Written) → BelongsFrom → i < length written → is_behind (get_or written i d) one ≡ true → insert written i one ≡ inserted written one
  belongs_here d from less is =
      let first = get_or written i d in
      let rest = drop (i + 1) written in
      ap (λ (l : List Written). take i written ++ one ∷ l) (unrolled d less)
      ∙ (ap (λ (l : List Written). take i written ++ l) (sym (ap (λ (l : List Written). inserted l one) (unrolled d less) ∙ cond-true (is_behind first one) (one ∷ first ∷ rest) (first ∷ inserted rest one) is)) ∙ from)

  pub belongs_at_end : BelongsFrom → length written ≤ i → insert written i one ≡ inserted written one
  belongs_at_end from past =
      let none = drop_of_length-le written past in
      ap (λ (l : List Written). take i written ++ one ∷ l) none ∙ (sym (ap (λ (l : List Written). take i written ++ inserted l one) none) ∙ from)

pub belongs_from_start : (written : List Written) (one : Written) → BelongsFrom written one 0
belongs_from_start written one = refl

pub belongs_later : (written : List Written) (one : Written) (i : ℕ) (d : Written) → BelongsFrom written one i → i < length written → is_behind (get_or written i d) one ≡ false → BelongsFrom written one (i + 1)
belongs_later written one i d from less is =
    let first = get_or written i d in
    let rest = drop (i + 1) written in
    ap (λ (l : List Written). l ++ inserted rest one) (take_more written i d less)
    ∙ (append_assoc (take i written) (first ∷ []) (inserted rest one)
    ∙ (ap (λ (l : List Written). take i written ++ l) (sym (ap (λ (l : List Written). inserted l one) (unrolled written one i d less) ∙ cond-false (is_behind first one) (one ∷ first ∷ rest) (first ∷ inserted rest one) is)) ∙ from))
