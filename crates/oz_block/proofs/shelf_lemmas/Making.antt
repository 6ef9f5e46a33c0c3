-- How far chunks were looked at that are to make so many bytes of a block.
use Rattle.std.proofs.Common.{◌≡◌, ℕ, ◌+◌, ◌-◌, ◌<◌, ◌≤◌, eqb, Bool, true, false, cond, ◌&&◌, List, ◌∷◌, length, drop, get_or, refl, sym, ap, ◌∙◌, add-one, drop-cons}
use Rattle.std.proofs.lemmas.Bool.{cond-true, cond-false}
use Rattle.std.proofs.Math.ListN.{drop_of_length-le}
use Rattle.oz_fields.specs.declared.block.Block.{Block}
use Rattle.oz_block.specs.declared.shelf.written.Written.{Written}
use Rattle.oz_block.specs.shelf.Written.{is_of, written_of, makes_from}
use Rattle.oz_block.specs.shelf.laws.Written.{fits}

-- what those from this index on make
abbrev pub rest_makes : Block → List Written → ℕ → ℕ → ℕ → Bool
rest_makes block written i place left = makes_from place left (written_of block (drop i written))

module _ (block : Block) (written : List Written) (i : ℕ) where
  unrolled : (d : Written) → i < length written → written_of block (drop i written) ≡ cond (is_of block (get_or written i d)) (get_or written i d ∷ written_of block (drop (i + 1) written)) (written_of block (drop (i + 1) written))
  unrolled d less =
      let e : drop i written ≡ get_or written i d ∷ drop (i + 1) written = rw (add-one) (drop-cons written i d less) in
      ap (written_of block) e

  own : (d : Written) → i < length written → is_of block (get_or written i d) ≡ true → written_of block (drop i written) ≡ get_or written i d ∷ written_of block (drop (i + 1) written)
  own d less is = unrolled d less ∙ cond-true (is_of block (get_or written i d)) (get_or written i d ∷ written_of block (drop (i + 1) written)) (written_of block (drop (i + 1) written)) is

  -- one of another block
  pub makes_other : (place left : ℕ) (d : Written) → i < length written → is_of block (get_or written i d) ≡ false → rest_makes block written i place left ≡ rest_makes block written (i + 1) place left
  makes_other place left d less is = ap (makes_from place left) (unrolled d less ∙ cond-false (is_of block (get_or written i d)) (get_or written i d ∷ written_of block (drop (i + 1) written)) (written_of block (drop (i + 1) written)) is)

  unfolded : (place left : ℕ) (one : Written) (rest : List Written) → makes_from place left (one ∷ rest) ≡ (fits place left one && makes_from (place + 1) (left - 16384) rest)
  unfolding makes_from
  unfolded place left one rest = refl

  pub makes_step : (place left less_left : ℕ) (d : Written) → i < length written → is_of block (get_or written i d) ≡ true → true ≡ fits place left (get_or written i d) → less_left ≡ left - 16384 → rest_makes block written i place left ≡ rest_makes block written (i + 1) (place + 1) less_left
  makes_step place left less_left d less is fit same =
      ap (makes_from place left) (own d less is)
      ∙ (unfolded place left (get_or written i d) (written_of block (drop (i + 1) written))
      ∙ (ap (λ (b : Bool). b && rest_makes block written (i + 1) (place + 1) (left - 16384)) (sym fit) ∙ ap (rest_makes block written (i + 1) (place + 1)) (sym same)))

  pub makes_fails : (place left : ℕ) (d : Written) → i < length written → is_of block (get_or written i d) ≡ true → false ≡ fits place left (get_or written i d) → rest_makes block written i place left ≡ false
  makes_fails place left d less is fails =
      ap (makes_from place left) (own d less is)
      ∙ (unfolded place left (get_or written i d) (written_of block (drop (i + 1) written)) ∙ ap (λ (b : Bool). b && rest_makes block written (i + 1) (place + 1) (left - 16384)) (sym fails))

  pub makes_end : (place left : ℕ) → length written ≤ i → rest_makes block written i place left ≡ eqb left 0
  unfolding makes_from
  makes_end place left past = ap (λ (l : List Written). makes_from place left (written_of block l)) (drop_of_length-le written past)
