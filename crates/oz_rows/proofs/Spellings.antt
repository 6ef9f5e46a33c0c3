-- One row, and one operation, for each spelling.
use Rattle.std.proofs.Common.{◌≡◌, ℕ, List, ◌++◌, Result, Ok, sym, ap, ◌∙◌}
use Rattle.oz_rows.specs.laws.Grammar.{IsRead}

found : {A : Type 0} → A × List ℕ → Result (A × List ℕ) ℕ
found read = Ok read

same_found : {A : Type 0} (read other : A × List ℕ) → found read ≡ found other → read ≡ other
unfolding found
same_found read other e = cc

-- what belongs to a reading is told by its spelling, whatever follows
pub told : {A : Type 0} (Fits : A → Type 0) (spelling : A → List ℕ) (read : List ℕ → Result (A × List ℕ) ℕ) → IsRead Fits spelling read → (value other : A) (rest left : List ℕ) → Fits value → Fits other → spelling value ++ rest ≡ spelling other ++ left → (value ≡ other) × (rest ≡ left)
unfolding found
told {A} Fits spelling read is value other rest left value_fits other_fits e =
    let same = same_found (value, rest) (other, left) (sym (is.reads_back value rest value_fits) ∙ ap read e ∙ is.reads_back other left other_fits) in
    (ap (λ (pair : A × List ℕ). pair.0) same, ap (λ (pair : A × List ℕ). pair.1) same)
