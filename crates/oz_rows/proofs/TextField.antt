-- A text that a reader found at the front of bytes.
use Rattle.std.proofs.Common.{◌≡◌, ℕ, ◌-◌, Bool, true, List, length, take, drop, Option, Some, Ok, sym, ap, ◌∙◌}
use Rattle.std.proofs.lemmas.List.{take_rest}
use Rattle.oz_fields.specs.Text.{text_at}
use Rattle.oz_rows.specs.Reading.{kept, field}
use Rattle.oz_rows.specs.laws.Grammar.{kept-found}

pub text_there : (rule : List ℕ → Bool) (bytes held later name : List ℕ) (first at place : ℕ)
    → text_at (drop first held) ≡ Some (name, drop at later) → later ≡ held → held ≡ bytes → first ≡ 0 → place ≡ at → rule name ≡ true
    → field text_at rule bytes ≡ Ok (name, take (length bytes - place) (drop place bytes))
text_there rule bytes held later name first at place found same_bytes from_bytes from_start is_at passes =
    let there : text_at (drop 0 bytes) ≡ Some (name, drop place bytes) = cc in
    ap (λ (read : Option (List ℕ × List ℕ)). kept rule (length bytes) read) there ∙ kept-found rule (length bytes) (name, drop place bytes) passes ∙ ap (λ (left : List ℕ). Ok (name, left)) (sym (take_rest bytes place))
