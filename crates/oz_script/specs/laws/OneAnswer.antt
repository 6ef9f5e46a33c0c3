-- Bytes have one answer.
use Rattle.std.proofs.Common.{◌≡◌, ◌⊎◌, ℕ, zero, suc, ◌<◌, List, Option, Some, None, Result, Ok, Err, refl, sym, ap, subst, ◌∙◌, arith, inl, inr}
use Rattle.std.proofs.lemmas.Option.{same_Some}
use Rattle.oz_script.specs.circles.Circles.{IsFirstBack}
use Rattle.oz_script.specs.declared.draft.fault.Cause.{Cause}
use Rattle.oz_script.specs.declared.draft.fault.ScriptFault.{ScriptFault}
use Rattle.oz_script.specs.declared.draft.fault.ScriptFault.TheVariants.{At}
use Rattle.oz_script.specs.declared.placed.placed.PlacedScript.{PlacedScript}
use Rattle.oz_script.specs.declared.lines.script.Script.{Script}
use Rattle.oz_script.specs.placed.Placed.{read_of}
use Rattle.oz_script.specs.placed.Served.{later_index}
use Rattle.oz_script.specs.Parsing.{IsFaultAt, Answers, AnswersRead, ParsesTo}
use Rattle.oz_script.specs.Waiting.{WaitsFor}

same_place : (placed : PlacedScript) (line : ℕ) (cause : Cause) (one other : Result Script ScriptFault) → IsFaultAt placed line cause one
    → IsFaultAt placed line cause other → one ≡ other
same_place placed line cause one other a b =
    let same : a.0 ≡ b.0 = same_Some a.0 b.0 (sym a.1 ∙ b.1) in
    a.2 ∙ ap (λ (p : ℕ). let r : Result Script ScriptFault = Err (At p cause) in r) same ∙ sym b.2

same_answer : (placed : PlacedScript) (circle later : Option ℕ) (one other : Result Script ScriptFault) → Answers placed circle later one
    → Answers placed circle later other → one ≡ other
same_answer placed (Some line) later one other a b = same_place placed line _ one other a b
same_answer placed None (Some line) one other a b = same_place placed line _ one other a b
same_answer placed None None one other a b = a ∙ sym b

less_or : (a b : ℕ) → (a < b) ⊎ ((b < a) ⊎ (a ≡ b))
less_or zero zero = inr (inr refl)
less_or zero (suc b) = inl (omega arith)
less_or (suc a) zero = inr (inl (omega arith))
less_or (suc a) (suc b) = elim (less_or a b) [ inl lt ↦ inl (omega arith) | inr r ↦ elim r [ inl gt ↦ inr (inl (omega arith)) | inr e ↦ inr (inr (ap suc e)) ] ]

same_first : (R : ℕ → ℕ → Type 0) (one other : Option ℕ) → IsFirstBack R one → IsFirstBack R other → one ≡ other
same_first R None None a b = refl
same_first R None (Some second) a b = absurd (a second b.0)
same_first R (Some first) None a b = absurd (b first a.0)
same_first R (Some first) (Some second) a b = elim (less_or first second) [
  | inl lt ↦ absurd (b.1 first lt a.0)
  | inr r ↦ elim r [ inl gt ↦ absurd (a.1 second gt b.0) | inr e ↦ ap (λ (n : ℕ). let o : Option ℕ = Some n in o) e ]
]

same_read : (given : Result PlacedScript ScriptFault) (one other : Result Script ScriptFault) → AnswersRead given one → AnswersRead given other → one ≡ other
same_read (Err fault) one other a b = a ∙ sym b
same_read (Ok placed) one other a b =
    let same = same_first (WaitsFor placed.script.lines) a.0 b.0 a.1 b.1 in
    same_answer placed b.0 (later_index placed.script.lines) one other
    (subst (λ (c : Option ℕ). Answers placed c (later_index placed.script.lines) one) same a.2) b.2

pub one_answer : (bytes : List ℕ) (one other : Result Script ScriptFault) → ParsesTo bytes one → ParsesTo bytes other → one ≡ other
one_answer bytes one other a b = same_read (read_of bytes) one other a b
