-- The lines of a script that was read are apart.
use Rattle.std.proofs.Common.{◌≡◌, ⊎_elim, ℕ, ◌+◌, ◌<◌, ◌≤◌, ◌==◌, Bool, List, [], ◌∷◌, ◌++◌, Contains, cond, sym, ◌∙◌, ap, subst, arith}
use Rattle.std.proofs.lemmas.Bool.{eq-eqb}
use Rattle.std.proofs.lemmas.List.Sums.{sum_by-append}
use Rattle.std.specs.Prelude.{count_by}
use Rattle.oz_script.specs.declared.lines.script.Line.{Line}
use Rattle.oz_script.specs.declared.lines.script.Script.{Script}
use Rattle.oz_script.specs.lines.Numbered.{lines_of, AreNumbered, IsNumbered}
use Rattle.oz_kept.specs.Held.{LinesAreApart}
use Rattle.oz_kept.specs.laws.Deleted.{first_or_later}

count_push : (p : Line → Bool) (before : List Line) (line : Line) → count_by p (before ++ line ∷ []) ≡ count_by p before + count_by p (line ∷ [])
count_push p before line = sum_by-append (λ (l : Line). cond (p l) 1 0) before (line ∷ [])

no_fewer : (before : List Line) (line : Line) (client : ℕ) → lines_of before client ≤ lines_of (before ++ line ∷ []) client
no_fewer before line client = omega (arith, count_push (λ (l : Line). l.client == client) before line)

one_more : (before : List Line) (line : Line) (client : ℕ) → line.client ≡ client → lines_of (before ++ line ∷ []) client ≡ lines_of before client + 1
one_more before line client same =
    let one : count_by (λ (l : Line). l.client == client) (line ∷ []) ≡ 1 = ap (λ (t : Bool). 0 + (cond t 1 0)) (eq-eqb line.client client same) in
    omega (arith, count_push (λ (l : Line). l.client == client) before line, one)

-- each line's number is above those of its client before
above : (rest before : List Line) (x : Line) → AreNumbered before rest → Contains rest x → lines_of before x.client + 1 ≤ x.number
above [] before x numbered among = absurd (omega (arith, among.1))
above (line ∷ rest) before x numbered among = ⊎_elim
    (λ same. subst (λ (l : Line). lines_of before l.client + 1 ≤ l.number) same (omega (arith, numbered.1)))
    (λ later.
    let behind = above rest (before ++ line ∷ []) x numbered.2 later in
    omega (arith, behind, no_fewer before line x.client))
    (first_or_later line x rest among)

later_above : (rest before : List Line) (line x : Line) → AreNumbered before (line ∷ rest) → Contains rest x → line.client ≡ x.client → line.number < x.number
later_above rest before line x numbered later same =
    let behind = above rest (before ++ line ∷ []) x numbered.2 later in
    let first = ap (λ (c : ℕ). lines_of before c) same in
    omega (arith, behind, numbered.1, first, one_more before line x.client same)

apart_in : (rest before : List Line) (a b : Line) → AreNumbered before rest → Contains rest a → Contains rest b → a.client ≡ b.client → a.number ≡ b.number
    → a ≡ b
apart_in [] before a b numbered in_a in_b client number = absurd (omega (arith, in_a.1))
apart_in (line ∷ rest) before a b numbered in_a in_b client number = ⊎_elim
    (λ first_a. ⊎_elim
    (λ first_b. sym first_a ∙ first_b)
    (λ later_b.
    let lt = later_above rest before line b numbered later_b (ap (λ (l : Line). l.client) first_a ∙ client) in
    absurd (omega (arith, lt, ap (λ (l : Line). l.number) first_a, number)))
    (first_or_later line b rest in_b))
    (λ later_a. ⊎_elim
    (λ first_b.
    let lt = later_above rest before line a numbered later_a (ap (λ (l : Line). l.client) first_b ∙ sym client) in
    absurd (omega (arith, lt, ap (λ (l : Line). l.number) first_b, number)))
    (λ later_b. apart_in rest (before ++ line ∷ []) a b numbered.2 later_a later_b client number)
    (first_or_later line b rest in_b))
    (first_or_later line a rest in_a)

pub lines_apart : (script : Script) → IsNumbered script → LinesAreApart script
lines_apart script numbered = λ one other in_one in_other client number. apart_in script.lines [] one other numbered.in_order in_one in_other client number
