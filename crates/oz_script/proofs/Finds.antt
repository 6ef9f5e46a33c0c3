-- Lines are noted by their names, one after the other.
use Rattle.std.proofs.Common.{◌≡◌, ℕ, zero, suc, ◌+◌, ◌<◌, ◌≤◌, Bool, true, false, cond, List, [], length, Option, Some, None, refl, sym, ap, subst, ◌∙◌, arith, inl, inr}
use Rattle.std.specs.Prelude.{◌⊎◌, ◌==◌, ◌&&◌}
use Rattle.std.specs.List.{slice_get}
use Rattle.std.proofs.lemmas.Bool.{cases_eq, eqb-true, eq-eqb, and_parts}
use Rattle.std.proofs.lemmas.Option.{slice_get_within, same_Some, none-some}
use Rattle.oz_script.specs.declared.lines.script.Line.{Line}
use Rattle.oz_script.specs.lines.Numbered.{AreNumbered}
use Rattle.oz_script.specs.Finding.{is_same_name, IsNamed, FindsLines}
use Rattle.oz_script.proofs.Counting.{the_some, at_some, from_some, only_one}

-- the first so many lines are found by their names, and nothing else is
pub record FindsSo (lines : List Line) (find : (ℕ × ℕ) → Option ℕ) (passed : ℕ) : Type 0 where
  pub found : (name : ℕ × ℕ) (place : ℕ) → find name ≡ Some place → (place < passed) × IsNamed lines place name
  pub all : (name : ℕ × ℕ) (place : ℕ) → place < passed → IsNamed lines place name → find name ≡ Some place

pub finds_none : (lines : List Line) (find : (ℕ × ℕ) → Option ℕ) → ((name : ℕ × ℕ) → find name ≡ None) → FindsSo lines find 0
finds_none lines find none = record {
  found = λ (name : ℕ × ℕ) (place : ℕ) (e : find name ≡ Some place). absurd (none-some place (sym (none name) ∙ e));
  all = λ (name : ℕ × ℕ) (place : ℕ) (lt : place < 0) (is : IsNamed lines place name). absurd (omega arith);
}

same_parts : (one other : ℕ × ℕ) → is_same_name one other ≡ true → (one.0 ≡ other.0) × (one.1 ≡ other.1)
same_parts one other e =
    let parts = and_parts (one.0 == other.0) (one.1 == other.1) e in
    (eqb-true one.0 other.0 parts.0, eqb-true one.1 other.1 parts.1)

both : (a b : Bool) → a ≡ true → b ≡ true → (a && b) ≡ true
both true b e f = f
both false b e f = absurd (cc)

same_name : (one other : ℕ × ℕ) → one.0 ≡ other.0 → one.1 ≡ other.1 → is_same_name one other ≡ true
same_name one other e f = both (one.0 == other.0) (one.1 == other.1) (eq-eqb one.0 other.0 e) (eq-eqb one.1 other.1 f)

two : (b : Bool) → (b ≡ true) ⊎ (b ≡ false)
two true = inl refl
two false = inr refl

less_or : (a b : ℕ) → a < b + 1 → (a < b) ⊎ (a ≡ b)
less_or zero zero lt = inr refl
less_or zero (suc b) lt = inl (omega arith)
less_or (suc a) zero lt = absurd (omega arith)
less_or (suc a) (suc b) lt = elim (less_or a b (omega arith)) [ inl less ↦ inl (omega arith) | inr e ↦ inr (ap suc e) ]

below : (place k : ℕ) → place < k + 1 → (place ≡ k → ⊥) → place < k
below place k lt apart = elim (less_or place k lt) [ inl less ↦ less | inr e ↦ absurd (apart e) ]

pub finds_more : (lines : List Line) (find next : (ℕ × ℕ) → Option ℕ) (k : ℕ) (line : Line) → AreNumbered [] lines → slice_get lines k ≡ Some line → FindsSo lines find k
    → ((name : ℕ × ℕ) → next name ≡ cond (is_same_name (line.client, line.number) name) (Some k) (find name)) → FindsSo lines next (k + 1)
finds_more lines find next k line numbered at i is =
    let own : ℕ × ℕ = (line.client, line.number) in
    let hit : (name : ℕ × ℕ) → is_same_name own name ≡ true → next name ≡ Some k = λ (name : ℕ × ℕ) (e : is_same_name own name ≡ true). is name ∙ ap (λ (b : Bool). cond b (Some k) (find name)) e in
    let miss : (name : ℕ × ℕ) → is_same_name own name ≡ false → next name ≡ find name = λ (name : ℕ × ℕ) (e : is_same_name own name ≡ false). is name ∙ ap (λ (b : Bool). cond b (Some k) (find name)) e in
    let named : (name : ℕ × ℕ) → is_same_name own name ≡ true → IsNamed lines k name = λ (name : ℕ × ℕ) (e : is_same_name own name ≡ true). at_some (λ (l : Line). (l.client ≡ name.0) × (l.number ≡ name.1)) (slice_get lines k) line at (same_parts own name e) in
    record {
      found = λ (name : ℕ × ℕ) (place : ℕ) (e : next name ≡ Some place). elim (two (is_same_name own name)) [
        | inl same ↦ (
            let here : k ≡ place = same_Some k place (sym (hit name same) ∙ e) in
            let lt : place < k + 1 = omega arith in
            (lt, subst (λ (p : ℕ). IsNamed lines p name) here (named name same)))
        | inr other ↦ (let f = i.found name place (sym (miss name other) ∙ e) in let lt : place < k + 1 = omega (arith, f.0) in (lt, f.1))
      ];
      all = λ (name : ℕ × ℕ) (place : ℕ) (lt : place < k + 1) (n : IsNamed lines place name).
          let at_place = the_some (λ (l : Line). (l.client ≡ name.0) × (l.number ≡ name.1)) (slice_get lines place) n in
          elim (two (is_same_name own name)) [
            | inl same ↦ (
                let parts = same_parts own name same in
                let here : k ≡ place = only_one lines k place line at_place.0 numbered at at_place.1 (parts.0 ∙ sym at_place.2.0) (parts.1 ∙ sym at_place.2.1) in
                hit name same ∙ ap (λ (p : ℕ). let o : Option ℕ = Some p in o) here)
            | inr other ↦ elim (cases_eq place k) [
              | inl here ↦ (
                  let n_k = from_some (λ (l : Line). (l.client ≡ name.0) × (l.number ≡ name.1)) (slice_get lines k) line at (subst (λ (p : ℕ). IsNamed lines p name) here n) in
                  let yes = same_name own name n_k.0 n_k.1 in
                  absurd (cc (yes, other)))
              | inr apart ↦ miss name other ∙ i.all name place (below place k lt apart) n
            ]
          ];
    }

pub finds_all : (lines : List Line) (find : (ℕ × ℕ) → Option ℕ) (k : ℕ) → length lines ≤ k → FindsSo lines find k → FindsLines lines find
finds_all lines find k past i = record {
  found = λ (name : ℕ × ℕ) (place : ℕ) (e : find name ≡ Some place). (i.found name place e).1;
  all = λ (name : ℕ × ℕ) (place : ℕ) (n : IsNamed lines place name).
      let at_place = the_some (λ (l : Line). (l.client ≡ name.0) × (l.number ≡ name.1)) (slice_get lines place) n in
      i.all name place (omega (arith, slice_get_within lines place at_place.0 at_place.1)) n;
}
