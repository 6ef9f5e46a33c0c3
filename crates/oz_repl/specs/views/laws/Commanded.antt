-- That commands are for lines of their own holds of no story at first, stays, and goes on by one line that is at work.
use Rattle.std.proofs.Common.{◌≡◌, ◌≢◌, ⊎_elim, ◌⊎◌, inl, inr, ℕ, zero, suc, ◌+◌, ◌<◌, ◌≤◌, cond}
use Rattle.std.proofs.Common.{◌++◌, List, [], ◌∷◌, length, get_or, set, Option, None, Some, refl, sym, ◌∙◌}
use Rattle.std.proofs.Common.{ap, subst, arith}
use Rattle.std.proofs.lemmas.Bool.{cases_eq}
use Rattle.std.proofs.lemmas.List.{get_or-set_other, get_or-set_same, length-append}
use Rattle.std.proofs.lemmas.List.Elements.{All-push, All-weaker}
use Rattle.std.proofs.lemmas.List.Quantifiers.{all_pairs_push}
use Rattle.std.proofs.lemmas.List.Sums.{sum_by-append}
use Rattle.std.proofs.lemmas.Option.{none-some, same_Some}
use Rattle.std.specs.Prelude.{is_some}
use Rattle.std.specs.List.{slice_get}
use Rattle.oz_command.specs.declared.command.AdminCommand.{AdminCommand}
use Rattle.oz_script.specs.declared.lines.script.Line.{Line}
use Rattle.oz_script.specs.declared.lines.script.Script.{Script}
use Rattle.oz_core.specs.declared.event.Event.{Event}
use Rattle.oz_core.specs.Fits.{IsAtWork}
use Rattle.oz_core.specs.Stories.{count_events}
use Rattle.oz_repl.specs.views.Lines.{AreForLines, IsForNext, command_of, is_commanded}

-- ---- lists

grown : (x y : Event) → x ≡ y → (one other : List Event) → one ≡ other → x ∷ one ≡ y ∷ other
grown x y same one other e = ap (λ (z : Event). z ∷ one) same ∙ ap (λ (l : List Event). y ∷ l) e

-- an event of a list with one more is the last, or was there
behind_or_last : (story place behind : List Event) (event last : Event) → story ++ last ∷ [] ≡ place ++ event ∷ behind
    → ((place ≡ story) × (event ≡ last)) ⊎ ((rest : List Event) × (story ≡ place ++ event ∷ rest))
behind_or_last [] [] behind event last e = inl (refl, (let same : last ≡ event = cc in sym same))
behind_or_last [] (x ∷ []) behind event last e = absurd cc
behind_or_last [] (x ∷ (y ∷ place)) behind event last e = absurd cc
behind_or_last (x ∷ story) [] behind event last e = let same : x ≡ event = cc in inr (story, ap (λ (z : Event). z ∷ story) same)
behind_or_last (x ∷ story) (y ∷ place) behind event last e =
    let same : x ≡ y = cc in
    let rest : story ++ last ∷ [] ≡ place ++ event ∷ behind = cc in
    ⊎_elim
    (λ here. inl (sym (grown x y same story place (sym here.0)), here.1))
    (λ there. inr (there.0, grown x y same story (place ++ event ∷ there.0) there.1))
    (behind_or_last story place behind event last rest)

got_left : (l m : List Line) (k : ℕ) (x : Line) → slice_get l k ≡ Some x → slice_get (l ++ m) k ≡ Some x
got_left [] m k x e = absurd cc
got_left (y ∷ l) m zero x e = e
got_left (y ∷ l) m (suc k) x e = got_left l m k x e

got_last : (l : List Line) (x : Line) → slice_get (l ++ x ∷ []) (length l) ≡ Some x
got_last [] x = refl
got_last (y ∷ l) x = got_last l x

-- ---- the record

pub for_none : (script : Script) (dn : ℕ) (last : List ℕ) → AreForLines script dn last []
for_none script dn last = record {
  lines = [];
  many = refl;
  each = λ place behind event command parts is. absurd (no_parts place event behind parts);
  apart = λ i j d less lt. absurd (omega (arith, lt));
  old = λ k d lt. absurd (omega (arith, lt));
} where
  no_parts : (place : List Event) (event : Event) (behind : List Event) → [] ≡ place ++ event ∷ behind → ⊥
  no_parts [] event behind e = cc
  no_parts (x ∷ place) event behind e = cc

module _ (script : Script) (dn : ℕ) (last : List ℕ) (story : List Event) (event : Event) (for : AreForLines script dn last story) where
  counted : count_events (is_commanded dn) (story ++ event ∷ []) ≡ count_events (is_commanded dn) story + count_events (is_commanded dn) (event ∷ [])
  counted = sum_by-append (λ (event : Event). cond (is_commanded dn event.kind) 1 0) story (event ∷ [])

  pub for_still : command_of dn event.kind ≡ None → AreForLines script dn last (story ++ event ∷ [])
  for_still none = record {
    lines = for.lines;
    many =
        let one : count_events (is_commanded dn) (event ∷ []) ≡ 0 = ap (λ (o : Option AdminCommand). 0 + cond (is_some o) 1 0) none in
        omega (arith, for.many, counted, one);
    each = λ place behind other command parts is. ⊎_elim
        (λ end. absurd (none-some command (sym none ∙ ap (λ (e : Event). command_of dn e.kind) (sym end.1) ∙ is)))
        (λ there. for.each place there.0 other command there.1 is)
        (behind_or_last story place behind other event parts);
    apart = for.apart;
    old = for.old;
  }

  pub for_one_more : (command : AdminCommand) → command_of dn event.kind ≡ Some command
      → (work : IsAtWork script story command) → work.line.client < length last
      → get_or last work.line.client 0 < work.line.number → AreForLines script dn (set last work.line.client work.line.number) (story ++ event ∷ [])
  for_one_more command is work within above = record {
    lines = for.lines ++ work.line ∷ [];
    many =
        let one : count_events (is_commanded dn) (event ∷ []) ≡ 1 = ap (λ (o : Option AdminCommand). 0 + cond (is_some o) 1 0) is in
        let long = length-append for.lines (work.line ∷ []) in
        omega (arith, for.many, counted, one, long);
    each = λ place behind other other_command parts has. ⊎_elim
        (λ end.
        let same : command ≡ other_command = same_Some command other_command (sym is ∙ ap (λ (e : Event). command_of dn e.kind) (sym end.1) ∙ has) in
        subst (λ (l : List Event). IsForNext script dn (for.lines ++ work.line ∷ []) l other_command) (sym end.0)
        (subst (IsForNext script dn (for.lines ++ work.line ∷ []) story) same
        (record { at_work = work; next = ap (slice_get (for.lines ++ work.line ∷ [])) (sym for.many) ∙ got_last for.lines work.line })))
        (λ there.
        let old = for.each place there.0 other other_command there.1 has in
        record { at_work = old.at_work; next = got_left for.lines (work.line ∷ []) (count_events (is_commanded dn) place) old.at_work.line old.next })
        (behind_or_last story place behind other event parts);
    apart = all_pairs_push ◌≢◌ for.lines work.line for.apart
        (λ k d lt same.
        let le = for.old k d lt in
        let number = ap (λ (line : Line). line.number) same in
        let client = ap (λ (line : Line). get_or last line.client 0) same in
        omega (arith, le, number, client, above));
    old = All-push (λ (line : Line). line.number ≤ get_or (set last work.line.client work.line.number) line.client 0) for.lines work.line
        (All-weaker (λ (line : Line). line.number ≤ get_or last line.client 0)
        (λ (line : Line). line.number ≤ get_or (set last work.line.client work.line.number) line.client 0)
        (λ line le. ⊎_elim
        (λ same.
        let here : get_or (set last work.line.client work.line.number) line.client 0 ≡ work.line.number = ap
        (λ (c : ℕ). get_or (set last work.line.client work.line.number) c 0) same
        ∙ get_or-set_same last work.line.client work.line.number 0 within in
        let was : get_or last line.client 0 ≡ get_or last work.line.client 0 = ap (λ (c : ℕ). get_or last c 0) same in
        omega (arith, le, here, was, above))
        (λ differ.
        let there = get_or-set_other last work.line.client line.client work.line.number 0 differ in
        omega (arith, le, there))
        (cases_eq line.client work.line.client))
        for.lines for.old)
        (let here = get_or-set_same last work.line.client work.line.number 0 within in omega (arith, here));
  }
