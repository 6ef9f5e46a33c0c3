-- The steps by places are the steps from line to line.
use Rattle.std.proofs.Common.{◌≡◌, ℕ, ◌+◌, ◌-◌, ◌<◌, List, [], ◌∷◌, map, Option, Some, None, Result, Ok, Err, refl, sym, ap, subst, ◌∙◌, arith, inl, inr}
use Rattle.std.specs.Prelude.{◌⊎◌, IfOk}
use Rattle.std.specs.declared.alloc.AllocError.{AllocError}
use Rattle.std.specs.List.{slice_get}
use Rattle.std.specs.Option.{IsSomeAnd, option_map, option_and_then}
use Rattle.std.proofs.lemmas.List.{length-map}
use Rattle.std.proofs.lemmas.Option.{slice_get_within, slice_get-map, same_Some, none-some}
use Rattle.oz_script.specs.declared.circles.waits.Waits.{Waits}
use Rattle.oz_script.specs.circles.Circles.{Leads, ComesBack, IsFirstBack}
use Rattle.oz_script.specs.circles.Waiting.{IsOf, IsBefore, AreChained, WaitsFor as WaitsAt}
use Rattle.oz_script.specs.declared.lines.script.Line.{Line}
use Rattle.oz_script.specs.lines.Numbered.{AreNumbered}
use Rattle.oz_script.specs.Finding.{FindsLines, waits_of}
use Rattle.oz_script.specs.Waiting.{Needs, WaitsFor}
use Rattle.oz_script.proofs.Counting.{the_some, at_some, numbered_at, earlier, nearest, nearest_number}

abbrev all_waits : ((ℕ × ℕ) → Option ℕ) → List Line → List Waits
all_waits find lines = map (waits_of find) lines

some_line : (f : Line → Waits) (found : Option Line) (w : Waits) → option_map f found ≡ Some w → (line : Line) × (found ≡ Some line) × (f line ≡ w)
some_line f None w e = absurd (none-some w e)
some_line f (Some line) w e = (line, refl, same_Some (f line) w e)

line_at : (find : (ℕ × ℕ) → Option ℕ) (lines : List Line) (at : ℕ) (w : Waits) → slice_get (all_waits find lines) at ≡ Some w → (line : Line) × (slice_get lines at ≡ Some line) × (waits_of find line ≡ w)
line_at find lines at w e = some_line (waits_of find) (slice_get lines at) w (sym (slice_get-map (waits_of find) lines at) ∙ e)

waits_at : (find : (ℕ × ℕ) → Option ℕ) (lines : List Line) (at : ℕ) (line : Line) → slice_get lines at ≡ Some line → slice_get (all_waits find lines) at ≡ Some (waits_of find line)
waits_at find lines at line e = slice_get-map (waits_of find) lines at ∙ ap (option_map (waits_of find)) e

same_pair : (pair : ℕ × ℕ) (a b : ℕ) → a ≡ pair.0 → b ≡ pair.1 → pair ≡ (a, b)
same_pair pair a b e f = ap (λ (x : ℕ). let p : ℕ × ℕ = (x, pair.1) in p) (sym e) ∙ ap (λ (y : ℕ). let p : ℕ × ℕ = (a, y) in p) (sym f)

the_name : (find : (ℕ × ℕ) → Option ℕ) (after : Option (ℕ × ℕ)) (to : ℕ) → option_and_then find after ≡ Some to → (name : ℕ × ℕ) × (after ≡ Some name) × (find name ≡ Some to)
the_name find None to e = absurd (none-some to e)
the_name find (Some name) to e = (name, refl, e)

-- the line before of a line's client
pub record Before (lines : List Line) (line : Line) (to : ℕ) : Type 0 where
  pub other : Line
  pub at : slice_get lines to ≡ Some other
  pub client : other.client ≡ line.client
  pub number : other.number + 1 ≡ line.number

before_by : (find : (ℕ × ℕ) → Option ℕ) (lines : List Line) (from to : ℕ) (line : Line) → AreNumbered [] lines → FindsLines lines find → slice_get lines from ≡ Some line → find (line.client, line.number - 1) ≡ Some to → Before lines line to
before_by find lines from to line n f at e =
    let name : ℕ × ℕ = (line.client, line.number - 1) in
    let other = the_some (λ (l : Line). (l.client ≡ name.0) × (l.number ≡ name.1)) (slice_get lines to) (f.found name to e) in
    let counted = numbered_at [] lines from line n at in
    let next : other.0.number + 1 ≡ line.number = omega (arith, counted, other.2.1) in
    record { other = other.0; at = other.1; client = other.2.0; number = next }

found_before : (find : (ℕ × ℕ) → Option ℕ) (lines : List Line) (to : ℕ) (line other : Line) → FindsLines lines find → slice_get lines to ≡ Some other → other.client ≡ line.client → other.number + 1 ≡ line.number → find (line.client, line.number - 1) ≡ Some to
found_before find lines to line other f at client number =
    let name : ℕ × ℕ = (line.client, line.number - 1) in
    let less : other.number ≡ line.number - 1 = omega (arith, number) in
    f.all name to (at_some (λ (l : Line). (l.client ≡ name.0) × (l.number ≡ name.1)) (slice_get lines to) other at (client, less))

needs_at : (lines : List Line) (from to : ℕ) (line other : Line) → slice_get lines from ≡ Some line → slice_get lines to ≡ Some other → Needs line other → WaitsFor lines from to
needs_at lines from to line other at_from at_to needs =
    at_some (λ (l : Line). IsSomeAnd (slice_get lines to) (λ (o : Line). Needs l o)) (slice_get lines from) line at_from
    (at_some (λ (o : Line). Needs line o) (slice_get lines to) other at_to needs)

pub to_lines : (find : (ℕ × ℕ) → Option ℕ) (lines : List Line) → AreNumbered [] lines → FindsLines lines find → (from to : ℕ) → WaitsAt (all_waits find lines) from to → WaitsFor lines from to
to_lines find lines n f from to h =
    let w = the_some (λ (w : Waits). (w.before ≡ Some to) ⊎ (w.after ≡ Some to)) (slice_get (all_waits find lines) from) h in
    let l = line_at find lines from w.0 w.1 in
    elim w.2 [
      | inl before ↦ (
          let is : find (l.0.client, l.0.number - 1) ≡ Some to = ap (λ (w : Waits). w.before) l.2 ∙ before in
          let b = before_by find lines from to l.0 n f l.1 is in
          needs_at lines from to l.0 b.other l.1 b.at (inl (b.client, b.number)))
      | inr after ↦ (
          let is : option_and_then find l.0.after ≡ Some to = ap (λ (w : Waits). w.after) l.2 ∙ after in
          let name = the_name find l.0.after to is in
          let other = the_some (λ (o : Line). (o.client ≡ name.0.0) × (o.number ≡ name.0.1)) (slice_get lines to) (f.found name.0 to name.2) in
          let pair = same_pair name.0 other.0.client other.0.number other.2.0 other.2.1 in
          needs_at lines from to l.0 other.0 l.1 other.1 (inr (name.1 ∙ ap (λ (p : ℕ × ℕ). let o : Option (ℕ × ℕ) = Some p in o) pair)))
    ]

pub from_lines : (find : (ℕ × ℕ) → Option ℕ) (lines : List Line) → FindsLines lines find → (from to : ℕ) → WaitsFor lines from to → WaitsAt (all_waits find lines) from to
from_lines find lines f from to h =
    let l = the_some (λ (l : Line). IsSomeAnd (slice_get lines to) (λ (o : Line). Needs l o)) (slice_get lines from) h in
    let o = the_some (λ (o : Line). Needs l.0 o) (slice_get lines to) l.2 in
    let at = waits_at find lines from l.0 l.1 in
    elim o.2 [
      | inl before ↦ at_some (λ (w : Waits). (w.before ≡ Some to) ⊎ (w.after ≡ Some to)) (slice_get (all_waits find lines) from) (waits_of find l.0) at
          (inl (found_before find lines to l.0 o.0 f o.1 before.0 before.1))
      | inr after ↦ (
          let name : ℕ × ℕ = (o.0.client, o.0.number) in
          let is = f.all name to (at_some (λ (x : Line). (x.client ≡ name.0) × (x.number ≡ name.1)) (slice_get lines to) o.0 o.1 (refl, refl)) in
          at_some (λ (w : Waits). (w.before ≡ Some to) ⊎ (w.after ≡ Some to)) (slice_get (all_waits find lines) from) (waits_of find l.0) at
          (inr (ap (option_and_then find) after ∙ is)))
    ]

client_at : (find : (ℕ × ℕ) → Option ℕ) (lines : List Line) (at client : ℕ) → IsOf (all_waits find lines) at client → (line : Line) × (slice_get lines at ≡ Some line) × (line.client ≡ client)
client_at find lines at client h =
    let w = the_some (λ (w : Waits). w.client ≡ client) (slice_get (all_waits find lines) at) h in
    let l = line_at find lines at w.0 w.1 in
    (l.0, l.1, ap (λ (w : Waits). w.client) l.2 ∙ w.2)

before_at : (find : (ℕ × ℕ) → Option ℕ) (lines : List Line) (from to : ℕ) → AreNumbered [] lines → FindsLines lines find → IsBefore (all_waits find lines) from to → (line : Line) × (slice_get lines from ≡ Some line) × Before lines line to
before_at find lines from to n f h =
    let w = the_some (λ (w : Waits). w.before ≡ Some to) (slice_get (all_waits find lines) from) h in
    let l = line_at find lines from w.0 w.1 in
    let is : find (l.0.client, l.0.number - 1) ≡ Some to = ap (λ (w : Waits). w.before) l.2 ∙ w.2 in
    (l.0, l.1, before_by find lines from to l.0 n f l.1 is)

pub chained : (find : (ℕ × ℕ) → Option ℕ) (lines : List Line) → AreNumbered [] lines → FindsLines lines find → AreChained (all_waits find lines)
chained find lines n f = record {
  known = λ (line other : ℕ) (h : WaitsAt (all_waits find lines) line other).
      let l = the_some (λ (l : Line). IsSomeAnd (slice_get lines other) (λ (o : Line). Needs l o)) (slice_get lines line) (to_lines find lines n f line other h) in
      let o = the_some (λ (o : Line). Needs l.0 o) (slice_get lines other) l.2 in
      omega (arith, slice_get_within lines other o.0 o.1, length-map lines (waits_of find));
  earlier = λ (line before : ℕ) (h : IsBefore (all_waits find lines) line before).
      let b = before_at find lines line before n f h in
      let less = earlier lines before line b.2.other b.0 n b.2.at b.1 b.2.client b.2.number in (
        less,
        λ (client : ℕ) (own : IsOf (all_waits find lines) line client).
            let c = client_at find lines line client own in
            let same : c.0.client ≡ b.0.client = ap (λ (l : Line). l.client) (same_Some c.0 b.0 (sym c.1 ∙ b.1)) in
            at_some (λ (w : Waits). w.client ≡ client) (slice_get (all_waits find lines) before) (waits_of find b.2.other) (waits_at find lines before b.2.other b.2.at) (b.2.client ∙ sym same ∙ c.2),
      );
  nearest = λ (line other client : ℕ) (own : IsOf (all_waits find lines) line client) (of_other : IsOf (all_waits find lines) other client) (lt : other < line).
      let l = client_at find lines line client own in
      let o = client_at find lines other client of_other in
      let within = slice_get_within lines line l.0 l.1 in
      let near = nearest lines l.0.client other line o.0 lt (omega (arith, within)) o.1 (o.2 ∙ sym l.2) in
      let number = nearest_number lines other line l.0 n l.1 near in
      let is = found_before find lines near.at l.0 near.line f near.is near.own number in
      (near.at, at_some (λ (w : Waits). w.before ≡ Some near.at) (slice_get (all_waits find lines) line) (waits_of find l.0) (waits_at find lines line l.0 l.1) is, near.not_before);
}

-- ---- ways by one kind of step are ways by another

leads : (R S : ℕ → ℕ → Type 0) → ((a b : ℕ) → R a b → S a b) → (from : ℕ) (between : List ℕ) (to : ℕ) → Leads R from between to → Leads S from between to
leads R S on from [] to h = on from to h
leads R S on from (next ∷ between) to h = (on from next h.0, leads R S on next between to h.1)

back : (R S : ℕ → ℕ → Type 0) → ((a b : ℕ) → R a b → S a b) → (line : ℕ) → ComesBack R line → ComesBack S line
back R S on line h = (h.0, leads R S on line h.0 line h.1)

first_back_on : (R S : ℕ → ℕ → Type 0) → ((a b : ℕ) → R a b → S a b) → ((a b : ℕ) → S a b → R a b) → (found : Option ℕ) → IsFirstBack R found → IsFirstBack S found
first_back_on R S on off None h = λ (line : ℕ) (b : ComesBack S line). h line (back S R off line b)
first_back_on R S on off (Some first) h = (back R S on first h.0, λ (line : ℕ) (lt : line < first) (b : ComesBack S line). h.1 line lt (back S R off line b))

first_back : (find : (ℕ × ℕ) → Option ℕ) (lines : List Line) → AreNumbered [] lines → FindsLines lines find → (found : Option ℕ) → IsFirstBack (WaitsAt (all_waits find lines)) found → IsFirstBack (WaitsFor lines) found
first_back find lines n f found h = first_back_on (WaitsAt (all_waits find lines)) (WaitsFor lines) (to_lines find lines n f) (from_lines find lines f) found h

pub first_back_ok : (find : (ℕ × ℕ) → Option ℕ) (lines : List Line) (waits : List Waits) (result : Result (Option ℕ) AllocError) → AreNumbered [] lines → FindsLines lines find → waits ≡ map (waits_of find) lines
    → IfOk result (λ found. IsFirstBack (WaitsAt waits) found) → IfOk result (λ found. IsFirstBack (WaitsFor lines) found)
first_back_ok find lines waits (Ok found) n f is h = first_back find lines n f found (subst (λ (w : List Waits). IsFirstBack (WaitsAt w) found) is h)
first_back_ok find lines waits (Err error) n f is h = tt
