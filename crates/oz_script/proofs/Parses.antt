-- What was read and tested is the answer.
use Rattle.std.proofs.Common.{◌≡◌, ℕ, zero, suc, ◌<◌, List, [], ◌∷◌, length, Option, Some, None, Result, Ok, Err, refl, sym, ap, subst, ◌∙◌, arith, inl, inr}
use Rattle.std.specs.Prelude.{◌⊎◌, not, slice_index}
use Rattle.std.specs.List.{slice_get}
use Rattle.std.specs.Option.{IsSomeAnd}
use Rattle.std.proofs.lemmas.Option.{slice_get_within, slice_get-get_or, same_Some, none-some}
use Rattle.std.proofs.lemmas.List.Quantifiers.{position-Some}
use Rattle.oz_script.specs.circles.Circles.{Leads, ComesBack, IsFirstBack}
use Rattle.oz_script.specs.declared.draft.fault.Cause.{Cause}
use Rattle.oz_script.specs.declared.draft.fault.ScriptFault.{ScriptFault}
use Rattle.oz_script.specs.declared.draft.fault.ScriptFault.TheVariants.{At, OutOfMemory}
use Rattle.oz_script.specs.declared.draft.fault.Cause.TheVariants.{Circle, Later}
use Rattle.oz_script.specs.declared.lines.script.Line.{Line}
use Rattle.oz_script.specs.declared.placed.placed.PlacedScript.{PlacedScript}
use Rattle.oz_script.specs.declared.lines.script.Script.{Script}
use Rattle.oz_script.specs.draft.Drafts.{Fails}
use Rattle.oz_script.specs.placed.Placed.{read_of}
use Rattle.oz_script.specs.placed.Served.{is_served, later_index}
use Rattle.oz_script.specs.Parsing.{IsFaultAt, Answers, AnswersRead, ParsesTo, Gives}
use Rattle.oz_script.specs.Waiting.{Needs, WaitsFor}
use Rattle.oz_script.proofs.Counting.{the_some}

pub refused : (bytes : List ℕ) (fault : ScriptFault) → Fails fault (read_of bytes) → Gives (Err fault) (ParsesTo bytes)
refused bytes (At line cause) e = subst (λ (r : Result PlacedScript ScriptFault). AnswersRead r (Err (At line cause))) (sym e) refl
refused bytes OutOfMemory e = tt

pub parsed : (bytes : List ℕ) (placed : PlacedScript) (answer : Result Script ScriptFault) (circle later : Option ℕ) → read_of bytes ≡ Ok placed → IsFirstBack (WaitsFor placed.script.lines) circle
    → later ≡ later_index placed.script.lines → Answers placed circle later answer → ParsesTo bytes answer
parsed bytes placed answer circle later e first is a =
    subst (λ (r : Result PlacedScript ScriptFault). AnswersRead r answer) (sym e) (circle, first, subst (λ (l : Option ℕ). Answers placed circle l answer) is a)

step_within : (lines : List Line) (from to : ℕ) → WaitsFor lines from to → from < length lines
step_within lines from to h =
    let l = the_some (λ (l : Line). IsSomeAnd (slice_get lines to) (λ (o : Line). Needs l o)) (slice_get lines from) h in
    slice_get_within lines from l.0 l.1

leads_within : (lines : List Line) (from : ℕ) (between : List ℕ) (to : ℕ) → Leads (WaitsFor lines) from between to → from < length lines
leads_within lines from [] to h = step_within lines from to h
leads_within lines from (next ∷ between) to h = step_within lines from next h.0

-- what comes back is a line
pub back_within : (lines : List Line) (line : ℕ) → ComesBack (WaitsFor lines) line → line < length lines
back_within lines line h = leads_within lines line h.0 line h.1

gives_at : (bytes : List ℕ) (place : ℕ) (cause : Cause) (fault : ScriptFault) → fault ≡ At place cause → ParsesTo bytes (Err (At place cause)) → Gives (Err fault) (ParsesTo bytes)
gives_at bytes place cause fault is p = subst (λ (f : ScriptFault). Gives (Err f) (ParsesTo bytes)) (sym is) p

pub first_within : (lines : List Line) (circle : Option ℕ) (line : ℕ) → IsFirstBack (WaitsFor lines) circle → circle ≡ Some line → line < length lines
first_within lines circle line first is =
    let some : IsFirstBack (WaitsFor lines) (Some line) = subst (λ (c : Option ℕ). IsFirstBack (WaitsFor lines) c) is first in
    back_within lines line some.0

pub circle_fault : (bytes : List ℕ) (placed : PlacedScript) (circle : Option ℕ) (line : ℕ) (fault : ScriptFault) → read_of bytes ≡ Ok placed → length placed.places ≡ length placed.script.lines
    → IsFirstBack (WaitsFor placed.script.lines) circle → circle ≡ Some line → fault ≡ At (slice_index placed.places line) Circle → Gives (Err fault) (ParsesTo bytes)
circle_fault bytes placed circle line fault e long first some is =
    let within = first_within placed.script.lines circle line first some in
    let first_some = subst (λ (c : Option ℕ). IsFirstBack (WaitsFor placed.script.lines) c) some first in
    let found : IsFaultAt placed line Circle (Err (At (slice_index placed.places line) Circle)) = (slice_index placed.places line, slice_get-get_or placed.places line 0 (omega (arith, within, long)), refl) in
    gives_at bytes (slice_index placed.places line) Circle fault is
    (parsed bytes placed (Err (At (slice_index placed.places line) Circle)) (Some line) (later_index placed.script.lines) e first_some refl found)

pub later_within : (lines : List Line) (line : ℕ) → Some line ≡ later_index lines → line < length lines
later_within [] line e = absurd (none-some line (sym e))
later_within (first ∷ rest) line e = (position-Some (λ (l : Line). not (is_served l)) (first ∷ rest) line first (sym e)).0

pub later_fault : (bytes : List ℕ) (placed : PlacedScript) (circle : Option ℕ) (line : ℕ) (fault : ScriptFault) → read_of bytes ≡ Ok placed → length placed.places ≡ length placed.script.lines
    → IsFirstBack (WaitsFor placed.script.lines) circle → circle ≡ None → Some line ≡ later_index placed.script.lines → fault ≡ At (slice_index placed.places line) Later → Gives (Err fault) (ParsesTo bytes)
later_fault bytes placed circle line fault e long first none some is =
    let within = later_within placed.script.lines line some in
    let first_none = subst (λ (c : Option ℕ). IsFirstBack (WaitsFor placed.script.lines) c) none first in
    let found : IsFaultAt placed line Later (Err (At (slice_index placed.places line) Later)) = (slice_index placed.places line, slice_get-get_or placed.places line 0 (omega (arith, within, long)), refl) in
    gives_at bytes (slice_index placed.places line) Later fault is
    (parsed bytes placed (Err (At (slice_index placed.places line) Later)) None (Some line) e first_none some found)
