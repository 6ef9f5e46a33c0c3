-- The script of some bytes, or its first fault.
use Rattle.std.specs.Prelude.{◌≡◌, ℕ, List, Option, None, Some, Result, Ok, Err}
use Rattle.std.specs.List.{slice_get}
use Rattle.oz_script.specs.circles.Circles.{IsFirstBack}
use Rattle.oz_script.specs.declared.draft.fault.Cause.{Cause}
use Rattle.oz_script.specs.declared.draft.fault.Cause.TheVariants.{Circle, Later}
use Rattle.oz_script.specs.declared.draft.fault.ScriptFault.{ScriptFault}
use Rattle.oz_script.specs.declared.draft.fault.ScriptFault.TheVariants.{At, OutOfMemory}
use Rattle.oz_script.specs.declared.placed.placed.PlacedScript.{PlacedScript}
use Rattle.oz_script.specs.declared.lines.script.Script.{Script}
use Rattle.oz_script.specs.placed.Placed.{read_of}
use Rattle.oz_script.specs.placed.Served.{later_index}
use Rattle.oz_script.specs.Waiting.{WaitsFor}

-- the answer names a line with this fault, by its place in the text
abbrev pub IsFaultAt : PlacedScript → ℕ → Cause → Result Script ScriptFault → Type 0
IsFaultAt placed line cause answer =
    (place : ℕ) × (slice_get placed.places line ≡ Some place) × (answer ≡ Err (At place cause))

-- The answer, by the first line that comes back to itself and the first that isn't served: the former is named first.
abbrev pub Answers : PlacedScript → Option ℕ → Option ℕ → Result Script ScriptFault → Type 0
Answers placed (Some line) later answer = IsFaultAt placed line Circle answer
Answers placed None (Some line) answer = IsFaultAt placed line Later answer
Answers placed None None answer = answer ≡ Ok placed.script

-- the answer to what was read
abbrev pub AnswersRead : Result PlacedScript ScriptFault → Result Script ScriptFault → Type 0
AnswersRead (Err fault) answer = answer ≡ Err fault
AnswersRead (Ok placed) answer = (circle : Option ℕ) × IsFirstBack (WaitsFor placed.script.lines) circle
    × Answers placed circle (later_index placed.script.lines) answer

-- These bytes give this script, or this fault. They give one of them, and no other.
abbrev pub ParsesTo : List ℕ → Result Script ScriptFault → Type 0
ParsesTo bytes answer = AnswersRead (read_of bytes) answer

-- what was returned is such an answer, unless memory ran out
abbrev pub Gives : Result Script ScriptFault → (Result Script ScriptFault → Type 0) → Type 0
Gives (Ok script) IsAnswer = IsAnswer (Ok script)
Gives (Err (At line cause)) IsAnswer = IsAnswer (Err (At line cause))
Gives (Err OutOfMemory) IsAnswer = Unit {0}
