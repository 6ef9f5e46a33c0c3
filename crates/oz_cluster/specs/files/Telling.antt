-- The line that says of a transfer's refusal.
use Rattle.std.specs.Prelude.{ℕ, List, ◌++◌, codes}
use Rattle.oz_report.specs.Report.{answer_text}
use Rattle.oz_requests.specs.declared.answer.Answer.{Answer}

-- the key, and the answer as a report has it
abbrev pub refusal_text : List ℕ → Answer → List ℕ
refusal_text key answer = key ++ codes ": " ++ answer_text answer ++ codes "\n"
