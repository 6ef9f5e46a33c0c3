-- The numbers of clients and lines.
use Rattle.std.specs.Prelude.{◌≡◌, ℕ, ◌+◌, ◌≤◌, ◌==◌, List, [], ◌∷◌, ◌++◌, length, count_by}
use Rattle.std.specs.List.{All}
use Rattle.oz_script.specs.declared.lines.script.TheConstants.{MOST_LINES, MOST_CLIENTS}
use Rattle.oz_script.specs.declared.lines.script.Line.{Line}
use Rattle.oz_script.specs.declared.lines.script.Script.{Script}

-- how many of these lines are a client's
abbrev pub lines_of : List Line → ℕ → ℕ
lines_of lines client = count_by (λ line. line.client == client) lines

-- each line has the number that comes next for its client, behind those before it
abbrev pub AreNumbered : List Line → List Line → Type 0
AreNumbered before [] = Unit {0}
AreNumbered before (line ∷ rest) =
    (1 ≤ line.client) × (line.number ≡ lines_of before line.client + 1) × AreNumbered (before ++ line ∷ []) rest

-- Not too many clients and lines, each line is one of these clients', and the lines of each client are numbered from 1.
pub record IsNumbered (script : Script) : Type 0 where
  pub clients : length script.clients ≤ MOST_CLIENTS
  pub few : length script.lines ≤ MOST_LINES
  pub known : All (λ line. line.client ≤ length script.clients) script.lines
  pub in_order : AreNumbered [] script.lines
