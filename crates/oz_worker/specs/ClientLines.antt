-- The lines of a client.
use Rattle.std.specs.Prelude.{ℕ, ◌==◌, List, filter}
use Rattle.oz_script.specs.declared.lines.script.Line.{Line}
use Rattle.oz_script.specs.declared.lines.script.Script.{Script}

-- the lines of this client, in order
abbrev pub lines_of_client : Script → ℕ → List Line
lines_of_client script client = filter (λ line. line.client == client) script.lines
