-- How many lines the clients of a script were told.
use Rattle.std.specs.Prelude.{◌≡◌, ℕ, ◌≤◌, List, length}
use Rattle.oz_script.specs.declared.lines.script.Script.{Script}
use Rattle.oz_core.specs.declared.event.Event.{Event}
use Rattle.oz_core.specs.Fits.{line_numbers, told_lines}

-- a client of the script
pub record IsClient (script : Script) (client : ℕ) : Type 0 where
  pub some : 1 ≤ client
  pub within : client ≤ length script.clients

-- each client of the script was told as many lines as it has
abbrev pub AreToldAsMany : Script → List Event → Type 0
AreToldAsMany script story =
    (client : ℕ) → IsClient script client → length (told_lines client story) ≡ length (line_numbers script client)
