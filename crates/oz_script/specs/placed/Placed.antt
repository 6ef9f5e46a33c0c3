-- The script that a draft makes, with the place of each line, or the first line whose `after` names no line.
use Rattle.std.specs.Prelude.{ℕ, ◌+◌, nat_le, ◌&&◌, List, [], ◌∷◌, map, Option, None, Some, Result, Ok, Err, if◌then◌else◌}
use Rattle.std.specs.List.{zip}
use Rattle.oz_script.specs.declared.draft.drafting.Draft.{Draft}
use Rattle.oz_script.specs.declared.draft.drafting.Entry.{Entry}
use Rattle.oz_script.specs.declared.draft.fault.Cause.TheVariants.{After}
use Rattle.oz_script.specs.declared.draft.fault.ScriptFault.{ScriptFault}
use Rattle.oz_script.specs.declared.draft.fault.ScriptFault.TheVariants.{At}
use Rattle.oz_script.specs.declared.lines.script.Line.{Line}
use Rattle.oz_script.specs.declared.placed.placed.PlacedScript.{PlacedScript}
use Rattle.oz_script.specs.draft.Drafts.{◌>>=◌, client_place, count_in, draft_of}

-- the client and the number of the line that is named, if there is one: a client's lines are numbered from 1
abbrev pub line_named : Draft → List ℕ → ℕ → Option (ℕ × ℕ)
line_named draft name number =
    let client = client_place draft.clients name + 1 in
    if nat_le 1 number && nat_le number (count_in draft.entries client) then Some (client, number) else None

-- what is named at this place, or that nothing is
abbrev pub found_at : ℕ → Option (ℕ × ℕ) → Result (Option (ℕ × ℕ)) ScriptFault
found_at place None = Err (At place After)
found_at place (Some line) = Ok (Some line)

abbrev pub looked_up : Draft → ℕ → Option (List ℕ × ℕ) → Result (Option (ℕ × ℕ)) ScriptFault
looked_up draft place None = Ok None
looked_up draft place (Some named) = found_at place (line_named draft named.0 named.1)

-- the line that a line waits for
unfoldable pub after_of : Draft → Entry → Result (Option (ℕ × ℕ)) ScriptFault
after_of draft entry = looked_up draft entry.place entry.after

-- those that these lines wait for
unfoldable pub afters_of : Draft → List Entry → Result (List (Option (ℕ × ℕ))) ScriptFault
afters_of draft [] = Ok []
afters_of draft (entry ∷ rest) = do
  after ← after_of draft entry
  afters ← afters_of draft rest
  Ok (after ∷ afters)

-- a line, with the one that it waits for
abbrev pub line_with : Entry → Option (ℕ × ℕ) → Line
line_with entry after = record {
  client = entry.client;
  number = entry.number;
  after = after;
  command = entry.command;
}

-- the script that a draft makes
unfoldable pub placed_of : Draft → Result PlacedScript ScriptFault
placed_of draft = do
  afters ← afters_of draft draft.entries
  Ok (record {
    script = record {
      clients = draft.clients;
      lines = map (λ pair. line_with pair.0 pair.1) (zip draft.entries afters);
    };
    places = map (λ entry. entry.place) draft.entries;
  })

-- the script of these bytes, or its first fault before any line is asked whether it waits for itself
unfoldable pub read_of : List ℕ → Result PlacedScript ScriptFault
read_of bytes = draft_of bytes >>= placed_of
