-- What a transfer asks, and what of an answer it wants.
use Rattle.std.specs.Prelude.{◌≡◌, ℕ, List, [], ◌∷◌, codes, Option, None, Some}
use Rattle.oz_cluster.specs.declared.files.words.Way.{Way}
use Rattle.oz_cluster.specs.declared.files.words.Way.TheVariants.{Put, Get}
use Rattle.oz_command.specs.declared.command.Command.{Command}
use Rattle.oz_command.specs.declared.command.Command.TheVariants.{KeyPut, KeyGet}
use Rattle.oz_command.specs.declared.command.Data.TheVariants.{Text}
use Rattle.oz_command.specs.declared.paths.KeyPath.{KeyPath}
use Rattle.oz_core.specs.declared.event.Event.{Event}
use Rattle.oz_core.specs.Asks.{answers_to}
use Rattle.oz_core.specs.Stories.{last_in}
use Rattle.oz_requests.specs.declared.answer.Answer.{Answer}
use Rattle.oz_requests.specs.declared.answer.Answer.TheVariants as told
use Rattle.oz_requests.specs.declared.answer.Values.TheVariants as values
use Rattle.oz_script.specs.declared.lines.script.Line.{Line}
use Rattle.oz_script.specs.declared.lines.script.Script.{Script}

-- ---- the script

-- a put of these bytes, or a get
abbrev pub command_for : Way → KeyPath → List ℕ → Command
command_for Put path given = KeyPut path.volume path.bucket path.key (Text given)
command_for Get path given = KeyGet path.volume path.bucket None path.key

abbrev pub line_for : Way → KeyPath → List ℕ → Line
line_for way path given = record { client = 1; number = 1; after = None; command = command_for way path given }

-- one line of one client
abbrev pub script_for : Way → KeyPath → List ℕ → Script
script_for way path given = record { clients = codes "a" ∷ []; lines = line_for way path given ∷ [] }

-- ---- the answer

-- what the line was told last
abbrev pub told_in : List Event → Option Answer
told_in story = last_in (answers_to 1 1 story)

-- the answer that a transfer is made for: that so many bytes were written, or bytes that were read
abbrev pub IsWanted : Way → ℕ → Answer → Type 0
IsWanted Put size answer = answer ≡ told.Ok (values.Length size)
IsWanted Get size answer = (read : List ℕ) × (answer ≡ told.Ok (values.Bytes read))
