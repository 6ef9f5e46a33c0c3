-- For private calls: a line that has something done to a datanode.
use Rattle.std.specs.Prelude.{◌≡◌, ℕ, ◌≤◌, List}
use Rattle.oz_command.specs.declared.command.Command.TheVariants.{Admin}
use Rattle.oz_core.specs.declared.event.Event.{Event}
use Rattle.oz_core.specs.declared.event.Node.TheVariants.{Datanode}
use Rattle.oz_core.specs.declared.opening.Opening.{Opening}
use Rattle.oz_core.specs.Contents.{OpeningBytes}
use Rattle.oz_core.specs.Due.{IsDue}
use Rattle.oz_core.specs.Manager.{halt_of}
use Rattle.oz_script.specs.declared.lines.script.Line.{Line}
use Rattle.oz_script.specs.declared.lines.script.Script.{Script}
use Rattle.oz_script.specs.declared.lines.script.TheConstants.{MOST_CLIENTS}
use Rattle.oz_node_events.specs.declared.command.NodeCommand.{NodeCommand}
use Rattle.oz_node_events.specs.Led.{admin_command}
use Rattle.oz_asker.specs.telling.Done.{answer_done}
use Rattle.oz_underway.specs.GoingOn.{FromHereOn}

-- the line has this done to the datanode
abbrev pub IsCommandOf : Line → ℕ → NodeCommand → Type 0
IsCommandOf line dn done = line.command ≡ Admin (admin_command dn done)

-- its numbers are such as lines of a script have
abbrev pub HasNumbers : Line → Type 0
HasNumbers line = (line.client ≤ MOST_CLIENTS) × (1 ≤ line.number)

-- From here on it is due that the line is told that it is done; or with which count the datanode halted, where it did.
abbrev pub IsDoneDue : Type 0 → Opening → OpeningBytes → Script → List Event → Line → ℕ → Type 0
IsDoneDue Coherent opening bytes script seen line dn = FromHereOn Coherent opening bytes script seen
    (λ story. IsDue opening bytes script story line (answer_done dn (halt_of (Datanode dn) story)))
