-- Who had stopped has halted, and what a line is told of it is due.
use Rattle.std.proofs.Common.{◌≡◌, ◌≢◌, List, Option, None, Some, is_some, sym, ap, ◌∙◌}
use Rattle.std.proofs.lemmas.Bool.{false≢true}
use Rattle.oz_command.specs.declared.command.AdminCommand.TheVariants as admin
use Rattle.oz_command.specs.declared.command.Command.{Command}
use Rattle.oz_command.specs.declared.command.Command.TheVariants as commands
use Rattle.oz_core.specs.declared.event.Event.{Event}
use Rattle.oz_core.specs.declared.event.Node.TheVariants.{Manager}
use Rattle.oz_core.specs.Asks.{last_ask}
use Rattle.oz_core.specs.Due.{ManagerHadStopped}
use Rattle.oz_core.specs.Manager.{halt_of}
use Rattle.oz_script.specs.declared.lines.script.Line.{Line}
use Rattle.oz_requests.specs.declared.request.AskId.{AskId}
use Rattle.oz_asker.specs.laws.Halts.{late_means_halted}
use Rattle.oz_asker.specs.telling.Tells.{HadStopped}

pub stopped_halted : (story : List Event) (last : Option AskId) → HadStopped story last → halt_of Manager story ≢ None
stopped_halted story None stopped none = stopped none
stopped_halted story (Some id) late none = false≢true (sym (ap is_some none) ∙ late_means_halted id story late)

pub stopped_due : (story : List Event) (line : Line) (command : Command) (id : AskId)
    → last_ask line.client line.number story ≡ Some id → HadStopped story (Some id) → ManagerHadStopped story line command
stopped_due story line (commands.Admin admin.Drain) id asked late = stopped_halted story (Some id) late
stopped_due story line command id asked late = (id, asked, late)
