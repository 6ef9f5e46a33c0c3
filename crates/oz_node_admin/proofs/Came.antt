-- What a command came to, as who had it done has seen it.
use Rattle.std.proofs.Common.{◌≡◌, ⊎_elim, ℕ, Bool, true, false, List, Option, Some, subst}
use Rattle.std.specs.Prelude.{Result, Ok, Err}
use Rattle.oz_core.specs.declared.event.Event.{Event}
use Rattle.oz_core.specs.declared.event.EventKind.TheVariants.{Wipe}
use Rattle.oz_core.specs.declared.event.Node.TheVariants.{Datanode}
use Rattle.oz_core.specs.declared.opening.Opening.{Opening}
use Rattle.oz_core.specs.Contents.{OpeningBytes}
use Rattle.oz_core.specs.Manager.{halt_of}
use Rattle.oz_script.specs.declared.lines.script.Line.{Line}
use Rattle.oz_script.specs.declared.lines.script.Script.{Script}
use Rattle.oz_node_events.specs.declared.command.NodeCommand.TheVariants as command
use Rattle.oz_node_events.specs.Led.{HasLed}
use Rattle.oz_node_events.specs.NodeSeat.{IsKept, SeatView}
use Rattle.oz_replicas.specs.Cells.{CellView}
use Rattle.oz_scm_events.specs.Kept.{ScmView}
use Rattle.oz_world.specs.Disk.{Images}
use Rattle.oz_node_admin.specs.declared.fault.AdminFault.{AdminFault}
use Rattle.oz_node_admin.specs.declared.fault.AdminFault.TheVariants.{Halted, OutOfMemory, Repeated}
use Rattle.oz_node_admin.specs.Came.{CameOf, WasDone, WasLed}
use Rattle.oz_node_admin.specs.Commands.{ComesTo, HasBeen, IsRepeated, run_done}
use Rattle.oz_node_admin.specs.Wipes.{HasTold, WipeComesTo}

module _ (Coherent : Type 0) (opening : Opening) (bytes : OpeningBytes) (script : Script) {D S : Type 0} (before after : CellView D SeatView) (scm_before scm_after : ScmView S)
    (line : Line) (seen_before seen_after : List Event) (dn : ℕ) (number : before.kept.dn ≡ dn) (kept : IsKept Coherent opening bytes script before.kept) where
  led : IsRepeated before after scm_before scm_after Coherent script line → WasLed Coherent opening bytes script dn line
  led repeated = record {
    kept = before.kept;
    number = number;
    is = kept;
    not_behind = repeated.not_behind;
    led = λ coherent. subst (λ (n : ℕ). HasLed script n before.kept.seen before.kept.mine line.client line.number) number (repeated.led coherent);
  }

  halt_seen : (count : ℕ) → halt_of (Datanode before.kept.dn) seen_after ≡ Some count → halt_of (Datanode dn) seen_after ≡ Some count
  halt_seen count is = subst (λ (n : ℕ). halt_of (Datanode n) seen_after ≡ Some count) number is

  done_run : (runs : Bool) → HasBeen Coherent before.kept.dn runs seen_before seen_after → WasDone Coherent dn (run_done runs) seen_before seen_after
  done_run true been = subst (λ (n : ℕ). HasBeen Coherent n true seen_before seen_after) number been
  done_run false been = subst (λ (n : ℕ). HasBeen Coherent n false seen_before seen_after) number been

  pub came_run : (faults : D → ℕ) (runs : Bool) (result : Result (Unit {0}) AdminFault)
      → ComesTo before after scm_before scm_after faults Coherent script runs line seen_before seen_after result
      → CameOf Coherent opening bytes script dn (run_done runs) line seen_before seen_after result
  came_run faults runs (Ok done) it = done_run runs it.has_been
  came_run faults runs (Err (Halted count)) it = halt_seen count it.seen
  came_run faults runs (Err Repeated) it = led it.1
  came_run faults runs (Err OutOfMemory) it = tt

  pub came_wiped : (told : D → Option (List ℕ)) (clock : D → ℕ) (image : D → Images) (faults : D → ℕ) (result : Result (Unit {0}) AdminFault)
      → WipeComesTo before after scm_before scm_after told clock image faults Coherent script line seen_before seen_after result
      → CameOf Coherent opening bytes script dn command.Wipe line seen_before seen_after result
  came_wiped told clock image faults (Ok done) it = subst (λ (n : ℕ). HasTold Coherent n (Wipe n) seen_before seen_after) number it.has_told
  came_wiped told clock image faults (Err (Halted count)) it = ⊎_elim (λ had. halt_seen count had.seen) (λ halts. halt_seen count halts.seen) it
  came_wiped told clock image faults (Err Repeated) it = led it
  came_wiped told clock image faults (Err OutOfMemory) it = tt
