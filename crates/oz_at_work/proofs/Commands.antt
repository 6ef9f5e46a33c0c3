-- A line that has something done to a datanode, and what it is told of that.
use Rattle.std.proofs.Common.{◌≡◌, ℕ, ◌<◌, ◌≤◌, true, List, length, Option, None, Some, refl, sym, subst}
use Rattle.std.proofs.lemmas.Bool.{false≢true}
use Rattle.oz_command.specs.declared.command.Command.{Command}
use Rattle.oz_command.specs.declared.command.Command.TheVariants.{Admin}
use Rattle.oz_core.specs.declared.event.Event.{Event}
use Rattle.oz_core.specs.declared.event.EventKind.TheVariants.{Told}
use Rattle.oz_core.specs.declared.event.Node.TheVariants.{Datanode}
use Rattle.oz_core.specs.declared.opening.Opening.{Opening}
use Rattle.oz_core.specs.Asks.{is_told}
use Rattle.oz_core.specs.Contents.{OpeningBytes}
use Rattle.oz_core.specs.Due.{IsDue, NamesNode}
use Rattle.oz_core.specs.Fits.{EventFits}
use Rattle.oz_core.specs.Lines.{HasStarted}
use Rattle.oz_core.specs.Manager.{halt_of}
use Rattle.oz_script.specs.declared.lines.script.Line.{Line}
use Rattle.oz_script.specs.declared.lines.script.Script.{Script}
use Rattle.oz_node_admin.specs.Came.{WasDone}
use Rattle.oz_node_admin.specs.laws.Due.{done_due, halt_stays, halted_due, no_node_due}
use Rattle.oz_node_events.specs.declared.command.NodeCommand.{NodeCommand}
use Rattle.oz_node_events.specs.declared.command.NodeCommand.TheVariants as command
use Rattle.oz_node_events.specs.Led.{admin_command}
use Rattle.oz_requests.specs.declared.answer.Answer.{Answer}
use Rattle.oz_requests.specs.declared.answer.Answer.TheVariants as answers
use Rattle.oz_requests.specs.declared.request.AskId.{AskId}
use Rattle.oz_steps.specs.declared.label.Label.{Label}
use Rattle.oz_asker.specs.telling.Done.{IsToldDone, answer_done}
use Rattle.oz_asker.specs.telling.laws.Told.{told_now}
use Rattle.oz_turn.specs.Told.{BeginsWith}
use Rattle.oz_underway.specs.laws.Starting.{started_still}
use Rattle.oz_at_work.specs.AtWork.{HasLeft, IsAtWork, IsDoneFit, IsLabelOf, IsStarted, WorkView}
use Rattle.oz_at_work.specs.inner.Commanded.{IsCommandOf, IsDoneDue}
use Rattle.oz_at_work.specs.inner.Replied.{cut_with}

names_one : (dn other : ℕ) (done : NodeCommand) → NamesNode (Admin (admin_command dn done)) other → dn ≡ other
names_one dn other command.Stop named = named
names_one dn other command.Start named = named
names_one dn other command.Wipe named = named

-- such a line opens no label
no_label : (story : List Event) (line : Line) (dn : ℕ) (done : NodeCommand) (left : Option Label) → IsCommandOf line dn done → IsLabelOf story line line.command left
no_label story line dn done left its = subst (λ (c : Command). IsLabelOf story line c left) (sym its) tt

module _ (Coherent : Type 0) (opening : Opening) (bytes : OpeningBytes) (script : Script) where
  -- a line that has started may be told what is due
  pub due_fits : (story seen : List Event) (line : Line) (answer : Answer) → BeginsWith story seen → IsStarted script seen line → IsDue opening bytes script story line answer
      → EventFits opening bytes script story (Told line.client line.number answer)
  due_fits story seen line answer begins begun due = record {
    line = line;
    its = record { there = begun.there; of_client = refl; of_number = refl };
    started = started_still story seen line begins begun.started;
    due = due;
  }

  pub no_node_works : (seen : List Event) (work new : WorkView) (dn : ℕ) (done : NodeCommand) → IsCommandOf work.line dn done → length opening.nodes ≤ dn
      → new ≡ cut_with work work.asked answers.NoSuchNode → IsAtWork Coherent opening bytes script seen work → IsAtWork Coherent opening bytes script seen new
  no_node_works seen work new dn done its out is at_work = subst (IsAtWork Coherent opening bytes script seen) (sym is) (record {
    begun = at_work.begun;
    does = at_work.does;
    nodes = at_work.nodes;
    opened = at_work.opened;
    said = at_work.said;
    next = record {
      fits = λ story begins all said as_said may.
          due_fits story seen work.line answers.NoSuchNode begins at_work.begun (no_node_due opening bytes script work.line dn done story its out);
      leaves = λ story begins all before seat said from as_said may behind. no_label story work.line dn done None its;
    };
    refusal = tt;
    done = λ wrong. absurd (false≢true wrong);
  })

  -- what was done is due to be told, until the datanode halts
  pub due_done : (before seen : List Event) (line : Line) (dn : ℕ) (done : NodeCommand) → IsCommandOf line dn done → Coherent → dn < length opening.nodes
      → HasStarted before line → WasDone Coherent dn done before seen → IsDoneDue Coherent opening bytes script seen line dn
  due_done before seen line dn done its coherent there started was story begins all = by (halt_of (Datanode dn) story) refl
    where
      by : (halt : Option ℕ) → halt_of (Datanode dn) story ≡ halt → IsDue opening bytes script story line (answer_done dn halt)
      by None none = done_due Coherent opening bytes script line dn done its coherent there before seen story started was begins none
      by (Some count) is = halted_due opening bytes script line dn done count story its is

  -- and its Halt, once it has halted
  pub due_halted : (seen : List Event) (line : Line) (dn : ℕ) (done : NodeCommand) (count : ℕ) → IsCommandOf line dn done → halt_of (Datanode dn) seen ≡ Some count
      → IsDoneDue Coherent opening bytes script seen line dn
  due_halted seen line dn done count its halted story begins all = by (halt_of (Datanode dn) story) refl
    where
      by : (halt : Option ℕ) → halt_of (Datanode dn) story ≡ halt → IsDue opening bytes script story line (answer_done dn halt)
      by None none = absurd (halt_stays (Datanode dn) seen story count begins halted none)
      by (Some other) is = halted_due opening bytes script line dn done other story its is

  -- so it is due of the datanode that the line names
  pub done_fits : (seen : List Event) (line : Line) (dn : ℕ) (done : NodeCommand) → IsCommandOf line dn done → IsDoneDue Coherent opening bytes script seen line dn
      → IsDoneFit Coherent opening bytes script seen line true
  done_fits seen line dn done its due is other named =
      let same : dn ≡ other = names_one dn other done (subst (λ (c : Command). NamesNode c other) its named) in
      subst (λ (n : ℕ). IsDoneDue Coherent opening bytes script seen line n) same due

  -- a line that was told so has left nothing
  pub done_left : (seen after mine mine_after : List Event) (line : Line) (dn : ℕ) (done : NodeCommand) (seat said : ℕ) (last : Option AskId) → IsCommandOf line dn done
      → IsToldDone opening seat line.client line.number last said dn seen mine after mine_after → HasLeft Coherent opening bytes script after line None
  done_left seen after mine mine_after line dn done seat said last its told = record {
    told = subst (λ (l : List Event). is_told line.client line.number l ≡ true) (sym told.story)
        (told_now told.before seat line.client line.number (answer_done dn (halt_of (Datanode dn) told.before)));
    stays = λ story begins all. no_label story line dn done None its;
  }
