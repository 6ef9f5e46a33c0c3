-- What a line has left once it was told, and what that makes of a label.
use Rattle.std.proofs.Common.{◌≡◌, ℕ, Bool, true, false, cond, List, [], ◌∷◌, Option, None, Some, refl, sym, ap, ◌∙◌, subst}
use Rattle.std.proofs.lemmas.Bool.{and_parts, false≢true}
use Rattle.std.proofs.lemmas.Option.{same_Some}
use Rattle.std.specs.Prelude.{filter, fold, nat_lt, ◌==◌, ◌&&◌}
use Rattle.oz_client.specs.declared.step.Step.TheVariants as steps
use Rattle.oz_command.specs.declared.command.Command.{Command}
use Rattle.oz_command.specs.declared.command.Command.TheVariants as commands
use Rattle.oz_core.specs.declared.event.Event.{Event}
use Rattle.oz_core.specs.declared.opening.Opening.{Opening}
use Rattle.oz_core.specs.Asks.{is_told}
use Rattle.oz_core.specs.Contents.{OpeningBytes}
use Rattle.oz_core.specs.Steps.{commit_step, is_opened_as, opening_line, opens_before}
use Rattle.oz_script.specs.declared.lines.script.Line.{Line}
use Rattle.oz_script.specs.declared.lines.script.Script.{Script}
use Rattle.oz_requests.specs.declared.answer.Answer.{Answer}
use Rattle.oz_requests.specs.declared.answer.Answer.TheVariants as answers
use Rattle.oz_requests.specs.declared.request.AskId.{AskId}
use Rattle.oz_steps.specs.declared.label.Label.{Label}
use Rattle.oz_steps.specs.Lines.{IsLabel}
use Rattle.oz_asker.specs.declared.telling.still.Still.{Still}
use Rattle.oz_asker.specs.telling.Tells.{IsTold, MayTell}
use Rattle.oz_asker.specs.telling.laws.Told.{told_now}
use Rattle.oz_turn.specs.Told.{BeginsWith}
use Rattle.oz_underway.specs.UnderWay.{LabelStays}
use Rattle.oz_underway.specs.laws.Going.{begins_through}
use Rattle.oz_underway.specs.laws.Told.{told_still}
use Rattle.oz_at_work.specs.AtWork.{HasLeft, IsAtWork, IsLabelOf, IsNextFit, MayBeTold, WorkView, last_of, left_of}
use Rattle.oz_at_work.proofs.Staying.{begun_still, done_still, refusal_still, said_was}

-- ---- the label of a line that commits

last_passes : {X : Type 0} (p : X → Bool) (before : Option X) (xs : List X) (x : X) → (before ≡ Some x → p x ≡ true)
    → fold (λ (b : Option X) (y : X). Some y) before (filter p xs) ≡ Some x → p x ≡ true
last_passes p before [] x was is = was is
last_passes {X} p before (y ∷ ys) x was is =
    by (p y) refl (last_passes p (Some y) ys x) (last_passes p before ys x was) is
  where
    Ends : Option X → List X → Type 0
    Ends b l = fold (λ (b : Option X) (z : X). Some z) b l ≡ Some x

    by : (t : Bool) → p y ≡ t → ((Some y ≡ Some x → p x ≡ true) → Ends (Some y) (filter p ys) → p x ≡ true) → (Ends before (filter p ys) → p x ≡ true)
        → Ends before (cond t (y ∷ filter p ys) (filter p ys)) → p x ≡ true
    by true passes it others is = it (λ same. subst (λ (z : X). p z ≡ true) (same_Some y x same) passes) is
    by false fails it others is = others is

-- the last line that opens a label opens one
opens : (script : Script) (line opened : Line) (name : List ℕ) → opening_line script line name ≡ Some opened → is_opened_as name opened.command ≡ true
opens script line opened name is =
    let passes = last_passes (opens_before line name) None script.lines opened (λ wrong. absurd cc) is in
    (and_parts (opened.client == line.client && nat_lt opened.number line.number) (is_opened_as name opened.command) passes).1

label_is : (script : Script) (story : List Event) (line opened : Line) (name : List ℕ) (command : Command) (left : Option Label) → opening_line script line name ≡ Some opened
    → is_opened_as name command ≡ true → IsLabelOf story opened command left → IsLabel script story line (commands.KeyCommit name) left
label_is script story line opened name (commands.KeyOpen other volume bucket key payload) (Some label) its opens is = ap (commit_step story) its ∙ is
label_is script story line opened name (commands.KeyOpen other volume bucket key payload) None its opens is = (opened, its, is)
label_is script story line opened name command left its opens is = absurd (false≢true opens)

pub label_left : (Coherent : Type 0) (opening : Opening) (bytes : OpeningBytes) (script : Script) (seen : List Event) (line opened : Line) (name : List ℕ) (left : Option Label)
    → line.command ≡ commands.KeyCommit name → opening_line script line name ≡ Some opened → HasLeft Coherent opening bytes script seen opened left
    → LabelStays Coherent opening bytes script seen line line.command left
label_left Coherent opening bytes script seen line opened name left does its has story goes all =
    subst (λ (c : Command). IsLabel script story line c left) (sym does)
    (label_is script story line opened name opened.command left its (opens script line opened name its) (has.stays story goes all))

-- ---- a line that was told

module _ (Coherent : Type 0) (opening : Opening) (bytes : OpeningBytes) (script : Script) (seen after mine mine_after : List Event) (line : Line) (last : Option AskId) (said seat : ℕ)
    (stills : List Still) (answer : Answer) (goes : BeginsWith after seen)
    (told : IsTold opening seat line.client line.number last said stills answer seen mine after mine_after) where
  is_told_now : is_told line.client line.number after ≡ true
  is_told_now = subst (λ (l : List Event). is_told line.client line.number l ≡ true) (sym told.story) (told_now told.before seat line.client line.number answer)

  pub told_left : (MaySay : ℕ → Type 0) (left : Option Label) → MaySay said → MayBeTold Coherent opening bytes script seen line last MaySay stills answer left
      → HasLeft Coherent opening bytes script after line left
  told_left MaySay left as_said fit = record {
    told = is_told_now;
    stays = λ story begins all. fit.leaves story (begins_through story after seen begins goes) all told.before seat said told.begins as_said told.may
        (subst (BeginsWith story) told.story begins);
  }

module _ (Coherent : Type 0) (opening : Opening) (bytes : OpeningBytes) (script : Script) (seen after mine mine_after : List Event) (work : WorkView) (seat : ℕ) (answer : Answer)
    (goes : BeginsWith after seen) (at_work : IsAtWork Coherent opening bytes script seen work) (is : work.next ≡ steps.Tell answer)
    (told : IsTold opening seat work.line.client work.line.number (last_of work.line work.asked) work.said [] answer seen mine after mine_after) where
  untold_no_more : (story : List Event) (last : Option AskId) (said : ℕ) (other : Answer) → BeginsWith story after → MayTell opening story work.line.client work.line.number last said [] other → ⊥
  untold_no_more story last said other begins may =
      let now = is_told_now Coherent opening bytes script seen after mine mine_after work.line (last_of work.line work.asked) work.said seat [] answer goes told in
      false≢true (sym may.untold ∙ told_still work.line.client work.line.number story after begins now)

  pub told_works : IsAtWork Coherent opening bytes script after (record work { next = steps.Tell answers.OutOfMemory })
  told_works = record {
    begun = begun_still script after seen work.line goes at_work.begun;
    does = at_work.does;
    nodes = at_work.nodes;
    opened = at_work.opened;
    said = said_was after seen work.line work.said goes at_work.said;
    next = record {
      fits = λ story begins all said as_said may. absurd (untold_no_more story _ said _ begins may);
      leaves = λ story begins all before by said from as_said may behind. absurd (untold_no_more before _ said _ from may);
    };
    refusal = refusal_still Coherent opening bytes script after seen goes work.line work.refused at_work.refusal;
    done = done_still Coherent opening bytes script after seen goes work.line work.was_done at_work.done;
  }

  pub has_left : HasLeft Coherent opening bytes script after work.line (left_of work)
  has_left =
      told_left Coherent opening bytes script seen after mine mine_after work.line (last_of work.line work.asked) work.said seat [] answer goes told _ (left_of work) (λ gave. refl)
      (subst (IsNextFit Coherent opening bytes script seen work) is at_work.next)
