-- What a label stands for stays, once the line that opened it was told.
use Rattle.std.proofs.Common.{◌≡◌, ◌≢◌, ℕ, Bool, true, false, ◌||◌, List, [], ◌∷◌, ◌++◌, length, Option, None, Some, is_some, refl, sym, ap, ◌∙◌}
use Rattle.std.proofs.lemmas.Bool.{false≢true}
use Rattle.std.proofs.lemmas.Option.{none-some}
use Rattle.std.proofs.lemmas.List.Sums.{fold_push}
use Rattle.std.specs.List.{cons_option}
use Rattle.oz_command.specs.declared.command.Command.{Command}
use Rattle.oz_command.specs.declared.command.Command.TheVariants as commands
use Rattle.oz_script.specs.declared.lines.script.Line.{Line}
use Rattle.oz_script.specs.declared.lines.script.Script.{Script}
use Rattle.oz_requests.specs.declared.answer.Answer.{Answer}
use Rattle.oz_core.specs.declared.event.Event.{Event}
use Rattle.oz_core.specs.declared.event.EventKind.{EventKind}
use Rattle.oz_core.specs.declared.event.EventKind.TheVariants.{Told}
use Rattle.oz_core.specs.declared.opening.Opening.{Opening}
use Rattle.oz_core.specs.Asks.{answer_to, answers_to, is_told}
use Rattle.oz_core.specs.Contents.{OpeningBytes}
use Rattle.oz_core.specs.Steps.{commit_step, is_open_at, opening_line, was_told_ok}
use Rattle.oz_core.specs.Stories.{all_told, has_event, last_in}
use Rattle.oz_steps.specs.declared.label.Label.{Label}
use Rattle.oz_steps.specs.Lines.{IsLabel, commit_of_label}
use Rattle.oz_client.specs.declared.progress.Progress.{Progress}
use Rattle.oz_client.specs.Stories.{IsLeftEverywhere}
use Rattle.oz_buffer.specs.Buffer.{AllFollow, Follows}
use Rattle.oz_turn.specs.Told.{BeginsWith}
use Rattle.oz_underway.specs.UnderWay.{IsSaid, IsUnderWay, times_asked}
use Rattle.oz_underway.specs.laws.Going.{begins_through}
use Rattle.oz_underway.specs.laws.Told.{answers_now, asks_stop, told_once}

-- who wasn't told has no answer
pub none_told : {X : Type 0} (tells : EventKind → Option X) (story : List Event) → has_event (λ kind. is_some (tells kind)) story ≡ false
    → all_told tells story ≡ []
none_told tells [] none = refl
none_told {X} tells (event ∷ story) none = by (tells event.kind) (none_told tells story) none
  where
    by : (o : Option X) → (has_event (λ kind. is_some (tells kind)) story ≡ false → all_told tells story ≡ [])
        → (is_some o || has_event (λ kind. is_some (tells kind)) story) ≡ false → cons_option o (all_told tells story) ≡ []
    by None rest none = rest none
    by (Some x) rest none = absurd (false≢true (sym none))

pub open_was_told : (story : List Event) (opened : Line) → is_open_at story opened ≡ true → is_told opened.client opened.number story ≡ true
open_was_told story opened is = by (is_told opened.client opened.number story) refl
  where
    by : (t : Bool) → is_told opened.client opened.number story ≡ t → is_told opened.client opened.number story ≡ true
    by true so = so
    by false so =
        let none = none_told (answer_to opened.client opened.number) story so in
        absurd (false≢true (sym (ap (λ (answers : List Answer). was_told_ok (last_in answers)) none) ∙ is))

pub open_as_told : (story : List Event) (seat : ℕ) (line : Line) (answer : Answer)
    → is_open_at (story ++ record { seat = seat; kind = Told line.client line.number answer } ∷ []) line ≡ was_told_ok (Some answer)
open_as_told story seat line answer =
    ap (λ (answers : List Answer). was_told_ok (last_in answers)) (answers_now story seat line.client line.number answer)
    ∙ ap was_told_ok (fold_push (λ before (x : Answer). Some x) None (answers_to line.client line.number story) answer)

-- a line that commits no label
pub no_label : (script : Script) (story : List Event) (line : Line) (command : Command) (label : Option Label)
    → ((name : List ℕ) → command ≢ commands.KeyCommit name) → IsLabel script story line command label
no_label script story line (commands.KeyCommit name) label other = absurd (other name refl)
no_label script story line command label other = tt

-- a label that no line opened stands for nothing
pub never_opened : (script : Script) (story : List Event) (line : Line) (name : List ℕ) (label : Option Label) → opening_line script line name ≡ None
    → IsLabel script story line (commands.KeyCommit name) label → ⊥
never_opened script story line name None none (opened, is, shut) = none-some opened (sym none ∙ is)
never_opened script story line name (Some label) none is =
    none-some (commit_of_label label) (sym (ap (commit_step story) none) ∙ is)

module _ (Coherent : Type 0) (opening : Opening) (bytes : OpeningBytes) (script : Script) where
  pub open_still : (opened : Line) (story seen : List Event) → Coherent → AllFollow (Follows Coherent opening bytes script) [] story
      → BeginsWith story seen → is_told opened.client opened.number seen ≡ true → is_open_at story opened ≡ is_open_at seen opened
  open_still opened story seen coherent all begins told =
      ap (λ (answers : List Answer). was_told_ok (last_in answers))
      (told_once Coherent opening bytes script opened.client opened.number story seen coherent all begins told)

  pub commit_stays : (seen : List Event) (opened : Line) (asked said : ℕ) (command : Command) (progress : Progress) (label : Label) → Coherent
      → IsUnderWay Coherent opening bytes script seen opened asked said command progress → IsLeftEverywhere command progress label
      → times_asked seen opened ≡ asked → is_open_at seen opened ≡ true
      → (story : List Event) → BeginsWith story seen → AllFollow (Follows Coherent opening bytes script) [] story
      → IsSaid story opened said progress → commit_step story (Some opened) ≡ Some (commit_of_label label)
  commit_stays seen opened asked said command progress label coherent way left so is story begins all as_said =
      let told = open_was_told seen opened is in
      let asks = asks_stop Coherent opening bytes script opened.client opened.number story seen way.of_client coherent all begins told in
      let at = way.has story (begins_through story seen way.since begins way.goes_on) all (ap length asks ∙ so) as_said in
      left opening script story opened at.of_line (open_still opened story seen coherent all begins told ∙ is)
