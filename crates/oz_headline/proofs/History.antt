-- What a history says of each event at its place.
use Rattle.std.proofs.Common.{◌≡◌, ◌≢◌, ℕ, true, List, [], ◌∷◌, ◌++◌, Option, None, Some, is_some, sym, ap, ◌∙◌, subst, append-nil}
use Rattle.std.proofs.lemmas.Bool.{false≢true}
use Rattle.oz_command.specs.declared.command.Command.{Command}
use Rattle.oz_command.specs.declared.command.Command.TheVariants as commands
use Rattle.oz_command.specs.declared.command.AdminCommand.TheVariants as admin
use Rattle.oz_core.specs.declared.event.Event.{Event}
use Rattle.oz_core.specs.declared.event.EventKind.{EventKind}
use Rattle.oz_core.specs.declared.event.EventKind.TheVariants.{Ask, Decide, Told}
use Rattle.oz_core.specs.declared.event.Node.TheVariants.{Manager}
use Rattle.oz_core.specs.declared.opening.Opening.{Opening}
use Rattle.oz_core.specs.Asks.{is_asked, pending}
use Rattle.oz_core.specs.Contents.{OpeningBytes}
use Rattle.oz_core.specs.Due.{IsDue, ManagerHadStopped}
use Rattle.oz_core.specs.Fits.{EventFits, Fits, FitsFrom}
use Rattle.oz_core.specs.Law.{IsLegal, IsEnabled, IsInTime, KindIsEnabled}
use Rattle.oz_core.specs.Manager.{halt_of}
use Rattle.oz_script.specs.declared.lines.script.Line.{Line}
use Rattle.oz_script.specs.declared.lines.script.Script.{Script}
use Rattle.oz_requests.specs.declared.answer.Answer.{Answer}
use Rattle.oz_requests.specs.declared.answer.Answer.TheVariants as told
use Rattle.oz_requests.specs.declared.request.AskId.{AskId}
use Rattle.oz_requests.specs.declared.request.Request.{Request}
use Rattle.oz_om.specs.Asks.{asked_at}
use Rattle.oz_om.specs.Halts.{late_means_halted}
use Rattle.oz_kept.specs.laws.Deleted.{found_at}
use Rattle.oz_kept.specs.laws.Granted.{one_ask_id, pending_asked}
use Rattle.oz_kept.specs.laws.Places.{legal_behind, legal_first, moved_over}
use Rattle.oz_headline.specs.History.{AllAreInTurn, AnswerHolds, IsInTurn, ReplyIsOneThreads, RepliesAreOneThreads, ToldHolds, ToldIsStable}

-- ---- each event at its place

module _ (opening : Opening) (story before behind : List Event) (event : Event) (parts : story ≡ before ++ event ∷ behind) where
  pub enabled_there : IsLegal opening story → IsEnabled opening before event
  enabled_there legal =
      legal_first opening before event behind
      (legal_behind opening [] before (event ∷ behind) (subst (λ (l : List Event). IsLegal opening l) parts legal))

fits_behind : (opening : Opening) (bytes : OpeningBytes) (script : Script) (before a b : List Event) → FitsFrom opening bytes script before (a ++ b) → FitsFrom opening bytes script (before ++ a) b
unfolding FitsFrom
fits_behind opening bytes script before [] b fits = subst (λ (l : List Event). FitsFrom opening bytes script l b) (sym (append-nil before)) fits
fits_behind opening bytes script before (event ∷ a) b fits =
    subst (λ (l : List Event). FitsFrom opening bytes script l b) (moved_over before a event) (fits_behind opening bytes script (before ++ event ∷ []) a b fits.1)

fits_first : (opening : Opening) (bytes : OpeningBytes) (script : Script) (before : List Event) (event : Event) (rest : List Event) → FitsFrom opening bytes script before (event ∷ rest) → EventFits opening bytes script before event.kind
unfolding FitsFrom
fits_first opening bytes script before event rest fits = fits.0

pub fits_there : (opening : Opening) (bytes : OpeningBytes) (script : Script) (story before behind : List Event) (event : Event) → story ≡ before ++ event ∷ behind → FitsFrom opening bytes script [] story
    → EventFits opening bytes script before event.kind
fits_there opening bytes script story before behind event parts fits =
    fits_first opening bytes script before event behind
    (fits_behind opening bytes script [] before (event ∷ behind) (subst (λ (l : List Event). FitsFrom opening bytes script [] l) parts fits))

-- ---- replies

one_thread : (opening : Opening) (before : List Event) (seat : ℕ) (kind : EventKind) → KindIsEnabled opening before seat kind → ReplyIsOneThreads opening before kind
one_thread opening before seat (Decide id index reply batch) may = (may.request, may.undecided, may.one_thread)
one_thread opening before seat kind may = tt

pub replies : (opening : Opening) (story : List Event) → IsLegal opening story → RepliesAreOneThreads opening story
replies opening story legal before behind event parts =
    one_thread opening before event.seat event.kind (enabled_there opening story before behind event parts legal)

-- ---- asks

was_asked : (id : AskId) (request : Request) (story : List Event) → pending id story ≡ Some request → is_asked id story ≡ true
was_asked id request story e =
    let was = pending_asked id request story e in
    let event : Event = record { seat = was.seat; kind = Ask was.other request } in
    let found = found_at story event was.there ∙ ap (λ (i : AskId). Some (record { seat = was.seat; kind = Ask i request })) (sym (one_ask_id id was.other was.same)) in
    asked_at story was.there.0 was.seat id request found

in_turn : (opening : Opening) (bytes : OpeningBytes) (script : Script) (before : List Event) (seat : ℕ) (kind : EventKind) → KindIsEnabled opening before seat kind
    → EventFits opening bytes script before kind → IsInTurn opening script before kind
in_turn opening bytes script before seat (Ask id request) may fits = fits.0
in_turn opening bytes script before seat (Decide id index reply batch) may fits = was_asked id may.request before may.undecided
in_turn opening bytes script before seat kind may fits = tt

module _ (opening : Opening) (bytes : OpeningBytes) (script : Script) (story : List Event) (legal : IsLegal opening story) (fits : Fits opening bytes script story) where
  pub asks : AllAreInTurn opening script story
  asks before behind event parts =
      in_turn opening bytes script before event.seat event.kind (enabled_there opening story before behind event parts legal)
      (fits_there opening bytes script story before behind event parts fits.steps)

-- ---- answers

some_is : {X : Type 0} (o : Option X) → is_some o ≡ true → o ≢ None
some_is None is = absurd (false≢true is)
some_is (Some x) is = λ none. absurd cc

had_halted : (story : List Event) (line : Line) (command : Command) → ManagerHadStopped story line command → halt_of Manager story ≢ None
had_halted story line (commands.Admin admin.Drain) had = had
had_halted story line command had = some_is (halt_of Manager story) (late_means_halted had.0 story had.2)

answer_holds : (opening : Opening) (bytes : OpeningBytes) (script : Script) (before : List Event) (line : Line) (answer : Answer)
    → IsInTime opening before line.client line.number answer → IsDue opening bytes script before line answer → AnswerHolds opening before line.client line.number answer
answer_holds opening bytes script before line told.Unacknowledged in_time due = due
answer_holds opening bytes script before line told.ManagerStopped in_time due = (had_halted before line line.command due, in_time)
answer_holds opening bytes script before line told.OutOfMemory in_time due = tt
answer_holds opening bytes script before line answer in_time due = in_time

told_holds : (opening : Opening) (bytes : OpeningBytes) (script : Script) (before : List Event) (seat : ℕ) (kind : EventKind) → KindIsEnabled opening before seat kind
    → EventFits opening bytes script before kind → ToldHolds opening before kind
told_holds opening bytes script before seat (Told client number answer) may fits =
    let line = fits.line in
    subst (λ (c : ℕ). AnswerHolds opening before c number answer) fits.its.of_client
    (subst (λ (n : ℕ). AnswerHolds opening before line.client n answer) fits.its.of_number
    (answer_holds opening bytes script before line answer
    (subst (λ (c : ℕ). IsInTime opening before c line.number answer) (sym fits.its.of_client)
    (subst (λ (n : ℕ). IsInTime opening before client n answer) (sym fits.its.of_number) may.in_time))
    fits.due))
told_holds opening bytes script before seat kind may fits = tt

module _ (opening : Opening) (bytes : OpeningBytes) (script : Script) (story : List Event) (legal : IsLegal opening story) (fits : Fits opening bytes script story) where
  pub answers : ToldIsStable opening story
  answers before behind event parts =
      told_holds opening bytes script before event.seat event.kind (enabled_there opening story before behind event parts legal)
      (fits_there opening bytes script story before behind event parts fits.steps)
