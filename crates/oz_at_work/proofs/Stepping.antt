-- What comes next by the steps of a line may come.
use Rattle.std.proofs.Common.{◌≡◌, ◌≢◌, ⊎_elim, ℕ, zero, ◌+◌, Bool, true, false, not, ◌||◌, ◌&&◌, is_some, cond, List, [], ◌∷◌, ◌++◌, length, suc, Option, None, Some, Contains, refl, sym, ap, ◌∙◌, subst, arith}
use Rattle.std.proofs.lemmas.Bool.{false≢true}
use Rattle.std.proofs.lemmas.List.Folds.{list_all-append, list_any-append}
use Rattle.std.proofs.lemmas.Option.{none-some}
use Rattle.std.specs.Prelude.{count_by, nat_le, slice_get}
use Rattle.std.specs.List.{list_any, list_all}
use Rattle.oz_asker.specs.Decided.{IsDecideAt}
use Rattle.oz_buffer.specs.Buffer.{AllFollow, Follows}
use Rattle.oz_buffer.specs.Became.{says, times_said}
use Rattle.oz_buffer.specs.laws.Courses.{said-push}
use Rattle.oz_client.specs.declared.progress.Progress.{Progress}
use Rattle.oz_client.specs.declared.step.Got.{Got}
use Rattle.oz_client.specs.declared.step.Got.TheVariants as gots
use Rattle.oz_client.specs.declared.step.Step.{Step}
use Rattle.oz_client.specs.declared.step.Step.TheVariants as steps
use Rattle.oz_client.specs.declared.step.Written.{Written}
use Rattle.oz_client.specs.LineState.{LineState, came_written, label_in, label_of, left_by, nothing_yet, progress_after, state_after, state_before}
use Rattle.oz_client.specs.Onward.{IsNext, IsOnward, IsOver, IsToldOf, IsUnopened}
use Rattle.oz_client.specs.Stories.{HasIt, IsLeftEverywhere, IsStepEverywhere}
use Rattle.oz_command.specs.declared.command.Command.{Command}
use Rattle.oz_command.specs.declared.command.Command.TheVariants as commands
use Rattle.oz_core.specs.declared.event.Event.{Event}
use Rattle.oz_core.specs.declared.event.EventKind.TheVariants.{Ask}
use Rattle.oz_core.specs.declared.event.PutRefusal.{PutRefusal}
use Rattle.oz_core.specs.declared.opening.Opening.{Opening}
use Rattle.oz_core.specs.declared.limits.TheConstants.{SERVICE_CLIENT}
use Rattle.oz_core.specs.Asks.{ask_id, asks_of, is_told, pending, replies_to}
use Rattle.oz_core.specs.Contents.{OpeningBytes, written_for}
use Rattle.oz_core.specs.Fits.{EventFits}
use Rattle.oz_core.specs.Law.{AskIsEnabled, writes as is_wrote}
use Rattle.oz_core.specs.Steps.{Target, commit_if, commit_step, is_code, is_of_node, is_open_at, pieces_from, session_in, target, target_of, was_told_ok}
use Rattle.oz_core.specs.Stories.{has_event}
use Rattle.oz_fields.specs.declared.block.Block.{Block}
use Rattle.oz_fields.specs.declared.block.Piece.{Piece}
use Rattle.oz_script.specs.declared.lines.script.Line.{Line}
use Rattle.oz_script.specs.declared.lines.script.Script.{Script}
use Rattle.oz_script.specs.lines.Numbered.{IsNumbered}
use Rattle.oz_nodes.specs.Pipelines.{members_of}
use Rattle.oz_line_blocks.specs.reading.Lacks.{none_doubted}
use Rattle.oz_requests.specs.declared.answer.Answer.{Answer}
use Rattle.oz_requests.specs.declared.answer.Answer.TheVariants as answers
use Rattle.oz_requests.specs.declared.answer.Values.{Values}
use Rattle.oz_requests.specs.declared.request.AskId.{AskId}
use Rattle.oz_requests.specs.declared.request.Request.{Request}
use Rattle.oz_requests.specs.declared.request.Request.TheVariants as requests
use Rattle.oz_requests.specs.declared.reply.Reply.{Reply}
use Rattle.oz_requests.specs.declared.reply.Reply.TheVariants as replies
use Rattle.oz_steps.specs.declared.came.Attempt.{Attempt}
use Rattle.oz_steps.specs.declared.came.Came.{Came}
use Rattle.oz_steps.specs.declared.came.Granted.{Granted}
use Rattle.oz_steps.specs.declared.fate.Fate.TheVariants as fates
use Rattle.oz_steps.specs.declared.label.Label.{Label}
use Rattle.oz_steps.specs.Came.{granted_by}
use Rattle.oz_steps.specs.Grants.{fate_of, has_fate_written, is_fate_written, refused_so, written_blocks}
use Rattle.oz_steps.specs.Lines.{IsOf, commit_of_label}
use Rattle.oz_steps.specs.Requests.{command_by, put_by, request_by}
use Rattle.oz_asker.specs.telling.Tells.{MayTell, told_event}
use Rattle.oz_turn.specs.Told.{BeginsWith}
use Rattle.oz_underway.specs.UnderWay.{HaveAnswered, IsSaid, IsUnderWay, times_asked}
use Rattle.oz_underway.specs.laws.Commits.{Opens, commit_same}
use Rattle.oz_underway.specs.laws.Going.{begins_itself, begins_push, begins_through, follow_before, none_more}
use Rattle.oz_underway.specs.laws.Granted.{decided_reply}
use Rattle.oz_underway.specs.laws.Labels.{open_as_told, open_still}
use Rattle.oz_underway.specs.laws.Lasting.{last_of_times, times_of_last}
use Rattle.oz_underway.specs.laws.UnderWay.{ask_fits, begins_started, pending_is_request, reply_comes, told_fits}
use Rattle.oz_underway.specs.laws.Writing.{given_up_way, quorum_way}
use Rattle.oz_asker.specs.telling.laws.Told.{told_now}
use Rattle.oz_line_blocks.specs.writing.Written.{is_quorum}
use Rattle.oz_at_work.specs.AtWork.{HasPutAlone, IsAtWork, IsLabelOf, IsNextAsk, IsNextFit, IsNextRead, IsNextWrite, IsSaidAsKnown, IsStarted, IsTelling, MayBegin, MayBeTold, WasSaid, WorkView, id_of, last_of}
use Rattle.oz_at_work.specs.inner.Put.{WasWritten}
use Rattle.oz_at_work.specs.inner.Replied.{IsAsking, WasReplied}
use Rattle.oz_at_work.specs.inner.Taken.{HasStepped, HasStopped, IsTakenUp}
use Rattle.oz_at_work.proofs.Cutting.{cut_fits}
use Rattle.oz_at_work.proofs.Staying.{all_written, begun_still, said_now, said_was, there_still}
use Rattle.oz_at_work.proofs.Taking.{nodes_stay}

-- ---- what came back

-- it isn't looked for in the story
abbrev pub IsPlain : Got → Type 0
IsPlain gots.Start = Unit {0}
IsPlain (gots.Reply reply) = Unit {0}
IsPlain (gots.Written written) = Unit {0}
IsPlain (gots.Read (Some bytes)) = Unit {0}
IsPlain _ = ⊥

has_plain : (opening : Opening) (bytes : OpeningBytes) (script : Script) (line : Line) (command : Command) (progress : Progress) (got : Got) → IsPlain got
    → (story : List Event) → HasIt opening bytes script story line command progress got
has_plain opening bytes script line command progress gots.Start plain story = tt
has_plain opening bytes script line command progress (gots.Reply reply) plain story = tt
has_plain opening bytes script line command progress (gots.Written written) plain story = tt
has_plain opening bytes script line command progress (gots.Read (Some read)) plain story = tt
has_plain opening bytes script line command progress got plain story = absurd plain

-- the line isn't told a code
abbrev pub IsNoCode : Step → Type 0
IsNoCode (steps.Tell (answers.Code code)) = ⊥
IsNoCode step = Unit {0}

-- the line asks or writes, before it reads
abbrev pub IsBeforeReading : Step → Type 0
IsBeforeReading (steps.Ask request) = Unit {0}
IsBeforeReading (steps.Write block members first count) = Unit {0}
IsBeforeReading step = ⊥

-- a reply behind which the line isn't told a code is none
not_code : (command : Command) (progress : Progress) (reply : Reply) (step : Step) → IsNext command progress (gots.Reply reply) step → IsNoCode step → is_code reply ≡ false
not_code command progress (replies.Code code) step next other = absurd (subst IsNoCode next other)
not_code command progress reply step next other = refl

onward : (command : Command) (progress : Progress) (got : Got) (step : Step) → IsPlain got → IsNext command progress got step → IsNoCode step → IsOnward command progress step
onward command progress gots.Start step plain next other = next
onward command progress (gots.Reply (replies.Code code)) step plain next other = absurd (subst IsNoCode next other)
onward command progress (gots.Reply reply) step plain next other = next
onward command progress (gots.Written written) step plain next other = next
onward command progress (gots.Read (Some read)) step plain next other = next
onward command progress got step plain next other = absurd plain

alone_replied : (progress : Progress) (gave_up : Bool) (reply : Reply) → HasPutAlone progress gave_up → is_code reply ≡ false
    → HasPutAlone (progress_after progress (gots.Reply reply)) gave_up
alone_replied progress gave_up reply alone clean = record {
  no_code = list_any-append is_code progress.came.replies (reply ∷ [])
      ∙ (ap (λ (b : Bool). b || list_any is_code (reply ∷ [])) alone.no_code
      ∙ ap (λ (b : Bool). b || false) clean);
  put = alone.put;
}

quorum_written : (answers : List (Option PutRefusal)) → is_quorum answers ≡ true → is_fate_written (fate_of answers) ≡ true
quorum_written answers two =
    ap (λ (b : Bool). is_fate_written (cond b fates.Written (cond (nat_le 2 (count_by (refused_so is_of_node) answers)) fates.PipelineRefused fates.ContainerRefused))) two

-- where no block was given up, and this one is not, each was written
put_written : (gave_up two : Bool) (attempts : List Attempt) (granted : Granted) (answers : List (Option PutRefusal)) → is_quorum answers ≡ two
    → (gave_up ≡ false → list_all has_fate_written attempts ≡ true)
    → (gave_up || not two) ≡ false → list_all has_fate_written (attempts ++ record { granted = granted; fate = fate_of answers } ∷ []) ≡ true
put_written false true attempts granted answers is put none =
    list_all-append has_fate_written attempts (record { granted = granted; fate = fate_of answers } ∷ [])
    ∙ (ap (λ (b : Bool). b && list_all has_fate_written (record { granted = granted; fate = fate_of answers } ∷ [])) (put refl)
    ∙ ap (λ (b : Bool). b && true) (quorum_written answers is))
put_written true two attempts granted answers is put none = absurd (false≢true (sym none))
put_written false false attempts granted answers is put none = absurd (false≢true (sym none))

alone_written : (progress : Progress) (gave_up : Bool) (granted : Granted) (written : Written) → progress.came.writing ≡ Some granted → HasPutAlone progress gave_up
    → HasPutAlone (progress_after progress (gots.Written written)) (gave_up || not (is_quorum written.answers))
alone_written progress gave_up granted written writing alone =
    subst (λ (w : Option Granted). HasPutAlone (record progress { came = came_written progress.came w written.answers }) (gave_up || not (is_quorum written.answers))) (sym writing)
    (record {
      no_code = alone.no_code;
      put = put_written gave_up (is_quorum written.answers) progress.came.attempts granted written.answers refl alone.put;
    })

none_written : (came : Came) (granted : Granted) (answers : List (Option PutRefusal)) → came.writing ≡ Some granted → (came_written came came.writing answers).writing ≡ None
none_written came granted answers writing = ap (λ (w : Option Granted). (came_written came w answers).writing) writing

-- who asked isn't told that its label isn't open
open_either : (b c : Bool) (request : Request) → cond b None (cond c None None) ≡ Some request → ⊥
open_either true c request is = absurd (none-some request is)
open_either false true request is = absurd (none-some request is)
open_either false false request is = absurd (none-some request is)

asks_open : (command : Command) (label : Option Label) (came : Came) (request : Request) → request_by command label came ≡ Some request → IsUnopened command label → ⊥
asks_open (commands.KeyCommit name) None came request is unopened =
    open_either (list_any is_code came.replies) (list_any (λ (reply : Reply). true) came.replies) request is
asks_open command label came request is unopened = absurd unopened

told_of_idle : (command : Command) (progress : Progress) (answer : Answer) → (IsUnopened command progress.label → ⊥) → IsToldOf command progress answer
    → progress.came.writing ≡ None
told_of_idle command progress (answers.Ok values) opened over = over.idle.unwritten
told_of_idle command progress answers.NotOpen opened unopened = absurd (opened unopened)
told_of_idle command progress answer opened told = absurd told

-- whose reply ends it has no block to be written
told_idle : (command : Command) (progress : Progress) (reply : Reply) (step : Step) → progress.came.writing ≡ granted_by reply → (IsUnopened command progress.label → ⊥)
    → IsNext command progress (gots.Reply reply) step → IsTelling step → progress.came.writing ≡ None
told_idle command progress (replies.Code code) step is opened next tells = is
told_idle command progress reply (steps.Tell answer) is opened next tells = told_of_idle command progress answer opened next
told_idle command progress reply step is opened next tells = absurd tells

-- ---- what is left

left-step : (command : Command) (came : Came) (to : Target) (story : List Event) (line : Line) (session : Option ℕ)
    (label : Label) → label_in command to came session ≡ Some label → line.command ≡ command
    → written_for line.client line.number story ≡ written_blocks came.attempts
    → commit_if story line (Some to) session ≡ Some (commit_of_label label)
left-step command came to story line None label is does written = absurd cc
left-step command came to story line (Some session) label is does written =
    let pieces : List Piece = pieces_from 0 command (written_blocks came.attempts) in
    let made : Label = record { volume = to.volume; bucket = to.bucket; key = to.key; session = session; pieces = pieces } in
    let same : made ≡ label = cc in
    rw (does, written) (ap (λ (label : Label). Some (commit_of_label label)) same)

left-so : (command : Command) (progress : Progress) (label : Label) → label_of command progress.came ≡ Some label
    → IsLeftEverywhere command progress label
left-so (commands.KeyOpen name v b k payload) progress label is o sc st l of_line was_told =
    let opened : commit_step st (Some l) ≡ commit_if st l (target_of l.command) (session_in (replies_to l.client l.number st)) = rw was_told refl in
    opened
    ∙ (ap (λ (c : Command). commit_if st l (target_of c) (session_in (replies_to l.client l.number st))) of_line.does
    ∙ (ap (λ (rs : List Reply). commit_if st l (Some (target v b k)) (session_in rs)) of_line.replies
    ∙ left-step (commands.KeyOpen name v b k payload) progress.came (target v b k) st l (session_in progress.came.replies) label is of_line.does of_line.written))
left-so _ progress label is o sc st l of_line was_told = absurd cc

none_in : (command : Command) (to : Target) (came : Came) (session : Option ℕ) → label_in command to came session ≡ None → session ≡ None
none_in command to came None is = refl
none_in command to came (Some session) is = absurd cc

abbrev IsOpening : Command → Type 0
IsOpening (commands.KeyOpen name volume bucket key payload) = Unit {0}
IsOpening command = ⊥

-- who opened a label and was told OK has left something
something_left : (command : Command) (progress : Progress) (values : Values) → IsOpening command → list_any is_code progress.came.replies ≡ false
    → IsOver command progress values → label_of command progress.came ≡ None → ⊥
something_left (commands.KeyOpen name volume bucket key payload) progress values opens clean over none =
    let command : Command = commands.KeyOpen name volume bucket key payload in
    let no_session : session_in progress.came.replies ≡ None =
    none_in command (target volume bucket key) progress.came (session_in progress.came.replies) none in
    let asks : request_by command progress.label progress.came ≡ Some (requests.CreateKey volume bucket key) =
    ap (λ (b : Bool). cond b None (command_by command progress.label progress.came)) clean
    ∙ ap (put_by command progress.came (target volume bucket key) false) no_session in
    none-some (requests.CreateKey volume bucket key) (sym over.idle.no_step ∙ asks)
something_left command progress values opens clean over none = absurd opens

module _ (opening : Opening) (script : Script) (story : List Event) (line : Line) (progress : Progress) where
  -- by what it is told
  leaves_by : (command : Command) (got : Got) (answer : Answer) → IsPlain got → IsNext command progress got (steps.Tell answer)
      → (IsNoCode (steps.Tell answer) → list_any is_code progress.came.replies ≡ false) → IsOf opening script story line command progress.label progress.came
      → is_open_at story line ≡ was_told_ok (Some answer) → IsLabelOf story line command (left_by command progress.came (steps.Tell answer))
  leaves_by (commands.KeyOpen name volume bucket key payload) got (answers.Ok values) plain next clean of_line is_open =
      by (label_of (commands.KeyOpen name volume bucket key payload) progress.came) refl
    where
      by : (o : Option Label) → label_of (commands.KeyOpen name volume bucket key payload) progress.came ≡ o
          → IsLabelOf story line (commands.KeyOpen name volume bucket key payload) o
      by (Some label) is = left-so (commands.KeyOpen name volume bucket key payload) progress label is opening script story line of_line is_open
      by None is =
          absurd (something_left (commands.KeyOpen name volume bucket key payload) progress values tt (clean tt)
          (onward (commands.KeyOpen name volume bucket key payload) progress got (steps.Tell (answers.Ok values)) plain next tt) is)
  leaves_by (commands.KeyOpen name volume bucket key payload) got answer plain next clean of_line is_open = is_open
  leaves_by command got answer plain next clean of_line is_open = tt

-- what a label stands for stays once the line that opened it was told
label_same : (Coherent : Type 0) (opening : Opening) (bytes : OpeningBytes) (script : Script) (line : Line) (command : Command) (left : Option Label) (story since : List Event) → Coherent
    → IsNumbered script → Contains script.lines line → line.client ≢ SERVICE_CLIENT → line.command ≡ command → AllFollow (Follows Coherent opening bytes script) [] story → BeginsWith story since
    → is_told line.client line.number since ≡ true → IsLabelOf since line command left → IsLabelOf story line command left
label_same Coherent opening bytes script line (commands.KeyOpen name volume bucket key payload) (Some label) story since coherent numbered there other does all begins was_told is =
    let opens : Opens line.command = record { label = name; volume = volume; bucket = bucket; key = key; payload = payload; is = does } in
    commit_same Coherent opening bytes script numbered line there other opens story since coherent all begins was_told ∙ is
label_same Coherent opening bytes script line (commands.KeyOpen name volume bucket key payload) None story since coherent numbered there other does all begins was_told is =
    open_still Coherent opening bytes script line story since coherent all begins was_told ∙ is
label_same Coherent opening bytes script line command left story since coherent numbered there other does all begins was_told is = tt

-- an event that says nothing of a line's blocks
said_by_none : (client line : ℕ) (story : List Event) (event : Event) → says client line event.kind ≡ false → times_said client line (story ++ event ∷ []) ≡ times_said client line story
said_by_none client line story event none =
    let more : times_said client line (story ++ event ∷ []) ≡ times_said client line story + 0 =
    said-push client line story event ∙ ap (λ (t : Bool). times_said client line story + cond t 1 0) none in
    omega (arith, more)

-- among no members is none
none_among : (dn : ℕ) → Contains none_doubted.dns (Some dn) → ⊥
none_among dn (zero, lt, is) = none-some dn is
none_among dn (suc zero, lt, is) = none-some dn is
none_among dn (suc (suc zero), lt, is) = none-some dn is
none_among dn (suc (suc (suc n)), lt, is) = omega (arith, lt)

-- ---- what comes next

module _ (Coherent : Type 0) (opening : Opening) (bytes : OpeningBytes) (script : Script) where
  abbrev Follow : List Event → Event → Type 0
  Follow = Follows Coherent opening bytes script

  module _ (seen : List Event) (line : Line) (asked said : ℕ) (gave_up : Bool) (progress : Progress) (got : Got) (coherent : Coherent) (begun : IsStarted script seen line) (plain : IsPlain got)
      (put : gave_up ≡ false → list_all has_fate_written progress.came.attempts ≡ true)
      (way : IsUnderWay Coherent opening bytes script seen line asked said line.command progress) where
    -- as much is said as matters
    said_so : (idle : progress.came.writing ≡ None) (story : List Event) → IsSaidAsKnown gave_up said (times_said line.client line.number story) → IsSaid story line said progress
    said_so idle story as_said some = by gave_up refl
      where
        by : (t : Bool) → gave_up ≡ t → times_said line.client line.number story ≡ said
        by true is = as_said is
        by false is = absurd (false≢true (sym some ∙ all_written progress gave_up idle put is))

    step_leaves : (answer : Answer) → progress.came.writing ≡ None → IsNext line.command progress got (steps.Tell answer)
        → (IsNoCode (steps.Tell answer) → list_any is_code progress.came.replies ≡ false)
        → (story : List Event) → BeginsWith story seen → AllFollow Follow [] story → (before : List Event) (seat known : ℕ) → BeginsWith before seen → IsSaidAsKnown gave_up said known
        → MayTell opening before line.client line.number (last_of line asked) known [] answer
        → BeginsWith story (before ++ told_event seat line.client line.number answer ∷ [])
        → IsLabelOf story line line.command (left_by line.command progress.came (steps.Tell answer))
    step_leaves answer idle next clean story goes all before seat known from as_said may behind =
        let event : Event = told_event seat line.client line.number answer in
        let mid : List Event = before ++ event ∷ [] in
        let mid_all = follow_before Follow story mid behind all in
        let before_all = follow_before Follow mid before (event ∷ [], refl) mid_all in
        let so : times_asked before line ≡ asked = times_of_last Coherent opening bytes script line.client line.number asked before way.of_client coherent before_all (last_of line asked)
        (last_of_times line.client line.number asked) may.asked in
        let times : times_asked mid line ≡ asked = ap length (none_more (ask_id line.client line.number) before event (asks_of line.client line.number before) refl refl) ∙ so in
        let same : times_said line.client line.number mid ≡ times_said line.client line.number before = said_by_none line.client line.number before event refl in
        let as_often : IsSaidAsKnown gave_up said (times_said line.client line.number mid) = λ gave. same ∙ (may.as_said ∙ as_said gave) in
        let there = begins_push before seen event from in
        let at = way.has mid (begins_through mid seen way.since there way.goes_on) mid_all times (said_so idle mid as_often) in
        label_same Coherent opening bytes script line line.command (left_by line.command progress.came (steps.Tell answer)) story mid coherent begun.numbered begun.there way.of_client refl all
        behind (told_now before seat line.client line.number answer)
        (leaves_by opening script mid line progress line.command got answer plain next clean at.of_line (open_as_told before seat line answer))

    pub next_fits : (nodes : ℕ) (state : LineState) (step : Step) → state.progress ≡ progress → state.left ≡ left_by line.command progress.came step
        → (IsTelling step → progress.came.writing ≡ None)
        → (IsNoCode step → HasPutAlone progress gave_up) → (IsBeforeReading step → progress.read ≡ [])
        → IsNext line.command progress got step → IsStepEverywhere line.command progress got step
        → IsNextFit Coherent opening bytes script seen
        (record { line = line; state = state; nodes = nodes; asked = asked; said = said; next = step; is_cut = false; gave_up = gave_up; doubted = none_doubted; refused = None; was_done = false }) step
    next_fits nodes state (steps.Ask request) same left idle alone unread next everywhere =
        let its = onward line.command progress got (steps.Ask request) plain next tt in
        subst (λ (p : Progress). IsNextAsk Coherent opening bytes script seen line asked said gave_up request p) (sym same) (record {
          followed = record { under_way = way; alone = alone tt };
          unread = unread tt;
          unwritten = its.0;
          its = its.1;
          fits = λ story goes all seat as_said enabled. ask_fits Coherent opening bytes script seen line asked said line.command progress got request coherent way everywhere
              (has_plain opening bytes script line line.command progress got plain) story seat goes all (said_so its.0 story as_said) enabled;
          same = λ story goes all other as_said is. pending_is_request Coherent opening bytes script seen line asked said line.command progress got request coherent way everywhere
              (has_plain opening bytes script line line.command progress got plain) begun.numbered story goes all (said_so its.0 story as_said) other is;
        })
    next_fits nodes state (steps.Write block members first count) same left idle alone unread next everywhere =
        subst (λ (p : Progress). IsNextWrite Coherent opening bytes script seen line asked said gave_up block members first count p) (sym same) (record {
          followed = record { under_way = way; alone = alone tt };
          unread = unread tt;
          writes = onward line.command progress got (steps.Write block members first count) plain next tt;
        })
    next_fits nodes state (steps.Read piece) same left idle alone unread next everywhere =
        subst (λ (p : Progress). IsNextRead Coherent opening bytes script seen line asked said gave_up none_doubted piece p) (sym same) (record {
          followed = record { under_way = way; alone = alone tt };
          reads = onward line.command progress got (steps.Read piece) plain next tt;
          are_doubted = λ dn among. absurd (none_among dn among);
        })
    next_fits nodes state (steps.Tell answer) same left idle alone unread next everywhere =
        subst (MayBeTold Coherent opening bytes script seen line (last_of line asked) (IsSaidAsKnown gave_up said) [] answer) (sym left) (record {
          fits = λ story goes all known as_said may.
              let so : IsSaidAsKnown gave_up said (times_said line.client line.number story) = λ gave. may.as_said ∙ as_said gave in
              told_fits Coherent opening bytes script seen line asked said line.command progress got answer (last_of line asked) coherent way everywhere
              (last_of_times line.client line.number asked) story goes all may.asked (said_so (idle tt) story so) (has_plain opening bytes script line line.command progress got plain story);
          leaves = λ story goes all before seat known from as_said may behind.
              step_leaves answer (idle tt) next (λ other. (alone other).no_code) story goes all before seat known from as_said may behind;
        })
    next_fits nodes state step same left idle alone unread next everywhere = tt

  -- ---- a line begins

  begin_works : (seen : List Event) (line : Line) (nodes : ℕ) (label : Option Label) (step : Step) → nodes ≡ length opening.nodes → Coherent → MayBegin Coherent opening bytes script seen line label
      → AllFollow Follow [] seen
      → IsNext line.command (nothing_yet nodes label) gots.Start step → IsStepEverywhere line.command (nothing_yet nodes label) gots.Start step
      → IsAtWork Coherent opening bytes script seen
      (record { line = line; state = state_after (state_before line.command nodes label) gots.Start step; nodes = nodes; asked = 0; said = 0; next = step; is_cut = false; gave_up = false; doubted = none_doubted; refused = None; was_done = false })
  begin_works seen line nodes label step opened coherent may all next everywhere =
      let way = begins_started Coherent opening bytes script may.begun.numbered seen line 0 line.command nodes label coherent may.begun.there all may.begun.started refl
      (may.labelled seen (begins_itself seen) all) in
      record {
        begun = may.begun;
        does = refl;
        nodes = refl;
        opened = opened;
        said = record { before = []; goes_on = (seen, refl); so_often = refl };
        next = next_fits seen line 0 0 false (nothing_yet nodes label) gots.Start coherent may.begun tt (λ none. refl) way nodes
            (state_after (state_before line.command nodes label) gots.Start step) step refl refl (λ tells. refl)
            (λ other. record { no_code = refl; put = λ none. refl }) (λ before. refl) next everywhere;
        refusal = tt;
        done = λ wrong. absurd (false≢true wrong);
      }

  pub begin_so : (seen : List Event) (line : Line) (nodes : ℕ) (label : Option Label) (before after : LineState) (step : Step) → nodes ≡ length opening.nodes → Coherent
      → MayBegin Coherent opening bytes script seen line label → AllFollow Follow [] seen
      → before ≡ state_before line.command nodes label → after ≡ state_after before gots.Start step
      → IsNext before.command after.progress gots.Start step → IsStepEverywhere before.command after.progress gots.Start step
      → IsAtWork Coherent opening bytes script seen
      (record { line = line; state = after; nodes = nodes; asked = 0; said = 0; next = step; is_cut = false; gave_up = false; doubted = none_doubted; refused = None; was_done = false })
  begin_so seen line nodes label before after step opened coherent may all is_before is_after next everywhere =
      let first : after ≡ state_after (state_before line.command nodes label) gots.Start step = is_after ∙ ap (λ (s : LineState). state_after s gots.Start step) is_before in
      let command : before.command ≡ line.command = ap (λ (s : LineState). s.command) is_before in
      let progress : after.progress ≡ nothing_yet nodes label = ap (λ (s : LineState). s.progress) first in
      subst (λ (s : LineState). IsAtWork Coherent opening bytes script seen
      (record { line = line; state = s; nodes = nodes; asked = 0; said = 0; next = step; is_cut = false; gave_up = false; doubted = none_doubted; refused = None; was_done = false })) (sym first)
      (begin_works seen line nodes label step opened coherent may all
      (subst (λ (p : Progress). IsNext line.command p gots.Start step) progress (subst (λ (c : Command). IsNext c after.progress gots.Start step) command next))
      (subst (λ (p : Progress). IsStepEverywhere line.command p gots.Start step) progress
      (subst (λ (c : Command). IsStepEverywhere c after.progress gots.Start step) command everywhere)))

  -- ---- what came back is taken up

  -- of a line whose progress with what came back is under way
  pub stepped_works : (seen : List Event) (before after : WorkView) (got : Got) (asked said : ℕ) (gave_up : Bool) → Coherent → IsPlain got → IsStarted script seen before.line
      → before.state.command ≡ before.line.command → before.state.progress.nodes ≡ before.nodes → before.nodes ≡ length opening.nodes → WasSaid seen before.line said
      → (gave_up ≡ false → list_all has_fate_written (progress_after before.state.progress got).came.attempts ≡ true)
      → IsUnderWay Coherent opening bytes script seen before.line asked said before.line.command (progress_after before.state.progress got)
      → ((step : Step) → IsNext before.line.command (progress_after before.state.progress got) got step → IsTelling step → (progress_after before.state.progress got).came.writing ≡ None)
      → ((step : Step) → IsNext before.line.command (progress_after before.state.progress got) got step → IsNoCode step → HasPutAlone (progress_after before.state.progress got) gave_up)
      → ((step : Step) → IsNext before.line.command (progress_after before.state.progress got) got step → IsBeforeReading step → (progress_after before.state.progress got).read ≡ [])
      → HasStepped before got asked said gave_up after → IsAtWork Coherent opening bytes script seen after
  stepped_works seen before after got asked said gave_up coherent plain begun does nodes opened was put way idle alone unread stepped =
      let line = before.line in
      let progress : Progress = progress_after before.state.progress got in
      let state : LineState = state_after before.state got stepped.step in
      let same : after.state.progress ≡ progress = ap (λ (w : WorkView). w.state.progress) stepped.is in
      let next : IsNext line.command progress got stepped.step =
      subst (λ (p : Progress). IsNext line.command p got stepped.step) same (subst (λ (c : Command). IsNext c after.state.progress got stepped.step) does stepped.next) in
      let so : IsStepEverywhere line.command progress got stepped.step =
      subst (λ (p : Progress). IsStepEverywhere line.command p got stepped.step) same (subst (λ (c : Command). IsStepEverywhere c after.state.progress got stepped.step) does stepped.so) in
      subst (IsAtWork Coherent opening bytes script seen) (sym stepped.is) (record {
        begun = begun;
        does = does;
        nodes = nodes_stay before.state.progress got ∙ nodes;
        opened = opened;
        said = was;
        next = next_fits seen line asked said gave_up progress got coherent begun plain put way before.nodes state stepped.step refl
            (ap (λ (c : Command). left_by c progress.came stepped.step) does) (idle stepped.step next) (alone stepped.step next) (unread stepped.step next) next so;
        refusal = tt;
        done = λ wrong. absurd (false≢true wrong);
      })

  pub stopped_works : (seen : List Event) (before after : WorkView) (asked : ℕ) → Coherent → IsStarted script seen before.line → before.state.command ≡ before.line.command
      → before.state.progress.nodes ≡ before.nodes → before.nodes ≡ length opening.nodes → WasSaid seen before.line before.said → HasStopped before asked after → IsAtWork Coherent opening bytes script seen after
  stopped_works seen before after asked coherent begun does nodes opened was stopped =
      subst (IsAtWork Coherent opening bytes script seen) (sym stopped.is)
      (cut_fits Coherent opening bytes script seen (record before { state = stopped.state }) asked answers.OutOfMemory coherent tt begun (stopped.command ∙ does) (stopped.nodes ∙ nodes) opened was)

  -- ---- a reply comes

  asked_so : (seen : List Event) (work : WorkView) (step : Step) → IsAsking step → IsNextFit Coherent opening bytes script seen work step
      → (request : Request) × IsNextAsk Coherent opening bytes script seen work.line work.asked work.said work.gave_up request work.state.progress
  asked_so seen work (steps.Ask request) asks fit = (request, fit)
  asked_so seen work step asks fit = absurd asks

  module _ (seen : List Event) (work : WorkView) (id : AskId) (request : Request) (its_id : id ≡ id_of work.line (work.asked + 1)) (next : work.next ≡ steps.Ask request)
      (at_work : IsAtWork Coherent opening bytes script seen work) (story : List Event) (begins : BeginsWith story seen) (all : AllFollow Follow [] story) where
    next_ask : IsNextAsk Coherent opening bytes script seen work.line work.asked work.said work.gave_up request work.state.progress
    next_ask = subst (IsNextFit Coherent opening bytes script seen work) next at_work.next

    pub asks_same : times_said id.client id.line story ≡ work.said → (other : Request) → pending id story ≡ Some other → other ≡ request
    asks_same = subst (λ (i : AskId). times_said i.client i.line story ≡ work.said → (other : Request) → pending i story ≡ Some other → other ≡ request) (sym its_id)
        (λ now other is. next_ask.same story begins all other (λ gave. now) is)

    pub asks_fit : (seat : ℕ) → times_said id.client id.line story ≡ work.said → AskIsEnabled opening story seat id request → EventFits opening bytes script story (Ask id request)
    asks_fit seat =
        subst (λ (i : AskId). times_said i.client i.line story ≡ work.said → AskIsEnabled opening story seat i request → EventFits opening bytes script story (Ask i request)) (sym its_id)
        (λ now enabled. next_ask.fits story begins all seat (λ gave. now) enabled)

  module _ (later seen : List Event) (work : WorkView) (reply : Reply) (coherent : Coherent) (asks : IsAsking work.next)
      (was : WasReplied Coherent opening bytes script seen work reply) (goes : BeginsWith later seen) (all : AllFollow Follow [] later)
      (as_said : (work.gave_up || is_some (granted_by reply)) ≡ true → times_said work.line.client work.line.number later ≡ work.said) where
    line : Line
    line = work.line

    after : Progress
    after = progress_after work.state.progress (gots.Reply reply)

    behind : BeginsWith later was.before
    behind = begins_through later seen was.before goes was.goes_on

    fit : (request : Request) × IsNextAsk Coherent opening bytes script was.before work.line work.asked work.said work.gave_up request work.state.progress
    fit = asked_so was.before work work.next asks was.at_work.next

    decided_later : IsDecideAt later was.place (id_of work.line (work.asked + 1)) reply
    decided_later =
        let found = was.decided in
        (found.0, found.1, found.2, ap (λ (l : List Event). slice_get l was.place) goes.1 ∙ there_still seen goes.0 was.place _ found.3)

    reply_way : IsUnderWay Coherent opening bytes script later work.line (work.asked + 1) work.said work.line.command (progress_after work.state.progress (gots.Reply reply))
    reply_way = by work.gave_up (granted_by reply) refl refl
      where
        looked : (work.gave_up || is_some (granted_by reply)) ≡ true
            → IsUnderWay Coherent opening bytes script later work.line (work.asked + 1) work.said work.line.command (progress_after work.state.progress (gots.Reply reply))
        looked is =
            decided_reply Coherent opening bytes script was.before later was.at_work.said.before work.line work.asked work.said was.place work.line.command work.state.progress reply coherent
            fit.1.followed.under_way fit.1.unwritten fit.1.unread all behind was.at_work.said.goes_on was.at_work.said.so_often (as_said is) was.behind decided_later

        by : (t : Bool) (o : Option Granted) → work.gave_up ≡ t → granted_by reply ≡ o
            → IsUnderWay Coherent opening bytes script later work.line (work.asked + 1) work.said work.line.command (progress_after work.state.progress (gots.Reply reply))
        by true o gave is = looked (ap (λ (b : Bool). b || is_some (granted_by reply)) gave)
        by false (Some granted) none is = looked (ap (λ (b : Bool). b || is_some (granted_by reply)) none ∙ ap is_some is)
        by false None none is =
            reply_comes Coherent opening bytes script was.before later work.line work.asked work.said work.line.command work.state.progress reply coherent fit.1.followed.under_way
            fit.1.unwritten fit.1.unread (fit.1.followed.alone.put none) is all behind was.place work.said decided_later

    pub reply_works : (new : WorkView) → IsTakenUp work (gots.Reply reply) (work.asked + 1) work.said work.gave_up new → IsAtWork Coherent opening bytes script later new
    reply_works new taken =
        let begun = begun_still script later was.before work.line behind was.at_work.begun in
        let said = said_was later was.before work.line work.said behind was.at_work.said in
        ⊎_elim
        (λ stepped. stepped_works later work new (gots.Reply reply) (work.asked + 1) work.said work.gave_up coherent tt begun was.at_work.does was.at_work.nodes was.at_work.opened said
        fit.1.followed.alone.put reply_way
        (λ step next tells. told_idle work.line.command (progress_after work.state.progress (gots.Reply reply)) reply step refl
        (asks_open work.line.command work.state.progress.label work.state.progress.came fit.0 fit.1.its) next tells)
        (λ step next other. alone_replied work.state.progress work.gave_up reply fit.1.followed.alone
        (not_code work.line.command (progress_after work.state.progress (gots.Reply reply)) reply step next other))
        (λ step next before. fit.1.unread)
        stepped)
        (λ stopped. stopped_works later work new (work.asked + 1) coherent begun was.at_work.does was.at_work.nodes was.at_work.opened said stopped)
        taken

  -- ---- a block was written

  module _ (seen : List Event) (work : WorkView) (written : Written) (said : ℕ) (coherent : Coherent) (was : WasWritten Coherent opening bytes script seen work written said) where
    writes : IsNextWrite Coherent opening bytes script was.before work.line work.asked work.said work.gave_up was.block was.members was.first was.count work.state.progress
    writes = subst (IsNextFit Coherent opening bytes script was.before work) was.next was.at_work.next

    to_write : Granted
    to_write = writes.writes.granted

    nodes_are : work.state.progress.nodes ≡ length opening.nodes
    nodes_are = was.at_work.nodes ∙ was.nodes

    asked_no_more : times_asked seen work.line ≡ work.asked
    asked_no_more =
        times_of_last Coherent opening bytes script work.line.client work.line.number work.asked seen writes.followed.under_way.of_client coherent was.follow
        (Some (id_of work.line work.asked)) refl was.are.still.asked

    answered : HaveAnswered seen (id_of work.line work.asked) to_write.block (members_of work.state.progress.nodes to_write.pipeline) written.answers
    unfolding to_write writes
    answered =
        subst (λ (l : List ℕ). HaveAnswered seen (id_of work.line work.asked) to_write.block l written.answers) writes.writes.of_pipeline
        (subst (λ (b : Block). HaveAnswered seen (id_of work.line work.asked) b was.members written.answers) writes.writes.block_is was.are.answered)

    written_way : IsUnderWay Coherent opening bytes script seen work.line work.asked said work.line.command (progress_after work.state.progress (gots.Written written))
    unfolding to_write writes
    written_way = by (is_quorum written.answers) refl
      where
        Way : ℕ → Type 0
        Way n = IsUnderWay Coherent opening bytes script seen work.line work.asked n work.line.command (progress_after work.state.progress (gots.Written written))

        by : (t : Bool) → is_quorum written.answers ≡ t → Way said
        by true two =
            let now : said ≡ work.said + 4 = was.are.more ∙ ap (λ (b : Bool). cond b (work.said + 4) (work.said + 3)) two in
            subst Way (sym now)
            (quorum_way Coherent opening bytes script was.before work.line work.asked work.said work.line.command work.state.progress to_write written coherent was.at_work.begun.numbered
            writes.followed.under_way writes.writes.its nodes_are was.least seen was.goes_on was.follow asked_no_more answered two
            (subst (λ (b : Block). has_event (is_wrote b) seen ≡ true) writes.writes.block_is (was.are.written two)) (was.are.still.as_said ∙ now))
        by false few =
            let now : said ≡ work.said + 3 = was.are.more ∙ ap (λ (b : Bool). cond b (work.said + 4) (work.said + 3)) few in
            subst Way (sym now)
            (given_up_way Coherent opening bytes script was.before work.line work.asked work.said work.line.command work.state.progress to_write written coherent was.at_work.begun.numbered
            writes.followed.under_way writes.writes.its nodes_are was.least seen was.goes_on was.follow asked_no_more answered few (was.are.still.as_said ∙ now))

    pub written_works : (new : WorkView) → IsTakenUp work (gots.Written written) work.asked said (work.gave_up || not (is_quorum written.answers)) new
        → IsAtWork Coherent opening bytes script seen new
    unfolding to_write writes
    written_works new taken =
        let begun = begun_still script seen was.before work.line was.goes_on was.at_work.begun in
        let alone = alone_written work.state.progress work.gave_up to_write written writes.writes.its writes.followed.alone in
        ⊎_elim
        (λ stepped. stepped_works seen work new (gots.Written written) work.asked said (work.gave_up || not (is_quorum written.answers)) coherent tt begun
        was.at_work.does was.at_work.nodes was.at_work.opened (said_now seen work.line said was.are.still.as_said) alone.put written_way
        (λ step next tells. none_written work.state.progress.came to_write written.answers writes.writes.its) (λ step next other. alone) (λ step next before. writes.unread) stepped)
        (λ stopped. stopped_works seen work new work.asked coherent begun was.at_work.does was.at_work.nodes was.at_work.opened
        (said_was seen was.before work.line work.said was.goes_on was.at_work.said) stopped)
        taken
