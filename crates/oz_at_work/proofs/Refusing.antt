-- A line whose stripe has no block for it, and with what it is refused.
use Rattle.std.proofs.Common.{◌≡◌, ◌≢◌, ℕ, ◌+◌, ◌≤◌, Bool, true, false, not, ◌&&◌, is_some, cond, List, [], length, Option, None, Some, Err, refl, sym, ap, ◌∙◌, subst, arith}
use Rattle.std.specs.Prelude.{nat_lt}
use Rattle.std.specs.List.{list_any}
use Rattle.oz_asker.specs.Asked.{IsAskAt}
use Rattle.oz_asker.specs.laws.Asks.{legal_of_follow, one_request, pending_is_asked}
use Rattle.oz_buffer.specs.Buffer.{AllFollow, Follows}
use Rattle.oz_client.specs.declared.step.Step.{Step}
use Rattle.oz_client.specs.declared.step.Step.TheVariants as steps
use Rattle.oz_command.specs.declared.command.AdminCommand.TheVariants as admin
use Rattle.oz_command.specs.declared.command.Command.{Command}
use Rattle.oz_command.specs.declared.command.Command.TheVariants as commands
use Rattle.oz_core.specs.declared.event.Event.{Event}
use Rattle.oz_core.specs.declared.opening.Opening.{Opening}
use Rattle.oz_core.specs.Asks.{is_script, pending}
use Rattle.oz_core.specs.Contents.{OpeningBytes}
use Rattle.oz_core.specs.Grants.{IsSpent}
use Rattle.oz_core.specs.Law.{IsLegal}
use Rattle.oz_core.specs.Manager.{asked_late}
use Rattle.oz_core.specs.Steps.{Target, is_code, is_done, pieces_from, pieces_needed, session_in, target, was_told_ok}
use Rattle.oz_line_blocks.specs.granting.Granting.{AreMade, IsDueWhileStill, WasEmpty}
use Rattle.oz_script.specs.declared.lines.script.Script.{Script}
use Rattle.oz_om.specs.declared.refusal.Refusal.TheVariants as refusals
use Rattle.oz_underway.specs.granted.Empty.{IsPoolEmpty}
use Rattle.oz_om.specs.Refusals.{AskStands}
use Rattle.oz_requests.specs.declared.answer.Answer.{Answer}
use Rattle.oz_requests.specs.declared.reply.Reply.{Reply}
use Rattle.oz_requests.specs.declared.request.AskId.{AskId}
use Rattle.oz_requests.specs.declared.request.Exclude.{Exclude}
use Rattle.oz_requests.specs.declared.request.Request.{Request}
use Rattle.oz_requests.specs.declared.request.Request.TheVariants as requests
use Rattle.oz_steps.specs.declared.came.Came.{Came}
use Rattle.oz_steps.specs.declared.label.Label.{Label}
use Rattle.oz_steps.specs.Grants.{excluded_by, written_blocks}
use Rattle.oz_steps.specs.Requests.{block_by, command_by, commit_by, put_by, request_by}
use Rattle.oz_steps.specs.Single.{single_of}
use Rattle.oz_asker.specs.declared.telling.still.Still.{Still}
use Rattle.oz_turn.specs.Told.{BeginsWith}
use Rattle.oz_underway.specs.laws.Going.{begins_itself}
use Rattle.oz_underway.specs.laws.Starting.{started_still}
use Rattle.oz_at_work.specs.AtWork.{IsAtWork, IsNextAsk, IsNextFit, MayBeTold, WorkView, id_of, last_of}
use Rattle.oz_at_work.specs.inner.Short.{IsShort, WantsBlock}
use Rattle.oz_at_work.proofs.Cutting.{label_none, some_last, told_stays}
use Rattle.oz_at_work.proofs.Excluding.{excluded_made}

-- ---- its stripe has no block

-- an id asks one thing, which is what is pending
pending_one : (opening : Opening) (story : List Event) → IsLegal opening story → (id : AskId) → is_script id ≡ true
    → (place : ℕ) (request another : Request) → IsAskAt story place id another → pending id story ≡ Some request → request ≡ another
pending_one opening story legal id of_script place request another asked is =
    let same = pending_is_asked opening story legal id of_script place request another asked is in
    one_request opening story legal id of_script place place same.0 asked.0 request another same.1 asked.1

pub is_short : (Coherent : Type 0) (opening : Opening) (bytes : OpeningBytes) (script : Script) (seen : List Event) (work : WorkView) (id : AskId) (request : Request) (stripe : ℕ)
    → Coherent → AllFollow (Follows Coherent opening bytes script) [] seen → id ≡ id_of work.line (work.asked + 1) → is_script id ≡ true → work.next ≡ steps.Ask request
    → AskStands seen id request (Err (refusals.PoolEmpty stripe)) → IsPoolEmpty opening seen id stripe → asked_late id seen ≡ false → IsShort opening seen work
is_short Coherent opening bytes script seen work id request stripe coherent follow same of_script next asked empty in_time =
    let legal = legal_of_follow Coherent opening bytes script seen coherent follow in
    let one = pending_one opening seen legal id of_script asked.0 _ request asked.1 empty.asked in
    record {
      stripe = stripe;
      empty = record {
        volume = empty.volume;
        bucket = empty.bucket;
        key = empty.key;
        session = empty.session;
        exclude = empty.exclude;
        asked = subst (λ (i : AskId). pending i seen ≡ Some (requests.AllocateBlock empty.volume empty.bucket empty.key empty.session empty.exclude)) same empty.asked;
        its_stripe = empty.its_stripe;
        no_code = empty.no_code;
        spent = empty.spent;
      };
      its = next ∙ ap steps.Ask (sym one);
      in_time = subst (λ (i : AskId). asked_late i seen ≡ false) same in_time;
    }

pub was_empty : (opening : Opening) (seen : List Event) (work : WorkView) (place stripe : ℕ) (exclude : Exclude) → IsShort opening seen work
    → WantsBlock work.next stripe exclude → place ≤ length seen → WasEmpty opening seen place (id_of work.line (work.asked + 1)) stripe exclude
was_empty opening seen work place stripe exclude short wanted reached =
    let empty = short.empty in
    let wants : WantsBlock (steps.Ask (requests.AllocateBlock empty.volume empty.bucket empty.key empty.session empty.exclude)) stripe exclude =
    subst (λ (s : Step). WantsBlock s stripe exclude) short.its wanted in
    record {
      story = seen;
      begins = begins_itself seen;
      reached = reached;
      in_time = short.in_time;
      empty = record {
        volume = empty.volume;
        bucket = empty.bucket;
        key = empty.key;
        session = empty.session;
        exclude = empty.exclude;
        asked = empty.asked;
        its_stripe = wants.0;
        no_code = empty.no_code;
        spent = subst (λ (n : ℕ). IsSpent opening seen n empty.exclude) (empty.its_stripe ∙ sym wants.0) empty.spent;
      };
      its = wants.1;
    }

-- ---- what it excludes was made

-- of a request for a block
abbrev AreMadeFor : Opening → List Event → Option Request → Type 0
AreMadeFor opening story (Some (requests.AllocateBlock volume bucket key session exclude)) = AreMade opening story exclude
AreMadeFor opening story asked = Unit {0}

module _ (opening : Opening) (story : List Event) where
  made_either : (b : Bool) (x y : Option Request) → AreMadeFor opening story x → AreMadeFor opening story y → AreMadeFor opening story (cond b x y)
  made_either true x y this that = this
  made_either false x y this that = that

  made_put : (command : Command) (came : Came) (to : Target) (commits : Bool) (session : Option ℕ) → AreMade opening story (excluded_by came.attempts)
      → AreMadeFor opening story (put_by command came to commits session)
  made_put command came to commits None made = tt
  made_put command came to commits (Some session) made =
      let commit : Option Request = Some (requests.CommitKey to.volume to.bucket to.key session (pieces_from 0 command (written_blocks came.attempts))) in
      let last : Bool = commits && not (list_any is_done came.replies) in
      made_either (nat_lt (length (written_blocks came.attempts)) (pieces_needed command)) (block_by came to session) (cond last commit None)
      (made_either (is_some came.writing) None (Some (requests.AllocateBlock to.volume to.bucket to.key session (excluded_by came.attempts))) tt made)
      (made_either last commit None tt tt)

  made_label : (label : Option Label) → AreMadeFor opening story (commit_by label)
  made_label None = tt
  made_label (Some label) = tt

  made_command : (command : Command) (label : Option Label) (came : Came) → AreMade opening story (excluded_by came.attempts)
      → AreMadeFor opening story (command_by command label came)
  made_command (commands.KeyPut volume bucket key payload) label came made =
      made_put (commands.KeyPut volume bucket key payload) came (target volume bucket key) true (session_in came.replies) made
  made_command (commands.KeyOpen name volume bucket key payload) label came made =
      made_put (commands.KeyOpen name volume bucket key payload) came (target volume bucket key) false (session_in came.replies) made
  made_command (commands.KeyCommit name) label came made = made_either (list_any (λ (reply : Reply). true) came.replies) None (commit_by label) tt (made_label label)
  made_command (commands.Admin command) label came made = tt
  made_command command label came made = made_either (list_any (λ (reply : Reply). true) came.replies) None (single_of command) tt tt

  pub made_request : (command : Command) (label : Option Label) (came : Came) (request : Request) → AreMade opening story (excluded_by came.attempts)
      → request_by command label came ≡ Some request → AreMadeFor opening story (Some request)
  made_request command label came request made is =
      subst (AreMadeFor opening story) is (made_either (list_any is_code came.replies) None (command_by command label came) tt (made_command command label came made))

  made_wanted : (request : Request) (stripe : ℕ) (exclude : Exclude) → WantsBlock (steps.Ask request) stripe exclude → AreMadeFor opening story (Some request)
      → AreMade opening story exclude
  made_wanted (requests.AllocateBlock volume bucket key session excluded) stripe exclude wants made = subst (AreMade opening story) (sym wants.1) made
  made_wanted request stripe exclude wants made = absurd wants

-- ---- a line that drains asks for nothing

none_either : (b : Bool) (request : Request) → cond b None None ≡ Some request → ⊥
none_either true request is = absurd cc
none_either false request is = absurd cc

asks_no_drain : (command : Command) (label : Option Label) (came : Came) (request : Request) → request_by command label came ≡ Some request
    → command ≢ commands.Admin admin.Drain
asks_no_drain command label came request is drains =
    none_either (list_any is_code came.replies) request (subst (λ (c : Command). request_by c label came ≡ Some request) drains is)

-- ---- with what it is refused

module _ (Coherent : Type 0) (opening : Opening) (bytes : OpeningBytes) (script : Script) where
  short_fit : (seen : List Event) (work : WorkView) → IsAtWork Coherent opening bytes script seen work → (short : IsShort opening seen work)
      → IsNextFit Coherent opening bytes script seen work
      (steps.Ask (requests.AllocateBlock short.empty.volume short.empty.bucket short.empty.key short.empty.session short.empty.exclude))
  short_fit seen work at_work short = subst (IsNextFit Coherent opening bytes script seen work) short.its at_work.next

  pub made_short : (seen : List Event) (work : WorkView) (stripe : ℕ) (exclude : Exclude) → Coherent → IsAtWork Coherent opening bytes script seen work
      → IsShort opening seen work → WantsBlock work.next stripe exclude → (story : List Event) → BeginsWith story seen
      → AllFollow (Follows Coherent opening bytes script) [] story → AreMade opening story exclude
  made_short seen work stripe exclude coherent at_work short wanted story begins all =
      let empty = short.empty in
      let request : Request = requests.AllocateBlock empty.volume empty.bucket empty.key empty.session empty.exclude in
      let fit : IsNextAsk Coherent opening bytes script seen work.line work.asked work.said work.gave_up request work.state.progress = short_fit seen work at_work short in
      made_wanted opening story request stripe exclude (subst (λ (s : Step). WantsBlock s stripe exclude) short.its wanted)
      (made_request opening story work.line.command work.state.progress.label work.state.progress.came request
      (excluded_made Coherent opening bytes script seen work.line work.asked work.said work.line.command work.state.progress coherent fit.followed.under_way story begins all) fit.its)

  pub refused_told : (later seen : List Event) (work : WorkView) (stills : List Still) (answer : Answer) → Coherent → BeginsWith later seen
      → IsAtWork Coherent opening bytes script seen work → IsShort opening seen work
      → IsDueWhileStill Coherent opening bytes script later (id_of work.line (work.asked + 1)) answer stills → was_told_ok (Some answer) ≡ false
      → MayBeTold Coherent opening bytes script later work.line (last_of work.line (work.asked + 1)) (λ said. Unit {0}) stills answer None
  refused_told later seen work stills answer coherent goes at_work short due not_ok =
      let line = work.line in
      let asked = work.asked + 1 in
      let fit : IsNextAsk Coherent opening bytes script seen line work.asked work.said work.gave_up _ work.state.progress = short_fit seen work at_work short in
      let apart = asks_no_drain line.command work.state.progress.label work.state.progress.came _ fit.its in
      let started = started_still later seen line goes at_work.begun.started in
      record {
        fits = λ story begins all said as_said may. record {
          line = line;
          its = record { there = at_work.begun.there; of_client = refl; of_number = refl };
          started = started_still story later line begins started;
          due = due line refl refl apart story begins all (may.asked ∙ some_last line asked (λ none. absurd (omega (arith, none)))) may.still;
        };
        leaves = λ story begins all before seat said from as_said may behind.
            label_none story line line.command (told_stays Coherent opening bytes script story before seat line answer coherent all behind ∙ not_ok);
      }
