-- What a line asks next by what came back to it is the line's next step.
use Rattle.std.proofs.Common.{◌≡◌, ℕ, Bool, true, false, List, Option, Some, None, refl, sym, ◌∙◌, ap, if◌then◌else◌, Result, Ok, Err, IfOk}
use Rattle.std.specs.List.{list_any}
use Rattle.std.specs.declared.alloc.AllocError.{AllocError}
use Rattle.oz_command.specs.declared.command.Command.{Command}
use Rattle.oz_command.specs.declared.command.Command.TheVariants as commands
use Rattle.oz_core.specs.declared.event.Event.{Event}
use Rattle.oz_core.specs.declared.opening.Opening.{Opening}
use Rattle.oz_core.specs.Asks.{replies_to}
use Rattle.oz_core.specs.Contents.{written_for}
use Rattle.oz_core.specs.Due.{IsNotOpen}
use Rattle.oz_core.specs.Steps.{Target, target, block_step, commit_step, granted_to, is_code}
use Rattle.oz_core.specs.Steps.{next_of_put, next_step, opening_line, put_step}
use Rattle.oz_core.specs.Steps.{session_in, single, step_of, write_step}
use Rattle.oz_script.specs.declared.lines.script.Line.{Line}
use Rattle.oz_script.specs.declared.lines.script.Script.{Script}
use Rattle.oz_requests.specs.declared.reply.Reply.{Reply}
use Rattle.oz_requests.specs.declared.request.Request.{Request}
use Rattle.oz_steps.specs.declared.came.Attempt.{Attempt}
use Rattle.oz_steps.specs.declared.came.Came.{Came}
use Rattle.oz_steps.specs.declared.came.Granted.{Granted}
use Rattle.oz_steps.specs.declared.label.Label.{Label}
use Rattle.oz_steps.specs.Grants.{AreGrants, written_blocks}
use Rattle.oz_steps.specs.Lines.{IsLabel, IsOf, ShowsThat}
use Rattle.oz_steps.specs.Requests.{block_by, command_by, commit_by, once_by, put_by, request_by, write_by}
use Rattle.oz_steps.specs.laws.Settled.{all-settled, one-unsettled, same-excluded}

-- ---- what is asked once

once-so : (st : List Event) (l : Line) (came : Came) (r : Option Request)
    → replies_to l.client l.number st ≡ came.replies → single st l r ≡ once_by came r
once-so st l came r e = rw e refl

not-open : (s : Script) (st : List Event) (l : Line) (name : List ℕ)
    → IsNotOpen s st l (commands.KeyCommit name) → commit_step st (opening_line s l name) ≡ None
not-open s st l name (opened, its, shut) = rw (its, shut) refl

label-so : (s : Script) (st : List Event) (l : Line) (name : List ℕ) (label : Option Label)
    → IsLabel s st l (commands.KeyCommit name) label → commit_step st (opening_line s l name) ≡ commit_by label
label-so s st l name None is = not-open s st l name is
label-so s st l name (Some label) is = is

-- ---- a block

block-so : (o : Opening) (st : List Event) (l : Line) (attempts : List Attempt) (writing : Option Granted)
    (replies : List Reply) (to : Target) (session : ℕ)
    → AreGrants o st attempts writing (granted_to l.client l.number st)
    → block_step o st l to session
    ≡ block_by (record { replies = replies; attempts = attempts; writing = writing }) to session
block-so o st l attempts None replies to session grants =
    rw (all-settled o st attempts (granted_to l.client l.number st) grants, same-excluded o st attempts l.client l.number grants) refl
block-so o st l attempts (Some w) replies to session grants =
    rw (one-unsettled o st attempts w (granted_to l.client l.number st) grants) refl

-- ---- a line that writes

write-so : (o : Opening) (st : List Event) (l : Line) (came : Came) (to : Target) (commits : Bool) (session : ℕ)
    → replies_to l.client l.number st ≡ came.replies
    → written_for l.client l.number st ≡ written_blocks came.attempts
    → block_step o st l to session ≡ block_by came to session
    → write_step o st l to commits session ≡ write_by l.command came to commits session
write-so o st l came to commits session replies written block = rw (written, block, replies) refl

put-so : (o : Opening) (st : List Event) (l : Line) (came : Came) (to : Target) (commits : Bool) (session : Option ℕ)
    → replies_to l.client l.number st ≡ came.replies
    → written_for l.client l.number st ≡ written_blocks came.attempts
    → AreGrants o st came.attempts came.writing (granted_to l.client l.number st)
    → put_step o st l to commits session ≡ put_by l.command came to commits session
put-so o st l came to commits None replies written grants = refl
put-so o st l came to commits (Some session) replies written grants =
    write-so o st l came to commits session replies written
    (block-so o st l came.attempts came.writing came.replies to session grants)

next-put-so : (o : Opening) (st : List Event) (l : Line) (came : Came) (to : Target) (commits : Bool)
    → replies_to l.client l.number st ≡ came.replies
    → written_for l.client l.number st ≡ written_blocks came.attempts
    → AreGrants o st came.attempts came.writing (granted_to l.client l.number st)
    → next_of_put o st l to commits ≡ put_by l.command came to commits (session_in came.replies)
next-put-so o st l came to commits replies written grants =
    ap (λ (given : List Reply). put_step o st l to commits (session_in given)) replies
    ∙ put-so o st l came to commits (session_in came.replies) replies written grants

-- ---- every line

command-so : (o : Opening) (s : Script) (st : List Event) (l : Line) (command : Command) (label : Option Label)
    (came : Came) → IsOf o s st l command label came → step_of o s st l command ≡ command_by command label came
command-so o s st l (commands.KeyPut v b k payload) label came is =
    next-put-so o st l came (target v b k) true is.replies is.written is.grants
    ∙ ap (λ (command : Command). put_by command came (target v b k) true (session_in came.replies)) is.does
command-so o s st l (commands.KeyOpen name v b k payload) label came is =
    next-put-so o st l came (target v b k) false is.replies is.written is.grants
    ∙ ap (λ (command : Command). put_by command came (target v b k) false (session_in came.replies)) is.does
command-so o s st l (commands.KeyCommit name) label came is =
    once-so st l came (commit_step st (opening_line s l name)) is.replies
    ∙ ap (once_by came) (label-so s st l name label is.commits)
command-so o s st l (commands.Admin command) label came is = refl
command-so o s st l _ label came is = once-so st l came _ is.replies

pub request-so : (o : Opening) (s : Script) (st : List Event) (l : Line) (command : Command) (label : Option Label)
    (came : Came) → IsOf o s st l command label came → next_step o s st l ≡ request_by command label came
request-so o s st l command label came is =
    ap (λ (given : List Reply). if list_any is_code given then None else step_of o s st l l.command) is.replies
    ∙ ap (λ (request : Option Request). if list_any is_code came.replies then None else request)
    (ap (λ (c : Command). step_of o s st l c) is.does ∙ command-so o s st l command label came is)

-- the same of what is asked where nothing was refused
pub result-so : (command : Command) (label : Option Label) (came : Came) (result : Result (Option Request) AllocError)
    → list_any is_code came.replies ≡ false → IfOk result (λ request. request ≡ command_by command label came)
    → IfOk result (λ request. ShowsThat command label came (λ o s st l. next_step o s st l ≡ request))
result-so command label came (Ok request) no_code is = λ o s st l of_line.
    let next : next_step o s st l ≡ request_by command label came = request-so o s st l command label came of_line in
    next ∙ (rw no_code refl ∙ sym is)
result-so command label came (Err error) no_code is = tt
