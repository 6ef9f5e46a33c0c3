-- What is so of a line once something came back.
use Rattle.std.proofs.Common.{◌≡◌, ℕ, ◌<◌, ◌≤◌, Bool, true, false, ◌||◌, ◌&&◌, List, [], ◌∷◌, ◌++◌, length, Option, Some, None, ⊎_elim, inl, inr, refl, sym, ◌∙◌, ap, subst, arith, length-append, MatchOption}
use Rattle.std.proofs.lemmas.Bool.{leb-true, ltb-true}
use Rattle.std.proofs.lemmas.Option.{slice_get_within}
use mathlib.Core.Bool.{false≢true}
use Rattle.oz_nodes.specs.Pipelines.{pipelines_of}
use Rattle.oz_command.specs.declared.command.Command.{Command}
use Rattle.oz_core.specs.declared.event.PutRefusal.{PutRefusal}
use Rattle.oz_core.specs.Steps.{is_code}
use Rattle.oz_fields.specs.declared.block.Piece.{Piece}
use Rattle.oz_nodes.specs.declared.nodes.TheConstants.{FEWEST_NODES, MOST_NODES}
use Rattle.oz_requests.specs.declared.request.Request.{Request}
use Rattle.oz_requests.specs.declared.reply.Reply.{Reply}
use Rattle.oz_requests.specs.declared.reply.Reply.TheVariants as replies
use Rattle.oz_steps.specs.declared.came.Came.{Came}
use Rattle.oz_steps.specs.declared.came.Granted.{Granted}
use Rattle.oz_steps.specs.declared.label.Label.{Label}
use Rattle.oz_steps.specs.Came.{granted_by, with_answers, with_reply}
use Rattle.oz_steps.specs.Grants.{fate_of}
use Rattle.oz_steps.specs.Requests.{command_by, request_by}
use Rattle.oz_client.specs.declared.advance.Stepped.{Stepped}
use Rattle.oz_client.specs.declared.progress.Awaited.{Awaited}
use Rattle.oz_client.specs.declared.progress.Awaited.TheVariants as awaits
use Rattle.oz_client.specs.declared.step.Got.TheVariants as gots
use Rattle.oz_requests.specs.declared.answer.Answer.{Answer}
use Rattle.oz_requests.specs.declared.answer.Answer.TheVariants as told
use Rattle.oz_client.specs.declared.progress.Progress.{Progress}
use Rattle.oz_client.specs.declared.step.Step.{Step}
use Rattle.oz_client.specs.declared.step.Step.TheVariants as steps
use Rattle.oz_client.specs.declared.kinds.ReplyKind.{ReplyKind}
use Rattle.oz_client.specs.LineState.{awaited_by, is_reading, is_reply_fit, is_start, is_writing, nothing_yet, pieces_in, progress_after}
use Rattle.oz_client.specs.Onward.{IsNext, IsOnward, IsReading}
use Rattle.oz_client.specs.laws.Reading.{read_is_there}
use Rattle.oz_client.specs.Replies.{has_few_pieces, is_of_kind, is_on_pipeline, kind_for, may_reply, pieces_of_reply}
use Rattle.oz_client.specs.inner.Ready.{GoesOn, GoesOnBehind, IsReady, IsStepped, MayWrite, Waits, code_in, stepped_by}
use Rattle.oz_client.proofs.Asked.{by-command, grants-more, has-values}
use Rattle.oz_client.proofs.Lists.{last-of-more, none-of-more}
use Rattle.oz_client.proofs.Over.{written-more}

pub waits-onward : (command : Command) (progress : Progress) (step : Step) → IsReady command progress
    → IsOnward command progress step → Waits command progress (awaited_by step)
waits-onward command progress (steps.Ask request) ready next = (ready, next.0, (request, next.1, refl))
waits-onward command progress (steps.Write block members first count) ready next = (ready, (next.granted, next.its))
waits-onward command progress (steps.Read piece) ready next = (ready, (piece, next))
waits-onward command progress (steps.Admin admin) ready next = tt
waits-onward command progress (steps.Tell answer) ready next = tt

pub ready-start : (command : Command) (nodes : ℕ) (label : Option Label) → FEWEST_NODES ≤ nodes → nodes ≤ MOST_NODES
    → IsReady command (nothing_yet nodes label)
ready-start command nodes label least most = record {
  least = least;
  most = most;
  no_code = refl;
  within = omega arith;
  writing = λ granted e. absurd (none-granted granted e);
  values = inl refl;
  read = omega arith;
  few = omega arith;
  unread = inl refl;
}
  where
    none-granted : (granted : Granted) → None ≡ Some granted → ⊥
    none-granted granted e = cc

-- nothing was read while something is asked, or written
unread-asking : (command : Command) (progress : Progress) (request : Request) → IsReady command progress
    → request_by command progress.label progress.came ≡ Some request → progress.read ≡ []
unread-asking command progress request ready asked =
    ⊎_elim (λ none. none) (λ idle. absurd (none-some (sym idle.no_step ∙ asked))) ready.unread
  where
    none-some : None ≡ Some request → ⊥
    none-some e = cc

unread-writing : (command : Command) (progress : Progress) (granted : Granted) → IsReady command progress
    → progress.came.writing ≡ Some granted → progress.read ≡ []
unread-writing command progress granted ready its =
    ⊎_elim (λ none. none) (λ idle. absurd (none-some (sym idle.unwritten ∙ its))) ready.unread
  where
    none-some : None ≡ Some granted → ⊥
    none-some e = cc

granted-is : (reply : Reply) (granted : Granted) → granted_by reply ≡ Some granted
    → reply ≡ replies.Granted granted.block granted.pipeline
granted-is (replies.Granted block pipeline) granted e =
    let made : Granted = record { block = block; pipeline = pipeline } in
    let same : made ≡ granted = cc in
    ap (λ (g : Granted). replies.Granted g.block g.pipeline) same
granted-is _ granted e = absurd cc

-- the parts of what may be replied
and-first : (a b : Bool) → (a && b) ≡ true → a ≡ true
and-first true b so = refl
and-first false b so = so

and-second : (a b : Bool) → (a && b) ≡ true → b ≡ true
and-second true b so = so
and-second false b so = absurd (false≢true so)

kind-is : (kind : ReplyKind) (nodes : ℕ) (reply : Reply) → is_code reply ≡ false → may_reply kind nodes reply ≡ true
    → is_of_kind kind reply ≡ true
kind-is kind nodes reply no_code so =
    rw no_code at (and-first (is_code reply || is_of_kind kind reply) (is_on_pipeline nodes reply && has_few_pieces reply) so)

pipeline-is : (kind : ReplyKind) (nodes : ℕ) (reply : Reply) → may_reply kind nodes reply ≡ true
    → is_on_pipeline nodes reply ≡ true
pipeline-is kind nodes reply so =
    and-first (is_on_pipeline nodes reply) (has_few_pieces reply)
    (and-second (is_code reply || is_of_kind kind reply) (is_on_pipeline nodes reply && has_few_pieces reply) so)

few-is : (kind : ReplyKind) (nodes : ℕ) (reply : Reply) → may_reply kind nodes reply ≡ true
    → length (pieces_of_reply reply) ≤ 65536
few-is kind nodes reply so =
    leb-true (length (pieces_of_reply reply)) 65536
    (and-second (is_on_pipeline nodes reply) (has_few_pieces reply)
    (and-second (is_code reply || is_of_kind kind reply) (is_on_pipeline nodes reply && has_few_pieces reply) so))

below : (nodes : ℕ) (reply : Reply) (granted : Granted) → is_on_pipeline nodes reply ≡ true
    → reply ≡ replies.Granted granted.block granted.pipeline → granted.pipeline < pipelines_of nodes
below nodes reply granted so is = ltb-true granted.pipeline (pipelines_of nodes) (rw is at so)

pub ready-replied : (command : Command) (progress : Progress) (kind : ReplyKind) (reply : Reply)
    → Waits command progress (awaits.Reply kind) → may_reply kind progress.nodes reply ≡ true → is_code reply ≡ false
    → IsReady command (record progress { came = with_reply progress.came reply })
ready-replied command progress kind reply (ready, unwritten, (request, asked, its)) may no_code =
    let of_kind : is_of_kind (kind_for request) reply ≡ true = rw its at (kind-is kind progress.nodes reply no_code may) in
    let does : command_by command progress.label progress.came ≡ Some request = by-command command progress.label progress.came (Some request) ready.no_code asked in
    let nothing : progress.read ≡ [] = unread-asking command progress request ready asked in
    record {
      least = ready.least;
      most = ready.most;
      no_code = none-of-more is_code progress.came.replies reply ready.no_code no_code;
      within = ready.within;
      writing = λ granted e. record {
        pipeline = below progress.nodes reply granted (pipeline-is kind progress.nodes reply may) (granted-is reply granted e);
        more = ltb-true _ _ (grants-more command progress.label progress.came request granted.block granted.pipeline does (rw (granted-is reply granted e) at of_kind));
      };
      values = inr (rw (last-of-more progress.came.replies reply) (has-values command progress.label progress.came request reply does of_kind));
      read = rw nothing (omega arith);
      few = rw (last-of-more progress.came.replies reply) (few-is kind progress.nodes reply may);
      unread = inl nothing;
    }

pub ready-written : (command : Command) (progress : Progress) (granted : Granted) (answers : List (Option PutRefusal))
    → IsReady command progress → progress.came.writing ≡ Some granted
    → IsReady command (record progress { came = with_answers progress.came granted answers })
ready-written command progress granted answers ready its =
    let may : MayWrite command progress granted = ready.writing granted its in
    record {
      least = ready.least;
      most = ready.most;
      no_code = ready.no_code;
      within = omega (arith, may.more, written-more progress.came.attempts (record { granted = granted; fate = fate_of answers }));
      writing = λ other e. absurd (none-granted other e);
      values = ready.values;
      read = ready.read;
      few = ready.few;
      unread = inl (unread-writing command progress granted ready its);
    }
  where
    none-granted : (granted : Granted) → None ≡ Some granted → ⊥
    none-granted granted e = cc

pub ready-read : (command : Command) (progress : Progress) (piece : Piece) (bytes : List ℕ) → IsReady command progress
    → IsReading command progress piece → IsReady command (record progress { read = progress.read ++ bytes ∷ [] })
ready-read command progress piece bytes ready reading = record {
  least = ready.least;
  most = ready.most;
  no_code = ready.no_code;
  within = ready.within;
  writing = λ granted e. absurd (none-some granted (sym reading.idle.unwritten ∙ e));
  values = ready.values;
  read = omega (arith, length-append progress.read (bytes ∷ []), slice_get_within (pieces_in progress.came.replies) (length progress.read) piece (read_is_there command (pieces_in progress.came.replies) (length progress.read) piece reading.next));
  few = ready.few;
  unread = inr (record { unwritten = reading.idle.unwritten; no_step = reading.idle.no_step });
}
  where
    none-some : (granted : Granted) → None ≡ Some granted → ⊥
    none-some granted e = cc

-- ---- what is awaited, by what came back

pub start-ready : (command : Command) (progress : Progress) (awaited : Awaited) → is_start awaited ≡ true
    → Waits command progress awaited → IsReady command progress
start-ready command progress awaits.Start so waits = waits
start-ready command progress _ so waits = absurd (false≢true so)

pub waits-written : (command : Command) (progress : Progress) (awaited : Awaited) → is_writing awaited ≡ true
    → Waits command progress awaited → Waits command progress awaits.Written
waits-written command progress awaits.Written so waits = waits
waits-written command progress _ so waits = absurd (false≢true so)

pub waits-read : (command : Command) (progress : Progress) (awaited : Awaited) → is_reading awaited ≡ true
    → Waits command progress awaited → Waits command progress awaits.Read
waits-read command progress awaits.Read so waits = waits
waits-read command progress _ so waits = absurd (false≢true so)

-- a reply that isn't a code leaves the line ready
pub ready-behind : (command : Command) (progress : Progress) (awaited : Awaited) (reply : Reply) (came : Came)
    → Waits command progress awaited → is_reply_fit progress.nodes awaited reply ≡ true
    → came ≡ with_reply progress.came reply → code_in reply ≡ None → IsReady command (record progress { came = came })
ready-behind command progress (awaits.Reply kind) reply came waits fits noted none =
    subst (λ (c : Came). IsReady command (record progress { came = c })) (sym noted)
    (ready-replied command progress kind reply waits fits (no-code reply none))
  where
    no-code : (reply : Reply) → code_in reply ≡ None → is_code reply ≡ false
    no-code (replies.Code code) none = absurd cc
    no-code _ none = refl
ready-behind command progress _ reply came waits fits noted none = absurd (false≢true fits)

pub unwritten-behind : (command : Command) (progress : Progress) (awaited : Awaited) (reply : Reply)
    → Waits command progress awaited → is_reply_fit progress.nodes awaited reply ≡ true → progress.came.writing ≡ None
unwritten-behind command progress (awaits.Reply kind) reply waits fits = waits.1
unwritten-behind command progress _ reply waits fits = absurd (false≢true fits)

-- ---- steps

pub next-behind : (command : Command) (progress : Progress) (reply : Reply) (stepped : Stepped)
    → MatchOption (code_in reply) (IsOnward command progress stepped.step) (λ code. stepped.step ≡ steps.Tell (told.Code code))
    → IsNext command progress (gots.Reply reply) stepped.step
next-behind command progress (replies.Code code) stepped next = next
next-behind command progress _ stepped next = next

pub stepped-behind : (command : Command) (before after : Progress) (reply : Reply) (stepped : Stepped)
    → after ≡ progress_after before (gots.Reply reply) → GoesOnBehind command after (code_in reply) stepped
    → IsStepped command before (gots.Reply reply) after stepped
stepped-behind command before after reply stepped noted goes = record {
  noted = noted;
  next = next-behind command after reply stepped goes.next;
  left = goes.left;
  waits = goes.waits;
}

pub goes-by : (command : Command) (progress : Progress) (step : Step) → IsReady command progress
    → IsOnward command progress step → (stepped : Stepped) → stepped ≡ stepped_by command progress step
    → GoesOn command progress stepped
goes-by command progress step ready next stepped is = subst (GoesOn command progress) (sym is) record {
  next = next;
  left = refl;
  waits = waits-onward command progress step ready next;
}

pub stepped-start : (command : Command) (progress : Progress) (stepped : Stepped) → GoesOn command progress stepped
    → IsStepped command progress gots.Start progress stepped
stepped-start command progress stepped goes = record { noted = refl; next = goes.next; left = goes.left; waits = goes.waits }

pub stepped-answered : (command : Command) (progress : Progress) (answer : Answer) (stepped : Stepped)
    → stepped ≡ stepped_by command progress (steps.Tell answer)
    → IsStepped command progress (gots.Answered answer) progress stepped
stepped-answered command progress answer stepped is =
    subst (λ (s : Stepped). IsStepped command progress (gots.Answered answer) progress s) (sym is)
    record { noted = refl; next = refl; left = refl; waits = tt }

pub stepped-unread : (command : Command) (progress : Progress) (piece : Piece) (number : ℕ) (stepped : Stepped)
    → IsReading command progress piece → number ≡ length progress.read
    → stepped ≡ stepped_by command progress (steps.Tell (told.NoReplica number piece.block))
    → IsStepped command progress (gots.Read None) progress stepped
stepped-unread command progress piece number stepped reading same is =
    subst (λ (s : Stepped). IsStepped command progress (gots.Read None) progress s) (sym is) record {
      noted = refl;
      next = record {
        piece = piece;
        its = reading;
        told_so = ap (λ (n : ℕ). steps.Tell (told.NoReplica n piece.block)) same;
      };
      left = refl;
      waits = tt;
    }
