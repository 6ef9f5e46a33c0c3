-- What comes next is the line's next step in every story that has of the line what came back.
use Rattle.std.proofs.Common.{◌≡◌, ℕ, ◌*◌, zero, suc, List, [], ◌∷◌, ◌++◌, length, take, slice_get, Option, Some, None, Contains, refl, sym, ◌∙◌, ap, subst, arith}
use Rattle.std.proofs.lemmas.List.{take_all}
use Rattle.std.specs.List.{flat_map}
use Rattle.std.specs.Option.{option_map_or}
use Rattle.oz_command.specs.declared.command.Command.{Command}
use Rattle.oz_command.specs.declared.command.Command.TheVariants as commands
use Rattle.oz_command.specs.declared.payload.TheConstants.{PIECE_BYTES}
use Rattle.oz_command.specs.Payload.{piece as piece_at}
use Rattle.oz_core.specs.declared.event.Event.{Event}
use Rattle.oz_core.specs.declared.opening.Opening.{Opening}
use Rattle.oz_core.specs.Asks.{replies_to}
use Rattle.oz_core.specs.Contents.{OpeningBytes, written_for}
use Rattle.oz_core.specs.Due.{AreContents, AreValues, IsDone, IsDue, IsNotOpen, LineIsDone, last_reply, reads_piece}
use Rattle.oz_core.specs.Steps.{GrantedBlock, Target, commit_if, commit_step, granted_to, pieces_from, pieces_needed, session_in, target, target_of}
use Rattle.oz_core.specs.Stories.{last_in}
use Rattle.oz_fields.specs.declared.block.Block.{Block}
use Rattle.oz_fields.specs.declared.block.Piece.{Piece}
use Rattle.oz_script.specs.declared.lines.script.Line.{Line}
use Rattle.oz_script.specs.declared.lines.script.Script.{Script}
use Rattle.oz_requests.specs.declared.answer.Answer.{Answer}
use Rattle.oz_requests.specs.declared.answer.Answer.TheVariants as told
use Rattle.oz_requests.specs.declared.answer.Values.{Values}
use Rattle.oz_requests.specs.declared.reply.Reply.{Reply}
use Rattle.oz_requests.specs.declared.reply.Reply.TheVariants as replies
use Rattle.oz_steps.specs.declared.came.Attempt.{Attempt}
use Rattle.oz_steps.specs.declared.came.Came.{Came}
use Rattle.oz_steps.specs.declared.came.Granted.{Granted}
use Rattle.oz_steps.specs.declared.label.Label.{Label}
use Rattle.oz_steps.specs.Grants.{AreGrants, IsUnsettled, written_blocks}
use Rattle.oz_steps.specs.Lines.{IsLabel, IsOf, commit_of_label}
use Rattle.oz_steps.specs.laws.Next.{request-so}
use Rattle.oz_client.specs.declared.progress.Progress.{Progress}
use Rattle.oz_client.specs.declared.step.Got.{Got}
use Rattle.oz_client.specs.declared.step.Got.TheVariants as gots
use Rattle.oz_client.specs.declared.step.Step.{Step}
use Rattle.oz_client.specs.declared.step.Step.TheVariants as steps
use Rattle.oz_client.specs.LineState.{label_in, label_of, pieces_in, progress_after}
use Rattle.oz_client.specs.Replies.{pieces_of_reply}
use Rattle.oz_client.specs.Onward.{AreValuesBy, IsNext, IsOnward, IsOver, IsReading, IsToldOf, IsUnopened, IsUnread, IsWriting}
use Rattle.oz_client.specs.Stories.{IsAt, IsBeingWritten, IsLeftEverywhere, IsStepEverywhere, IsStepIn, NoneIsIntact}
use Rattle.oz_client.specs.laws.Reading.{read_is_there}
use Rattle.oz_client.proofs.Lists.{last-of-more}

found : {X : Type 0} (l : List X) (k : ℕ) (x : X) → slice_get l k ≡ Some x → Contains l x
found [] k x e = absurd cc
found (y ∷ l) zero x e = let same : y ≡ x = cc in (0, omega arith, same)
found (y ∷ l) (suc k) x e = let later = found l k x e in (suc later.0, omega (arith, later.1), later.2)

-- ---- the block that is being written

last-granted : (o : Opening) (s : List Event) (attempts : List Attempt) (w : Granted) (grants : List GrantedBlock)
    → AreGrants o s attempts (Some w) grants
    → (earlier : List GrantedBlock) × (grant : GrantedBlock) × (grants ≡ earlier ++ grant ∷ []) × IsUnsettled o s grant w
last-granted o s [] w grants (grant, is, its) = ([], grant, is, its)
last-granted o s (attempt ∷ attempts) w grants (g, others, is, at, more) =
    let later = last-granted o s attempts w others more in
    (g ∷ later.0, later.1, is ∙ ap (λ gs. g ∷ gs) later.2, later.3)

write-so : (o : Opening) (sc : Script) (st : List Event) (l : Line) (command : Command) (progress : Progress)
    (block : Block) (members : List ℕ) (first count : ℕ) → IsOf o sc st l command progress.label progress.came
    → IsWriting command progress block members first count → IsBeingWritten o st l block first count
write-so o sc st l command progress block members first count is next =
    let grants : AreGrants o st progress.came.attempts (Some next.granted) (granted_to l.client l.number st) = subst (λ w. AreGrants o st progress.came.attempts w (granted_to l.client l.number st)) next.its is.grants in
    let last = last-granted o st progress.came.attempts next.granted (granted_to l.client l.number st) grants in
    record {
      earlier = last.0;
      grant = last.1;
      last = last.2;
      block_is = last.3.block ∙ sym next.block_is;
      unsettled = last.3.unsettled;
      place = next.place ∙ ap (λ (bs : List Block). PIECE_BYTES * length bs) (sym is.written);
      size = next.size ∙ (ap (λ (bs : List Block). length (piece_at (length bs) command)) (sym is.written)
          ∙ ap (λ (c : Command). length (piece_at (length (written_for l.client l.number st)) c)) (sym is.does));
    }

-- ---- the piece that is read

of-reply : (o : Option Reply) (k : ℕ) (piece : Piece) → slice_get (option_map_or pieces_of_reply o []) k ≡ Some piece
    → (pieces : List Piece) × (o ≡ Some (replies.Pieces pieces)) × (slice_get pieces k ≡ Some piece)
of-reply (Some (replies.Pieces pieces)) k piece e = (pieces, refl, e)
of-reply None k piece e = absurd cc
of-reply (Some _) k piece e = absurd cc

looked-up : (progress : Progress) (command : Command) (piece : Piece) → IsReading command progress piece
    → (pieces : List Piece) × (last_in progress.came.replies ≡ Some (replies.Pieces pieces))
    × (slice_get pieces (length progress.read) ≡ Some piece)
looked-up progress command piece next =
    of-reply (last_in progress.came.replies) (length progress.read) piece
    (read_is_there command (pieces_in progress.came.replies) (length progress.read) piece next.next)

last-so : (o : Opening) (sc : Script) (st : List Event) (l : Line) (command : Command) (progress : Progress) (r : Reply)
    → IsOf o sc st l command progress.label progress.came → last_in progress.came.replies ≡ Some r
    → last_reply st l ≡ Some r
last-so o sc st l command progress r is last = ap last_in is.replies ∙ last

read-so : (o : Opening) (sc : Script) (st : List Event) (l : Line) (command : Command) (progress : Progress)
    (piece : Piece) → IsOf o sc st l command progress.label progress.came → IsReading command progress piece
    → (pieces : List Piece) × (last_reply st l ≡ Some (replies.Pieces pieces)) × Contains pieces piece
read-so o sc st l command progress piece is next =
    let there = looked-up progress command piece next in
    (there.0, last-so o sc st l command progress (replies.Pieces there.0) is there.1, found there.0 (length progress.read) piece there.2)

unread-so : (o : Opening) (b : OpeningBytes) (sc : Script) (st : List Event) (l : Line) (command : Command)
    (progress : Progress) (step : Step) → IsOf o sc st l command progress.label progress.came
    → IsUnread command progress step
    → ((piece : Piece) → IsReading command progress piece → NoneIsIntact o st l piece.block)
    → IsStepIn o b sc st l step
unread-so o b sc st l command progress step is next none =
    let there = looked-up progress command next.piece next.its in
    let intact : NoneIsIntact o st l next.piece.block = none next.piece next.its in
    let due : IsDue o b sc st l (told.NoReplica (length progress.read) next.piece.block) = record {
      id = intact.id;
      last = intact.last;
      pieces = there.0;
      looked_up = last-so o sc st l command progress (replies.Pieces there.0) is there.1;
      piece = next.piece;
      its = ap (λ (c : Command). reads_piece c there.0 (length progress.read)) is.does
          ∙ (ap (λ (ps : List Piece). reads_piece command ps (length progress.read))
          (ap (λ (o : Option Reply). option_map_or pieces_of_reply o []) (sym there.1)) ∙ next.its.next);
      block_is = refl;
      none = intact.none;
    } in
    subst (IsStepIn o b sc st l) (sym next.told_so) due

-- ---- OK

contents-so : (o : Opening) (b : OpeningBytes) (sc : Script) (st : List Event) (progress : Progress) (pieces : List Piece)
    → last_in progress.came.replies ≡ Some (replies.Pieces pieces) → length pieces ≡ length progress.read
    → AreContents o b sc st (take (length progress.read) (pieces_in progress.came.replies)) progress.read
    → AreContents o b sc st pieces progress.read
contents-so o b sc st progress pieces last all are =
    subst (λ (ps : List Piece). AreContents o b sc st ps progress.read) whole are
  where
    whole : take (length progress.read) (pieces_in progress.came.replies) ≡ pieces
    whole = ap (λ (o : Option Reply). take (length progress.read) (option_map_or pieces_of_reply o [])) last
        ∙ take_all (length progress.read) pieces (omega (arith, all))

values-so : (o : Opening) (b : OpeningBytes) (sc : Script) (st : List Event) (command : Command) (progress : Progress)
    (reply : Reply) (it : Values) → last_in progress.came.replies ≡ Some reply
    → AreContents o b sc st (take (length progress.read) (pieces_in progress.came.replies)) progress.read
    → AreValuesBy command progress reply it → AreValues o b sc st command reply it
values-so o b sc st (commands.KeyPut v bk k payload) progress reply it last are its = its
values-so o b sc st (commands.KeyOpen name v bk k payload) progress reply it last are its = its
values-so o b sc st (commands.KeyGet v bk s k) progress reply it last are (pieces, is, all, joined) = (
  flat_map (λ (content : List ℕ). content) progress.read,
  record {
    pieces = pieces;
    looked_up = is;
    contents = progress.read;
    are = contents-so o b sc st progress pieces (last ∙ ap Some is) all are;
    joined = refl;
  },
  joined,
)
values-so o b sc st (commands.Admin command) progress reply it last are its = absurd its
values-so o b sc st _ progress reply it last are its = its

not-admin : (command : Command) (progress : Progress) (reply : Reply) (it : Values) → AreValuesBy command progress reply it
    → (o : Opening) (b : OpeningBytes) (sc : Script) (st : List Event) (l : Line) → IsDone o b sc st l it
    → LineIsDone o b sc st l command it
not-admin (commands.Admin command) progress reply it its o b sc st l done = absurd its
not-admin _ progress reply it its o b sc st l done = done

opened-so : (sc : Script) (st : List Event) (l : Line) (command : Command) (label : Option Label)
    → IsLabel sc st l command label → (IsUnopened command label → ⊥) → IsNotOpen sc st l command → ⊥
opened-so sc st l (commands.KeyCommit name) None is opened not_open = opened tt
opened-so sc st l (commands.KeyCommit name) (Some label) is opened (line, its, shut) = absurd (none-some (rw (its, shut) at is))
  where
    none-some : None ≡ Some (commit_of_label label) → ⊥
    none-some e = cc
opened-so sc st l _ label is opened not_open = not_open

ok-so : (o : Opening) (b : OpeningBytes) (sc : Script) (st : List Event) (l : Line) (command : Command)
    (progress : Progress) (it : Values) → IsAt o b sc st l command progress → IsOver command progress it
    → IsDue o b sc st l (told.Ok it)
ok-so o b sc st l command progress it at over =
    subst (λ (c : Command). LineIsDone o b sc st l c it) (sym at.of_line.does)
    (not-admin command progress over.reply it over.values o b sc st l done)
  where
    does : l.command ≡ command
    does = at.of_line.does

    done : IsDone o b sc st l it
    done = record {
      label = λ not_open. opened-so sc st l command progress.label at.of_line.commits over.opened (subst (IsNotOpen sc st l) does not_open);
      no_step = request-so o sc st l command progress.label progress.came at.of_line ∙ over.idle.no_step;
      decided = at.decided;
      reply = over.reply;
      last = last-so o sc st l command progress over.reply at.of_line over.last;
      no_code = over.no_code;
      written = ap (λ (bs : List Block). length bs) at.of_line.written ∙ (over.written ∙ ap pieces_needed (sym does));
      values = subst (λ (c : Command). AreValues o b sc st c over.reply it) (sym does) (values-so o b sc st command progress over.reply it over.last at.read over.values);
    }

unopened-so : (sc : Script) (st : List Event) (l : Line) (command : Command) (label : Option Label)
    → IsLabel sc st l command label → IsUnopened command label → IsNotOpen sc st l command
unopened-so sc st l (commands.KeyCommit name) None is un = is
unopened-so sc st l (commands.KeyCommit name) (Some label) is un = absurd un
unopened-so sc st l _ label is un = absurd un

told-so : (o : Opening) (b : OpeningBytes) (sc : Script) (st : List Event) (l : Line) (command : Command)
    (progress : Progress) (answer : Answer) → IsAt o b sc st l command progress
    → IsToldOf command progress answer → IsDue o b sc st l answer
told-so o b sc st l command progress (told.Ok it) at over = ok-so o b sc st l command progress it at over
told-so o b sc st l command progress told.NotOpen at un =
    subst (IsNotOpen sc st l) (sym at.of_line.does) (unopened-so sc st l command progress.label at.of_line.commits un)
told-so o b sc st l command progress _ at un = absurd un

-- ---- every step

onward-so : (o : Opening) (b : OpeningBytes) (sc : Script) (st : List Event) (l : Line) (command : Command)
    (progress : Progress) (step : Step) → IsAt o b sc st l command progress → IsOnward command progress step
    → IsStepIn o b sc st l step
onward-so o b sc st l command progress (steps.Ask request) at next =
    request-so o sc st l command progress.label progress.came at.of_line ∙ next.1
onward-so o b sc st l command progress (steps.Write block members first count) at next =
    write-so o sc st l command progress block members first count at.of_line next
onward-so o b sc st l command progress (steps.Read piece) at next = read-so o sc st l command progress piece at.of_line next
onward-so o b sc st l command progress (steps.Admin admin) at next = at.of_line.does ∙ next
onward-so o b sc st l command progress (steps.Tell answer) at next = told-so o b sc st l command progress answer at next

pub next-so : (command : Command) (before after : Progress) (got : Got) (step : Step)
    → after ≡ progress_after before got → IsNext command after got step → IsStepEverywhere command after got step
next-so command before after (gots.Answered answer) step noted next o b sc st l at has =
    subst (IsStepIn o b sc st l) (sym next) has
next-so command before after (gots.Reply (replies.Code code)) step noted next o b sc st l at has =
    let last : last_in after.came.replies ≡ Some (replies.Code code) = ap (λ (p : Progress). last_in p.came.replies) noted ∙ last-of-more before.came.replies (replies.Code code) in
    let due : IsDue o b sc st l (told.Code code) = last-so o sc st l command after (replies.Code code) at.of_line last in
    subst (IsStepIn o b sc st l) (sym next) due
next-so command before after (gots.Read None) step noted next o b sc st l at has =
    unread-so o b sc st l command after step at.of_line next has
next-so command before after _ step noted next o b sc st l at has = onward-so o b sc st l command after step at next

-- ---- the label

left-step : (command : Command) (came : Came) (to : Target) (st : List Event) (l : Line) (session : Option ℕ)
    (label : Label) → label_in command to came session ≡ Some label → l.command ≡ command
    → written_for l.client l.number st ≡ written_blocks came.attempts
    → commit_if st l (Some to) session ≡ Some (commit_of_label label)
left-step command came to st l None label is does written = absurd cc
left-step command came to st l (Some session) label is does written =
    let pieces : List Piece = pieces_from 0 command (written_blocks came.attempts) in
    let made : Label = record { volume = to.volume; bucket = to.bucket; key = to.key; session = session; pieces = pieces } in
    let same : made ≡ label = cc in
    rw (does, written) (ap (λ (label : Label). Some (commit_of_label label)) same)

pub left-so : (command : Command) (progress : Progress) (label : Label) → label_of command progress.came ≡ Some label
    → IsLeftEverywhere command progress label
left-so (commands.KeyOpen name v b k payload) progress label is o sc st l of_line was_told =
    let opened : commit_step st (Some l) ≡ commit_if st l (target_of l.command) (session_in (replies_to l.client l.number st)) = rw was_told refl in
    opened
    ∙ (ap (λ (c : Command). commit_if st l (target_of c) (session_in (replies_to l.client l.number st))) of_line.does
    ∙ (ap (λ (rs : List Reply). commit_if st l (Some (target v b k)) (session_in rs)) of_line.replies
    ∙ left-step (commands.KeyOpen name v b k payload) progress.came (target v b k) st l (session_in progress.came.replies) label is of_line.does of_line.written))
left-so _ progress label is o sc st l of_line was_told = absurd cc
