-- What a line is told to have read is due to it.
use Rattle.std.proofs.Common.{◌≡◌, ℕ, Bool, true, false, List, Option, None, Some, refl, sym, ap, ◌∙◌, subst}
use Rattle.std.proofs.lemmas.Bool.{false≢true}
use Rattle.oz_command.specs.declared.command.AdminCommand.{AdminCommand}
use Rattle.oz_command.specs.declared.command.AdminCommand.TheVariants as admin
use Rattle.oz_command.specs.declared.command.Command.{Command}
use Rattle.oz_command.specs.declared.command.Command.TheVariants as commands
use Rattle.oz_command.specs.Payload.{data_length}
use Rattle.oz_core.specs.declared.event.Event.{Event}
use Rattle.oz_core.specs.declared.event.EventKind.{EventKind}
use Rattle.oz_core.specs.declared.event.EventKind.TheVariants.{Told}
use Rattle.oz_core.specs.declared.opening.Opening.{Opening}
use Rattle.oz_core.specs.Contents.{IsLineOf, OpeningBytes}
use Rattle.oz_core.specs.Due.{AdminIsDone, AreValues, IsDue, LineIsDone, counted, state_counts, values_of}
use Rattle.oz_core.specs.Fits.{EventFits, Fits}
use Rattle.oz_script.specs.declared.lines.script.Line.{Line}
use Rattle.oz_script.specs.declared.lines.script.Script.{Script}
use Rattle.oz_requests.specs.declared.answer.Answer.{Answer}
use Rattle.oz_requests.specs.declared.answer.Answer.TheVariants as told
use Rattle.oz_requests.specs.declared.answer.Values.{Values}
use Rattle.oz_requests.specs.declared.answer.Values.TheVariants as values
use Rattle.oz_requests.specs.declared.reply.Reply.{Reply}
use Rattle.oz_requests.specs.declared.reply.Reply.TheVariants as replies
use Rattle.oz_headline.specs.Reads.{AnswerReads, ReadsAreContents, ToldReads, ValuesRead}
use Rattle.oz_headline.proofs.History.{fits_there}

-- ---- bytes are no other values

abbrev is_bytes : Values → Bool
is_bytes (values.Bytes read) = true
is_bytes it = false

abbrev some_bytes : Option Values → Bool
some_bytes None = false
some_bytes (Some it) = is_bytes it

no_count : (command : Command) (count : ℕ) → some_bytes (counted command count) ≡ false
no_count (commands.VolumeInfo volume) count = refl
no_count (commands.KeyExpire volume bucket) count = refl
no_count (commands.SnapshotInfo volume bucket snapshot) count = refl
no_count command count = refl

no_values : (command : Command) (reply : Reply) → some_bytes (values_of command reply) ≡ false
no_values command replies.Done = refl
no_values command (replies.Count count) = no_count command count
no_values command (replies.Counts counts) = refl
no_values command (replies.Names names) = refl
no_values command reply = refl

module _ (opening : Opening) (bytes : OpeningBytes) (script : Script) (before : List Event) (line : Line) where
  -- these values aren't bytes
  apart : (read : List ℕ) (it : Values) → is_bytes it ≡ false → values.Bytes read ≡ it → ⊥
  apart read it other is = false≢true (sym other ∙ sym (ap is_bytes is))

  -- no line on datanodes or containers is told bytes
  no_admin : (read : List ℕ) (command : AdminCommand) → AdminIsDone opening before line command (values.Bytes read) → ⊥
  no_admin read (admin.Stop dn) due = apart read values.Done refl due.2
  no_admin read (admin.Start dn) due = apart read values.Done refl due.2
  no_admin read (admin.Wipe dn) due = apart read values.Done refl due.2
  no_admin read admin.Close due = apart read values.Done refl due.2
  no_admin read admin.Containers due = apart read (values.States (state_counts opening before)) refl due.1
  no_admin read admin.Drain due = apart read values.Done refl due.4

  -- no reply to any other line gives bytes
  no_reply : (read : List ℕ) (command : Command) (reply : Reply) → values_of command reply ≡ Some (values.Bytes read) → ⊥
  no_reply read command reply is = false≢true (sym (no_values command reply) ∙ ap some_bytes is)

  due_as : (command : Command) (reply : Reply) (it : Values) → line.command ≡ command → AreValues opening bytes script before line.command reply it
      → AreValues opening bytes script before command reply it
  due_as command reply it is due = subst (λ (c : Command). AreValues opening bytes script before c reply it) is due

  by_command : (command : Command) → line.command ≡ command → (it : Values) → LineIsDone opening bytes script before line command it
      → ValuesRead opening bytes script before line command it
  by_command (commands.KeyGet volume bucket snapshot key) is it due =
      let its = due_as (commands.KeyGet volume bucket snapshot key) due.reply it is due.values in
      (its.0, its.2, record { reply = due.reply; last = due.last; are = its.1 })
  by_command (commands.Admin command) is (values.Bytes read) due = no_admin read command due
  by_command (commands.KeyPut volume bucket key payload) is (values.Bytes read) due =
      let command = commands.KeyPut volume bucket key payload in
      apart read (values.Length (data_length command)) refl (due_as command due.reply (values.Bytes read) is due.values)
  by_command (commands.KeyOpen label volume bucket key payload) is (values.Bytes read) due =
      let command = commands.KeyOpen label volume bucket key payload in
      apart read (values.Length (data_length command)) refl (due_as command due.reply (values.Bytes read) is due.values)
  by_command command is (values.Bytes read) due = no_reply read command due.reply (due_as command due.reply (values.Bytes read) is due.values)
  by_command command is it due = tt

-- ---- each answer at its place

answer_reads : (opening : Opening) (bytes : OpeningBytes) (script : Script) (before : List Event) (client number : ℕ) (line : Line) (answer : Answer)
    → IsLineOf script client number line → IsDue opening bytes script before line answer → AnswerReads opening bytes script before client number answer
answer_reads opening bytes script before client number line (told.Ok it) its due =
    (line, its, by_command opening bytes script before line line.command refl it due)
answer_reads opening bytes script before client number line (told.NoReplica piece block) its due = (line, its, due)
answer_reads opening bytes script before client number line answer its due = tt

told_reads : (opening : Opening) (bytes : OpeningBytes) (script : Script) (before : List Event) (kind : EventKind)
    → EventFits opening bytes script before kind → ToldReads opening bytes script before kind
told_reads opening bytes script before (Told client number answer) fits =
    answer_reads opening bytes script before client number fits.line answer fits.its fits.due
told_reads opening bytes script before kind fits = tt

pub reads : (opening : Opening) (bytes : OpeningBytes) (script : Script) (story : List Event) → Fits opening bytes script story → ReadsAreContents opening bytes script story
reads opening bytes script story fits before behind event parts =
    told_reads opening bytes script before event.kind (fits_there opening bytes script story before behind event parts fits.steps)
