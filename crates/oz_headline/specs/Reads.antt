-- What a history says of what is read.
use Rattle.std.specs.Prelude.{◌≡◌, ℕ, Bool, true, false, List, Some}
use Rattle.oz_command.specs.declared.command.Command.{Command}
use Rattle.oz_command.specs.declared.command.Command.TheVariants.{KeyGet}
use Rattle.oz_requests.specs.declared.answer.Answer.{Answer}
use Rattle.oz_requests.specs.declared.answer.Answer.TheVariants as told
use Rattle.oz_requests.specs.declared.answer.Values.{Values}
use Rattle.oz_requests.specs.declared.answer.Values.TheVariants as values
use Rattle.oz_requests.specs.declared.reply.Reply.{Reply}
use Rattle.oz_script.specs.declared.lines.script.Line.{Line}
use Rattle.oz_script.specs.declared.lines.script.Script.{Script}
use Rattle.oz_core.specs.declared.event.Event.{Event}
use Rattle.oz_core.specs.declared.event.EventKind.{EventKind}
use Rattle.oz_core.specs.declared.event.EventKind.TheVariants.{Bad, Told}
use Rattle.oz_core.specs.declared.opening.Opening.{Opening}
use Rattle.oz_core.specs.Contents.{IsLineOf, OpeningBytes}
use Rattle.oz_core.specs.Due.{AreRead, HasNoReplica, last_reply}
use Rattle.oz_core.specs.Stories.{has_event}
use Rattle.oz_headline.specs.Places.{AtEachPlace}

-- ---- what lines are told of it

-- these bytes are the contents of the pieces that the line's last reply names, joined
pub record HasRead (opening : Opening) (bytes : OpeningBytes) (script : Script) (before : List Event) (line : Line)
    (read : List ℕ) : Type 0 where
  pub reply : Reply
  pub last : last_reply before line ≡ Some reply
  pub are : AreRead opening bytes script before reply read

-- What is told behind OK: where the line reads a key, bytes that it has read; and otherwise no bytes.
abbrev pub ValuesRead : Opening → OpeningBytes → Script → List Event → Line → Command → Values → Type 0
ValuesRead opening bytes script before line (KeyGet volume bucket snapshot key) it =
    (read : List ℕ) × (it ≡ values.Bytes read) × HasRead opening bytes script before line read
ValuesRead opening bytes script before line command (values.Bytes read) = ⊥
ValuesRead opening bytes script before line command _ = Unit {0}

-- That a piece has no replica is told only where its block is intact on no datanode.
abbrev pub AnswerReads : Opening → OpeningBytes → Script → List Event → ℕ → ℕ → Answer → Type 0
AnswerReads opening bytes script before client number (told.Ok it) =
    (line : Line) × IsLineOf script client number line
    × ValuesRead opening bytes script before line line.command it
AnswerReads opening bytes script before client number (told.NoReplica piece block) =
    (line : Line) × IsLineOf script client number line × HasNoReplica opening before line piece block
AnswerReads opening bytes script before client number _ = Unit {0}

abbrev pub ToldReads : Opening → OpeningBytes → Script → List Event → EventKind → Type 0
ToldReads opening bytes script before (Told client number answer) =
    AnswerReads opening bytes script before client number answer
ToldReads opening bytes script before _ = Unit {0}

abbrev pub ReadsAreContents : Opening → OpeningBytes → Script → List Event → Type 0
ReadsAreContents opening bytes script story = AtEachPlace (ToldReads opening bytes script) story

-- ---- what datanodes find

-- a datanode found that a chunk hadn't the digest that it keeps of it
abbrev pub is_bad : EventKind → Bool
is_bad (Bad dn block id) = true
is_bad _ = false

-- none did
abbrev pub NoneIsBad : List Event → Type 0
NoneIsBad story = has_event is_bad story ≡ false
