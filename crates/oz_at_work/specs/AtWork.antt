-- A line that a worker works for, what it may do next, and what it leaves.
use Rattle.std.specs.Prelude.{◌≡◌, ◌⊎◌, ℕ, ◌+◌, ◌<◌, ◌==◌, Bool, true, false, List, [], ◌∷◌, ◌++◌, None, Option, Some}
use Rattle.std.specs.Prelude.{if◌then◌else◌, length, Contains, IsSome}
use Rattle.std.specs.List.{list_all, list_any}
use Rattle.oz_buffer.specs.Became.{times_said}
use Rattle.oz_client.specs.declared.progress.Progress.{Progress}
use Rattle.oz_client.specs.declared.step.Step.{Step}
use Rattle.oz_client.specs.declared.step.Step.TheVariants as steps
use Rattle.oz_client.specs.LineState.{LineState}
use Rattle.oz_client.specs.Onward.{IsReading, IsWriting}
use Rattle.oz_command.specs.declared.command.Command.{Command}
use Rattle.oz_command.specs.declared.command.Command.TheVariants as commands
use Rattle.oz_core.specs.declared.event.Event.{Event}
use Rattle.oz_core.specs.declared.event.EventKind.TheVariants.{Ask, Told}
use Rattle.oz_core.specs.declared.event.Node.TheVariants.{Datanode}
use Rattle.oz_core.specs.declared.opening.Opening.{Opening}
use Rattle.oz_core.specs.Asks.{is_told, pending}
use Rattle.oz_core.specs.Contents.{OpeningBytes}
use Rattle.oz_core.specs.Due.{IsDue, NamesNode}
use Rattle.oz_core.specs.Fits.{EventFits}
use Rattle.oz_core.specs.Law.{AskIsEnabled}
use Rattle.oz_core.specs.Lines.{HasStarted}
use Rattle.oz_core.specs.Manager.{halt_of}
use Rattle.oz_core.specs.Steps.{commit_step, is_code, is_open_at}
use Rattle.oz_fields.specs.declared.block.Block.{Block}
use Rattle.oz_fields.specs.declared.block.Piece.{Piece}
use Rattle.oz_script.specs.declared.lines.script.Line.{Line}
use Rattle.oz_script.specs.declared.lines.script.Script.{Script}
use Rattle.oz_script.specs.lines.Numbered.{IsNumbered}
use Rattle.oz_line_blocks.specs.declared.reading.lack.Doubted.{Doubted}
use Rattle.oz_line_blocks.specs.reading.Lacks.{AreDoubted}
use Rattle.oz_requests.specs.declared.answer.Answer.{Answer}
use Rattle.oz_requests.specs.declared.request.AskId.{AskId}
use Rattle.oz_requests.specs.declared.request.Request.{Request}
use Rattle.oz_steps.specs.declared.label.Label.{Label}
use Rattle.oz_steps.specs.Grants.{has_fate_written}
use Rattle.oz_steps.specs.Lines.{commit_of_label}
use Rattle.oz_steps.specs.Requests.{request_by}
use Rattle.oz_asker.specs.declared.telling.still.Still.{Still}
use Rattle.oz_asker.specs.telling.Done.{answer_done}
use Rattle.oz_asker.specs.telling.Tells.{MayTell, told_event}
use Rattle.oz_turn.specs.Told.{BeginsWith}
use Rattle.oz_underway.specs.GoingOn.{FromHereOn}
use Rattle.oz_underway.specs.UnderWay.{IsUnderWay, LabelStays}
use Rattle.oz_at_work.specs.declared.refused.Refused.{Refused}

-- A line, what came back to it, for how many datanodes its steps are, how often it has asked, how often something was
-- said of its blocks at its last look, what it does next, whether that isn't of its steps, whether a block that it was
-- granted was given up, which members of the block that it reads next were doubted when it looked before, with what it
-- is refused for now, if it is, and whether what it commands a datanode was done.
pub record WorkView : Type 0 where
  pub line : Line
  pub state : LineState
  pub nodes : ℕ
  pub asked : ℕ
  pub said : ℕ
  pub next : Step
  pub is_cut : Bool
  pub gave_up : Bool
  pub doubted : Doubted
  pub refused : Option Refused
  pub was_done : Bool

-- the id of a line's Ask of this number, and of the last of so many
abbrev pub id_of : Line → ℕ → AskId
id_of line step = record { client = line.client; line = line.number; step = step }

abbrev pub last_of : Line → ℕ → Option AskId
last_of line asked = if asked == 0 then None else Some (id_of line asked)

-- what a line leaves in the label that it opens: what its steps say, where it is told what they say
abbrev pub left_of : WorkView → Option Label
left_of work = if work.is_cut then None else work.state.left

-- the step ends the line
abbrev pub IsTelling : Step → Type 0
IsTelling (steps.Tell answer) = Unit {0}
IsTelling _ = ⊥

-- Where a block was given up, so often something is said of the line's blocks as it knows.
abbrev pub IsSaidAsKnown : Bool → ℕ → ℕ → Type 0
IsSaidAsKnown gave_up known said = gave_up ≡ true → said ≡ known

-- there is something that it is told next
abbrev pub IsToldNext : WorkView → Type 0
IsToldNext work = IsTelling work.next ⊎ IsSome work.refused ⊎ (work.was_done ≡ true)

-- It has asked once more, or there is something that it is told next, or it wrote a block: more was said of its blocks;
-- or it read a piece more.
abbrev pub HasGoneOn : WorkView → WorkView → Type 0
HasGoneOn before after =
    (after.asked ≡ before.asked + 1) ⊎ IsToldNext after ⊎ (before.said < after.said)
    ⊎ (length before.state.progress.read < length after.state.progress.read)

-- The label that a line opened stands for this; for nothing where the line was told something else than OK.
abbrev pub IsLabelOf : List Event → Line → Command → Option Label → Type 0
IsLabelOf story line (commands.KeyOpen name volume bucket key payload) (Some label) =
    commit_step story (Some line) ≡ Some (commit_of_label label)
IsLabelOf story line (commands.KeyOpen name volume bucket key payload) None = is_open_at story line ≡ false
IsLabelOf story line command left = Unit {0}

-- a line of a script that has started
pub record IsStarted (script : Script) (seen : List Event) (line : Line) : Type 0 where
  pub numbered : IsNumbered script
  pub there : Contains script.lines line
  pub started : HasStarted seen line

-- So often something was said of the line's blocks at a place of what was seen.
pub record WasSaid (seen : List Event) (line : Line) (said : ℕ) : Type 0 where
  pub before : List Event
  pub goes_on : BeginsWith seen before
  pub so_often : times_said line.client line.number before ≡ said

-- No reply that came back is a code, and each block was written, unless one was given up.
pub record HasPutAlone (progress : Progress) (gave_up : Bool) : Type 0 where
  pub no_code : list_any is_code progress.came.replies ≡ false
  pub put : gave_up ≡ false → list_all has_fate_written progress.came.attempts ≡ true

module _ (Coherent : Type 0) (opening : Opening) (bytes : OpeningBytes) (script : Script) (seen : List Event) where
  -- A line may begin, and its label stays what it is.
  pub record MayBegin (line : Line) (label : Option Label) : Type 0 where
    pub begun : IsStarted script seen line
    pub labelled : LabelStays Coherent opening bytes script seen line line.command label

  -- What a story has of the line is what came back to it.
  pub record IsFollowed (line : Line) (asked said : ℕ) (gave_up : Bool) (progress : Progress) : Type 0 where
    pub under_way : IsUnderWay Coherent opening bytes script seen line asked said line.command progress
    pub alone : HasPutAlone progress gave_up

  -- The request comes next by what came back; from here on it is the line's next wherever the law lets it ask, and nothing
  -- else is asked by its id, as long as no more is said of the line's blocks where one was given up.
  pub record IsNextAsk (line : Line) (asked said : ℕ) (gave_up : Bool) (request : Request) (progress : Progress)
      : Type 0 where
    pub followed : IsFollowed line asked said gave_up progress
    pub unread : progress.read ≡ []
    pub unwritten : progress.came.writing ≡ None
    pub its : request_by line.command progress.label progress.came ≡ Some request
    pub fits : FromHereOn Coherent opening bytes script seen (λ story. (seat : ℕ)
        → IsSaidAsKnown gave_up said (times_said line.client line.number story)
        → AskIsEnabled opening story seat (id_of line (asked + 1)) request
        → EventFits opening bytes script story (Ask (id_of line (asked + 1)) request))
    pub same : FromHereOn Coherent opening bytes script seen (λ story. (other : Request)
        → IsSaidAsKnown gave_up said (times_said line.client line.number story)
        → pending (id_of line (asked + 1)) story ≡ Some other → other ≡ request)

  -- The line's next step is to write the block at these members: so many bytes of its data, from this place on.
  pub record IsNextWrite (line : Line) (asked said : ℕ) (gave_up : Bool) (block : Block) (members : List ℕ)
      (first count : ℕ) (progress : Progress) : Type 0 where
    pub followed : IsFollowed line asked said gave_up progress
    pub unread : progress.read ≡ []
    pub writes : IsWriting line.command progress block members first count

  -- The line's next step is to read this piece, of whose block these members were doubted for its last ask.
  pub record IsNextRead (line : Line) (asked said : ℕ) (gave_up : Bool) (doubted : Doubted) (piece : Piece)
      (progress : Progress) : Type 0 where
    pub followed : IsFollowed line asked said gave_up progress
    pub reads : IsReading line.command progress piece
    pub are_doubted : AreDoubted seen (id_of line asked) piece.block doubted

  -- From here on the answer is the line's wherever it may be told it, for which so much may be said of its blocks and this
  -- has to stay as it is, and once it is told this is what it left.
  pub record MayBeTold (line : Line) (last : Option AskId) (MaySay : ℕ → Type 0) (stills : List Still) (answer : Answer)
      (left : Option Label) : Type 0 where
    pub fits : FromHereOn Coherent opening bytes script seen (λ story. (said : ℕ) → MaySay said
        → MayTell opening story line.client line.number last said stills answer
        → EventFits opening bytes script story (Told line.client line.number answer))
    pub leaves : FromHereOn Coherent opening bytes script seen (λ story. (before : List Event) (seat said : ℕ)
        → BeginsWith before seen → MaySay said
        → MayTell opening before line.client line.number last said stills answer
        → BeginsWith story (before ++ told_event seat line.client line.number answer ∷ [])
        → IsLabelOf story line line.command left)

  -- What comes next may come, if it asks, writes, reads or ends the line. Of other steps nothing is said.
  abbrev pub IsNextFit : WorkView → Step → Type 0
  IsNextFit work (steps.Ask request) =
      IsNextAsk work.line work.asked work.said work.gave_up request work.state.progress
  IsNextFit work (steps.Write block members first count) =
      IsNextWrite work.line work.asked work.said work.gave_up block members first count work.state.progress
  IsNextFit work (steps.Read piece) =
      IsNextRead work.line work.asked work.said work.gave_up work.doubted piece work.state.progress
  IsNextFit work (steps.Tell answer) = MayBeTold work.line (last_of work.line work.asked)
      (IsSaidAsKnown work.gave_up work.said) [] answer (left_of work)
  IsNextFit work step = Unit {0}

  -- What a line is refused with it may be told whatever is said of its blocks, and leaves nothing then.
  abbrev pub IsRefusalFit : Line → Option Refused → Type 0
  IsRefusalFit line None = Unit {0}
  IsRefusalFit line (Some refused) =
      MayBeTold line (last_of line refused.asked) (λ said. Unit {0}) refused.still refused.answer None

  -- Once what the line commands a datanode was done, it is due from here on that it is told so; or with which count the
  -- datanode halted, where it did.
  abbrev pub IsDoneFit : Line → Bool → Type 0
  IsDoneFit line was_done = was_done ≡ true → (dn : ℕ) → NamesNode line.command dn
      → FromHereOn Coherent opening bytes script seen
      (λ story. IsDue opening bytes script story line (answer_done dn (halt_of (Datanode dn) story)))

  -- What is known of a line that is worked for.
  pub record IsAtWork (work : WorkView) : Type 0 where
    pub begun : IsStarted script seen work.line
    pub does : work.state.command ≡ work.line.command
    pub nodes : work.state.progress.nodes ≡ work.nodes
    pub opened : work.nodes ≡ length opening.nodes
    pub said : WasSaid seen work.line work.said
    pub next : IsNextFit work work.next
    pub refusal : IsRefusalFit work.line work.refused
    pub done : IsDoneFit work.line work.was_done

  -- The line was told, and from here on this is what it left.
  pub record HasLeft (line : Line) (left : Option Label) : Type 0 where
    pub told : is_told line.client line.number seen ≡ true
    pub stays : FromHereOn Coherent opening bytes script seen (λ story. IsLabelOf story line line.command left)
