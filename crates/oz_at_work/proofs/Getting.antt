-- A line that reads its next piece, and what it knows once that was looked for.
use Rattle.std.proofs.Common.{◌≡◌, ⊎_elim, inl, inr, ℕ, zero, suc, ◌+◌, ◌≤◌, Bool, true, false, List, [], ◌∷◌, ◌++◌, length, Option, None, Some, IsSome, Contains, refl, sym, ap, ◌∙◌, subst, length-append, arith}
use Rattle.std.proofs.lemmas.Option.{none-some, same_Some}
use Rattle.std.specs.FinMap.{get}
use Rattle.std.specs.Prelude.{All, map}
use Rattle.std.specs.Global.{Vec}
use Rattle.oz_asker.specs.laws.Asks.{legal_of_follow}
use Rattle.oz_buffer.specs.Buffer.{AllFollow, Follows}
use Rattle.oz_client.specs.declared.progress.Progress.{Progress}
use Rattle.oz_client.specs.declared.step.Got.{Got}
use Rattle.oz_client.specs.declared.step.Got.TheVariants as gots
use Rattle.oz_client.specs.declared.step.Step.{Step}
use Rattle.oz_client.specs.declared.step.Step.TheVariants as steps
use Rattle.oz_client.specs.LineState.{progress_after}
use Rattle.oz_client.specs.Onward.{IsNext, IsReading}
use Rattle.oz_command.specs.declared.command.Command.{Command}
use Rattle.oz_core.specs.declared.event.Event.{Event}
use Rattle.oz_core.specs.declared.event.EventKind.TheVariants.{Told}
use Rattle.oz_core.specs.declared.opening.Opening.{Opening}
use Rattle.oz_core.specs.Asks.{is_own, last_ask}
use Rattle.oz_core.specs.Coherent.{IsCoherent}
use Rattle.oz_core.specs.Contents.{HasContent, OpeningBytes}
use Rattle.oz_core.specs.Due.{IsDue}
use Rattle.oz_core.specs.Fits.{EventFits}
use Rattle.oz_core.specs.Law.{IsNamed}
use Rattle.oz_core.specs.Nodes.{is_intact}
use Rattle.oz_core.specs.Scm.{containers, members}
use Rattle.oz_fields.specs.declared.block.Piece.{Piece}
use Rattle.oz_script.specs.declared.lines.script.Script.{Script}
use Rattle.oz_line_blocks.specs.declared.reading.lack.Doubted.{Doubted}
use Rattle.oz_line_blocks.specs.declared.reading.lack.Lack.{Lack}
use Rattle.oz_line_blocks.specs.declared.reading.lack.Lack.TheVariants as lacking
use Rattle.oz_line_blocks.specs.reading.Lacks.{doubted_in, stills_in}
use Rattle.oz_line_blocks.specs.reading.Read.{MayRead}
use Rattle.oz_requests.specs.declared.answer.Answer.{Answer}
use Rattle.oz_requests.specs.declared.answer.Answer.TheVariants as answers
use Rattle.oz_asker.specs.telling.Tells.{MayTell}
use Rattle.oz_turn.specs.Told.{BeginsWith}
use Rattle.oz_underway.specs.UnderWay.{IsUnderWay, ask_of, is_all_written}
use Rattle.oz_underway.specs.laws.Going.{begins_through}
use Rattle.oz_underway.specs.laws.Lengths.{read_content}
use Rattle.oz_underway.specs.laws.Made.{members_same, named_made}
use Rattle.oz_underway.specs.laws.Reading.{its_reply, none_intact, read_is_named}
use Rattle.oz_underway.specs.laws.Said.{said_of_written}
use Rattle.oz_underway.specs.laws.Starting.{started_still}
use Rattle.oz_underway.specs.laws.UnderWay.{piece_read}
use Rattle.oz_at_work.specs.AtWork.{HasGoneOn, HasPutAlone, IsAtWork, IsNextFit, IsNextRead, IsTelling, MayBeTold, WorkView, id_of, last_of}
use Rattle.oz_at_work.specs.inner.Read.{IsReadNext, WasMissed, WasRead}
use Rattle.oz_at_work.specs.inner.Taken.{IsTakenUp}
use Rattle.oz_at_work.proofs.Cutting.{label_none, some_last, told_stays}
use Rattle.oz_at_work.proofs.Staying.{all_written, begun_still, said_was, with_doubted, with_refused, work_still}
use Rattle.oz_at_work.proofs.Stepping.{IsBeforeReading, stepped_works, stopped_works}

-- who reads a piece asks and writes nothing behind that
unread_before : (command : Command) (progress : Progress) (piece : Piece) (read : Vec ℕ) (step : Step) → IsReading command progress piece
    → IsNext command (progress_after progress (gots.Read (Some read))) (gots.Read (Some read)) step → IsBeforeReading step
    → (progress_after progress (gots.Read (Some read))).read ≡ []
unread_before command progress piece read (steps.Ask request) reading next before = absurd (none-some request (sym reading.idle.no_step ∙ next.1))
unread_before command progress piece read (steps.Write block members first count) reading next before =
    absurd (none-some next.granted (sym reading.idle.unwritten ∙ next.its))
unread_before command progress piece read step reading next before = absurd before

-- who took up a piece has gone on
pub read_goes_on : (before after : WorkView) (read : Vec ℕ) (asked said : ℕ) (gave_up : Bool) → IsTakenUp before (gots.Read (Some read)) asked said gave_up after
    → HasGoneOn before after
read_goes_on before after read asked said gave_up taken = ⊎_elim
    (λ stepped.
    let more : length after.state.progress.read ≡ length before.state.progress.read + 1 =
    ap (λ (w : WorkView). length w.state.progress.read) stepped.is ∙ length-append before.state.progress.read (read.items ∷ []) in
    inr (inr (inr (omega (arith, more)))))
    (λ stopped. inr (inl (inl (subst IsTelling (sym (ap (λ (w : WorkView). w.next) stopped.is)) tt))))
    taken

module _ (Coherent : Type 0) (opening : Opening) (bytes : OpeningBytes) (script : Script) (seen : List Event) (work : WorkView) (piece : Piece) (coherent : Coherent)
    (at_work : IsAtWork Coherent opening bytes script seen work) (its : IsReadNext work piece) where
  abbrev Follow : List Event → Event → Type 0
  Follow = Follows Coherent opening bytes script

  pub next_read : IsNextRead Coherent opening bytes script seen work.line work.asked work.said work.gave_up work.doubted piece work.state.progress
  next_read = subst (IsNextFit Coherent opening bytes script seen work) its.next at_work.next

  -- each block of the line is written: it has none
  pub none_unwritten : is_all_written work.state.progress ≡ true
  none_unwritten = all_written work.state.progress work.gave_up next_read.reads.idle.unwritten next_read.followed.alone.put its.kept

  module _ (story : List Event) (begins : BeginsWith story seen) (all : AllFollow Follow [] story) where
    named : IsNamed story (ask_of work.line work.asked) piece.block × (is_own (ask_of work.line work.asked) ≡ false)
    named =
        read_is_named Coherent opening bytes script seen work.line work.asked work.said work.line.command work.state.progress piece coherent next_read.followed.under_way next_read.reads
        story begins all

    as_long : IsCoherent opening bytes → (content : List ℕ) → HasContent opening bytes script story piece.block content → length content ≡ piece.length
    as_long whole =
        read_content Coherent opening bytes script seen work.line work.asked work.said work.line.command work.state.progress piece coherent whole at_work.begun.numbered
        next_read.followed.under_way next_read.reads story begins all

    its_step : 1 ≤ work.asked
    its_step =
        (its_reply Coherent opening bytes script seen work.line work.asked work.said work.line.command work.state.progress piece coherent next_read.followed.under_way next_read.reads
        story begins all).some

    -- nobody has it
    missed_due : IsCoherent opening bytes → last_ask work.line.client work.line.number story ≡ Some (ask_of work.line work.asked)
        → All (λ dn. is_intact opening story (ask_of work.line work.asked) piece.block dn ≡ false) (members opening story piece.block.container)
        → IsDue opening bytes script story work.line (answers.NoReplica (length work.state.progress.read) piece.block)
    missed_due whole last none =
        none_intact Coherent opening bytes script seen work.line work.asked work.said work.line.command work.state.progress piece coherent next_read.followed.under_way next_read.reads
        story begins all whole.blocks last (said_of_written story work.line work.said work.state.progress none_unwritten) none

    -- its bytes are one piece more
    pub read_way : (content : List ℕ) → HasContent opening bytes script story piece.block content
        → IsUnderWay Coherent opening bytes script story work.line work.asked work.said work.line.command
        (record work.state.progress { read = work.state.progress.read ++ content ∷ [] })
    read_way content has =
        piece_read Coherent opening bytes script at_work.begun.numbered seen story work.line work.asked work.said work.line.command work.state.progress piece content coherent
        next_read.followed.under_way next_read.reads (said_of_written story work.line work.said work.state.progress none_unwritten) begins all has

  -- it may be read at the members that its container has there
  pub may_read : IsCoherent opening bytes → (story : List Event) → BeginsWith story seen → AllFollow Follow [] story → (dns : List ℕ)
      → members opening story piece.block.container ≡ dns → MayRead Coherent opening bytes script (id_of work.line work.asked) piece dns story
  may_read whole story begins all dns are = record {
    named = λ later goes every. named later (begins_through later story seen goes begins) every;
    whole = λ later goes every. as_long later (begins_through later story seen goes begins) every whole;
    its_members = λ later goes every. members_same opening story later piece.block.container goes made ∙ are;
  }
    where
      made : IsSome (get (containers opening story) piece.block.container)
      made =
          named_made opening bytes whole.blocks story (legal_of_follow Coherent opening bytes script story coherent all) piece.block (ask_of work.line work.asked)
          (named story begins all).0

-- ---- a piece was read

module _ (Coherent : Type 0) (opening : Opening) (bytes : OpeningBytes) (script : Script) (seen : List Event) (work : WorkView) (read : Vec ℕ) (coherent : Coherent)
    (was : WasRead Coherent opening bytes script seen work read.items) where
  got : Got
  got = gots.Read (Some read)

  fit : IsNextRead Coherent opening bytes script was.before work.line work.asked work.said work.gave_up work.doubted was.piece work.state.progress
  fit = next_read Coherent opening bytes script was.before work was.piece coherent was.at_work was.its

  pub read_works : (new : WorkView) → IsTakenUp work (gots.Read (Some read)) work.asked work.said false new → IsAtWork Coherent opening bytes script seen new
  read_works new taken =
      let begun = begun_still script seen was.before work.line was.goes_on was.at_work.begun in
      let said = said_was seen was.before work.line work.said was.goes_on was.at_work.said in
      let way = read_way Coherent opening bytes script was.before work was.piece coherent was.at_work was.its seen was.goes_on was.follow read.items was.has in
      let alone : HasPutAlone (progress_after work.state.progress (gots.Read (Some read))) false =
      record { no_code = fit.followed.alone.no_code; put = λ none. fit.followed.alone.put was.its.kept } in
      ⊎_elim
      (λ stepped. stepped_works Coherent opening bytes script seen work new (gots.Read (Some read)) work.asked work.said false coherent tt begun was.at_work.does was.at_work.nodes was.at_work.opened said
      alone.put way (λ step next tells. fit.reads.idle.unwritten) (λ step next other. alone)
      (λ step next before. unread_before work.line.command work.state.progress was.piece read step fit.reads next before) stepped)
      (λ stopped. stopped_works Coherent opening bytes script seen work new work.asked coherent begun was.at_work.does was.at_work.nodes was.at_work.opened said stopped)
      taken

-- ---- nobody has it

-- who is among those that were doubted was
doubted_of : (lacks : List Lack) (dn : ℕ) → Contains (map doubted_in lacks) (Some dn) → Contains lacks (lacking.Doubted dn)
doubted_of [] dn (k, lt, is) = absurd (omega (arith, lt))
doubted_of (lacking.Doubted other ∷ lacks) dn (zero, lt, is) = (0, omega arith, ap lacking.Doubted (same_Some other dn is))
doubted_of (lacking.Absent still ∷ lacks) dn (zero, lt, is) = absurd (none-some dn is)
doubted_of (lack ∷ lacks) dn (suc k, lt, is) = let rest = doubted_of lacks dn (k, omega (arith, lt), is) in (suc rest.0, omega (arith, rest.1), rest.2)

module _ (Coherent : Type 0) (opening : Opening) (bytes : OpeningBytes) (script : Script) (seen : List Event) (work : WorkView) (piece : Piece) (lacks : List Lack) (coherent : Coherent)
    (was : WasMissed Coherent opening bytes script seen work piece lacks) (number : ℕ) (so_many : number ≡ length work.state.progress.read) where
  missed : Answer
  missed = answers.NoReplica number piece.block

  behind : (story : List Event) → BeginsWith story seen → BeginsWith story was.before
  behind story begins = begins_through story seen was.before begins was.goes_on

  missed_fits : (story : List Event) (said : ℕ) → BeginsWith story seen → AllFollow (Follows Coherent opening bytes script) [] story
      → MayTell opening story work.line.client work.line.number (last_of work.line work.asked) said (stills_in lacks) (answers.NoReplica number piece.block)
      → EventFits opening bytes script story (Told work.line.client work.line.number (answers.NoReplica number piece.block))
  missed_fits story said begins all may =
      let goes = behind story begins in
      let step = its_step Coherent opening bytes script was.before work piece coherent was.at_work was.its story goes all in
      record {
        line = work.line;
        its = record { there = was.at_work.begun.there; of_client = refl; of_number = refl };
        started = started_still story was.before work.line goes was.at_work.begun.started;
        due = subst (λ (n : ℕ). IsDue opening bytes script story work.line (answers.NoReplica n piece.block)) (sym so_many)
            (missed_due Coherent opening bytes script was.before work piece coherent was.at_work was.its story goes all was.whole
            (may.asked ∙ some_last work.line work.asked (λ none. absurd (omega (arith, none, step)))) (was.nobody story begins all may.still));
      }

  pub missed_told : MayBeTold Coherent opening bytes script seen work.line (last_of work.line work.asked) (λ said. Unit {0}) (stills_in lacks) (answers.NoReplica number piece.block) None
  missed_told = record {
    fits = λ story begins all said as_said may. missed_fits story said begins all may;
    leaves = λ story begins all before seat said from as_said may told.
        label_none story work.line work.line.command
        (told_stays Coherent opening bytes script story before seat work.line (answers.NoReplica number piece.block) coherent all told);
  }

  pub missed_works : (doubted : Doubted) → doubted.dns ≡ map doubted_in lacks → IsAtWork Coherent opening bytes script seen
      (record work { doubted = doubted; refused = Some (record { answer = answers.NoReplica number piece.block; asked = work.asked; still = stills_in lacks }) })
  missed_works doubted are =
      with_refused Coherent opening bytes script seen (record work { doubted = doubted })
      (Some (record { answer = answers.NoReplica number piece.block; asked = work.asked; still = stills_in lacks })) missed_told
      (with_doubted Coherent opening bytes script seen work doubted piece was.its.next
      (λ dn among. was.doubted dn (doubted_of lacks dn (subst (λ (l : List (Option ℕ)). Contains l (Some dn)) are among)))
      (work_still Coherent opening bytes script seen was.before was.goes_on work was.at_work))
