-- What is known of a line stays in what is seen later.
use Rattle.std.proofs.Common.{◌≡◌, ℕ, zero, suc, Bool, true, false, not, ◌&&◌, ◌||◌, ◌==◌, List, [], ◌∷◌, ◌++◌, Option, None, Some, is_none, refl, sym, ap, ◌∙◌, subst}
use Rattle.std.proofs.lemmas.Bool.{eqb-true, false≢true}
use Rattle.std.proofs.lemmas.Option.{none-some}
use Rattle.std.specs.Prelude.{slice_get}
use Rattle.std.specs.List.{list_all}
use Rattle.oz_buffer.specs.Became.{times_said}
use Rattle.oz_client.specs.declared.progress.Progress.{Progress}
use Rattle.oz_client.specs.declared.step.Step.{Step}
use Rattle.oz_client.specs.declared.step.Step.TheVariants as steps
use Rattle.oz_core.specs.declared.event.Event.{Event}
use Rattle.oz_core.specs.declared.opening.Opening.{Opening}
use Rattle.oz_core.specs.Contents.{OpeningBytes}
use Rattle.oz_core.specs.Nodes.{doubts}
use Rattle.oz_fields.specs.declared.block.Block.{Block}
use Rattle.oz_fields.specs.declared.block.Piece.{Piece}
use Rattle.oz_script.specs.declared.lines.script.Line.{Line}
use Rattle.oz_script.specs.declared.lines.script.Script.{Script}
use Rattle.oz_line_blocks.specs.declared.reading.lack.Doubted.{Doubted}
use Rattle.oz_line_blocks.specs.reading.Lacks.{AreDoubted}
use Rattle.oz_requests.specs.declared.answer.Answer.{Answer}
use Rattle.oz_requests.specs.declared.request.AskId.{AskId}
use Rattle.oz_steps.specs.declared.came.Granted.{Granted}
use Rattle.oz_steps.specs.declared.label.Label.{Label}
use Rattle.oz_steps.specs.Grants.{has_fate_written}
use Rattle.oz_asker.specs.declared.telling.still.Still.{Still}
use Rattle.oz_turn.specs.Told.{BeginsWith}
use Rattle.oz_underway.specs.GoingOn.{FromHereOn}
use Rattle.oz_underway.specs.UnderWay.{is_all_written}
use Rattle.oz_underway.specs.laws.Going.{begins_itself, begins_through, happened_still}
use Rattle.oz_underway.specs.laws.Starting.{started_still}
use Rattle.oz_underway.specs.laws.Told.{told_still}
use Rattle.oz_underway.specs.laws.UnderWay.{still_under_way, whatever_said}
use Rattle.oz_at_work.specs.AtWork.{HasLeft, IsAtWork, IsDoneFit, IsFollowed, IsNextFit, IsRefusalFit, IsStarted, MayBegin, MayBeTold, WasSaid, WorkView, id_of}
use Rattle.oz_at_work.specs.declared.refused.Refused.{Refused}
use Rattle.oz_at_work.specs.inner.Replied.{holds_where_said, is_write}

pub begun_still : (script : Script) (later seen : List Event) (line : Line) → BeginsWith later seen → IsStarted script seen line → IsStarted script later line
begun_still script later seen line begins begun = record {
  numbered = begun.numbered;
  there = begun.there;
  started = started_still later seen line begins begun.started;
}

pub there_still : {A : Type 0} (l more : List A) (k : ℕ) (x : A) → slice_get l k ≡ Some x → slice_get (l ++ more) k ≡ Some x
there_still [] more k x is = absurd (none-some x is)
there_still (y ∷ l) more zero x is = is
there_still (y ∷ l) more (suc k) x is = there_still l more k x is

pub said_was : (later seen : List Event) (line : Line) (said : ℕ) → BeginsWith later seen → WasSaid seen line said → WasSaid later line said
said_was later seen line said begins was = record {
  before = was.before;
  goes_on = begins_through later seen was.before begins was.goes_on;
  so_often = was.so_often;
}

pub said_now : (seen : List Event) (line : Line) (said : ℕ) → times_said line.client line.number seen ≡ said → WasSaid seen line said
said_now seen line said now = record { before = seen; goes_on = begins_itself seen; so_often = now }

-- where nothing is being written, and no block was given up, all are written
pub all_written : (progress : Progress) (gave_up : Bool) → progress.came.writing ≡ None → (gave_up ≡ false → list_all has_fate_written progress.came.attempts ≡ true)
    → gave_up ≡ false → is_all_written progress ≡ true
all_written progress gave_up idle put none =
    ap (λ (w : Option Granted). is_none w && list_all has_fate_written progress.came.attempts) idle ∙ put none

-- who was doubted is
pub doubted_still : (later seen : List Event) (id : AskId) (block : Block) (doubted : Doubted) → BeginsWith later seen → AreDoubted seen id block doubted → AreDoubted later id block doubted
doubted_still later seen id block doubted begins are dn among = happened_still (doubts dn block id) later seen begins (are dn among)

module _ (Coherent : Type 0) (opening : Opening) (bytes : OpeningBytes) (script : Script) (later seen : List Event) (begins : BeginsWith later seen) where
  pub here_still : (Holds : List Event → Type 0) → FromHereOn Coherent opening bytes script seen Holds → FromHereOn Coherent opening bytes script later Holds
  here_still Holds from story goes all = from story (begins_through story later seen goes begins) all

  told_fit_still : (line : Line) (last : Option AskId) (MaySay : ℕ → Type 0) (stills : List Still) (answer : Answer) (left : Option Label)
      → MayBeTold Coherent opening bytes script seen line last MaySay stills answer left
      → MayBeTold Coherent opening bytes script later line last MaySay stills answer left
  told_fit_still line last MaySay stills answer left fit = record {
    fits = λ story goes all. fit.fits story (begins_through story later seen goes begins) all;
    leaves = λ story goes all before seat said from as_said may behind.
        fit.leaves story (begins_through story later seen goes begins) all before seat said (begins_through before later seen from begins) as_said may behind;
  }

  followed_still : (line : Line) (asked said : ℕ) (gave_up : Bool) (progress : Progress) → IsFollowed Coherent opening bytes script seen line asked said gave_up progress
      → IsFollowed Coherent opening bytes script later line asked said gave_up progress
  followed_still line asked said gave_up progress followed = record {
    under_way = still_under_way Coherent opening bytes script later seen line asked said line.command progress begins followed.under_way;
    alone = followed.alone;
  }

  next_still : (work : WorkView) (step : Step) → IsNextFit Coherent opening bytes script seen work step → IsNextFit Coherent opening bytes script later work step
  next_still work (steps.Ask request) fit = record {
    followed = followed_still work.line work.asked work.said work.gave_up work.state.progress fit.followed;
    unread = fit.unread;
    unwritten = fit.unwritten;
    its = fit.its;
    fits = λ story goes all. fit.fits story (begins_through story later seen goes begins) all;
    same = λ story goes all. fit.same story (begins_through story later seen goes begins) all;
  }
  next_still work (steps.Write block members first count) fit = record {
    followed = followed_still work.line work.asked work.said work.gave_up work.state.progress fit.followed;
    unread = fit.unread;
    writes = fit.writes;
  }
  next_still work (steps.Read piece) fit = record {
    followed = followed_still work.line work.asked work.said work.gave_up work.state.progress fit.followed;
    reads = fit.reads;
    are_doubted = doubted_still later seen (id_of work.line work.asked) piece.block work.doubted begins fit.are_doubted;
  }
  next_still work (steps.Tell answer) fit = told_fit_still work.line _ _ _ answer _ fit
  next_still work step fit = tt

  pub refusal_still : (line : Line) (refused : Option Refused) → IsRefusalFit Coherent opening bytes script seen line refused
      → IsRefusalFit Coherent opening bytes script later line refused
  refusal_still line None fit = tt
  refusal_still line (Some refused) fit = told_fit_still line _ _ _ _ _ fit

  pub done_still : (line : Line) (was_done : Bool) → IsDoneFit Coherent opening bytes script seen line was_done → IsDoneFit Coherent opening bytes script later line was_done
  done_still line was_done fit is dn named story goes all = fit is dn named story (begins_through story later seen goes begins) all

  -- whatever was said of its blocks, where what comes next doesn't rest on that
  said_fit : (work : WorkView) (said : ℕ) (step : Step) → (is_write step || work.gave_up) ≡ false → IsNextFit Coherent opening bytes script later work step
      → IsNextFit Coherent opening bytes script later (record work { said = said }) step
  said_fit work said (steps.Ask request) none fit = record {
    followed = record {
      under_way = whatever_said Coherent opening bytes script later work.line work.asked work.said said work.line.command work.state.progress
          (all_written work.state.progress work.gave_up fit.unwritten fit.followed.alone.put none) fit.followed.under_way;
      alone = fit.followed.alone;
    };
    unread = fit.unread;
    unwritten = fit.unwritten;
    its = fit.its;
    fits = λ story goes all seat as_said enabled. fit.fits story goes all seat (λ gave. absurd (false≢true (sym none ∙ gave))) enabled;
    same = λ story goes all other as_said is. fit.same story goes all other (λ gave. absurd (false≢true (sym none ∙ gave))) is;
  }
  said_fit work said (steps.Write block members first count) none fit = absurd (false≢true (sym none))
  said_fit work said (steps.Read piece) none fit = record {
    followed = record {
      under_way = whatever_said Coherent opening bytes script later work.line work.asked work.said said work.line.command work.state.progress
          (all_written work.state.progress work.gave_up fit.reads.idle.unwritten fit.followed.alone.put none) fit.followed.under_way;
      alone = fit.followed.alone;
    };
    reads = fit.reads;
    are_doubted = fit.are_doubted;
  }
  said_fit work said (steps.Tell answer) none fit = record {
    fits = λ story goes all now as_said may. fit.fits story goes all now (λ gave. absurd (false≢true (sym none ∙ gave))) may;
    leaves = λ story goes all before seat now from as_said may behind.
        fit.leaves story goes all before seat now from (λ gave. absurd (false≢true (sym none ∙ gave))) may behind;
  }
  said_fit work said step none fit = tt

  said_still : (work : WorkView) (said : ℕ) → (is_write work.next || work.gave_up) ≡ false → times_said work.line.client work.line.number later ≡ said
      → IsAtWork Coherent opening bytes script seen work
      → IsAtWork Coherent opening bytes script later (record work { said = said })
  said_still work said none now at_work = record {
    begun = begun_still script later seen work.line begins at_work.begun;
    does = at_work.does;
    nodes = at_work.nodes;
    opened = at_work.opened;
    said = said_now later work.line said now;
    next = said_fit work said work.next none (next_still work work.next at_work.next);
    refusal = refusal_still work.line work.refused at_work.refusal;
    done = done_still work.line work.was_done at_work.done;
  }

  pub work_still : (work : WorkView) → IsAtWork Coherent opening bytes script seen work → IsAtWork Coherent opening bytes script later work
  work_still work at_work = record {
    begun = begun_still script later seen work.line begins at_work.begun;
    does = at_work.does;
    nodes = at_work.nodes;
    opened = at_work.opened;
    said = said_was later seen work.line work.said begins at_work.said;
    next = next_still work work.next at_work.next;
    refusal = refusal_still work.line work.refused at_work.refusal;
    done = done_still work.line work.was_done at_work.done;
  }

  pub looked : (work : WorkView) (said : ℕ) → holds_where_said work said ≡ true → times_said work.line.client work.line.number later ≡ said
      → IsAtWork Coherent opening bytes script seen work → IsAtWork Coherent opening bytes script later (record work { said = said })
  looked work said holds now at_work = by (is_write work.next || work.gave_up) refl
    where
      by : (t : Bool) → (is_write work.next || work.gave_up) ≡ t → IsAtWork Coherent opening bytes script later (record work { said = said })
      by false none = said_still work said none now at_work
      by true rests =
          let same : said ≡ work.said = eqb-true said work.said (sym (ap (λ (b : Bool). not b || said == work.said) rests) ∙ holds) in
          subst (λ (n : ℕ). IsAtWork Coherent opening bytes script later (record work { said = n })) (sym same) (work_still work at_work)

  pub begin_still : (line : Line) (label : Option Label) → MayBegin Coherent opening bytes script seen line label → MayBegin Coherent opening bytes script later line label
  begin_still line label may = record {
    begun = begun_still script later seen line begins may.begun;
    labelled = λ story goes all. may.labelled story (begins_through story later seen goes begins) all;
  }

  pub left_still : (line : Line) (left : Option Label) → HasLeft Coherent opening bytes script seen line left → HasLeft Coherent opening bytes script later line left
  left_still line left has = record {
    told = told_still line.client line.number later seen begins has.told;
    stays = λ story goes all. has.stays story (begins_through story later seen goes begins) all;
  }

-- with what a line is refused doesn't matter for what comes next
module _ (Coherent : Type 0) (opening : Opening) (bytes : OpeningBytes) (script : Script) (seen : List Event) where
  refused_fit : (work : WorkView) (refused : Option Refused) (step : Step) → IsNextFit Coherent opening bytes script seen work step
      → IsNextFit Coherent opening bytes script seen (record work { refused = refused }) step
  refused_fit work refused (steps.Ask request) fit = fit
  refused_fit work refused (steps.Write block members first count) fit = fit
  refused_fit work refused (steps.Read piece) fit = fit
  refused_fit work refused (steps.Tell answer) fit = fit
  refused_fit work refused step fit = tt

  pub with_refused : (work : WorkView) (refused : Option Refused) → IsRefusalFit Coherent opening bytes script seen work.line refused
      → IsAtWork Coherent opening bytes script seen work → IsAtWork Coherent opening bytes script seen (record work { refused = refused })
  with_refused work refused fits at_work = record {
    begun = at_work.begun;
    does = at_work.does;
    nodes = at_work.nodes;
    opened = at_work.opened;
    said = at_work.said;
    next = refused_fit work refused work.next at_work.next;
    refusal = fits;
    done = at_work.done;
  }

  -- nor does it whether what it commands was done
  done_fit : (work : WorkView) (was_done : Bool) (step : Step) → IsNextFit Coherent opening bytes script seen work step
      → IsNextFit Coherent opening bytes script seen (record work { was_done = was_done }) step
  done_fit work was_done (steps.Ask request) fit = fit
  done_fit work was_done (steps.Write block members first count) fit = fit
  done_fit work was_done (steps.Read piece) fit = fit
  done_fit work was_done (steps.Tell answer) fit = fit
  done_fit work was_done step fit = tt

  pub with_done : (work : WorkView) → IsDoneFit Coherent opening bytes script seen work.line true
      → IsAtWork Coherent opening bytes script seen work → IsAtWork Coherent opening bytes script seen (record work { was_done = true })
  with_done work fits at_work = record {
    begun = at_work.begun;
    does = at_work.does;
    nodes = at_work.nodes;
    opened = at_work.opened;
    said = at_work.said;
    next = done_fit work true work.next at_work.next;
    refusal = at_work.refusal;
    done = fits;
  }

  -- nor does it otherwise which members were doubted, but for what it reads
  doubted_fit : (work : WorkView) (doubted : Doubted) (piece : Piece) (step : Step) → step ≡ steps.Read piece → AreDoubted seen (id_of work.line work.asked) piece.block doubted
      → IsNextFit Coherent opening bytes script seen work step → IsNextFit Coherent opening bytes script seen (record work { doubted = doubted }) step
  doubted_fit work doubted piece (steps.Read other) is are fit = record {
    followed = fit.followed;
    reads = fit.reads;
    are_doubted = let same : piece ≡ other = cc in subst (λ (p : Piece). AreDoubted seen (id_of work.line work.asked) p.block doubted) same are;
  }
  doubted_fit work doubted piece step is are fit = absurd cc

  pub with_doubted : (work : WorkView) (doubted : Doubted) (piece : Piece) → work.next ≡ steps.Read piece → AreDoubted seen (id_of work.line work.asked) piece.block doubted
      → IsAtWork Coherent opening bytes script seen work → IsAtWork Coherent opening bytes script seen (record work { doubted = doubted })
  with_doubted work doubted piece is are at_work = record {
    begun = at_work.begun;
    does = at_work.does;
    nodes = at_work.nodes;
    opened = at_work.opened;
    said = at_work.said;
    next = doubted_fit work doubted piece work.next is are at_work.next;
    refusal = at_work.refusal;
    done = at_work.done;
  }
