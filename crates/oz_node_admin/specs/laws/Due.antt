-- What a line that had something done to a datanode may be told.
use Rattle.std.proofs.Common.{◌≡◌, ◌≢◌, ◌⊎◌, ⊎_elim, inl, inr, ℕ, ◌-◌, ◌<◌, ◌≤◌, Bool, true, false, ◌||◌, cond, List, [], ◌∷◌, ◌++◌, length, Option, None, Some, eq-eqb, refl, sym, ap, ◌∙◌, subst, append_assoc, append-nil, arith}
use Rattle.std.proofs.lemmas.Bool.{cases_lt, false≢true}
use Rattle.std.proofs.lemmas.List.{same_from_push}
use Rattle.std.proofs.lemmas.List.Folds.{list_any-append}
use Rattle.std.proofs.lemmas.List.Sums.{fold-append}
use Rattle.oz_command.specs.declared.command.Command.{Command}
use Rattle.oz_command.specs.declared.command.Command.TheVariants.{Admin}
use Rattle.oz_core.specs.declared.event.Event.{Event}
use Rattle.oz_core.specs.declared.event.EventKind.{EventKind}
use Rattle.oz_core.specs.declared.event.EventKind.TheVariants.{Halt, Wipe}
use Rattle.oz_core.specs.declared.event.Node.{Node}
use Rattle.oz_core.specs.declared.event.Node.TheVariants.{Datanode}
use Rattle.oz_core.specs.declared.opening.Opening.{Opening}
use Rattle.oz_core.specs.Asks.{is_told}
use Rattle.oz_core.specs.Contents.{OpeningBytes}
use Rattle.oz_core.specs.Due.{AdminIsDone, IsDue, IsUnhalted, LineIsDone, NamesNode, WasWiped, wipes}
use Rattle.oz_core.specs.Lines.{AfterIsTold, HasStarted, HeldSince}
use Rattle.oz_core.specs.Manager.{halt_count, halt_of, is_node}
use Rattle.oz_core.specs.Nodes.{is_running}
use Rattle.oz_core.specs.Scm.{is_up}
use Rattle.oz_core.specs.Stories.{has_event, last_told, newer}
use Rattle.oz_script.specs.declared.lines.script.Line.{Line}
use Rattle.oz_script.specs.declared.lines.script.Script.{Script}
use Rattle.oz_node_events.specs.declared.command.NodeCommand.{NodeCommand}
use Rattle.oz_node_events.specs.declared.command.NodeCommand.TheVariants as command
use Rattle.oz_node_events.specs.Commands.{by_node}
use Rattle.oz_node_events.specs.Led.{admin_command}
use Rattle.oz_node_events.specs.laws.Lines.{started_later}
use Rattle.oz_requests.specs.declared.answer.Answer.TheVariants as answers
use Rattle.oz_requests.specs.declared.answer.Values.TheVariants as values
use Rattle.oz_turn.specs.Told.{BeginsWith}
use Rattle.oz_node_admin.specs.Came.{WasDone}
use Rattle.oz_node_admin.specs.Commands.{HasBeen, IsAsCommanded}
use Rattle.oz_node_admin.specs.Wipes.{HasTold}

through : (a b c : List Event) → BeginsWith a b → BeginsWith b c → BeginsWith a c
through a b c first then = (then.0 ++ first.0, first.1 ∙ (ap (λ (l : List Event). l ++ first.0) then.1 ∙ append_assoc c then.0 first.0))

-- ---- whether a line has started, and where it did

true_or_not : (t : Bool) → (t ≡ true) ⊎ (t ≡ true → ⊥)
true_or_not true = inl refl
true_or_not false = inr (λ is. false≢true is)

after_or_not : (story : List Event) (after : Option (ℕ × ℕ)) → AfterIsTold story after ⊎ (AfterIsTold story after → ⊥)
after_or_not story None = inl tt
after_or_not story (Some named) = true_or_not (is_told named.0 named.1 story)

before_or_not : (story : List Event) (line : Line)
    → (1 < line.number → is_told line.client (line.number - 1) story ≡ true) ⊎ ((1 < line.number → is_told line.client (line.number - 1) story ≡ true) → ⊥)
before_or_not story line = ⊎_elim
    (λ (second : 1 < line.number). ⊎_elim (λ told. inl (λ lt. told)) (λ untold. inr (λ all. untold (all second)))
    (true_or_not (is_told line.client (line.number - 1) story)))
    (λ first. inl (λ lt. absurd (omega (arith, first, lt))))
    (cases_lt 1 line.number)

started_or_not : (story : List Event) (line : Line) → HasStarted story line ⊎ (HasStarted story line → ⊥)
started_or_not story line = ⊎_elim
    (λ before. ⊎_elim (λ after. inl (record { before_it = before; after_it = after })) (λ not. inr (λ started. not started.after_it))
    (after_or_not story line.after))
    (λ not. inr (λ started. not started.before_it))
    (before_or_not story line)

abbrev IsFirst : Line → List Event → Type 0
IsFirst line front = (earlier : List Event) (event : Event) → front ≡ earlier ++ event ∷ [] → HasStarted earlier line → ⊥

none_earlier : (line : Line) → IsFirst line []
none_earlier line [] event is = absurd cc
none_earlier line (e ∷ earlier) event is = absurd cc

-- the first front of a story at which the line had started
pub record Starts (line : Line) (story : List Event) : Type 0 where
  pub start : List Event
  pub behind : List Event
  pub parts : story ≡ start ++ behind
  pub started : HasStarted start line
  pub first : IsFirst line start

starts_from : (line : Line) (front behind : List Event) → IsFirst line front → HasStarted (front ++ behind) line → Starts line (front ++ behind)
starts_from line front [] first started =
    record { start = front; behind = []; parts = refl; started = subst (λ (l : List Event). HasStarted l line) (append-nil front) started; first = first }
starts_from line front (event ∷ behind) first started =
    by (started_or_not front line) (λ not. starts_from line (front ++ event ∷ []) behind
    (λ earlier other same has. not (subst (λ (l : List Event). HasStarted l line) (sym (same_from_push front earlier event other same).0) has))
    (subst (λ (l : List Event). HasStarted l line) (sym (append_assoc front (event ∷ []) behind)) started))
  where
    by : HasStarted front line ⊎ (HasStarted front line → ⊥) → ((HasStarted front line → ⊥) → Starts line ((front ++ event ∷ []) ++ behind))
        → Starts line (front ++ event ∷ behind)
    by (inl now) later = record { start = front; behind = event ∷ behind; parts = refl; started = now; first = first }
    by (inr not) later = subst (Starts line) (append_assoc front (event ∷ []) behind) (later not)

pub starts : (line : Line) (story : List Event) → HasStarted story line → Starts line story
starts line story started = starts_from line [] story (none_earlier line) started

-- ---- a datanode that has halted

halt_picked : (t : Bool) (count : ℕ) (halt : Option ℕ) → halt ≢ None → newer (cond t (Some (Some count)) None) halt ≢ None
halt_picked true count halt some = λ none. absurd cc
halt_picked false count halt some = some

halt_behind : (node : Node) (kind : EventKind) (halt : Option ℕ) → halt ≢ None → newer (halt_count node kind) halt ≢ None
halt_behind node (Halt other count) halt some = halt_picked (is_node node other) count halt some
halt_behind node kind halt some = some

halt_kept : (node : Node) (more : List Event) (halt : Option ℕ) → halt ≢ None → last_told (halt_count node) halt more ≢ None
halt_kept node [] halt some = some
halt_kept node (event ∷ more) halt some = halt_kept node more (newer (halt_count node event.kind) halt) (halt_behind node event.kind halt some)

pub halt_stays : (node : Node) (seen story : List Event) (count : ℕ) → BeginsWith story seen → halt_of node seen ≡ Some count → halt_of node story ≢ None
halt_stays node seen story count begins is none =
    let told = λ (halt : Option ℕ) (event : Event). newer (halt_count node event.kind) halt in
    let parts : halt_of node story ≡ last_told (halt_count node) (halt_of node seen) begins.0 = ap (halt_of node) begins.1
    ∙ fold-append told None seen begins.0 in
    halt_kept node begins.0 (halt_of node seen) (λ (no : halt_of node seen ≡ None). absurd (cc (sym is ∙ no))) (sym parts ∙ none)

-- ---- what is due

module _ (Coherent : Type 0) (opening : Opening) (bytes : OpeningBytes) (script : Script) (line : Line) (dn : ℕ) (done : NodeCommand)
    (its : line.command ≡ Admin (admin_command dn done))
    (coherent : Coherent) (there : dn < length opening.nodes) where
  has_been : (runs : Bool) (before seen story : List Event) → HasStarted before line → HasBeen Coherent dn runs before seen → BeginsWith story seen
      → HeldSince story line (IsAsCommanded dn runs)
  has_been runs before seen story started been begins =
      let whole = through story seen been.place begins been.within in
      record {
        place = been.place;
        behind = whole.0;
        parts = whole.1;
        started = started_later before been.place line been.since started;
        held = been.held coherent;
      }

  was_wiped : (before seen story : List Event) → HasStarted before line → HasTold Coherent dn (Wipe dn) before seen → BeginsWith story seen
      → WasWiped story line dn
  was_wiped before seen story started told begins =
      let from = starts line before started in
      let since = told.front ++ by_node dn (Wipe dn) ∷ told.behind in
      let whole = through story seen (before ++ since) begins told.within in
      let here : before ++ since ≡ from.start ++ (from.behind ++ since) = ap (λ (l : List Event). l ++ since) from.parts
      ∙ append_assoc from.start from.behind since in
      record {
        start = from.start;
        is_start = record {
          behind = (from.behind ++ since) ++ whole.0;
          parts = whole.1 ∙ (ap (λ (l : List Event). l ++ whole.0) here ∙ append_assoc from.start (from.behind ++ since) whole.0);
          started = from.started;
          first = from.first;
        };
        until = from.behind ++ since;
        behind = whole.0;
        parts = whole.1 ∙ (ap (λ (l : List Event). l ++ whole.0) here ∙ append_assoc from.start (from.behind ++ since) whole.0);
        wiped = wipe_in from.behind told.front told.behind;
        agrees = subst (λ (l : List Event). is_up dn l ≡ is_running dn l) here (told.agrees coherent);
      }
    where
      either_true : (a b : Bool) → b ≡ true → (a || b) ≡ true
      either_true true b is = refl
      either_true false b is = is

      first_true : (a b : Bool) → a ≡ true → (a || b) ≡ true
      first_true true b is = refl
      first_true false b is = absurd (false≢true is)

      has_later : (first rest : List Event) → has_event (wipes dn) rest ≡ true → has_event (wipes dn) (first ++ rest) ≡ true
      has_later first rest has = list_any-append (λ (event : Event). wipes dn event.kind) first rest
          ∙ either_true (has_event (wipes dn) first) (has_event (wipes dn) rest) has

      wipe_in : (first front rest : List Event) → has_event (wipes dn) (first ++ (front ++ by_node dn (Wipe dn) ∷ rest)) ≡ true
      wipe_in first front rest =
          has_later first (front ++ by_node dn (Wipe dn) ∷ rest) (has_later front (by_node dn (Wipe dn) ∷ rest)
          (first_true (wipes dn (Wipe dn)) (has_event (wipes dn) rest) (eq-eqb dn dn refl)))

  done_as : (d : NodeCommand) (before seen story : List Event) → HasStarted before line → WasDone Coherent dn d before seen → BeginsWith story seen
      → IsUnhalted opening story dn
      → AdminIsDone opening story line (admin_command dn d) values.Done
  done_as command.Stop before seen story started was begins unhalted = (unhalted, has_been false before seen story started was begins, refl)
  done_as command.Start before seen story started was begins unhalted = (unhalted, has_been true before seen story started was begins, refl)
  done_as command.Wipe before seen story started was begins unhalted = (unhalted, was_wiped before seen story started was begins, refl)

  pub done_due : (before seen story : List Event) → HasStarted before line → WasDone Coherent dn done before seen → BeginsWith story seen
      → halt_of (Datanode dn) story ≡ None
      → IsDue opening bytes script story line (answers.Ok values.Done)
  done_due before seen story started was begins none =
      subst (λ (c : Command). LineIsDone opening bytes script story line c values.Done) (sym its)
      (done_as done before seen story started was begins (record { there = there; unhalted = none }))

-- the line names the datanode
names_as : (dn : ℕ) (done : NodeCommand) → NamesNode (Admin (admin_command dn done)) dn
names_as dn command.Stop = refl
names_as dn command.Start = refl
names_as dn command.Wipe = refl

pub names_its : (line : Line) (dn : ℕ) (done : NodeCommand) → line.command ≡ Admin (admin_command dn done) → NamesNode line.command dn
names_its line dn done its = subst (λ (c : Command). NamesNode c dn) (sym its) (names_as dn done)

pub halted_due : (opening : Opening) (bytes : OpeningBytes) (script : Script) (line : Line) (dn : ℕ) (done : NodeCommand) (count : ℕ) (story : List Event)
    → line.command ≡ Admin (admin_command dn done) → halt_of (Datanode dn) story ≡ Some count
    → IsDue opening bytes script story line (answers.NodeHalted dn count)
halted_due opening bytes script line dn done count story its is = (names_its line dn done its, is)

pub no_node_due : (opening : Opening) (bytes : OpeningBytes) (script : Script) (line : Line) (dn : ℕ) (done : NodeCommand) (story : List Event)
    → line.command ≡ Admin (admin_command dn done) → length opening.nodes ≤ dn → IsDue opening bytes script story line answers.NoSuchNode
no_node_due opening bytes script line dn done story its out = (dn, names_its line dn done its, out)
