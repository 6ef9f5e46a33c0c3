-- What came of a transaction that was sent to a datanode.
use Rattle.std.proofs.Common.{◌≡◌, ℕ, Bool, true, false, ◌==◌, ◌&&◌, ◌||◌, List, [], ◌∷◌, ◌++◌, Option, None, Some, eq-eqb, refl, sym, ap, ◌∙◌, subst, append_assoc}
use Rattle.std.proofs.lemmas.List.Elements.{filter-append}
use Rattle.std.specs.Prelude.{Result, Ok, Err, IfErr, OnOk, is_some, not, if◌then◌else◌}
use Rattle.oz_buffer.specs.Buffer.{AllFollow, Follows}
use Rattle.oz_core.specs.declared.event.Event.{Event}
use Rattle.oz_core.specs.declared.event.EventKind.{EventKind}
use Rattle.oz_core.specs.declared.event.EventKind.TheVariants.{Halt}
use Rattle.oz_core.specs.declared.event.Node.{Node as AnyNode}
use Rattle.oz_core.specs.declared.event.Node.TheVariants.{Datanode, Scm}
use Rattle.oz_core.specs.declared.opening.Opening.{Opening}
use Rattle.oz_core.specs.Contents.{OpeningBytes}
use Rattle.oz_core.specs.Law.{applies}
use Rattle.oz_core.specs.Manager.{halt_of}
use Rattle.oz_core.specs.Nodes.{is_running}
use Rattle.oz_core.specs.Seats.{scm_seat}
use Rattle.oz_core.specs.Stories.{has_event}
use Rattle.oz_datanode.specs.Datanode.{State, count_of, is_halted}
use Rattle.oz_dellog.specs.declared.txn.Txn.{Txn}
use Rattle.oz_entries.specs.Node.{Node}
use Rattle.oz_node_events.specs.declared.refusal.ChangeRefusal.{ChangeRefusal}
use Rattle.oz_node_events.specs.declared.refusal.ChangeRefusal.TheVariants.{Stopped, Halted, Failed, OutOfMemory}
use Rattle.oz_node_events.specs.Changing.{ComesOf}
use Rattle.oz_node_events.specs.Commands.{by_node}
use Rattle.oz_node_events.specs.Deleting.{delete_kind}
use Rattle.oz_node_events.specs.NodeSeat.{IsAppended, SeatView, StandsFor, events_of}
use Rattle.oz_scm.specs.Scm.{State as ScmState}
use Rattle.oz_scm.specs.grants.Made.{Made}
use Rattle.oz_scm_events.specs.declared.acking.AckFault.{AckFault}
use Rattle.oz_scm_events.specs.declared.acking.AckFault.TheVariants as acks
use Rattle.oz_scm_events.specs.Kept.{IsKept}
use Rattle.oz_scm_events.specs.Noted.{IsNoteRefusal, own_noted}
use Rattle.oz_script.specs.declared.lines.script.Script.{Script}
use Rattle.oz_turn.specs.Told.{BeginsWith, own_entries}
use Rattle.oz_world.specs.Disk.{Images}
use Rattle.oz_service.specs.declared.deleting.noted.Noted.{Noted}
use Rattle.oz_service.specs.Deleting.{AppliedSo, IsNotedSo, WasApplied, WasNoted, WasTold}

-- ---- an event that was told since

pub was_told : (event : Event) (one seen after : List Event) → IsAppended event one seen after → WasTold event seen after
was_told event one seen after told =
    let rest : List Event = told.goes_on.0 in
    let first : List Event = told.begins_other.0 in
    record {
      front = first;
      behind = rest;
      parts = (told.goes_on.1 ∙ append_assoc told.before (event ∷ []) rest)
          ∙ (ap (λ (l : List Event). l ++ event ∷ rest) told.begins_other.1 ∙ append_assoc seen first (event ∷ rest));
    }

-- it stands in each story that goes on
pub told_later : (event : Event) (seen story more : List Event) → BeginsWith more story → WasTold event seen story → WasTold event seen more
told_later event seen story more begins told = record {
  front = told.front;
  behind = told.behind ++ begins.0;
  parts = begins.1 ∙ (ap (λ (l : List Event). l ++ begins.0) told.parts
      ∙ (append_assoc seen (told.front ++ event ∷ told.behind) begins.0
      ∙ ap (λ (l : List Event). seen ++ l) (append_assoc told.front (event ∷ told.behind) begins.0)));
}

or_yes : (t rest : Bool) → t ≡ true → (t || rest) ≡ true
or_yes true rest is = refl
or_yes false rest is = absurd cc

or_later : (t rest : Bool) → rest ≡ true → (t || rest) ≡ true
or_later true rest is = refl
or_later false rest is = is

has_told : (is : EventKind → Bool) (event : Event) (front behind : List Event) → is event.kind ≡ true → has_event is (front ++ event ∷ behind) ≡ true
has_told is event [] behind so = or_yes (is event.kind) (has_event is behind) so
has_told is event (first ∷ front) behind so =
    or_later (is first.kind) (has_event is (front ++ event ∷ behind)) (has_told is event front behind so)

both_same : (dn number : ℕ) → (dn == dn && number == number) ≡ true
both_same dn number = ap (λ (t : Bool). t && number == number) (eq-eqb dn dn refl) ∙ eq-eqb number number refl

-- who applied a transaction has an event of that
pub has_applied : (dn : ℕ) (txn : Txn) (seen story : List Event) → WasApplied dn txn seen story → has_event (applies dn txn.number) story ≡ true
has_applied dn txn seen story was =
    let event : Event = by_node dn (delete_kind dn was.held txn) in
    let told = was.told in
    ap (has_event (applies dn txn.number)) (told.parts ∙ sym (append_assoc seen told.front (event ∷ told.behind)))
    ∙ has_told (applies dn txn.number) event (seen ++ told.front) told.behind (both_same dn txn.number)

pub applied_later : (dn : ℕ) (txn : Txn) (seen story more : List Event) → BeginsWith more story → WasApplied dn txn seen story → WasApplied dn txn seen more
applied_later dn txn seen story more begins was =
    record { held = was.held; told = told_later (by_node dn (delete_kind dn was.held txn)) seen story more begins was.told }

-- a Halt with its count, where there is one
abbrev halt_by : Bool → ℕ → Option ℕ
halt_by halted count = if halted then Some count else None

-- ---- what a datanode's seat has told of it

module _ {D : Type 0} (told : D → Option (List ℕ)) (clock : D → ℕ) (image : D → Images) (faults : D → ℕ) (Coherent : Type 0) (opening : Opening) (bytes : OpeningBytes)
    (script : Script) (loaded : AnyNode → ℕ)
    (halt_own : (story : List Event) (dn : ℕ) → AllFollow (Follows Coherent opening bytes script) [] story → halt_of (Datanode dn) story ≡ halt_of (Datanode dn) (events_of dn story))
    (running_own : (story : List Event) (dn : ℕ) → Coherent → AllFollow (Follows Coherent opening bytes script) [] story → is_running dn story ≡ is_running dn (events_of dn story))
    (runs : (view : SeatView) (node : State D) → StandsFor told clock image faults Coherent opening bytes script loaded view node → is_halted node ≡ false
    → is_running view.dn view.mine ≡ not node.stopped)
    (txn : Txn) (held : Node) (seen : List Event) (view later : SeatView) (old new : State D) where
  abbrev Comes : Result (Unit {0}) ChangeRefusal → Type 0
  Comes came = ComesOf told clock image faults Coherent opening bytes script loaded (Some (delete_kind view.dn held txn)) seen view later old new came

  halt_seen : (came : Result (Unit {0}) ChangeRefusal) → Comes came → halt_of (Datanode view.dn) later.seen ≡ halt_by (is_halted new) (count_of faults new)
  halt_seen came comes =
      subst (λ (n : ℕ). halt_of (Datanode n) later.seen ≡ halt_by (is_halted new) (count_of faults new)) comes.number
      (halt_own later.seen later.dn comes.kept.follow ∙ (ap (halt_of (Datanode later.dn)) comes.kept.own ∙ comes.stands.halt))

  runs_not : (came : Result (Unit {0}) ChangeRefusal) → Comes came → is_halted new ≡ false → new.stopped ≡ true → Coherent → is_running view.dn later.seen ≡ false
  runs_not came comes unhalted stopped coherent =
      subst (λ (n : ℕ). is_running n later.seen ≡ false) comes.number
      (running_own later.seen later.dn coherent comes.kept.follow
      ∙ (ap (is_running later.dn) comes.kept.own ∙ (runs later new comes.stands unhalted ∙ ap not stopped)))

  pub applied_so : (came : Result (Unit {0}) ChangeRefusal) → Comes came → AppliedSo Coherent view.dn txn seen later.seen came
  applied_so (Ok done) comes =
      record { held = held; told = was_told (by_node view.dn (delete_kind view.dn held txn)) view.seen seen later.seen comes.given }
  applied_so (Err Stopped) comes =
      let same : new ≡ old = comes.refused.2 in
      let unhalted : is_halted new ≡ false = ap is_halted same ∙ comes.refused.0 in
      let stopped : new.stopped ≡ true = ap (λ (n : State D). n.stopped) same ∙ comes.refused.1 in
      (halt_seen (Err Stopped) comes ∙ ap (λ (t : Bool). halt_by t (count_of faults new)) unhalted, runs_not (Err Stopped) comes unhalted stopped)
  applied_so (Err (Halted count)) comes =
      let same : new ≡ old = comes.refused.2 in
      halt_seen (Err (Halted count)) comes
      ∙ (ap (λ (n : State D). halt_by (is_halted n) (count_of faults n)) same
      ∙ (ap (λ (t : Bool). halt_by t (count_of faults old)) comes.refused.0 ∙ ap Some (sym comes.refused.1)))
  applied_so (Err (Failed count)) comes =
      was_told (by_node view.dn (Halt (Datanode view.dn) count)) view.seen seen later.seen comes.given
  applied_so (Err OutOfMemory) comes = tt

-- ---- what the storage container manager has noted

none_where : (stopped : Bool) (faults : ℕ) → halt_by stopped faults ≡ None → stopped ≡ false
none_where true faults is = absurd cc
none_where false faults is = refl

some_where : (stopped : Bool) (faults : ℕ) → is_some (halt_by stopped faults) ≡ stopped
some_where true faults = refl
some_where false faults = refl

runs_where : (stopped : Bool) (answer : Result (Unit {0}) AckFault) (faults : ℕ) (halt : Option ℕ) → (stopped ≡ true → (count : ℕ) × (answer ≡ Err (acks.Stopped count)))
    → halt ≡ halt_by stopped faults → OnOk answer (halt ≡ None)
runs_where true answer faults halt halted is =
    let it = halted refl in
    subst (λ (a : Result (Unit {0}) AckFault). OnOk a (halt ≡ None)) (sym it.1) tt
runs_where false (Ok done) faults halt halted is = is
runs_where false (Err fault) faults halt halted is = tt

-- what a seat had given it has given
pub own_begins : (later seen : List Event) → BeginsWith later seen
    → BeginsWith (own_entries (λ (event : Event). event.seat) scm_seat later) (own_entries (λ (event : Event). event.seat) scm_seat seen)
own_begins later seen begins = (
  own_entries (λ (event : Event). event.seat) scm_seat begins.0,
  ap (own_entries (λ (event : Event). event.seat) scm_seat) begins.1 ∙ filter-append (λ (event : Event). event.seat == scm_seat) seen begins.0,
)

pub noted_so : {D : Type 0} (opening : Opening) (loaded : ℕ) (scm : ScmState D) (faults : ℕ) (seen mine later : List Event) (kind : EventKind) (is_due : Made → Bool)
    (answer : Result (Unit {0}) AckFault) → IsKept opening loaded scm faults seen mine → later ≡ own_noted scm.stopped kind mine answer
    → (scm.stopped ≡ true → (count : ℕ) × (answer ≡ Err (acks.Stopped count)))
    → OnOk answer (is_due scm.made ≡ true) → IfErr answer (IsNoteRefusal later (is_due scm.made)) → IsNotedSo opening kind is_due mine later answer
noted_so opening loaded scm faults seen mine later kind is_due answer kept given halted due refused = record {
  made = scm.made;
  is_made = λ none. record {
    nodes = kept.nodes;
    next = kept.next;
    containers = kept.made;
    log = kept.log (none_where scm.stopped faults (sym kept.halt ∙ none));
  };
  given = given ∙ ap (λ (t : Bool). own_noted t kind mine answer) (sym (ap is_some kept.halt ∙ some_where scm.stopped faults));
  running = runs_where scm.stopped answer faults (halt_of Scm mine) halted kept.halt;
  due = due;
  refused = refused;
}

-- what was noted behind a story was noted behind each before it
pub noted_since : (opening : Opening) (dn number : ℕ) (later seen story : List Event) (noted : Noted) → BeginsWith later seen
    → WasNoted opening dn number later story noted → WasNoted opening dn number seen story noted
noted_since opening dn number later seen story noted begins was =
    let own = own_begins later seen begins in
    record {
      before = was.before;
      between = was.between;
      behind = was.behind;
      since = (
        own.0 ++ was.since.0,
        was.since.1 ∙ (ap (λ (l : List Event). l ++ was.since.0) own.1
            ∙ append_assoc (own_entries (λ (event : Event). event.seat) scm_seat seen) own.0 was.since.0),
      );
      acknowledged = was.acknowledged;
      retired = was.retired;
      own = was.own;
    }
