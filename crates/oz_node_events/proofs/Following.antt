-- What comes of a note may follow a story in which the seat stands for its datanode.
use Rattle.std.proofs.Common.{◌≡◌, ◌≢◌, inl, inr, ◌⊎◌, ⊎_elim, ℕ, ◌+◌, ◌-◌, ◌^◌, ◌≤◌, ◌<◌, Bool, true, false, ◌&&◌, cond, List, [], length, Option, None, Some, Contains, refl, sym, ap, ◌∙◌, subst, arith}
use Rattle.std.proofs.lemmas.Bool.{false≢true}
use Rattle.std.specs.Prelude.{not, is_none, is_some, min}
use Rattle.oz_buffer.specs.Buffer.{AllFollow, Follows}
use Rattle.oz_container.specs.declared.state.State.{State as ReplicaState}
use Rattle.oz_container.specs.declared.state.State.TheVariants as states
use Rattle.oz_core.specs.declared.event.Event.{Event}
use Rattle.oz_core.specs.declared.event.EventKind.{EventKind}
use Rattle.oz_core.specs.declared.event.EventKind.TheVariants as events
use Rattle.oz_core.specs.declared.event.Node.{Node}
use Rattle.oz_core.specs.declared.event.Node.TheVariants.{Datanode}
use Rattle.oz_core.specs.declared.event.PutRefusal.{PutRefusal}
use Rattle.oz_core.specs.declared.event.PutRefusal.TheVariants as refusals
use Rattle.oz_core.specs.declared.opening.Opening.{Opening}
use Rattle.oz_core.specs.Contents.{OpeningBytes}
use Rattle.oz_core.specs.Law.{IsReason as IsReasonByLaw, IsFull as IsFullByLaw}
use Rattle.oz_core.specs.Manager.{halt_of}
use Rattle.oz_core.specs.Nodes.{is_running, stopped_or_started}
use Rattle.oz_core.specs.Seats.{IsDatanodeSeat, datanode_seat}
use Rattle.oz_core.specs.Stories.{last_told}
use Rattle.oz_datanode.specs.Datanode.{State, Runs, count_of, is_halted, meta_of, node_in, slots_of}
use Rattle.oz_datanode.specs.Writing.{is_open}
use Rattle.oz_entries.specs.declared.row.BlockRow.{BlockRow}
use Rattle.oz_fields.specs.declared.block.Block.{Block}
use Rattle.oz_fields.specs.declared.block.TheConstants.{LONGEST_PIECE}
use Rattle.oz_node_events.specs.full.Full.{JournalStands, RowsAreHeld}
use Rattle.oz_script.specs.declared.lines.script.Script.{Script}
use Rattle.oz_replicas.specs.Notes.{Subject, Leads}
use Rattle.oz_replicas.specs.Outcomes.{IsFull, IsReason}
use Rattle.oz_replicas.specs.declared.note.Note.{Note}
use Rattle.oz_replicas.specs.declared.note.Note.TheVariants as notes
use Rattle.oz_requests.specs.declared.request.AskId.{AskId}
use Rattle.oz_world.specs.Disk.{Images}
use Rattle.oz_world.specs.Faults.{Rose}
use Rattle.oz_node_events.specs.NodeSeat.{SeatView, StandsFor, events_of}
use Rattle.oz_node_events.specs.Noting.{MayNote, event_of}
use Rattle.oz_node_events.proofs.Telling.{halt_own, line_own}

-- ---- what stops a datanode

pub not_halted : (h : Bool) (count : ℕ) (rest : Option ℕ) → cond h (Some count) rest ≡ None → h ≡ false
not_halted true count rest none = absurd cc
not_halted false count rest none = refl

pub not_stopped : (h s : Bool) (count : ℕ) → cond h (Some count) (cond s (Some 0) None) ≡ None → s ≡ false
not_stopped true s count none = absurd cc
not_stopped false true count none = absurd cc
not_stopped false false count none = refl

-- why it doesn't run, and with which count
stopped : (h s : Bool) (count said : ℕ) (halt : Option ℕ) (line : Bool) → halt ≡ cond h (Some count) None → line ≡ not s
    → cond h (Some count) (cond s (Some 0) None) ≡ Some said
    → ((is_none halt && line) ≡ false) × ((said ≡ 0) ⊎ (halt ≡ Some said))
stopped true s count said halt line is goes stop =
    (ap (λ (o : Option ℕ). is_none o && line) is, inr (is ∙ stop))
stopped false true count said halt line is goes stop = (
  ap (λ (o : Option ℕ). is_none o && line) is ∙ goes,
  inl (same stop),
) where
  same : Some 0 ≡ Some said → said ≡ 0
  same e = cc
stopped false false count said halt line is goes stop = absurd cc

one_rose : (before now : ℕ) → Rose before now → 1 ≤ now
one_rose before now rose = grind (arith, rose)

counted : (count one two : ℕ) → count ≡ min (one + two) (2 ^ 64 - 1) → (1 ≤ one) ⊎ (1 ≤ two) → 1 ≤ count
counted count one two is some = ⊎_elim (λ le. grind (arith, is, le)) (λ le. grind (arith, is, le)) some

open_state : (state : ReplicaState) → is_open state ≡ false → state ≢ states.Open
open_state state shut is = absurd (false≢true (sym shut ∙ ap is_open is))

pub held_row : (o : Option BlockRow) (row : BlockRow) → o ≡ Some row → is_some o ≡ true
held_row o row is = ap is_some is

-- ---- the kinds of a note

pub put_kind : (id : AskId) (first n dn : ℕ) (block other : Block) (size count : ℕ) → n ≡ dn → block ≡ other → size ≡ count
    → events.Put n block id first size ≡ events.Put dn other id first count
put_kind id first n dn block other size count a b c = cc

pub refused_kind : (id : AskId) (refusal : PutRefusal) (n dn : ℕ) (block other : Block) → n ≡ dn → block ≡ other
    → events.Refused n block id refusal ≡ events.Refused dn other id refusal
refused_kind id refusal n dn block other a b = cc

pub bad_kind : (id : AskId) (n dn : ℕ) (block other : Block) → n ≡ dn → block ≡ other → events.Bad n block id ≡ events.Bad dn other id
bad_kind id n dn block other a b = cc

pub halt_kind : (count n dn : ℕ) → n ≡ dn → events.Halt (Datanode n) count ≡ events.Halt (Datanode dn) count
halt_kind count n dn a = cc

-- ---- a story in which the seat stands for the datanode

-- a datanode all of whose slots are taken is full by the law
abbrev pub FilledIsFull : {D : Type 0} → (D → Option (List ℕ)) → (D → ℕ) → Type 0
FilledIsFull {D} told faults =
    (opening : Opening) (story : List Event) (dn : ℕ) (node : State D) (block : Block) (bytes : List ℕ) (used asked capacity : ℕ)
    → JournalStands told node → RowsAreHeld opening story dn (node_in node) → length bytes ≤ LONGEST_PIECE
    → IsFull faults block bytes node used asked capacity → IsFullByLaw opening story dn used asked capacity

module _ (Coherent : Type 0) (opening : Opening) (bytes : OpeningBytes) (script : Script) {D : Type 0} (told : D → Option (List ℕ))
    (clock : D → ℕ) (image : D → Images) (faults : D → ℕ) (view : SeatView) (there : view.dn < length opening.nodes)
    (all : AllFollow (Follows Coherent opening bytes script) [] view.seen) (own : events_of view.dn view.seen ≡ view.mine)
    (id : AskId) (first : ℕ) (subject : Subject) (may : Coherent → MayNote opening bytes script id first subject view.seen)
    (filled : FilledIsFull told faults) (most : length subject.bytes ≤ LONGEST_PIECE) (loaded : Node → ℕ) (old : State D)
    (stood : StandsFor told clock image faults Coherent opening bytes script loaded view old) where
  abbrev May : EventKind → Type 0
  May kind = Follows Coherent opening bytes script view.seen (record { seat = datanode_seat view.dn; kind = kind })

  of_datanode : IsDatanodeSeat opening view.dn (datanode_seat view.dn)
  of_datanode = record { there = there; its = refl }

  halt_now : halt_of (Datanode view.dn) view.seen ≡ cond (is_halted old) (Some (count_of faults old)) None
  halt_now = halt_own Coherent opening bytes script view.dn view.seen all ∙ (ap (halt_of (Datanode view.dn)) own ∙ stood.halt)

  line_now : Coherent → last_told (stopped_or_started view.dn) true view.seen ≡ not old.stopped
  line_now coherent =
      line_own Coherent opening bytes script view.dn coherent view.seen all ∙ (ap (last_told (stopped_or_started view.dn) true) own ∙ stood.line)

  unhalted : Runs faults old → halt_of (Datanode view.dn) view.seen ≡ None
  unhalted ran =
      halt_now ∙ ap (λ (t : Bool). cond t (Some (count_of faults old)) None) (not_halted (is_halted old) (count_of faults old) _ ran)

  runs : Coherent → Runs faults old → is_running view.dn view.seen ≡ true
  runs coherent ran =
      ap (λ (o : Option ℕ). is_none o && last_told (stopped_or_started view.dn) true view.seen) (unhalted ran)
      ∙ (line_now coherent ∙ ap not (not_stopped (is_halted old) old.stopped (count_of faults old) ran))

  reason : Coherent → (refusal : PutRefusal) → IsReason faults subject.block subject.bytes old refusal → IsReasonByLaw opening view.seen view.dn subject.block refusal
  reason coherent (refusals.Stopped count) why =
      stopped (is_halted old) old.stopped (count_of faults old) count (halt_of (Datanode view.dn) view.seen) (last_told (stopped_or_started view.dn) true view.seen)
      halt_now (line_now coherent) why
  reason coherent (refusals.Full used asked capacity) why =
      let up = not_halted (is_halted old) (count_of faults old) _ why.took.served.ran in
      filled opening view.seen view.dn old subject.block subject.bytes used asked capacity
      (stood.journal coherent up) (record { held = stood.held coherent up; lengths = stood.whole coherent up }) most why
  reason coherent (refusals.NotOpen state) why = (
    stood.closed coherent (not_halted (is_halted old) (count_of faults old) _ why.ran) subject.block.container
        ∙ ap not (ap is_open (sym why.is) ∙ why.not_open),
    open_state state why.not_open,
  )

  pub note_follows : (note : Note) (new : State D) → Leads told clock image faults subject note old new → May (event_of id first note).kind
  note_follows (notes.Put n block size) new leads =
      let took = leads.4.took in
      let up = not_halted (is_halted old) (count_of faults old) _ took.served.ran in
      subst May (sym (put_kind id first n view.dn block subject.block size (length subject.bytes) (leads.0.its ∙ stood.number) leads.1 leads.2))
      (record {
        of_seat = tt;
        enabled = λ coherent.
            let piece = (may coherent).piece leads.3.least in
            record {
              of_datanode = of_datanode;
              runs = runs coherent took.served.ran;
              member = piece.members view.dn (subst (λ (m : ℕ). Contains subject.members m) (leads.0.its ∙ stood.number) leads.0.member);
              unclosed = stood.closed coherent up subject.block.container ∙ ap not took.served.is;
              new = stood.held coherent up subject.block ∙ took.absent;
              before = piece.before;
              granted = piece.granted;
              place = piece.place;
              some = leads.3.least;
              within = leads.3.most;
            };
        fits = λ coherent.
            let piece = (may coherent).piece leads.3.least in
            record { content = subject.bytes; its = piece.content; whole = refl };
      })
  note_follows (notes.Refused n block refusal) new leads =
      subst May (sym (refused_kind id refusal n view.dn block subject.block (leads.0.its ∙ stood.number) leads.1))
      (record {
        of_seat = tt;
        enabled = λ coherent. record { of_datanode = of_datanode; named = (may coherent).named; reason = reason coherent refusal leads.2 };
        fits = λ coherent. (may coherent).started;
      })
  note_follows (notes.Halt n count) new leads =
      let halts = leads.1 in
      subst May (sym (halt_kind count n view.dn (leads.0.its ∙ stood.number)))
      (record {
        of_seat = of_datanode;
        enabled = λ coherent. record {
          of_node = of_datanode;
          unhalted = unhalted halts.ran;
          counted = counted count (faults (meta_of new)) (faults (slots_of new)) halts.counted
              (⊎_elim
              (λ rose. inl (one_rose (faults (meta_of old)) (faults (meta_of new)) rose))
              (λ rose. inr (one_rose (faults (slots_of old)) (faults (slots_of new)) rose)) halts.cause);
        };
        fits = λ coherent. tt;
      })
  note_follows (notes.Bad n block) new leads =
      subst May (sym (bad_kind id n view.dn block subject.block (leads.0.its ∙ stood.number) leads.1))
      (record {
        of_seat = tt;
        enabled = λ coherent. record {
          of_datanode = of_datanode;
          held = stood.held coherent (not_halted (is_halted old) (count_of faults old) _ leads.2.bad.ran) subject.block
              ∙ held_row ((node_in old).rows subject.block) leads.2.bad.row leads.2.bad.held;
          named = (may coherent).named;
        };
        fits = λ coherent. (may coherent).started;
      })
