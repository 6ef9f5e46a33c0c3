-- What a note comes to for the noter and for the seat.
use Rattle.std.proofs.Common.{◌≡◌, ℕ, false, List, [], ◌∷◌, ◌++◌, length, eq-eqb, refl, sym, ap, ◌∙◌, subst, append_assoc, append-nil, length-append, arith}
use Rattle.std.proofs.Common.{Option}
use Rattle.std.specs.Borrow.{GName}
use Rattle.oz_buffer.specs.Buffer.{AllFollow, Follows}
use Rattle.oz_core.specs.declared.event.Event.{Event}
use Rattle.oz_core.specs.declared.event.EventKind.TheVariants.{Put}
use Rattle.oz_core.specs.declared.event.Node.{Node}
use Rattle.oz_core.specs.declared.opening.Opening.{Opening}
use Rattle.oz_core.specs.Asks.{is_told}
use Rattle.oz_core.specs.Contents.{OpeningBytes}
use Rattle.oz_core.specs.Seats.{datanode_seat}
use Rattle.oz_core.specs.Stories.{has_event}
use Rattle.oz_datanode.specs.Datanode.{State}
use Rattle.oz_fields.specs.declared.block.Block.{Block}
use Rattle.oz_script.specs.declared.lines.script.Script.{Script}
use Rattle.oz_replicas.specs.Notes.{IfPut, Subject, Leads}
use Rattle.oz_replicas.specs.declared.note.Note.{Note}
use Rattle.oz_replicas.specs.declared.note.Note.TheVariants as notes
use Rattle.oz_requests.specs.declared.request.AskId.{AskId}
use Rattle.oz_turn.specs.Told.{BeginsWith}
use Rattle.oz_world.specs.Disk.{Images}
use Rattle.oz_node_events.specs.NodeSeat.{IsAppended, IsKept, PutsUntold, SeatView, StandsFor, events_of, is_bad}
use Rattle.oz_node_events.specs.Noting.{AreTold, IsNotedBy, IsNoting, NotingView, event_of}
use Rattle.oz_node_events.proofs.Following.{FilledIsFull, note_follows}
use Rattle.oz_node_events.proofs.Leading.{PutStands, stands_after}
use Rattle.oz_node_events.proofs.Moving.{follow_behind, follow_front, same_view, stands_on}
use Rattle.oz_node_events.proofs.Telling.{its_kept, its_parts, no_length}

pub begins_through : (a b c : List Event) → BeginsWith a b → BeginsWith b c → BeginsWith a c
begins_through a b c first then = (then.0 ++ first.0, first.1 ∙ (ap (λ l. l ++ first.0) then.1 ∙ append_assoc c then.0 first.0))

follow_first : (Follow : List Event → Event → Type 0) (before : List Event) (event : Event) (rest : List Event) → AllFollow Follow before (event ∷ rest) → Follow before event
unfolding AllFollow
follow_first Follow before event rest all = all.0

-- the event of a note is of the datanode's seat
event_is : {D : Type 0} (told : D → Option (List ℕ)) (clock : D → ℕ) (image : D → Images) (faults : D → ℕ) (id : AskId) (first dn : ℕ) (subject : Subject) (old new : State D) (note : Note)
    → old.id ≡ dn → Leads told clock image faults subject note old new → event_of id first note ≡ record { seat = datanode_seat dn; kind = (event_of id first note).kind }
event_is told clock image faults id first dn subject old new (notes.Put n block size) number leads =
    ap (λ (m : ℕ). record { seat = datanode_seat m; kind = (event_of id first (notes.Put n block size)).kind }) (leads.0.its ∙ number)
event_is told clock image faults id first dn subject old new (notes.Refused n block refusal) number leads =
    ap (λ (m : ℕ). record { seat = datanode_seat m; kind = (event_of id first (notes.Refused n block refusal)).kind }) (leads.0.its ∙ number)
event_is told clock image faults id first dn subject old new (notes.Halt n count) number leads =
    ap (λ (m : ℕ). record { seat = datanode_seat m; kind = (event_of id first (notes.Halt n count)).kind }) (leads.0.its ∙ number)
event_is told clock image faults id first dn subject old new (notes.Bad n block) number leads =
    ap (λ (m : ℕ). record { seat = datanode_seat m; kind = (event_of id first (notes.Bad n block)).kind }) (leads.0.its ∙ number)

-- what is put by a note is put for the ask's line
pub note_untold : (id : AskId) (first : ℕ) (note : Note) (story : List Event) → IfPut note (is_told id.client id.line story ≡ false)
    → PutsUntold (event_of id first note).kind story
note_untold id first (notes.Put n block size) story untold dn other by place count is =
    subst (λ (i : AskId). is_told i.client i.line story ≡ false) (same_ask n first size dn place count block other id by is) untold
  where
    same_ask : (n first size dn place count : ℕ) (block other : Block) (id by : AskId) → Put n block id first size ≡ Put dn other by place count → id ≡ by
    same_ask n first size dn place count block other id by is = cc
note_untold id first (notes.Refused n block refusal) story may dn other by place count is = absurd (cc is)
note_untold id first (notes.Halt n count) story may dn other by place size is = absurd (cc is)
note_untold id first (notes.Bad n block) story may dn other by place count is = absurd (cc is)

-- ---- the parts of a story in which the seat gave one event more

module _ (dn : ℕ) (event : Event) (its : event.seat ≡ datanode_seat dn) (seen before more mine after : List Event) (known : events_of dn seen ≡ mine)
    (begins : BeginsWith before seen) (parts : after ≡ (before ++ event ∷ []) ++ more) (given : events_of dn after ≡ mine ++ event ∷ []) where
  one_own : events_of dn (event ∷ []) ≡ event ∷ []
  one_own = its_kept dn event [] (eq-eqb event.seat (datanode_seat dn) its)

  all_parts : (events_of dn before ++ event ∷ []) ++ events_of dn more ≡ mine ++ event ∷ []
  all_parts =
      sym (ap (events_of dn) parts
      ∙ (its_parts dn (before ++ event ∷ []) more
      ∙ ap (λ l. l ++ events_of dn more) (its_parts dn before (event ∷ []) ∙ ap (λ l. events_of dn before ++ l) one_own)))
      ∙ given

  before_parts : events_of dn before ≡ mine ++ events_of dn begins.0
  before_parts = ap (events_of dn) begins.1 ∙ (its_parts dn seen begins.0 ∙ ap (λ l. l ++ events_of dn begins.0) known)

  none_since : events_of dn begins.0 ≡ []
  none_since =
      let a = ap length all_parts in
      let b = length-append (events_of dn before ++ event ∷ []) (events_of dn more) in
      let c = length-append (events_of dn before) (event ∷ []) in
      let d = length-append mine (event ∷ []) in
      let e = ap length before_parts in
      let f = length-append mine (events_of dn begins.0) in
      no_length (events_of dn begins.0) (omega (arith, a, b, c, d, e, f))

  pub own_before : events_of dn before ≡ mine
  own_before = before_parts ∙ (ap (λ l. mine ++ l) none_since ∙ append-nil mine)

  pub own_behind : events_of dn (before ++ event ∷ []) ≡ mine ++ event ∷ []
  own_behind = its_parts dn before (event ∷ []) ∙ (ap (λ l. l ++ events_of dn (event ∷ [])) own_before ∙ ap (λ l. mine ++ l) one_own)

module _ (Coherent : Type 0) (opening : Opening) (bytes : OpeningBytes) (script : Script) (loaded : Node → ℕ) {D : Type 0} (told : D → Option (List ℕ))
    (clock : D → ℕ) (image : D → Images) (faults : D → ℕ) where
  abbrev Follow : List Event → Event → Type 0
  Follow = Follows Coherent opening bytes script

  pub ready_stands : (node : State D) (view new : SeatView) → IsKept Coherent opening bytes script view → IsKept Coherent opening bytes script new
      → new.dn ≡ view.dn → new.mine ≡ view.mine → BeginsWith new.seen view.seen → StandsFor told clock image faults Coherent opening bytes script loaded view node → StandsFor told clock image faults Coherent opening bytes script loaded new node
  ready_stands node view new kept kept_new number mine begins stood =
      same_view told clock image faults Coherent opening bytes script loaded node (record { dn = view.dn; seen = new.seen; mine = view.mine; room = view.room; last = view.last }) new (sym number) refl (sym mine)
      (stands_on told clock image faults Coherent opening bytes script loaded node view kept stood new.seen view.room begins kept_new.follow
      (ap (λ (n : ℕ). events_of n new.seen) (sym number) ∙ (kept_new.own ∙ mine)))

  pub noting_later : (id : AskId) (first : ℕ) (subject : Subject) (seen later : List Event) → BeginsWith later seen
      → IsNoting Coherent opening bytes script id first subject seen → IsNoting Coherent opening bytes script id first subject later
  noting_later id first subject seen later begins noting = record {
    may = λ coherent story goes all. noting.may coherent story (begins_through story later seen goes begins) all;
    most = noting.most;
  }

  module _ (filled : FilledIsFull told faults) (puts : PutStands told clock image faults) (id : AskId) (first : ℕ) (subject : Subject) (other : List Event) (noting : IsNoting Coherent opening bytes script id first subject other)
      (view : SeatView) (kept : IsKept Coherent opening bytes script view) (note : Note) (old new : State D) (stood : StandsFor told clock image faults Coherent opening bytes script loaded view old)
      (leads : Leads told clock image faults subject note old new) where
    abbrev event : Event
    event = record { seat = datanode_seat view.dn; kind = (event_of id first note).kind }

    pub noted_follows : (story : List Event) → BeginsWith story view.seen → BeginsWith story other → AllFollow (Follows Coherent opening bytes script) [] story → events_of view.dn story ≡ view.mine
        → Follows Coherent opening bytes script story (record { seat = datanode_seat view.dn; kind = (event_of id first note).kind })
    noted_follows story begins others all own =
        note_follows Coherent opening bytes script told clock image faults (record { dn = view.dn; seen = story; mine = view.mine; room = view.room; last = view.last }) kept.there all own id first subject
        (λ coherent. noting.may coherent story others all) filled noting.most loaded old
        (stands_on told clock image faults Coherent opening bytes script loaded old view kept stood story view.room begins all own) note new leads

    pub noted_stands : (later : SeatView) → IsKept Coherent opening bytes script later → later.dn ≡ view.dn
        → later.mine ≡ view.mine ++ record { seat = datanode_seat view.dn; kind = (event_of id first note).kind } ∷ []
        → IsAppended (record { seat = datanode_seat view.dn; kind = (event_of id first note).kind }) view.seen other later.seen
        → StandsFor told clock image faults Coherent opening bytes script loaded later new
    noted_stands later kept_later number mine told_so =
        let before = told_so.before in
        let more = told_so.goes_on.0 in
        let given : events_of view.dn later.seen ≡ view.mine ++ event ∷ [] = ap (λ (n : ℕ). events_of n later.seen) (sym number) ∙ (kept_later.own ∙ mine) in
        let all : AllFollow Follow [] ((before ++ event ∷ []) ++ more) = subst (λ (l : List Event). AllFollow Follow [] l) told_so.goes_on.1 kept_later.follow in
        let all_behind : AllFollow Follow [] (before ++ event ∷ []) = follow_front Follow [] (before ++ event ∷ []) more all in
        let all_before : AllFollow Follow [] before = follow_front Follow [] before (event ∷ []) all_behind in
        let follows : Follow before event = follow_first Follow before event [] (follow_behind Follow [] before (event ∷ []) all_behind) in
        let own = own_before view.dn event refl view.seen before more view.mine later.seen kept.own told_so.begins told_so.goes_on.1 given in
        let own_then = own_behind view.dn event refl view.seen before more view.mine later.seen kept.own told_so.begins told_so.goes_on.1 given in
        let here : SeatView = record { dn = view.dn; seen = before; mine = view.mine; room = view.room; last = view.last } in
        let behind : SeatView = record { dn = view.dn; seen = before ++ event ∷ []; mine = view.mine ++ event ∷ []; room = view.room; last = view.last } in
        let stood_here : StandsFor told clock image faults Coherent opening bytes script loaded here old = stands_on told clock image faults Coherent opening bytes script loaded old view kept stood before view.room told_so.begins all_before own in
        let stood_behind : StandsFor told clock image faults Coherent opening bytes script loaded behind new =
        stands_after Coherent opening bytes script loaded told clock image faults puts here kept.numbered all_before id first subject
        (λ coherent. noting.may coherent before told_so.begins_other all_before) old new stood_here note leads follows in
        let kept_behind : IsKept Coherent opening bytes script behind = record { few = kept.few; there = kept.there; numbered = kept.numbered; own = own_then; follow = all_behind; no_bad = λ coherent. ap (has_event is_bad) (sym mine) ∙ kept_later.no_bad coherent } in
        same_view told clock image faults Coherent opening bytes script loaded new (record { dn = view.dn; seen = later.seen; mine = view.mine ++ event ∷ []; room = view.room; last = view.last }) later (sym number) refl (sym mine)
        (stands_on told clock image faults Coherent opening bytes script loaded new behind kept_behind stood_behind later.seen view.room told_so.goes_on kept_later.follow given)

    pub noted_told : (later : List Event) → IsAppended (record { seat = datanode_seat view.dn; kind = (event_of id first note).kind }) view.seen other later
        → AreTold id first (note ∷ []) other later
    noted_told later told_so =
        let since = told_so.begins_other.0 in
        let more = told_so.goes_on.0 in
        record {
          since = since ++ event ∷ more;
          goes_on = told_so.goes_on.1
              ∙ (append_assoc told_so.before (event ∷ []) more
              ∙ (ap (λ l. l ++ event ∷ more) told_so.begins_other.1 ∙ append_assoc other since (event ∷ more)));
          told = (since, (more, (ap (λ (e : Event). since ++ e ∷ more) (sym (event_is told clock image faults id first view.dn subject old new note stood.number leads)), tt)));
        }

pub appended_begins : (event : Event) (seen other after : List Event) → IsAppended event seen other after → BeginsWith after other
appended_begins event seen other after told_so =
    begins_through after (told_so.before ++ event ∷ []) other told_so.goes_on
    (begins_through (told_so.before ++ event ∷ []) told_so.before other (event ∷ [], refl) told_so.begins_other)

pub noted_as : (inside before after : NotingView) (said : List Note) → inside ≡ before
    → after ≡ record { reference = inside.reference; by = inside.by; seen = after.seen; mine = inside.mine; room = inside.room; id = inside.id; first = inside.first; subject = inside.subject }
    → AreTold inside.id inside.first said inside.seen after.seen → IsNotedBy before said after
noted_as inside before after said is same told =
    subst (λ (v : NotingView). IsNotedBy v said after) is (record { same = same; told = told })

abbrev as_noting : GName → ℕ → List Event → List Event → ℕ → AskId → ℕ → Subject → NotingView
as_noting reference by seen mine room id first subject =
    record { reference = reference; by = by; seen = seen; mine = mine; room = room; id = id; first = first; subject = subject }

pub same_noting : (reference : GName) (seen : List Event) (id : AskId) (first : ℕ) (subject : Subject) {one other : ℕ} {mine given : List Event} {room places : ℕ}
    → one ≡ other → mine ≡ given → room ≡ places
    → as_noting reference one seen mine room id first subject
    ≡ as_noting reference other seen given places id first subject
same_noting reference seen id first subject by mine room =
    λ i. record { reference = reference; by = by i; seen = seen; mine = mine i; room = room i; id = id; first = first; subject = subject }

-- who has seen all that another has
pub seen_alike : (one other : List Event) → one ≡ other → BeginsWith one other
seen_alike one other same = ([], same ∙ sym (append-nil other))
