-- Behind what comes of a note the seat stands for the datanode as it is then.
use Rattle.std.proofs.Common.{◌≡◌, ℕ, Bool, true, false, ◌&&◌, ◌==◌, cond, List, [], ◌∷◌, ◌++◌, ◌≤◌, length, Contains, Option, None, Some, eq-eqb, refl, sym, ap, ◌∙◌, subst}
use Rattle.std.proofs.lemmas.Bool.{and_from, and_parts, eqb-true, false≢true}
use Rattle.std.proofs.lemmas.Option.{same_Some}
use Rattle.std.specs.Prelude.{IsSome, not, is_some}
use Rattle.std.specs.List.{flat_map}
use Rattle.oz_buffer.specs.Buffer.{AllFollow, Follows}
use Rattle.oz_buffer.specs.laws.Following.{told-push}
use Rattle.oz_core.specs.declared.event.Event.{Event}
use Rattle.oz_core.specs.declared.event.EventKind.{EventKind}
use Rattle.oz_core.specs.declared.event.EventKind.TheVariants as events
use Rattle.oz_core.specs.declared.event.Node.{Node}
use Rattle.oz_core.specs.declared.event.Node.TheVariants.{Datanode}
use Rattle.oz_core.specs.declared.opening.Opening.{Opening}
use Rattle.oz_core.specs.Contents.{HasContent, OpeningBytes}
use Rattle.oz_core.specs.Manager.{halt_count, halt_of}
use Rattle.oz_core.specs.Nodes.{closed_after, held_after, holds, is_block, is_closed, length_in, length_of, put_length, stopped_or_started, was_closed}
use Rattle.oz_core.specs.Scm.{logs}
use Rattle.oz_core.specs.Seats.{datanode_seat}
use Rattle.oz_core.specs.Stories.{all_told, first_in, last_told, newer}
use Rattle.oz_datanode.specs.Copying.{Copies}
use Rattle.oz_datanode.specs.Datanode.{State, Runs, count_of, is_halted, meta_of, node_in, slots_of}
use Rattle.oz_datanode.specs.Pairs.{Content, NodeHolds, with_content}
use Rattle.oz_datanode.specs.Writing.{intact, is_open}
use Rattle.oz_datanode.specs.laws.GoingOn.{count_rose, rose_since}
use Rattle.oz_entries.specs.Node.{Node as Held, is_held, is_same_block, with_row}
use Rattle.oz_entries.specs.declared.row.BlockRow.{BlockRow}
use Rattle.oz_fields.specs.declared.block.Block.{Block}
use Rattle.oz_node_events.specs.full.Full.{JournalStands}
use Rattle.oz_kept.specs.reopened.Left.{greatest_after, greatest_of}
use Rattle.oz_script.specs.declared.lines.script.Script.{Script}
use Rattle.oz_replicas.specs.Notes.{Subject, Leads}
use Rattle.oz_replicas.specs.declared.note.Note.{Note}
use Rattle.oz_replicas.specs.declared.note.Note.TheVariants as notes
use Rattle.oz_requests.specs.declared.request.AskId.{AskId}
use Rattle.oz_world.specs.Disk.{Images}
use Rattle.oz_world.specs.Faults.{Rose}
use Rattle.oz_node_events.specs.NodeSeat.{HasContents, NumbersAreOld, SeatView, StandsFor}
use Rattle.oz_node_events.specs.Noting.{MayNote, event_of}
use Rattle.oz_node_events.specs.laws.Contents.{content_push, contents_move}
use Rattle.oz_node_events.specs.laws.Disks.{both_tell, no_fewer_then}
use Rattle.oz_node_events.specs.laws.Standing.{stands_still}
use Rattle.oz_node_events.proofs.Following.{not_halted, put_kind, halt_kind}
use Rattle.oz_node_events.proofs.Greatest.{greatest_push}
use Rattle.oz_node_events.proofs.Holding.{holds_push}
use Rattle.oz_node_events.proofs.Moving.{first_longer, length_longer, length_parts}

-- ---- a block that came to be held

given : (t was : Bool) (row : BlockRow) (rows : Option BlockRow) → was ≡ is_some rows
    → newer (cond t (Some true) None) was ≡ is_some (cond t (Some row) rows)
given true was row rows is = refl
given false was row rows is = is

none_first : {X : Type 0} (l m : List X) → first_in l ≡ None → first_in (l ++ m) ≡ first_in m
none_first [] m none = refl
none_first (x ∷ l) m none = absurd cc

same_block : (block : Block) → is_block block block ≡ true
same_block block =
    and_from (block.container == block.container) (block.local == block.local) (eq-eqb block.container block.container refl) (eq-eqb block.local block.local refl)

-- the length of a block that was put: whoever put it before had as many bytes
put_now : (opening : Opening) (front : List Event) (dn : ℕ) (block : Block) (id : AskId) (first count : ℕ)
    → ((earlier : ℕ) → length_of opening front block ≡ Some earlier → earlier ≡ count)
    → length_of opening (front ++ record { seat = datanode_seat dn; kind = events.Put dn block id first count } ∷ []) block ≡ Some count
put_now opening front dn block id first count alike =
    let event : Event = record { seat = datanode_seat dn; kind = events.Put dn block id first count } in
    let had = flat_map (length_in block) opening.nodes ++ all_told (put_length block) front in
    length_parts opening block front (event ∷ []) ∙ by (first_in had) refl
  where
    told_one : all_told (put_length block) (record { seat = datanode_seat dn; kind = events.Put dn block id first count } ∷ []) ≡ count ∷ []
    told_one = rw (same_block block) refl

    by : (o : Option ℕ) → first_in (flat_map (length_in block) opening.nodes ++ all_told (put_length block) front) ≡ o
        → first_in ((flat_map (length_in block) opening.nodes ++ all_told (put_length block) front)
        ++ all_told (put_length block) (record { seat = datanode_seat dn; kind = events.Put dn block id first count } ∷ [])) ≡ Some count
    by None e =
        none_first (flat_map (length_in block) opening.nodes ++ all_told (put_length block) front) _ e ∙ ap first_in told_one
    by (Some earlier) e =
        first_longer (flat_map (length_in block) opening.nodes ++ all_told (put_length block) front) _ earlier e ∙ ap (λ (n : ℕ). Some n) (alike earlier e)

one_block : (block other : Block) → is_same_block block other ≡ true → block ≡ other
one_block block other same =
    let parts = and_parts (block.container == other.container) (block.local == other.local) same in
    made (eqb-true block.container other.container parts.0) (eqb-true block.local other.local parts.1)
  where
    made : block.container ≡ other.container → block.local ≡ other.local → block ≡ other
    made container local = λ i. record { container = container i; local = local i }

-- ---- behind the event

module _ (Coherent : Type 0) (opening : Opening) (bytes : OpeningBytes) (script : Script) (loaded : Node → ℕ) {D : Type 0} (told : D → Option (List ℕ)) (clock : D → ℕ)
    (image : D → Images) (faults : D → ℕ) (view : SeatView) (numbered : Coherent → NumbersAreOld opening) (all : AllFollow (Follows Coherent opening bytes script) [] view.seen) where
  abbrev pub event_with : EventKind → Event
  event_with kind = record { seat = datanode_seat view.dn; kind = kind }

  -- what the seat has seen then
  abbrev pub after : EventKind → SeatView
  after kind = record { dn = view.dn; seen = view.seen ++ event_with kind ∷ []; mine = view.mine ++ event_with kind ∷ []; room = view.room; last = view.last }

  module _ (kind : EventKind) (follows : Follows Coherent opening bytes script view.seen (event_with kind)) where
    halt_told : halt_of (Datanode view.dn) (view.mine ++ event_with kind ∷ []) ≡ newer (halt_count (Datanode view.dn) kind) (halt_of (Datanode view.dn) view.mine)
    halt_told = told-push (halt_count (Datanode view.dn)) None view.mine (event_with kind)

    line_told : last_told (stopped_or_started view.dn) true (view.mine ++ event_with kind ∷ [])
        ≡ newer (stopped_or_started view.dn kind) (last_told (stopped_or_started view.dn) true view.mine)
    line_told = told-push (stopped_or_started view.dn) true view.mine (event_with kind)

    held_told : Coherent → (block : Block) → holds opening (view.seen ++ event_with kind ∷ []) view.dn block
        ≡ newer (held_after (logs opening view.seen) view.dn block kind) (holds opening view.seen view.dn block)
    held_told coherent block = holds_push Coherent opening bytes script coherent (numbered coherent) view.dn block view.seen (event_with kind) all follows

    closed_told : (container : ℕ) → is_closed opening (view.seen ++ event_with kind ∷ []) view.dn container
        ≡ newer (closed_after view.dn container kind) (is_closed opening view.seen view.dn container)
    closed_told container = told-push (closed_after view.dn container) (was_closed opening view.dn container) view.seen (event_with kind)

    greatest_told : Coherent → (container : ℕ) → greatest_of opening (view.seen ++ event_with kind ∷ []) view.dn container
        ≡ greatest_after (logs opening view.seen) view.dn container (greatest_of opening view.seen view.dn container) kind
    greatest_told coherent container =
        greatest_push Coherent opening bytes script coherent (numbered coherent) view.dn container view.seen (event_with kind) all follows

    -- an event that tells nothing of what is held, closed, applied and stopped by a line
    stands_behind : (old new : State D) → StandsFor told clock image faults Coherent opening bytes script loaded view old → new.id ≡ old.id → node_in new ≡ node_in old → new.stopped ≡ old.stopped
        → newer (halt_count (Datanode view.dn) kind) (halt_of (Datanode view.dn) view.mine) ≡ cond (is_halted new) (Some (count_of faults new)) None
        → stopped_or_started view.dn kind ≡ None
        → ((block : Block) → held_after (logs opening view.seen) view.dn block kind ≡ None)
        → ((container : ℕ) → closed_after view.dn container kind ≡ None)
        → ((container most : ℕ) → greatest_after (logs opening view.seen) view.dn container most kind ≡ most)
        → (Coherent → IsSome (told (meta_of new)) × IsSome (told (slots_of new)))
        → loaded (Datanode view.dn) ≤ count_of faults new
        → (is_halted new ≡ true → Rose (loaded (Datanode view.dn)) (count_of faults new))
        → (is_halted new ≡ false → is_halted old ≡ false)
        → (Coherent → is_halted new ≡ false → JournalStands told new)
        → (Coherent → is_halted new ≡ false → HasContents told clock image faults opening bytes script view.seen new)
        → StandsFor told clock image faults Coherent opening bytes script loaded (after kind) new
    stands_behind old new stood number node stops halt no_line no_held no_closed no_greater tells no_fewer rose was_up journal contents = record {
      number = number ∙ stood.number;
      halt = halt_told ∙ halt;
      line = line_told
          ∙ (ap (λ (o : Option Bool). newer o (last_told (stopped_or_started view.dn) true view.mine)) no_line ∙ (stood.line ∙ sym (ap not stops)));
      tells = tells;
      no_fewer = no_fewer;
      rose = rose;
      held = λ coherent up block.
          held_told coherent block
          ∙ (ap (λ (o : Option Bool). newer o (holds opening view.seen view.dn block)) (no_held block)
          ∙ (stood.held coherent (was_up up) block ∙ sym (ap (λ (n : Held). is_held n block) node)));
      whole = λ coherent up block row is.
          length_longer opening block row.length view.seen (event_with kind ∷ [])
          (stood.whole coherent (was_up up) block row (sym (ap (λ (n : Held). n.rows block) node) ∙ is));
      closed = λ coherent up container.
          closed_told container
          ∙ (ap (λ (o : Option Bool). newer o (is_closed opening view.seen view.dn container)) (no_closed container)
          ∙ (stood.closed coherent (was_up up) container ∙ sym (ap (λ (n : Held). not (is_open (n.states container))) node)));
      greatest = λ coherent up container.
          greatest_told coherent container
          ∙ (no_greater container (greatest_of opening view.seen view.dn container)
          ∙ (stood.greatest coherent (was_up up) container ∙ sym (ap (λ (n : Held). n.greatest container) node)));
      journal = journal;
      contents = λ coherent up.
          contents_move told clock image faults opening bytes script view.seen (view.seen ++ event_with kind ∷ []) new new refl (λ contents holds. holds)
          (content_push Coherent opening bytes script coherent view.seen (event_with kind) all follows) (contents coherent up);
    }

-- ---- each note

-- the journal stands for what is held behind a put
abbrev pub PutStands : {D : Type 0} → (D → Option (List ℕ)) → (D → ℕ) → (D → Images) → (D → ℕ) → Type 0
PutStands {D} told clock image faults =
    (block : Block) (bytes : List ℕ) (old new : State D) → Runs faults old → JournalStands told old → Copies told clock image faults block bytes old new
    → JournalStands told new

module _ (Coherent : Type 0) (opening : Opening) (bytes : OpeningBytes) (script : Script) (loaded : Node → ℕ) {D : Type 0} (told : D → Option (List ℕ))
    (clock : D → ℕ) (image : D → Images) (faults : D → ℕ) (puts : PutStands told clock image faults) (view : SeatView) (numbered : Coherent → NumbersAreOld opening)
    (all : AllFollow (Follows Coherent opening bytes script) [] view.seen) (id : AskId) (first : ℕ) (subject : Subject)
    (may : Coherent → MayNote opening bytes script id first subject view.seen) (old new : State D)
    (stood : StandsFor told clock image faults Coherent opening bytes script loaded view old) where
  abbrev May : EventKind → Type 0
  May kind = Follows Coherent opening bytes script view.seen (record { seat = datanode_seat view.dn; kind = kind })

  abbrev pub Behind : EventKind → Type 0
  Behind kind = StandsFor told clock image faults Coherent opening bytes script loaded (after Coherent opening bytes script loaded told clock image faults view numbered all kind) new

  -- the datanode holds one block more
  put_stands : (size : ℕ) → May (events.Put view.dn subject.block id first size)
      → (leads : Leads told clock image faults subject (notes.Put view.dn subject.block size) old new)
      → size ≡ length subject.bytes → Behind (events.Put view.dn subject.block id first (length subject.bytes))
  put_stands size follows_size leads count =
      let block = subject.block in
      let kind = events.Put view.dn block id first (length subject.bytes) in
      let follows = subst (λ (n : ℕ). May (events.Put view.dn block id first n)) count follows_size in
      let held = leads.4.held in
      let row = held.row in
      let node : node_in new ≡ with_row block row (node_in old) = held.changed.made in
      let ran = not_halted (is_halted old) (count_of faults old) _ leads.4.took.served.ran in
      let runs = not_halted (is_halted new) (count_of faults new) _ held.runs in
      let its : (view.dn == view.dn) ≡ true = eq-eqb view.dn view.dn refl in
      record {
        number = held.id ∙ stood.number;
        halt = halt_told Coherent opening bytes script loaded told clock image faults view numbered all kind follows
            ∙ (stood.halt
            ∙ (ap (λ (t : Bool). cond t (Some (count_of faults old)) None) ran
            ∙ sym (ap (λ (t : Bool). cond t (Some (count_of faults new)) None) runs)));
        line = line_told Coherent opening bytes script loaded told clock image faults view numbered all kind follows ∙ (stood.line ∙ sym (ap not held.line));
        tells = λ coherent. both_tell told faults old new leads.4.goes_on (stood.tells coherent);
        no_fewer = no_fewer_then told faults old new leads.4.goes_on (loaded (Datanode view.dn)) stood.no_fewer;
        rose = λ halted. absurd (false≢true (sym runs ∙ halted));
        held = λ coherent up other.
            held_told Coherent opening bytes script loaded told clock image faults view numbered all kind follows coherent other
            ∙ (ap (λ (t : Bool). newer (cond (t && is_block other block) (Some true) None) (holds opening view.seen view.dn other)) its
            ∙ (given (is_block other block) (holds opening view.seen view.dn other) row ((node_in old).rows other) (stood.held coherent ran other)
            ∙ sym (ap (λ (n : Held). is_held n other) node)));
        whole = λ coherent up other other_row is.
            whole_one coherent ran leads.3.least row held.size (is_same_block block other) other other_row refl (sym (ap (λ (n : Held). n.rows other) node) ∙ is);
        closed = λ coherent up container.
            closed_told Coherent opening bytes script loaded told clock image faults view numbered all kind follows container
            ∙ (stood.closed coherent ran container ∙ sym (ap (λ (n : Held). not (is_open (n.states container))) node));
        greatest = λ coherent up container.
            greatest_told Coherent opening bytes script loaded told clock image faults view numbered all kind follows coherent container
            ∙ (stood.greatest coherent ran container ∙ sym (ap (λ (n : Held). n.greatest container) node));
        journal = λ coherent running.
            puts block subject.bytes old new leads.4.took.served.ran (stood.journal coherent ran) held;
        contents = λ coherent running. put_contents coherent ran follows leads.3.least row node leads.4.holds;
      }
    where
      -- the block has the bytes that were put, and each other one what it had
      put_contents : Coherent → is_halted old ≡ false → May (events.Put view.dn subject.block id first (length subject.bytes)) → 1 ≤ length subject.bytes → (row : BlockRow)
          → node_in new ≡ with_row subject.block row (node_in old)
          → ((contents : Block → Content) → NodeHolds told clock image faults contents old → NodeHolds told clock image faults (with_content subject.block (intact subject.bytes) contents) new)
          → HasContents told clock image faults opening bytes script
          (view.seen ++ record { seat = datanode_seat view.dn; kind = events.Put view.dn subject.block id first (length subject.bytes) } ∷ []) new
      put_contents coherent ran follows some row node holds = record {
        contents = with_content subject.block (intact subject.bytes) had.contents;
        holds = holds had.contents had.holds;
        intact = λ other is. intact_one (is_same_block subject.block other) other refl is;
        its = λ other is. its_one (is_same_block subject.block other) other refl is;
      }
        where
          event : Event
          event = record { seat = datanode_seat view.dn; kind = events.Put view.dn subject.block id first (length subject.bytes) }

          had : HasContents told clock image faults opening bytes script view.seen old
          had = stood.contents coherent ran

          was_held : (other : Block) → is_same_block subject.block other ≡ false → is_held (node_in new) other ≡ true → is_held (node_in old) other ≡ true
          was_held other apart is =
              sym (ap (λ (t : Bool). is_some (cond t (Some row) ((node_in old).rows other))) apart) ∙ (sym (ap (λ (n : Held). is_held n other) node) ∙ is)

          intact_one : (t : Bool) (other : Block) → is_same_block subject.block other ≡ t → is_held (node_in new) other ≡ true
              → (with_content subject.block (intact subject.bytes) had.contents other).intact ≡ true
          intact_one true other same is = ap (λ (t : Bool). (cond t (intact subject.bytes) (had.contents other)).intact) same
          intact_one false other same is =
              ap (λ (t : Bool). (cond t (intact subject.bytes) (had.contents other)).intact) same ∙ had.intact other (was_held other same is)

          its_one : (t : Bool) (other : Block) → is_same_block subject.block other ≡ t → is_held (node_in new) other ≡ true
              → HasContent opening bytes script (view.seen ++ event ∷ []) other (with_content subject.block (intact subject.bytes) had.contents other).bytes
          its_one true other same is =
              subst (λ (t : Bool). HasContent opening bytes script (view.seen ++ event ∷ []) other (cond t (intact subject.bytes) (had.contents other)).bytes) (sym same)
              (subst (λ (b : Block). HasContent opening bytes script (view.seen ++ event ∷ []) b subject.bytes) (one_block subject.block other same)
              (content_push Coherent opening bytes script coherent view.seen event all follows subject.block subject.bytes ((may coherent).piece some).content))
          its_one false other same is =
              subst (λ (t : Bool). HasContent opening bytes script (view.seen ++ event ∷ []) other (cond t (intact subject.bytes) (had.contents other)).bytes) (sym same)
              (content_push Coherent opening bytes script coherent view.seen event all follows other (had.contents other).bytes (had.its other (was_held other same is)))

      whole_one : (coherent : Coherent) → is_halted old ≡ false → 1 ≤ length subject.bytes → (row : BlockRow) → row.length ≡ length subject.bytes → (t : Bool) (other : Block) (other_row : BlockRow)
          → is_same_block subject.block other ≡ t → cond (is_same_block subject.block other) (Some row) ((node_in old).rows other) ≡ Some other_row
          → length_of opening (view.seen ++ record { seat = datanode_seat view.dn; kind = events.Put view.dn subject.block id first (length subject.bytes) } ∷ []) other ≡ Some other_row.length
      whole_one coherent ran some row size true other other_row same is =
          let piece = (may coherent).piece some in
          let its : row ≡ other_row = same_Some row other_row (sym (ap (λ (t : Bool). cond t (Some row) ((node_in old).rows other)) same) ∙ is) in
          subst (λ (b : Block). length_of opening (view.seen ++ record { seat = datanode_seat view.dn; kind = events.Put view.dn subject.block id first (length subject.bytes) } ∷ []) b ≡ Some other_row.length)
          (one_block subject.block other same)
          (put_now opening view.seen view.dn subject.block id first (length subject.bytes) piece.alike
          ∙ ap (λ (n : ℕ). Some n) (sym size ∙ ap (λ (r : BlockRow). r.length) its))
      whole_one coherent ran some row size false other other_row same is =
          length_longer opening other other_row.length view.seen _
          (stood.whole coherent ran other other_row (sym (ap (λ (t : Bool). cond t (Some row) ((node_in old).rows other)) same) ∙ is))

  pub stands_after : (note : Note) → Leads told clock image faults subject note old new → May (event_of id first note).kind → Behind (event_of id first note).kind
  stands_after (notes.Put n block size) leads follows =
      let its = leads.0.its ∙ stood.number in
      let same = put_kind id first n view.dn block subject.block size (length subject.bytes) its leads.1 leads.2 in
      subst Behind (sym same)
      (put_stands (length subject.bytes) (subst May same follows)
      (record { member = subst (λ (m : ℕ). Contains subject.members m) its leads.0.member; its = sym stood.number }, refl, refl, leads.3, leads.4) refl)
  stands_after (notes.Refused n block refusal) leads follows =
      subst (λ (s : State D). StandsFor told clock image faults Coherent opening bytes script loaded (after Coherent opening bytes script loaded told clock image faults view numbered all (events.Refused n block id refusal)) s) (sym leads.3)
      (stands_behind Coherent opening bytes script loaded told clock image faults view numbered all (events.Refused n block id refusal) follows old old stood refl refl refl stood.halt refl (λ block. refl) (λ container. refl) (λ container most. refl) stood.tells stood.no_fewer stood.rose (λ up. up) stood.journal stood.contents)
  stands_after (notes.Halt n count) leads follows =
      let halts = leads.1 in
      let its = leads.0.its ∙ stood.number in
      let same = halt_kind count n view.dn its in
      subst Behind (sym same)
      (stands_behind Coherent opening bytes script loaded told clock image faults view numbered all (events.Halt (Datanode view.dn) count) (subst May same follows) old new stood halts.id halts.node halts.line
      (ap (λ (t : Bool). newer (cond t (Some (Some count)) None) (halt_of (Datanode view.dn) view.mine)) (eq-eqb view.dn view.dn refl)
      ∙ (ap (λ (n : ℕ). Some n) halts.counted ∙ sym (ap (λ (t : Bool). cond t (Some (count_of faults new)) None) halts.halted)))
      refl (λ block. refl) (λ container. refl) (λ container most. refl)
      (λ coherent. both_tell told faults old new halts.goes_on (stood.tells coherent))
      (no_fewer_then told faults old new halts.goes_on (loaded (Datanode view.dn)) stood.no_fewer)
      (λ halted. rose_since (loaded (Datanode view.dn)) (count_of faults old) (count_of faults new) stood.no_fewer (count_rose told faults old new halts.goes_on halts.cause))
      (λ up. absurd (false≢true (sym up ∙ halts.halted)))
      (λ coherent up. absurd (false≢true (sym up ∙ halts.halted))) (λ coherent up. absurd (false≢true (sym up ∙ halts.halted))))
  stands_after (notes.Bad n block) leads follows =
      stands_still told clock image faults Coherent opening bytes script loaded (after Coherent opening bytes script loaded told clock image faults view numbered all (events.Bad n block id)) old new leads.2.stays
      (stands_behind Coherent opening bytes script loaded told clock image faults view numbered all (events.Bad n block id) follows old old stood refl refl refl stood.halt refl (λ block. refl) (λ container. refl) (λ container most. refl) stood.tells stood.no_fewer stood.rose (λ up. up) stood.journal stood.contents)
