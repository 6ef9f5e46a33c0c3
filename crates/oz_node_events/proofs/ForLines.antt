-- Each Stop, Start and Wipe of a datanode stays that of a line of its own in each story that goes on, and one more is.
use Rattle.std.proofs.Common.{◌≡◌, ◌≢◌, ℕ, zero, suc, ◌<◌, ◌≤◌, Bool, true, false, List, [], ◌∷◌, ◌++◌, length, slice_set, ◌⊎◌, refl, sym, ap, ◌∙◌, subst, append-nil, length-append, inl, inr, arith, get_or-set_same}
use Rattle.std.proofs.lemmas.Bool.{false≢true}
use Rattle.std.proofs.lemmas.List.Elements.{All-cons, All-nil, All-weaker, Contains-append_left, Contains-append_right, Contains-push}
use Rattle.std.proofs.lemmas.List.Kept.{AllPairs-cons}
use Rattle.std.specs.Prelude.{All, Contains, slice_index_or}
use Rattle.oz_buffer.specs.Buffer.{AllFollow, Follows}
use Rattle.oz_core.specs.declared.event.Event.{Event}
use Rattle.oz_core.specs.declared.event.EventKind.{EventKind}
use Rattle.oz_core.specs.declared.opening.Opening.{Opening}
use Rattle.oz_core.specs.Asks.{is_told}
use Rattle.oz_core.specs.Contents.{OpeningBytes}
use Rattle.oz_core.specs.Law.{KindIsEnabled}
use Rattle.oz_script.specs.declared.lines.script.Line.{Line}
use Rattle.oz_script.specs.declared.lines.script.Script.{Script}
use Rattle.oz_turn.specs.Told.{BeginsWith}
use Rattle.oz_node_events.specs.declared.command.NodeCommand.{NodeCommand}
use Rattle.oz_node_events.specs.Commands.{by_node}
use Rattle.oz_node_events.specs.Led.{AreForLines, DoneFor, HasItDone, IsDoneFor, IsUncommanded, done_kind, is_done, last_of}
use Rattle.oz_node_events.specs.NodeSeat.{events_of}
use Rattle.oz_node_events.proofs.Led.{away, still_old, uncommanded_none}
use Rattle.oz_node_events.proofs.Moving.{follow_behind, follow_front}
use Rattle.oz_node_events.proofs.Noted.{begins_through}
use Rattle.oz_node_events.proofs.Telling.{is_its, its_kept, its_parts, no_length}

-- ---- parts of a story

module _ {X : Type 0} where
  same_head : (x y : X) (xs ys : List X) → x ∷ xs ≡ y ∷ ys → x ≡ y
  same_head x y xs ys same = cc

  same_tail : (x y : X) (xs ys : List X) → x ∷ xs ≡ y ∷ ys → xs ≡ ys
  same_tail x y xs ys same = cc

  both_cons : (x y : X) (xs ys : List X) → x ≡ y → xs ≡ ys → x ∷ xs ≡ y ∷ ys
  both_cons x y xs ys head tail = ap (λ (z : X). z ∷ xs) head ∙ ap (λ (l : List X). y ∷ l) tail

  -- an element stands in the first part of a list, or behind it
  part : (first rest place more : List X) (x : X) → first ++ rest ≡ (place ++ x ∷ []) ++ more
      → BeginsWith first (place ++ x ∷ []) ⊎ ((since : List X) × ((place ≡ first ++ since) × (rest ≡ (since ++ x ∷ []) ++ more)))
  part [] rest place more x is = inr (place, (refl, is))
  part (y ∷ first) rest [] more x is = inl (first, both_cons y x first first (same_head y x (first ++ rest) more is) refl)
  part (y ∷ first) rest (z ∷ place) more x is =
      from (part first rest place more x (same_tail y z (first ++ rest) ((place ++ x ∷ []) ++ more) is))
    where
      head : y ≡ z
      head = same_head y z (first ++ rest) ((place ++ x ∷ []) ++ more) is

      from : BeginsWith first (place ++ x ∷ []) ⊎ ((since : List X) × ((place ≡ first ++ since) × (rest ≡ (since ++ x ∷ []) ++ more)))
          → BeginsWith (y ∷ first) ((z ∷ place) ++ x ∷ [])
          ⊎ ((since : List X) × ((z ∷ place ≡ (y ∷ first) ++ since) × (rest ≡ (since ++ x ∷ []) ++ more)))
      from (inl begins) = inl (begins.0, both_cons y z first ((place ++ x ∷ []) ++ begins.0) head begins.1)
      from (inr behind) = inr (behind.0, (both_cons z y place (first ++ behind.0) (sym head) behind.1.0, behind.1.1))

  pub same_rest : (first one other : List X) → first ++ one ≡ first ++ other → one ≡ other
  same_rest [] one other same = same
  same_rest (x ∷ first) one other same = same_rest first one other (same_tail x x (first ++ one) (first ++ other) same)

-- an event that stands there may follow what stands before it
follow_at : (Follow : List Event → Event → Type 0) (story place : List Event) (event : Event) → BeginsWith story (place ++ event ∷ []) → AllFollow Follow [] story → Follow place event
unfolding AllFollow
follow_at Follow story place event begins all =
    (follow_behind Follow [] place (event ∷ [])
    (follow_front Follow [] (place ++ event ∷ []) begins.0 (subst (λ (l : List Event). AllFollow Follow [] l) begins.1 all))).0

-- an event of the datanode's seat is one of its own
its_contained : (dn : ℕ) (since more : List Event) (event : Event) → is_its dn event ≡ true → Contains (events_of dn ((since ++ event ∷ []) ++ more)) event
its_contained dn since more event its =
    let parts : events_of dn ((since ++ event ∷ []) ++ more) ≡ (events_of dn since ++ event ∷ []) ++ events_of dn more =
    its_parts dn (since ++ event ∷ []) more
    ∙ ap (λ l. l ++ events_of dn more) (its_parts dn since (event ∷ []) ∙ ap (λ l. events_of dn since ++ l) (its_kept dn event [] its)) in
    subst (λ (l : List Event). Contains l event) (sym parts)
    (Contains-append_left (events_of dn since ++ event ∷ []) (events_of dn more) event (Contains-push (events_of dn since) event))

-- ---- for lines of their own

module _ (script : Script) (dn : ℕ) where
  done_for_later : (story later : List Event) (it : DoneFor) → BeginsWith later story → IsDoneFor script dn story it → IsDoneFor script dn later it
  done_for_later story later it begins is = record {
    done = is.done;
    by = is.by;
    untold = is.untold;
    told = begins_through later story (it.place ++ by_node dn (done_kind dn is.done) ∷ []) begins is.told;
  }

  no_place : (place more : List Event) (event : Event) → [] ≡ (place ++ event ∷ []) ++ more → ⊥
  no_place place more event is =
      let a = ap length is in
      let b = length-append (place ++ event ∷ []) more in
      let c = length-append place (event ∷ []) in
      omega (arith, a, b, c)

  pub for_none : (last : List ℕ) → AreForLines script dn last []
  for_none last = record {
    list = [];
    each = All-nil (IsDoneFor script dn []);
    all = λ done place event begins is. absurd (no_place place begins.0 event begins.1);
    apart = λ i j d lt within. absurd (omega (arith, within));
    old = All-nil (λ (it : DoneFor). it.line.number ≤ last_of last it.line.client);
  }

  module _ (Coherent : Type 0) (opening : Opening) (bytes : OpeningBytes) where
    abbrev Follow : List Event → Event → Type 0
    Follow = Follows Coherent opening bytes script

    its_is : (front : List Event) (event : Event) (done : NodeCommand) → KindIsEnabled opening front event.seat event.kind → is_done dn done event.kind ≡ true → is_its dn event ≡ true
    its_is front event done may is = by (is_its dn event) refl
      where
        by : (t : Bool) → is_its dn event ≡ t → is_its dn event ≡ true
        by true its = its
        by false not = absurd (false≢true (sym (away opening front dn done event.seat event.kind may not) ∙ is))

    -- in a story that goes on the datanode's seat told of nothing that is done for a line
    pub for_later : Coherent → (last : List ℕ) (seen later extra : List Event) → BeginsWith later seen → AllFollow Follow [] later
        → events_of dn later ≡ events_of dn seen ++ extra
        → ((event : Event) → Contains extra event → (done : NodeCommand) → is_done dn done event.kind ≡ false)
        → AreForLines script dn last seen → AreForLines script dn last later
    for_later coherent last seen later extra begins all own none lines = record {
      list = lines.list;
      each = All-weaker (IsDoneFor script dn seen) (IsDoneFor script dn later) (λ it is. done_for_later seen later it begins is) lines.list lines.each;
      all = λ done place event at is. from done place event at is (part seen begins.0 place at.0 event (sym begins.1 ∙ at.1));
      apart = lines.apart;
      old = lines.old;
    } where
      since_is : events_of dn begins.0 ≡ extra
      since_is = same_rest (events_of dn seen) (events_of dn begins.0) extra (sym (its_parts dn seen begins.0) ∙ (ap (events_of dn) (sym begins.1) ∙ own))

      from : (done : NodeCommand) (place : List Event) (event : Event) (at : BeginsWith later (place ++ event ∷ [])) → is_done dn done event.kind ≡ true
          → BeginsWith seen (place ++ event ∷ []) ⊎ ((since : List Event) × ((place ≡ seen ++ since) × (begins.0 ≡ (since ++ event ∷ []) ++ at.0)))
          → (it : DoneFor) × (Contains lines.list it × (it.place ≡ place))
      from done place event at is (inl before) = lines.all done place event before is
      from done place event at is (inr behind) =
          let may = follow_at Follow later place event at all in
          let its = its_is place event done (may.enabled coherent) is in
          let there : Contains extra event = subst (λ (l : List Event). Contains l event) (ap (events_of dn) (sym behind.1.1) ∙ since_is)
          (its_contained dn behind.0 at.0 event its) in
          absurd (false≢true (sym (none event there done) ∙ is))

    pub for_on : Coherent → (last : List ℕ) (seen later : List Event) → BeginsWith later seen → AllFollow Follow [] later → events_of dn later ≡ events_of dn seen
        → AreForLines script dn last seen → AreForLines script dn last later
    for_on coherent last seen later begins all own =
        for_later coherent last seen later [] begins all (own ∙ sym (append-nil (events_of dn seen))) (λ event there. absurd (omega (arith, there.1)))

    pub for_noted : Coherent → (last : List ℕ) (seen later : List Event) (kind : EventKind) → IsUncommanded kind → BeginsWith later seen → AllFollow Follow [] later
        → events_of dn later ≡ events_of dn seen ++ by_node dn kind ∷ [] → AreForLines script dn last seen → AreForLines script dn last later
    for_noted coherent last seen later kind un begins all own =
        for_later coherent last seen later (by_node dn kind ∷ []) begins all own
        (λ event there done.
        let same : by_node dn kind ≡ event = only event there in
        ap (λ (e : Event). is_done dn done e.kind) (sym same) ∙ uncommanded_none dn done kind un)
      where
        only : (event : Event) → Contains (by_node dn kind ∷ []) event → by_node dn kind ≡ event
        only event there = at there.0 there.1 there.2
          where
            at : (i : ℕ) → i < 1 → slice_index_or (by_node dn kind ∷ []) i event ≡ event → by_node dn kind ≡ event
            at zero within is = is
            at (suc i) within is = absurd (omega (arith, within))

  -- ---- one more

  module _ (last : List ℕ) (before : List Event) (line : Line) (done : NodeCommand) (few : line.client < length last) (behind : last_of last line.client < line.number)
      (by : HasItDone script before dn done line) (untold : is_told line.client line.number before ≡ false) (lines : AreForLines script dn last before) where
    abbrev event : Event
    event = by_node dn (done_kind dn done)

    abbrev then : List ℕ
    then = slice_set last line.client line.number

    abbrev story : List Event
    story = before ++ event ∷ []

    abbrev it : DoneFor
    it = record { place = before; line = line }

    its : IsDoneFor script dn story it
    its = record { done = done; by = by; untold = untold; told = ([], sym (append-nil story)) }

    fresh_for : All (λ (other : DoneFor). line ≢ other.line) lines.list
    fresh_for =
        All-weaker (λ (other : DoneFor). other.line.number ≤ last_of last other.line.client) (λ (other : DoneFor). line ≢ other.line)
        (λ other was same.
        let number_is = ap (λ (l : Line). l.number) same in
        let last_is = ap (λ (l : Line). last_of last l.client) same in
        omega (arith, number_is, last_is, was, behind)) lines.list lines.old

    now : last_of then line.client ≡ line.number
    now = get_or-set_same last line.client line.number 0 few

    there_now : (other : NodeCommand) (place : List Event) (e : Event) (at : BeginsWith story (place ++ e ∷ [])) → is_done dn other e.kind ≡ true
        → BeginsWith before (place ++ e ∷ []) ⊎ ((since : List Event) × ((place ≡ before ++ since) × (event ∷ [] ≡ (since ++ e ∷ []) ++ at.0)))
        → (one : DoneFor) × (Contains (it ∷ lines.list) one × (one.place ≡ place))
    there_now other place e at is (inl front) =
        let old = lines.all other place e front is in
        (old.0, (Contains-append_right (it ∷ []) lines.list old.0 old.1.0, old.1.1))
    there_now other place e at is (inr last_one) =
        let a = ap length last_one.1.1 in
        let b = length-append (last_one.0 ++ e ∷ []) at.0 in
        let c = length-append last_one.0 (e ∷ []) in
        let none : last_one.0 ≡ [] = no_length last_one.0 (omega (arith, a, b, c)) in (
          it,
          (
            Contains-append_left (it ∷ []) lines.list it (Contains-push [] it),
            sym (last_one.1.0 ∙ (ap (λ l. before ++ l) none ∙ append-nil before)),
          ),
        )

    pub for_done : AreForLines script dn then story
    for_done = record {
      list = it ∷ lines.list;
      each = All-cons (IsDoneFor script dn story) it lines.list its
          (All-weaker (IsDoneFor script dn before) (IsDoneFor script dn story) (λ other is. done_for_later before story other (event ∷ [], refl) is) lines.list lines.each);
      all = λ other place e at is. there_now other place e at is (part before (event ∷ []) place at.0 e at.1);
      apart = AllPairs-cons (λ (one other : DoneFor). one.line ≢ other.line) it lines.list fresh_for lines.apart;
      old = All-cons (λ (one : DoneFor). one.line.number ≤ last_of then one.line.client) it lines.list (omega (arith, now))
          (All-weaker (λ (one : DoneFor). one.line.number ≤ last_of last one.line.client) (λ (one : DoneFor). one.line.number ≤ last_of then one.line.client)
          (λ other was. still_old last line.client line.number other.line.client other.line.number few behind was) lines.list lines.old);
    }
