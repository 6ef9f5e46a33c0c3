-- What is printed of a story when an event is added.
use Rattle.std.proofs.Common.{◌≡◌, ◌≢◌, ℕ, ◌+◌, ◌<◌, Bool, true, false, not, ◌&&◌, ◌==◌, cond, List, [], ◌∷◌, ◌++◌, length, take, get_or, codes, Option, Some, None, option_map, Bor, refl, sym, ◌∙◌, ap, subst, append_assoc, append-nil, arith}
use Rattle.std.proofs.Math.Bool.{and_assoc}
use Rattle.std.proofs.lemmas.Bool.{cond-true, cond-false, eq-eqb, ne_eqb}
use Rattle.std.proofs.lemmas.List.{take_more}
use Rattle.std.proofs.lemmas.List.Sums.{fold-append, sum_by-append}
use Rattle.std.specs.Cmp.{unsigned_ties}
use Rattle.std.specs.Ordering.{is_eq, nat_cmp, ordering_then}
use Rattle.std.specs.BTreeMap.{BTreeMap, get, is_at}
use Rattle.std.specs.Map.{lookup}
use Rattle.std.specs.declared.cmp.Ordering.{Ordering}
use Rattle.std.specs.declared.cmp.Ordering.TheVariants.{Less, Equal, Greater}
use Rattle.oz_core.specs.declared.event.Event.{Event}
use Rattle.oz_core.specs.declared.event.EventKind.{EventKind}
use Rattle.oz_core.specs.declared.event.EventKind.TheVariants as kind
use Rattle.oz_core.specs.declared.event.EventKind.TheVariants.{Ask, Decide, Halt, Told}
use Rattle.oz_core.specs.declared.event.Node.{Node}
use Rattle.oz_core.specs.declared.limits.TheConstants.{SERVICE_CLIENT}
use Rattle.oz_requests.specs.declared.answer.Answer.{Answer}
use Rattle.oz_requests.specs.declared.request.AskId.{AskId}
use Rattle.oz_requests.specs.declared.reply.Reply.{Reply}
use Rattle.oz_requests.specs.declared.request.Request.{Request}
use Rattle.oz_requests.specs.contracts.request.AskIdOrd.TheImpl as ask_id_order
use Rattle.oz_core.specs.Asks.{is_id, is_script, pending, pending_after}
use Rattle.oz_report.specs.Report.{decide_text, halt_text, told_text, event_text, lines_from, is_told_kind, told_count}

pending-push : (id : AskId) (story : List Event) (event : Event) → pending id (story ++ event ∷ []) ≡ pending_after id (pending id story) event.kind
pending-push id story event = fold-append (λ (before : Option Request) (e : Event). pending_after id before e.kind) None story (event ∷ [])

-- the order of ids
abbrev pub id_cmp : AskId → AskId → Ordering
id_cmp = (ask_id_order.ghosts).cmp

is_eq-then : (a b : Ordering) → is_eq (ordering_then a b) ≡ (is_eq a && is_eq b)
is_eq-then Less b = refl
is_eq-then Equal b = refl
is_eq-then Greater b = refl

-- the order tells two ids apart unless they are one
is_at-id : (id other : AskId) → is_at (id_cmp id) other ≡ is_id other id
is_at-id id other =
    is_eq-then (nat_cmp id.client other.client) (ordering_then (nat_cmp id.line other.line) (nat_cmp id.step other.step))
    ∙ (ap (λ (b : Bool). is_eq (nat_cmp id.client other.client) && b) (is_eq-then (nat_cmp id.line other.line) (nat_cmp id.step other.step))
    ∙ (ap (λ (b : Bool). b && (is_eq (nat_cmp id.line other.line) && is_eq (nat_cmp id.step other.step))) (sym (unsigned_ties id.client other.client))
    ∙ (ap (λ (b : Bool). (id.client == other.client) && (b && is_eq (nat_cmp id.step other.step))) (sym (unsigned_ties id.line other.line))
    ∙ (ap (λ (b : Bool). (id.client == other.client) && ((id.line == other.line) && b)) (sym (unsigned_ties id.step other.step))
    ∙ sym (and_assoc (id.client == other.client) (id.line == other.line) (id.step == other.step))))))

lines_from-push : (before story : List Event) (event : Event) → lines_from before (story ++ event ∷ []) ≡ lines_from before story ++ event_text (before ++ story) event.kind
unfolding lines_from
lines_from-push before [] event = append-nil _ ∙ ap (λ (l : List Event). event_text l event.kind) (sym (append-nil before))
lines_from-push before (e ∷ story) event =
    ap (λ (l : List ℕ). event_text before e.kind ++ l) (lines_from-push (before ++ e ∷ []) story event)
    ∙ (sym (append_assoc (event_text before e.kind) (lines_from (before ++ e ∷ []) story) (event_text (before ++ e ∷ [] ++ story) event.kind))
    ∙ ap (λ (l : List Event). (event_text before e.kind ++ lines_from (before ++ e ∷ []) story) ++ event_text l event.kind) (append_assoc before (e ∷ []) story))

told_count-push : (story : List Event) (event : Event) → told_count (story ++ event ∷ []) ≡ told_count story + cond (is_told_kind event.kind) 1 0
told_count-push story event =
    omega (arith, sum_by-append (λ (e : Event). cond (is_told_kind e.kind) 1 0) story (event ∷ []))

-- what a map of borrowed requests has at an id
abbrev pub named : BTreeMap AskId (Bor Request) → AskId → Option Request
named asked id = option_map (λ (r : Bor Request). r.now) (get id_cmp asked id)

-- These events are printed: the text, the requests that are pending after them, and how many lines are told.
pub record IsPrinted (story : List Event) (out : List ℕ) (asked : BTreeMap AskId (Bor Request)) (told : ℕ) : Type 0 where
  pub lines : out ≡ codes "story 1\n" ++ lines_from [] story
  pub names : (id : AskId) → named asked id ≡ pending id story
  pub count : told ≡ told_count story

-- nothing is printed before the first event
pub first_printed : (out : List ℕ) (asked : BTreeMap AskId (Bor Request)) → out ≡ codes "story 1\n" → asked.entries ≡ [] → IsPrinted [] out asked 0
unfolding lines_from
first_printed out asked h empty = record {
  lines = h;
  names = λ id. ap (λ (es : List (AskId × Bor Request)). option_map (λ (r : Bor Request). r.now) (lookup (is_at (id_cmp id)) es)) empty;
  count = refl;
}

cond-named : (b : Bool) (f g : Option (Bor Request)) → option_map (λ (r : Bor Request). r.now) (cond b f g) ≡ cond b (option_map (λ (r : Bor Request). r.now) f) (option_map (λ (r : Bor Request). r.now) g)
cond-named true f g = refl
cond-named false f g = refl

-- an event of none of the kinds that a report looks at
pub record IsOther (kind : EventKind) : Type 0 where
  pub not_ask : (id : AskId) (request : Request) → kind ≡ Ask id request → ⊥
  pub not_decide : (id : AskId) (index : ℕ) (answer : Reply) (batch : List ℕ) → kind ≡ Decide id index answer batch → ⊥
  pub not_halt : (node : Node) (count : ℕ) → kind ≡ Halt node count → ⊥
  pub not_told : (client line : ℕ) (answer : Answer) → kind ≡ Told client line answer → ⊥

-- what such an event leaves as it was
record SaysNothing (before : List Event) (kind : EventKind) : Type 0 where
  text : [] ≡ event_text before kind
  pending : (id : AskId) (asked : Option Request) → asked ≡ pending_after id asked kind
  told : is_told_kind kind ≡ false

says_nothing : (before : List Event) (kind : EventKind) → IsOther kind → SaysNothing before kind
says_nothing before (Ask id request) other = absurd (other.not_ask id request refl)
says_nothing before (Decide id index answer batch) other = absurd (other.not_decide id index answer batch refl)
says_nothing before (kind.Swap index) other = record { text = refl; pending = λ q asked. refl; told = refl }
says_nothing before (kind.Flushed index moment) other = record { text = refl; pending = λ q asked. refl; told = refl }
says_nothing before (Halt node count) other = absurd (other.not_halt node count refl)
says_nothing before (kind.Grant stripe container pipeline first count) other = record { text = refl; pending = λ q asked. refl; told = refl }
says_nothing before (kind.Up dn) other = record { text = refl; pending = λ q asked. refl; told = refl }
says_nothing before (kind.Down dn) other = record { text = refl; pending = λ q asked. refl; told = refl }
says_nothing before (kind.Put dn block id first count) other = record { text = refl; pending = λ q asked. refl; told = refl }
says_nothing before (kind.Refused dn block id refusal) other = record { text = refl; pending = λ q asked. refl; told = refl }
says_nothing before (kind.Wrote block id) other = record { text = refl; pending = λ q asked. refl; told = refl }
says_nothing before (kind.Bad dn block id) other = record { text = refl; pending = λ q asked. refl; told = refl }
says_nothing before (kind.PurgeAsk blocks) other = record { text = refl; pending = λ q asked. refl; told = refl }
says_nothing before (kind.Log txn container locals) other = record { text = refl; pending = λ q asked. refl; told = refl }
says_nothing before (kind.Delete dn txn locals) other = record { text = refl; pending = λ q asked. refl; told = refl }
says_nothing before (kind.AckDel dn txn) other = record { text = refl; pending = λ q asked. refl; told = refl }
says_nothing before (kind.Retire txn) other = record { text = refl; pending = λ q asked. refl; told = refl }
says_nothing before (kind.Copy source target block) other = record { text = refl; pending = λ q asked. refl; told = refl }
says_nothing before (kind.Stop dn) other = record { text = refl; pending = λ q asked. refl; told = refl }
says_nothing before (kind.Start dn) other = record { text = refl; pending = λ q asked. refl; told = refl }
says_nothing before (kind.Wipe dn) other = record { text = refl; pending = λ q asked. refl; told = refl }
says_nothing before (kind.CloseCommand dn container) other = record { text = refl; pending = λ q asked. refl; told = refl }
says_nothing before (kind.Closed container state) other = record { text = refl; pending = λ q asked. refl; told = refl }
says_nothing before (Told client line answer) other = absurd (other.not_told client line answer refl)

module _ (story : List Event) (event : Event) (out : List ℕ) (old : BTreeMap AskId (Bor Request)) (told : ℕ) (printed : IsPrinted story out old told) where
  -- an event whose kind prints a text, leaves these requests pending and is told so often
  next_printed : (kind : EventKind) (text : List ℕ) (after : BTreeMap AskId (Bor Request)) (more : ℕ) → event.kind ≡ kind → text ≡ event_text story kind → ((q : AskId) → named after q ≡ pending_after q (named old q) kind) → cond (is_told_kind kind) 1 0 ≡ more → IsPrinted (story ++ event ∷ []) (out ++ text) after (told + more)
  next_printed kind text after more is prints leaves tells = record {
    lines =
        ap (λ (l : List ℕ). l ++ text) printed.lines
        ∙ (append_assoc (codes "story 1\n") (lines_from [] story) text
        ∙ ap (λ (l : List ℕ). codes "story 1\n" ++ l) (ap (λ (l : List ℕ). lines_from [] story ++ l) (prints ∙ ap (event_text story) (sym is)) ∙ sym (lines_from-push [] story event)));
    names = λ q.
        leaves q
        ∙ (ap (λ (r : Option Request). pending_after q r kind) (printed.names q)
        ∙ (ap (pending_after q (pending q story)) (sym is) ∙ sym (pending-push q story event)));
    count =
        ap (λ (n : ℕ). n + more) printed.count
        ∙ (ap (λ (n : ℕ). told_count story + n) (sym tells ∙ ap (λ (k : EventKind). cond (is_told_kind k) 1 0) (sym is)) ∙ sym (told_count-push story event));
  }

  -- an event that prints nothing
  silent_next : (kind : EventKind) (after : BTreeMap AskId (Bor Request)) → event.kind ≡ kind → [] ≡ event_text story kind → ((q : AskId) → named after q ≡ pending_after q (named old q) kind) → is_told_kind kind ≡ false → IsPrinted (story ++ event ∷ []) out after told
  silent_next kind after is prints leaves tells =
      let next : IsPrinted (story ++ event ∷ []) (out ++ []) after (told + 0) = next_printed kind [] after 0 is prints leaves (ap (λ (b : Bool). cond b 1 0) tells) in
      record { lines = sym (append-nil out) ∙ next.lines; names = next.names; count = omega (arith, next.count) }

  -- a map that differs at one id has what it had at each other
  named-updates : (after : BTreeMap AskId (Bor Request)) (id : AskId) (value : Option (Bor Request)) → ((q : AskId) → get id_cmp after q ≡ cond (is_at (id_cmp id) q) value (get id_cmp old q)) → (q : AskId) → named after q ≡ cond (is_id q id) (option_map (λ (r : Bor Request). r.now) value) (named old q)
  named-updates after id value h q =
      ap (option_map (λ (r : Bor Request). r.now)) (h q)
      ∙ (cond-named (is_at (id_cmp id) q) value (get id_cmp old q)
      ∙ ap (λ (b : Bool). cond b (option_map (λ (r : Bor Request). r.now) value) (named old q)) (is_at-id id q))

  pub asked_next : (after : BTreeMap AskId (Bor Request)) (id : AskId) (request : Bor Request) → event.kind ≡ Ask id request.now → ((q : AskId) → get id_cmp after q ≡ cond (is_at (id_cmp id) q) (Some request) (get id_cmp old q)) → IsPrinted (story ++ event ∷ []) out after told
  asked_next after id request is updates = silent_next (Ask id request.now) after is refl (named-updates after id (Some request) updates) refl

  module _ (after : BTreeMap AskId (Bor Request)) (id : AskId) (index : ℕ) (answer : Reply) (batch : List ℕ) (is : event.kind ≡ Decide id index answer batch) (updates : (q : AskId) → get id_cmp after q ≡ cond (is_at (id_cmp id) q) None (get id_cmp old q)) where
    pub decided_next : (request : Option (Bor Request)) → request ≡ get id_cmp old id → id.client ≢ SERVICE_CLIENT → IsPrinted (story ++ event ∷ []) (out ++ decide_text id (option_map (λ (r : Bor Request). r.now) request) answer) after told
    decided_next request found line =
        let text : List ℕ = decide_text id (option_map (λ (r : Bor Request). r.now) request) answer in
        let same : text ≡ decide_text id (pending id story) answer = ap (λ (r : Option Request). decide_text id r answer) (ap (option_map (λ (r : Bor Request). r.now)) found ∙ printed.names id) in
        let shown : text ≡ event_text story (Decide id index answer batch) = same ∙ sym (cond-true (is_script id) (decide_text id (pending id story) answer) [] (ap not (ne_eqb id.client SERVICE_CLIENT line))) in
        let next : IsPrinted (story ++ event ∷ []) (out ++ text) after (told + 0) = next_printed (Decide id index answer batch) text after 0 is shown (named-updates after id None updates) refl in
        record { lines = next.lines; names = next.names; count = omega (arith, next.count) }

    pub served_next : id.client ≡ SERVICE_CLIENT → IsPrinted (story ++ event ∷ []) out after told
    served_next service =
        silent_next (Decide id index answer batch) after is (sym (cond-false (is_script id) (decide_text id (pending id story) answer) [] (ap not (eq-eqb id.client SERVICE_CLIENT service)))) (named-updates after id None updates) refl

  pub told_next : (client line : ℕ) (answer : Answer) → event.kind ≡ Told client line answer → IsPrinted (story ++ event ∷ []) (out ++ told_text client line answer) old (told + 1)
  told_next client line answer is = next_printed (Told client line answer) (told_text client line answer) old 1 is refl (λ q. refl) refl

  pub other_next : IsOther event.kind → IsPrinted (story ++ event ∷ []) out old told
  other_next other =
      let says : SaysNothing story event.kind = says_nothing story event.kind other in
      silent_next event.kind old refl says.text (λ q. says.pending q (named old q)) says.told

  pub halted_next : (node : Node) (count : ℕ) → event.kind ≡ Halt node count → IsPrinted (story ++ event ∷ []) (out ++ halt_text node count) old told
  halted_next node count is =
      let next : IsPrinted (story ++ event ∷ []) (out ++ halt_text node count) old (told + 0) = next_printed (Halt node count) (halt_text node count) old 0 is refl (λ q. refl) refl in
      record { lines = next.lines; names = next.names; count = omega (arith, next.count) }

-- the event at this place is the next one
pub printed_on : (story : List Event) (place : ℕ) (event : Event) (out new : List ℕ) (asked after : BTreeMap AskId (Bor Request)) (told now : ℕ) → place < length story → event ≡ get_or story place event → new ≡ out → after ≡ asked → now ≡ told → IsPrinted (take place story ++ event ∷ []) out asked told → IsPrinted (take (place + 1) story) new after now
printed_on story place event out new asked after told now within there text requests count printed =
    let more : take place story ++ event ∷ [] ≡ take (place + 1) story = ap (λ (e : Event). take place story ++ e ∷ []) there ∙ sym (take_more story place event within) in
    let next : IsPrinted (take (place + 1) story) out asked told = subst (λ (l : List Event). IsPrinted l out asked told) more printed in
    record {
      lines = text ∙ next.lines;
      names = λ id. ap (λ (m : BTreeMap AskId (Bor Request)). named m id) requests ∙ next.names id;
      count = count ∙ next.count;
    }
