-- Where a block was granted: at one place at most.
use Rattle.std.proofs.Common.{◌≡◌, ℕ, ◌+◌, ◌<◌, ◌≤◌, Bool, true, false, not, ◌&&◌, ◌||◌, List, [], ◌∷◌, ◌++◌, length, take, drop, get_or, refl, sym, ◌∙◌, ap, subst, inl, inr, arith}
use Rattle.std.proofs.Math.Nat.{eq-or-lt_of_le}
use Rattle.std.proofs.lemmas.Bool.{not-true}
use Rattle.std.proofs.lemmas.List.{append_assoc, length-append, take-append-drop, drop_more, drop_at, get_or_at}
use Rattle.std.specs.List.{Contains}
use Rattle.oz_fields.specs.declared.block.Block.{Block}
use Rattle.oz_requests.specs.declared.request.AskId.{AskId}
use Rattle.oz_requests.specs.declared.request.Request.{Request}
use Rattle.oz_requests.specs.declared.reply.Reply.{Reply}
use Rattle.oz_requests.specs.declared.reply.Reply.TheVariants as reply
use Rattle.oz_core.specs.declared.event.Event.{Event}
use Rattle.oz_core.specs.declared.event.EventKind.{EventKind}
use Rattle.oz_core.specs.declared.event.EventKind.TheVariants as kind
use Rattle.oz_core.specs.Asks.{asks, is_asked, is_id}
use Rattle.oz_core.specs.Contents.{WasGranted}
use Rattle.oz_core.specs.Nodes.{is_block}
use Rattle.oz_core.specs.Stories.{has_event}
use Rattle.oz_node_law.specs.Words.{grants_block, grants, gives}
use Rattle.oz_node_law.proofs.Found.{false-true, both, joined, Found, found, finds, same_id, id_itself, same_block, block_itself}

-- ---- a Decide that granted the block

record Granting (id : AskId) (block : Block) (story : List Event) : Type 0 where
  stripe : ℕ
  index : ℕ
  pipeline : ℕ
  batch : List ℕ
  there : Contains story (record { seat = stripe; kind = kind.Decide id index (reply.Granted block pipeline) batch })

granting-reply : (id : AskId) (block : Block) (story : List Event) (seat index : ℕ) (answer : Reply) (batch : List ℕ) → Contains story (record { seat = seat; kind = kind.Decide id index answer batch }) → grants_block block answer ≡ true → Granting id block story
granting-reply id block story seat index (reply.Granted granted pipeline) batch there so =
    record {
      stripe = seat;
      index = index;
      pipeline = pipeline;
      batch = batch;
      there = subst (λ (b : Block). Contains story (record { seat = seat; kind = kind.Decide id index (reply.Granted b pipeline) batch })) (sym (same_block block granted so)) there;
    }
granting-reply id block story seat index _ batch there so = false-true so

granting-kind : (id : AskId) (block : Block) (story : List Event) (seat : ℕ) (kind : EventKind) → Contains story (record { seat = seat; kind = kind }) → grants id block kind ≡ true → Granting id block story
granting-kind id block story seat (kind.Decide other index answer batch) there so =
    let two : (is_id id other ≡ true) × (grants_block block answer ≡ true) = both (is_id id other) (grants_block block answer) so in
    granting-reply id block story seat index answer batch (subst (λ (i : AskId). Contains story (record { seat = seat; kind = kind.Decide i index answer batch })) (same_id id other two.0) there) two.1
granting-kind id block story seat _ there so = false-true so

granting : (id : AskId) (block : Block) (story : List Event) → has_event (grants id block) story ≡ true → Granting id block story
granting id block story h =
    let f : Found (λ (event : Event). grants id block event.kind) story = found (λ (event : Event). grants id block event.kind) story h in
    granting-kind id block story f.item.seat f.item.kind f.there f.so

granted : (id : AskId) (block : Block) (story : List Event) (stripe index pipeline : ℕ) (batch : List ℕ) → Contains story (record { seat = stripe; kind = kind.Decide id index (reply.Granted block pipeline) batch }) → has_event (grants id block) story ≡ true
granted id block story stripe index pipeline batch there =
    finds (λ (event : Event). grants id block event.kind) story (record { seat = stripe; kind = kind.Decide id index (reply.Granted block pipeline) batch }) there
    (joined (is_id id id) (is_block block block) (id_itself id) (block_itself block))

-- ---- the place of the ask

assoc : (before : List Event) (ask : Event) (behind : List Event) → (before ++ ask ∷ []) ++ behind ≡ before ++ ask ∷ behind
assoc before ask behind = append_assoc before (ask ∷ []) behind

or-right : (a b : Bool) → b ≡ true → (a || b) ≡ true
or-right true b h = refl
or-right false b h = h

asking : (id : AskId) (block : Block) (story before behind : List Event) (seat : ℕ) (kind : EventKind) → story ≡ before ++ record { seat = seat; kind = kind } ∷ behind → asks id kind ≡ true → is_asked id behind ≡ false → Granting id block behind → WasGranted story id block before
asking id block story before behind seat (kind.Ask other request) parts so last g =
    record {
      behind = behind;
      asker = seat;
      request = request;
      asked = parts ∙ ap (λ (i : AskId). before ++ record { seat = seat; kind = kind.Ask i request } ∷ behind) (same_id id other so);
      last = last;
      stripe = g.stripe;
      index = g.index;
      pipeline = g.pipeline;
      batch = g.batch;
      decided = g.there;
    }
asking id block story before behind seat _ parts so last g = false-true so

at-place : (story : List Event) (i : ℕ) (event : Event) → i < length story → event ≡ get_or story i event → story ≡ take i story ++ event ∷ drop (i + 1) story
at-place story i event within is =
    sym (take-append-drop i story)
    ∙ ap (λ (xs : List Event). take i story ++ xs) (drop_more story i event within ∙ ap (λ (e : Event). e ∷ drop (i + 1) story) (sym is))

pub gave : (id : AskId) (block : Block) (story : List Event) (i : ℕ) (event : Event) → i < length story → event ≡ get_or story i event → gives id block event.kind (drop (i + 1) story) ≡ true → WasGranted story id block (take i story)
gave id block story i event within is so =
    let behind : List Event = drop (i + 1) story in
    let two : (asks id event.kind ≡ true) × ((not (is_asked id behind) && has_event (grants id block) behind) ≡ true) = both (asks id event.kind) (not (is_asked id behind) && has_event (grants id block) behind) so in
    let three : (not (is_asked id behind) ≡ true) × (has_event (grants id block) behind ≡ true) = both (not (is_asked id behind)) (has_event (grants id block) behind) two.1 in
    asking id block story (take i story) behind event.seat event.kind (at-place story i event within is) two.0 (not-true (is_asked id behind) three.0) (granting id block behind three.1)

-- an event that gives no block stands at no place of such an ask
gives-there : (id : AskId) (block : Block) (story before : List Event) (w : WasGranted story id block before) → gives id block (kind.Ask id w.request) w.behind ≡ true
gives-there id block story before w =
    joined (is_id id id) (not (is_asked id w.behind) && has_event (grants id block) w.behind) (id_itself id)
    (joined (not (is_asked id w.behind)) (has_event (grants id block) w.behind) (ap not w.last) (granted id block w.behind w.stripe w.index w.pipeline w.batch w.decided))

pub gave_not : (id : AskId) (block : Block) (story before : List Event) (i : ℕ) (event : Event) → length before ≡ i → event ≡ get_or story i event → gives id block event.kind (drop (i + 1) story) ≡ false → WasGranted story id block before → ⊥
gave_not id block story before i event long is not_there w =
    let ask : Event = record { seat = w.asker; kind = kind.Ask id w.request } in
    let here : event ≡ ask = is ∙ (ap (λ (xs : List Event). get_or xs i event) w.asked ∙ get_or_at before ask w.behind event i long) in
    let pair : before ++ ask ∷ w.behind ≡ (before ++ ask ∷ []) ++ w.behind = sym (assoc before ask w.behind) in
    let longer : length (before ++ ask ∷ []) ≡ i + 1 = length-append before (ask ∷ []) ∙ omega arith in
    let rest : drop (i + 1) story ≡ w.behind = ap (drop (i + 1)) (w.asked ∙ pair) ∙ drop_at (before ++ ask ∷ []) w.behind (i + 1) longer in
    let so_there : gives id block event.kind (drop (i + 1) story) ≡ true =
    ap (λ (e : Event). gives id block e.kind (drop (i + 1) story)) here ∙ (ap (gives id block (kind.Ask id w.request)) rest ∙ gives-there id block story before w) in
    false-true (sym not_there ∙ so_there)

pub place_within : (id : AskId) (block : Block) (story before : List Event) → WasGranted story id block before → length before < length story
place_within id block story before w =
    let ask : Event = record { seat = w.asker; kind = kind.Ask id w.request } in
    let whole : length story ≡ length before + length (ask ∷ w.behind) = ap length w.asked ∙ length-append before (ask ∷ w.behind) in
    omega arith

-- ---- it is one

asked-in : (id : AskId) (before behind : List Event) (seat : ℕ) (request : Request) → is_asked id (before ++ record { seat = seat; kind = kind.Ask id request } ∷ behind) ≡ true
asked-in id [] behind seat request = ap (λ (b : Bool). b || is_asked id behind) (id_itself id)
asked-in id (event ∷ before) behind seat request = or-right (asks id event.kind) _ (asked-in id before behind seat request)

one-go : (id : AskId) (a b ra rb : List Event) (sa sb : ℕ) (qa qb : Request) → a ++ record { seat = sa; kind = kind.Ask id qa } ∷ ra ≡ b ++ record { seat = sb; kind = kind.Ask id qb } ∷ rb → is_asked id ra ≡ false → is_asked id rb ≡ false → a ≡ b
one-go id [] [] ra rb sa sb qa qb e la lb = refl
one-go id [] (x ∷ b) ra rb sa sb qa qb e la lb =
    let rest : ra ≡ b ++ record { seat = sb; kind = kind.Ask id qb } ∷ rb = cc in
    false-true (sym la ∙ (ap (is_asked id) rest ∙ asked-in id b rb sb qb))
one-go id (x ∷ a) [] ra rb sa sb qa qb e la lb =
    let rest : rb ≡ a ++ record { seat = sa; kind = kind.Ask id qa } ∷ ra = cc in
    false-true (sym lb ∙ (ap (is_asked id) rest ∙ asked-in id a ra sa qa))
one-go id (x ∷ a) (y ∷ b) ra rb sa sb qa qb e la lb =
    let head : x ≡ y = cc in
    let rest : a ++ record { seat = sa; kind = kind.Ask id qa } ∷ ra ≡ b ++ record { seat = sb; kind = kind.Ask id qb } ∷ rb = cc in
    ap (λ (z : Event). z ∷ a) head ∙ ap (λ (zs : List Event). y ∷ zs) (one-go id a b ra rb sa sb qa qb rest la lb)

pub one_place : (id : AskId) (block : Block) (story a b : List Event) → WasGranted story id block a → WasGranted story id block b → a ≡ b
one_place id block story a b wa wb = one-go id a b wa.behind wb.behind wa.asker wb.asker wa.request wb.request (sym wa.asked ∙ wb.asked) wa.last wb.last

pub gave_by : (id : AskId) (block : Block) (story : List Event) (i : ℕ) (event : Event) → event ≡ get_or story i event → gives id block event.kind (drop (i + 1) story) ≡ false → ((before : List Event) → length before < i → WasGranted story id block before → ⊥) → (before : List Event) → length before < i + 1 → WasGranted story id block before → ⊥
gave_by id block story i event is not_there earlier before short w =
    let near : length before ≤ i = omega arith in
    elim (eq-or-lt_of_le near) as (λ c. ⊥) [ inl long ↦ gave_not id block story before i event long is not_there w | inr less ↦ earlier before less w ]
