-- What the three members of a block answered, by what was said since it was granted.
use Rattle.std.proofs.Common.{
  ◌≡◌,
  ◌≢◌,
  ⊎_elim,
  ◌⊎◌,
  inl,
  inr,
  ℕ,
  ◌+◌,
  ◌≤◌,
  Bool,
  true,
  false,
  not,
  ◌||◌,
  ◌&&◌,
  ◌==◌,
  cond,
  List,
  [],
  ◌∷◌,
  length,
  take,
  drop,
  Option,
  None,
  Some,
  Contains,
  eq-eqb,
  refl,
  sym,
  ap,
  ◌∙◌,
  subst,
  arith,
}
use Rattle.std.proofs.Math.Bool.{or-false}
use Rattle.std.proofs.lemmas.Bool.{and_from, and_parts, eqb-true, false≢true, or_left, or_right}
use Rattle.std.proofs.lemmas.List.{take-append-drop}
use Rattle.std.proofs.lemmas.List.Elements.{Contains-append_cases, Contains-append_left}
use Rattle.std.proofs.lemmas.List.Folds.{list_any-append}
use Rattle.std.proofs.lemmas.List.Sums.{sum_by-cons}
use Rattle.std.specs.Prelude.{count_by}
use Rattle.std.specs.List.{cons_option, list_any}
use Rattle.oz_fields.specs.declared.block.Block.{Block}
use Rattle.oz_script.specs.declared.lines.script.Script.{Script}
use Rattle.oz_requests.specs.declared.reply.Reply.TheVariants as replies
use Rattle.oz_requests.specs.declared.request.AskId.{AskId}
use Rattle.oz_core.specs.declared.event.Event.{Event}
use Rattle.oz_core.specs.declared.event.EventKind.{EventKind}
use Rattle.oz_core.specs.declared.event.EventKind.TheVariants.{Decide, Put, Refused, Wrote}
use Rattle.oz_core.specs.declared.event.PutRefusal.{PutRefusal}
use Rattle.oz_core.specs.declared.opening.Opening.{Opening}
use Rattle.oz_core.specs.Asks.{is_id, is_of_line}
use Rattle.oz_core.specs.Contents.{OpeningBytes, WasGranted, wrote}
use Rattle.oz_core.specs.Law.{IsLegal, KindIsEnabled, puts}
use Rattle.oz_core.specs.Nodes.{is_block}
use Rattle.oz_core.specs.Scm.{members}
use Rattle.oz_core.specs.Seats.{datanode_seat}
use Rattle.oz_core.specs.Steps.{GrantedBlock, refuses_so, refusing_members}
use Rattle.oz_core.specs.Stories.{all_told, count_events, has_event}
use Rattle.oz_steps.specs.Grants.{refused_so}
use Rattle.oz_asker.specs.laws.Asks.{legal_of_follow, same_id}
use Rattle.oz_buffer.specs.Buffer.{AllFollow, Follows}
use Rattle.oz_buffer.specs.Became.{says, times_said}
use Rattle.oz_kept.specs.laws.Contents.{its_grant, one_block}
use Rattle.oz_kept.specs.laws.Deleted.{enabled_at, first_or_later, found_at}
use Rattle.oz_kept.specs.laws.Granted.{one_id}
use Rattle.oz_kept.specs.reopened.laws.Placed.{event_there}
use Rattle.oz_turn.specs.Told.{BeginsWith}
use Rattle.oz_underway.specs.UnderWay.{HasAnswered, says_for}
use Rattle.oz_underway.specs.laws.Asks.{its_line, of_line}
use Rattle.oz_underway.specs.laws.Granted.{refuses_for}
use Rattle.oz_underway.specs.laws.Piece.{granting}
use Rattle.oz_underway.specs.laws.Unsaid.{fewer_has}

-- ---- counted in a list

module _ {E : Type 0} (p : E → Bool) where
  counted : (x : E) (l : List E) → count_by p (x ∷ l) ≡ cond (p x) 1 0 + count_by p l
  counted x l = sum_by-cons (λ (y : E). cond (p y) 1 0) x l

  pub some_counted : (l : List E) (e : E) → Contains l e → p e ≡ true → 1 ≤ count_by p l
  some_counted [] e among is = absurd (omega (arith, among.1))
  some_counted (x ∷ l) e among is =
      let parts = counted x l in
      ⊎_elim
      (λ (same : x ≡ e).
      let here : ◌≡◌ {A = ℕ} (cond (p x) 1 0) 1 = ap (λ (t : Bool). cond t 1 0) (ap p same ∙ is) in
      omega (arith, parts, here))
      (λ later. let rest = some_counted l e later is in omega (arith, parts, rest))
      (first_or_later x e l among)

  module _ (q : E → Bool) (within : (x : E) → q x ≡ true → p x ≡ true) where
    not_within : (x : E) → p x ≡ false → q x ≡ false
    not_within x none = by (q x) refl
      where
        by : (t : Bool) → q x ≡ t → t ≡ false
        by false is = refl
        by true is = absurd (false≢true (sym none ∙ within x is))

    pub none_counted : (l : List E) → count_by p l ≡ 0 → list_any q l ≡ false
    none_counted [] none = refl
    none_counted (x ∷ l) none = by (p x) refl (λ rest. none_counted l rest)
      where
        by : (t : Bool) → p x ≡ t → (count_by p l ≡ 0 → list_any q l ≡ false) → (q x || list_any q l) ≡ false
        by true is later =
            let here : ◌≡◌ {A = ℕ} (cond (p x) 1 0) 1 = ap (λ (t : Bool). cond t 1 0) is in
            absurd (omega (arith, counted x l, here, none))
        by false is later =
            let here : ◌≡◌ {A = ℕ} (cond (p x) 1 0) 0 = ap (λ (t : Bool). cond t 1 0) is in
            let rest : list_any q l ≡ false = later (omega (arith, counted x l, here, none)) in
            ap (λ (t : Bool). t || list_any q l) (not_within x is) ∙ rest

    -- where one alone counts, that one tells of all
    pub one_counted : (l : List E) (e : E) → count_by p l ≡ 1 → Contains l e → p e ≡ true → list_any q l ≡ q e
    one_counted [] e one among is = absurd (omega (arith, among.1))
    one_counted (x ∷ l) e one among is = by (p x) refl (first_or_later x e l among) (λ rest later. one_counted l e rest later is)
      where
        or_none : (t : Bool) → (t || false) ≡ t
        or_none true = refl
        or_none false = refl

        by : (t : Bool) → p x ≡ t → (x ≡ e) ⊎ Contains l e → (count_by p l ≡ 1 → Contains l e → list_any q l ≡ q e) → (q x || list_any q l) ≡ q e
        by true here (inl same) rest =
            let first : ◌≡◌ {A = ℕ} (cond (p x) 1 0) 1 = ap (λ (t : Bool). cond t 1 0) here in
            let none : list_any q l ≡ false = none_counted l (omega (arith, counted x l, first, one)) in
            ap (λ (t : Bool). q x || t) none ∙ (or_none (q x) ∙ ap q same)
        by true here (inr later) rest =
            let first : ◌≡◌ {A = ℕ} (cond (p x) 1 0) 1 = ap (λ (t : Bool). cond t 1 0) here in
            absurd (omega (arith, counted x l, first, one, some_counted l e later is))
        by false here (inl same) rest = absurd (false≢true (sym here ∙ (ap p same ∙ is)))
        by false here (inr later) rest =
            let first : ◌≡◌ {A = ℕ} (cond (p x) 1 0) 0 = ap (λ (t : Bool). cond t 1 0) here in
            let left : count_by p l ≡ 1 = omega (arith, counted x l, first, one) in
            ap (λ (t : Bool). t || list_any q l) (not_within x here) ∙ rest left later

pub has_there : (is : EventKind → Bool) (story : List Event) (event : Event) → Contains story event → is event.kind ≡ true → has_event is story ≡ true
has_there is [] event among so = absurd (omega (arith, among.1))
has_there is (first ∷ story) event among so = ⊎_elim
    (λ (same : first ≡ event). or_left (is first.kind) (has_event is story) (ap (λ (e : Event). is e.kind) same ∙ so))
    (λ later. or_right (is first.kind) (has_event is story) (has_there is story event later so))
    (first_or_later first event story among)

-- ---- who said it

abbrev pub by_member : ℕ → EventKind → Bool
by_member dn (Put other block id first count) = other == dn
by_member dn (Refused other block id refusal) = other == dn
by_member dn _ = false

-- an answer of none of these three
abbrev pub by_others : ℕ → ℕ → ℕ → EventKind → Bool
by_others a b c (Put other block id first count) = not (other == a || other == b || other == c)
by_others a b c (Refused other block id refusal) = not (other == a || other == b || other == c)
by_others a b c _ = false

abbrev pub said_by : ℕ → ℕ → ℕ → EventKind → Bool
said_by client line dn kind = says client line kind && by_member dn kind

abbrev pub said_by_others : ℕ → ℕ → ℕ → ℕ → ℕ → EventKind → Bool
said_by_others client line a b c kind = says client line kind && by_others a b c kind

module _ (client line a b c : ℕ) (one : a ≢ b) (two : a ≢ c) (three : b ≢ c) where
  of_one : (other : ℕ) → (x : Bool) → (other == a) ≡ x → (y : Bool) → (other == b) ≡ y → (z : Bool) → (other == c) ≡ z
      → cond x 1 0 + cond y 1 0 + cond z 1 0 + cond (not (x || y || z)) 1 0 ≤ 1
  of_one other true is true also z is_z = absurd (one (sym (eqb-true other a is) ∙ eqb-true other b also))
  of_one other true is false not_b true also = absurd (two (sym (eqb-true other a is) ∙ eqb-true other c also))
  of_one other true is false not_b false not_c = omega arith
  of_one other false not_a true is true also = absurd (three (sym (eqb-true other b is) ∙ eqb-true other c also))
  of_one other false not_a true is false not_c = omega arith
  of_one other false not_a false not_b true is = omega arith
  of_one other false not_a false not_b false not_c = omega arith

  -- what is said is said by one of them, or by another, or that the block was written
  each_said : (kind : EventKind) → cond (said_by client line a kind) 1 0 + cond (said_by client line b kind) 1 0 + cond (said_by client line c kind) 1 0
      + cond (said_by_others client line a b c kind) 1 0 + length (cons_option (wrote client line kind) [])
      ≤ cond (says client line kind) 1 0
  each_said (Put other block id first count) = by (is_of_line client line id)
    where
      by : (t : Bool) → cond (t && other == a) 1 0 + cond (t && other == b) 1 0 + cond (t && other == c) 1 0
          + cond (t && not (other == a || other == b || other == c)) 1 0 + 0 ≤ cond t 1 0
      by true = let few = of_one other (other == a) refl (other == b) refl (other == c) refl in omega (arith, few)
      by false = omega arith
  each_said (Refused other block id refusal) = by (is_of_line client line id)
    where
      by : (t : Bool) → cond (t && other == a) 1 0 + cond (t && other == b) 1 0 + cond (t && other == c) 1 0
          + cond (t && not (other == a || other == b || other == c)) 1 0 + 0 ≤ cond t 1 0
      by true = let few = of_one other (other == a) refl (other == b) refl (other == c) refl in omega (arith, few)
      by false = omega arith
  each_said (Wrote block id) = by (is_of_line client line id)
    where
      by : (t : Bool) → cond (t && false) 1 0 + cond (t && false) 1 0 + cond (t && false) 1 0 + cond (t && false) 1 0
          + length (cons_option (cond t (Some block) None) []) ≤ cond t 1 0
      by true = omega arith
      by false = omega arith
  each_said kind = omega arith

  more_told : {X : Type 0} (o : Option X) (xs : List X) → length (cons_option o xs) ≡ length (cons_option o []) + length xs
  more_told None xs = omega arith
  more_told (Some x) xs = omega arith

  pub all_said : (story : List Event)
      → count_events (said_by client line a) story + count_events (said_by client line b) story + count_events (said_by client line c) story
      + count_events (said_by_others client line a b c) story + length (all_told (wrote client line) story)
      ≤ times_said client line story
  all_said [] = omega arith
  all_said (event ∷ story) =
      let here = each_said event.kind in
      let rest = all_said story in
      let in_a = counted (λ (e : Event). said_by client line a e.kind) event story in
      let in_b = counted (λ (e : Event). said_by client line b e.kind) event story in
      let in_c = counted (λ (e : Event). said_by client line c e.kind) event story in
      let in_others = counted (λ (e : Event). said_by_others client line a b c e.kind) event story in
      let in_all = counted (λ (e : Event). says client line e.kind) event story in
      let written = more_told (wrote client line event.kind) (all_told (wrote client line) story) in
      omega (arith, here, rest, in_a, in_b, in_c, in_others, in_all, written)

-- ---- an answer of a member

-- of these events one is the answer that a member gave
pub record IsAnswerIn (client line : ℕ) (id : AskId) (block : Block) (more : List Event) (dn : ℕ) (answer : Option PutRefusal) : Type 0 where
  pub event : Event
  pub among : Contains more event
  pub said : said_by client line dn event.kind ≡ true
  pub refused : (counts : PutRefusal → Bool) (grant : GrantedBlock) → grant.id ≡ id → grant.block ≡ block
      → refuses_so counts grant dn event.kind ≡ refused_so counts answer
  pub apart : (counts : PutRefusal → Bool) (grant : GrantedBlock) → is_block grant.block block ≡ false
      → refuses_so counts grant dn event.kind ≡ false

-- who refuses so said it for its line
pub refuses_by : (client line : ℕ) (counts : PutRefusal → Bool) (grant : GrantedBlock) → is_of_line client line grant.id ≡ true → (dn : ℕ) (kind : EventKind)
    → refuses_so counts grant dn kind ≡ true → said_by client line dn kind ≡ true
refuses_by client line counts grant of dn (Refused other block id refusal) is =
    let outer = and_parts (other == dn && is_block grant.block block && is_id grant.id id) (counts refusal) is in
    let inner = and_parts (other == dn && is_block grant.block block) (is_id grant.id id) outer.0 in
    let first = and_parts (other == dn) (is_block grant.block block) inner.0 in
    let ids = of_line client line grant.id of in
    let then = and_parts (is_of_line grant.id.client grant.id.line id) (id.step == grant.id.step) inner.1 in
    let its = of_line grant.id.client grant.id.line id then.0 in
    and_from (is_of_line client line id) (other == dn) (its_line client line id (its.0 ∙ ids.0) (its.1 ∙ ids.1)) first.0
refuses_by client line counts grant of dn kind is = absurd (false≢true is)

-- and where the datanode is none of the three, it is another's
refuses_by_others : (client line a b c : ℕ) (counts : PutRefusal → Bool) (grant : GrantedBlock) → is_of_line client line grant.id ≡ true → (dn : ℕ)
    → (dn == a) ≡ false → (dn == b) ≡ false → (dn == c) ≡ false → (kind : EventKind)
    → refuses_so counts grant dn kind ≡ true → said_by_others client line a b c kind ≡ true
refuses_by_others client line a b c counts grant of dn not_a not_b not_c (Refused other block id refusal) is =
    let outer = and_parts (other == dn && is_block grant.block block && is_id grant.id id) (counts refusal) is in
    let inner = and_parts (other == dn && is_block grant.block block) (is_id grant.id id) outer.0 in
    let first = and_parts (other == dn) (is_block grant.block block) inner.0 in
    let ids = of_line client line grant.id of in
    let then = and_parts (is_of_line grant.id.client grant.id.line id) (id.step == grant.id.step) inner.1 in
    let its = of_line grant.id.client grant.id.line id then.0 in
    let same = eqb-true other dn first.0 in
    and_from (is_of_line client line id) (not (other == a || other == b || other == c)) (its_line client line id (its.0 ∙ ids.0) (its.1 ∙ ids.1))
    (ap (λ (n : ℕ). not (n == a || n == b || n == c)) same ∙ (λ i. not (not_a i || not_b i || not_c i)))
refuses_by_others client line a b c counts grant of dn not_a not_b not_c kind is = absurd (false≢true is)

-- ---- the answers of a block's three members, by how much was said

-- each of three said one thing, and no other said anything; so many blocks were written
pub record AreCounted (client line a b c n : ℕ) (more : List Event) : Type 0 where
  pub in_a : count_events (said_by client line a) more ≡ 1
  pub in_b : count_events (said_by client line b) more ≡ 1
  pub in_c : count_events (said_by client line c) more ≡ 1
  pub in_others : count_events (said_by_others client line a b c) more ≡ 0
  pub written : length (all_told (wrote client line) more) ≡ n

pub same_block : (block : Block) → is_block block block ≡ true
same_block block = and_from (block.container == block.container) (block.local == block.local) (eq-eqb block.container block.container refl)
    (eq-eqb block.local block.local refl)

module _ (Coherent : Type 0) (opening : Opening) (bytes : OpeningBytes) (script : Script) where
  abbrev Follow : List Event → Event → Type 0
  Follow = Follows Coherent opening bytes script

  module _ (later since : List Event) (begins : BeginsWith later since) (coherent : Coherent) (all : AllFollow Follow [] later) (id : AskId) (block : Block)
      (before : List Event) (granted : WasGranted later id block before) (unsaid : has_event (says_for id) since ≡ false) where
    legal : IsLegal opening later
    legal = legal_of_follow Coherent opening bytes script later coherent all

    -- who says something for the ask says it since then
    pub since_then : (event : Event) → Contains later event → says_for id event.kind ≡ true → Contains begins.0 event
    since_then event among is = ⊎_elim
        (λ earlier. absurd (false≢true (sym unsaid ∙ has_there (says_for id) since event earlier is)))
        (λ then. then)
        (Contains-append_cases since begins.0 event (subst (λ (l : List Event). Contains l event) begins.1 among))

    -- a block is put and written for the ask that it was granted to
    pub its_id : (place : ℕ) (other : AskId) (put : Block) (behind : List Event) → block ≡ put → WasGranted (take place later) other put behind → id ≡ other
    its_id place other put behind same had =
        let was = subst (λ (b : Block). WasGranted (take place later) other b behind) (sym same) had in
        let event : Event = record { seat = was.stripe; kind = Decide other was.index (replies.Granted block was.pipeline) was.batch } in
        let there : Contains later event = subst (λ (l : List Event). Contains l event) (take-append-drop place later)
        (Contains-append_left (take place later) (drop place later) event (granting (take place later) other block behind was)) in
        one_id opening later legal block id other (its_grant opening later legal id block before granted)
        (record { seat = was.stripe; index = was.index; pipeline = was.pipeline; batch = was.batch; there = there })

    put_answer : (dn place seat : ℕ) (kind : EventKind) → Contains later (record { seat = seat; kind = kind })
        → KindIsEnabled opening (take place later) seat kind
        → puts dn block kind ≡ true → IsAnswerIn id.client id.line id block begins.0 dn None
    put_answer dn place seat (Put other put asked first count) among enabled so =
        let parts = and_parts (other == dn) (is_block block put) so in
        let ids = its_id place asked put enabled.before (one_block block put parts.1) enabled.granted in
        let event : Event = record { seat = seat; kind = Put other put asked first count } in
        record {
          event = event;
          among = since_then event among (subst (λ (i : AskId). is_id id i ≡ true) ids (same_id id));
          said = and_from (is_of_line id.client id.line asked) (other == dn)
              (its_line id.client id.line asked (ap (λ (i : AskId). i.client) (sym ids)) (ap (λ (i : AskId). i.line) (sym ids))) parts.0;
          refused = λ counts grant one two. refl;
          apart = λ counts grant away. refl;
        }
    put_answer dn place seat kind among enabled so = absurd (false≢true so)

    pub its_answer : (dn : ℕ) (answer : Option PutRefusal) → HasAnswered later id block dn answer → IsAnswerIn id.client id.line id block begins.0 dn answer
    its_answer dn None put =
        let it = event_there (puts dn block) later put in
        put_answer dn it.there.0 it.event.seat it.event.kind it.there
        (enabled_at opening later legal it.there.0 it.event (found_at later it.event it.there)) it.so
    its_answer dn (Some refusal) among =
        let event : Event = record { seat = datanode_seat dn; kind = Refused dn block id refusal } in
        let its_dn : (dn == dn) ≡ true = eq-eqb dn dn refl in
        record {
          event = event;
          among = since_then event among (same_id id);
          said = and_from (is_of_line id.client id.line id) (dn == dn) (its_line id.client id.line id refl refl) its_dn;
          refused = λ counts grant one two.
              ap (λ (t : Bool). t && counts refusal)
              (and_from (dn == dn && is_block grant.block block) (is_id grant.id id)
              (and_from (dn == dn) (is_block grant.block block) its_dn (subst (λ (b : Block). is_block b block ≡ true) (sym two) (same_block block)))
              (subst (λ (i : AskId). is_id i id ≡ true) (sym one) (same_id id)));
          apart = λ counts grant away i. its_dn i && away i && is_id grant.id id && counts refusal;
        }

    module _ (a b c : ℕ) (one : a ≢ b) (two : a ≢ c) (three : b ≢ c) (x y z : Option PutRefusal)
        (in_a : IsAnswerIn id.client id.line id block begins.0 a x) (in_b : IsAnswerIn id.client id.line id block begins.0 b y)
        (in_c : IsAnswerIn id.client id.line id block begins.0 c z) where
      pub are_counted : (n : ℕ) → times_said id.client id.line begins.0 ≡ 3 + n → n ≤ length (all_told (wrote id.client id.line) begins.0)
          → AreCounted id.client id.line a b c n begins.0
      are_counted n said many =
          let whole = all_said id.client id.line a b c one two three begins.0 in
          let of_a = some_counted (λ (e : Event). said_by id.client id.line a e.kind) begins.0 in_a.event in_a.among in_a.said in
          let of_b = some_counted (λ (e : Event). said_by id.client id.line b e.kind) begins.0 in_b.event in_b.among in_b.said in
          let of_c = some_counted (λ (e : Event). said_by id.client id.line c e.kind) begins.0 in_c.event in_c.among in_c.said in
          record {
            in_a = omega (arith, whole, of_a, of_b, of_c, said, many);
            in_b = omega (arith, whole, of_a, of_b, of_c, said, many);
            in_c = omega (arith, whole, of_a, of_b, of_c, said, many);
            in_others = omega (arith, whole, of_a, of_b, of_c, said, many);
            written = omega (arith, whole, of_a, of_b, of_c, said, many);
          }

      module _ (n : ℕ) (counted : AreCounted id.client id.line a b c n begins.0) (counts : PutRefusal → Bool) (grant : GrantedBlock) where
        told_parts : (dn : ℕ)
            → has_event (refuses_so counts grant dn) later
            ≡ (has_event (refuses_so counts grant dn) since || has_event (refuses_so counts grant dn) begins.0)
        told_parts dn = ap (has_event (refuses_so counts grant dn)) begins.1 ∙ list_any-append (λ (e : Event). refuses_so counts grant dn e.kind) since begins.0

        -- of the block itself they refused it as they answered
        module _ (same : grant.id ≡ id) (block_is : grant.block ≡ block) where
          of_its_line : is_of_line id.client id.line grant.id ≡ true
          of_its_line = its_line id.client id.line grant.id (ap (λ (i : AskId). i.client) same) (ap (λ (i : AskId). i.line) same)

          answered : (dn : ℕ) (answer : Option PutRefusal) → count_events (said_by id.client id.line dn) begins.0 ≡ 1
              → IsAnswerIn id.client id.line id block begins.0 dn answer
              → has_event (refuses_so counts grant dn) later ≡ refused_so counts answer
          answered dn answer one_said its =
              let none : has_event (refuses_so counts grant dn) since ≡ false =
              fewer_has (refuses_so counts grant dn) (says_for id)
              (λ kind is. subst (λ (i : AskId). says_for i kind ≡ true) same (refuses_for counts grant dn kind is)) since unsaid in
              told_parts dn
              ∙ (ap (λ (t : Bool). t || has_event (refuses_so counts grant dn) begins.0) none
              ∙ (one_counted (λ (e : Event). said_by id.client id.line dn e.kind) (λ (e : Event). refuses_so counts grant dn e.kind)
              (λ (e : Event) is. refuses_by id.client id.line counts grant of_its_line dn e.kind is) begins.0 its.event one_said its.among its.said
              ∙ its.refused counts grant same block_is))

          pub refusing_as_answered : members opening later grant.block.container ≡ a ∷ b ∷ c ∷ []
              → refusing_members opening later counts grant ≡ count_by (refused_so counts) (x ∷ y ∷ z ∷ [])
          refusing_as_answered are =
              let first = answered a x counted.in_a in_a in
              let second = answered b y counted.in_b in_b in
              let third = answered c z counted.in_c in_c in
              ap (count_by (λ (dn : ℕ). has_event (refuses_so counts grant dn) later)) are
              ∙ (λ i. 0 + cond (first i) 1 0 + cond (second i) 1 0 + cond (third i) 1 0)

        -- of other blocks of the line nobody refused any
        module _ (of : is_of_line id.client id.line grant.id ≡ true) (away : is_block grant.block block ≡ false) where
          none_of_one : (dn : ℕ) (answer : Option PutRefusal) → count_events (said_by id.client id.line dn) begins.0 ≡ 1
              → IsAnswerIn id.client id.line id block begins.0 dn answer → has_event (refuses_so counts grant dn) begins.0 ≡ false
          none_of_one dn answer one_said its =
              one_counted (λ (e : Event). said_by id.client id.line dn e.kind) (λ (e : Event). refuses_so counts grant dn e.kind)
              (λ (e : Event) is. refuses_by id.client id.line counts grant of dn e.kind is) begins.0 its.event one_said its.among its.said
              ∙ its.apart counts grant away

          none_since : (dn : ℕ) → has_event (refuses_so counts grant dn) begins.0 ≡ false
          none_since dn = by (dn == a) refl (dn == b) refl (dn == c) refl
            where
              moved : (other : ℕ) → (dn == other) ≡ true → has_event (refuses_so counts grant other) begins.0 ≡ false
                  → has_event (refuses_so counts grant dn) begins.0 ≡ false
              moved other is none = ap (λ (n : ℕ). has_event (refuses_so counts grant n) begins.0) (eqb-true dn other is) ∙ none

              by : (t : Bool) → (dn == a) ≡ t → (u : Bool) → (dn == b) ≡ u → (v : Bool) → (dn == c) ≡ v
                  → has_event (refuses_so counts grant dn) begins.0 ≡ false
              by true is u of_b v of_c = moved a is (none_of_one a x counted.in_a in_a)
              by false not_a true is v of_c = moved b is (none_of_one b y counted.in_b in_b)
              by false not_a false not_b true is = moved c is (none_of_one c z counted.in_c in_c)
              by false not_a false not_b false not_c =
                  none_counted (λ (e : Event). said_by_others id.client id.line a b c e.kind) (λ (e : Event). refuses_so counts grant dn e.kind)
                  (λ (e : Event) is. refuses_by_others id.client id.line a b c counts grant of dn not_a not_b not_c e.kind is) begins.0 counted.in_others

          pub refused_as_before : (dn : ℕ) → has_event (refuses_so counts grant dn) later ≡ has_event (refuses_so counts grant dn) since
          refused_as_before dn =
              told_parts dn
              ∙ (ap (λ (t : Bool). has_event (refuses_so counts grant dn) since || t) (none_since dn)
              ∙ or-false (has_event (refuses_so counts grant dn) since))
