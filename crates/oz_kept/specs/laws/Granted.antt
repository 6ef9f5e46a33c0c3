-- A block is granted once, to an ask of a line, and was on no disk before.
use Rattle.std.proofs.Common.{
  ◌≡◌,
  ⊎_elim,
  ◌⊎◌,
  ℕ,
  zero,
  suc,
  ◌<◌,
  ◌≤◌,
  Bool,
  true,
  false,
  ◌&&◌,
  ◌==◌,
  List,
  [],
  ◌∷◌,
  ◌++◌,
  take,
  drop,
  Option,
  None,
  Some,
  Contains,
  cond,
  inl,
  inr,
  refl,
  sym,
  ◌∙◌,
  ap,
  subst,
  append-nil,
  arith,
}
use Rattle.std.proofs.lemmas.Bool.{cases_lt, eqb-true, and_parts}
use Rattle.std.proofs.lemmas.List.Sums.{fold_push}
use Rattle.std.specs.List.{slice_get, cons_option, fold}
use Rattle.oz_fields.specs.declared.block.Block.{Block}
use Rattle.oz_script.specs.declared.lines.script.Script.{Script}
use Rattle.oz_namespace.specs.declared.namespace.Namespace.{Namespace}
use Rattle.oz_requests.specs.declared.reply.Reply.{Reply}
use Rattle.oz_requests.specs.declared.reply.Reply.TheVariants as replies
use Rattle.oz_requests.specs.declared.request.AskId.{AskId}
use Rattle.oz_requests.specs.declared.request.Family.TheVariants.{Allocation, Service}
use Rattle.oz_requests.specs.declared.request.Request.{Request}
use Rattle.oz_requests.specs.declared.request.Request.TheVariants.{AllocateBlock}
use Rattle.oz_requests.specs.Families.{family_of}
use Rattle.oz_requests.specs.Names.{volume_in}
use Rattle.oz_model.specs.Answers.{Answers}
use Rattle.oz_model.specs.Refusals.{refusal}
use Rattle.oz_model.specs.Scope.{scope_of}
use Rattle.oz_model.specs.laws.Grants.{grants_none}
use Rattle.oz_core.specs.declared.event.Event.{Event}
use Rattle.oz_core.specs.declared.event.EventKind.{EventKind}
use Rattle.oz_core.specs.declared.event.EventKind.TheVariants.{Ask, Decide, Grant}
use Rattle.oz_core.specs.declared.opening.Opening.{Opening}
use Rattle.oz_core.specs.Asks.{is_id, is_script, pending, pending_after}
use Rattle.oz_core.specs.Coherent.{IdsAreFresh}
use Rattle.oz_core.specs.Contents.{OpeningBytes, WasThere}
use Rattle.oz_core.specs.Fits.{EventFits, FitsFrom, ServiceAskFits}
use Rattle.oz_core.specs.Law.{IsLegal, IsLegalFrom, KindIsEnabled, DecideIsEnabled, GrantIsEnabled, GrantIsAllowed}
use Rattle.oz_core.specs.Manager.{IsUsed, granted_block, namespace_of}
use Rattle.oz_core.specs.Scm.{IsOfGrant, next_id, id_after}
use Rattle.oz_core.specs.Stories.{all_told, newer}
use Rattle.oz_kept.specs.laws.Places.{legal_first, legal_rest, moved_over}
use Rattle.oz_kept.specs.laws.Reached.{granted_anew}
use Rattle.oz_kept.specs.laws.Deleted.{found_at, split_at, got_of_taken, front_legal, enabled_at}

-- ---- only an AllocateBlock is granted a block

granted_request : (opening : Opening) (story : List Event) (namespace : Namespace) (request : Request) (block : Block) (pipeline : ℕ)
    → Answers namespace request (replies.Granted block pipeline) → GrantIsAllowed opening story request (replies.Granted block pipeline)
    → (family_of request ≡ Allocation) × ((stripe : ℕ) × IsOfGrant story stripe block pipeline)
unfolding Answers
granted_request opening story namespace (AllocateBlock volume bucket key session exclude) block pipeline answers allowed = (refl, (_, allowed.to_stripe))
granted_request opening story namespace request block pipeline answers allowed =
    let none = grants_none (refusal (scope_of namespace (volume_in request)) request) (scope_of namespace (volume_in request)) request
    (replies.Granted block pipeline) (λ e. absurd cc) answers in
    absurd cc

-- ---- what is told of an event among others

pub told_among : {X : Type 0} (tells : EventKind → Option X) (story : List Event) (event : Event) (x : X) → Contains story event → tells event.kind ≡ Some x
    → Contains (all_told tells story) x
told_among tells [] event x among is = absurd (omega (arith, among.1))
told_among {X} tells (first ∷ story) event x (zero, lt, same) is =
    subst (λ (o : Option X). Contains (cons_option o (all_told tells story)) x) (sym (ap (λ (e : Event). tells e.kind) same ∙ is)) (0, omega arith, refl)
told_among {X} tells (first ∷ story) event x (suc k, lt, same) is = by (tells first.kind) (told_among tells story event x (k, omega (arith, lt), same) is)
  where
    by : (o : Option X) → Contains (all_told tells story) x → Contains (cons_option o (all_told tells story)) x
    by None later = later
    by (Some y) (j, in_range, at) = (suc j, omega (arith, in_range), at)

-- ---- a block is granted once

module _ (opening : Opening) (story : List Event) (legal : IsLegal opening story) where
  decided_at : (place seat : ℕ) (id : AskId) (index : ℕ) (reply : Reply) (batch : List ℕ)
      → slice_get story place ≡ Some (record { seat = seat; kind = Decide id index reply batch })
      → DecideIsEnabled opening (take place story) seat id index reply batch
  decided_at place seat id index reply batch is = enabled_at opening story legal place (record { seat = seat; kind = Decide id index reply batch }) is

  grant_unused : (place seat : ℕ) (id : AskId) (index pipeline : ℕ) (block : Block) (batch : List ℕ)
      → slice_get story place ≡ Some (record { seat = seat; kind = Decide id index (replies.Granted block pipeline) batch })
      → IsUsed opening (take place story) block → ⊥
  grant_unused place seat id index pipeline block batch is used =
      let enabled = decided_at place seat id index (replies.Granted block pipeline) batch is in
      granted_anew opening (take place story) (namespace_of opening (take place story)) enabled.request
      (replies.Granted block pipeline) block enabled.one_thread enabled.granted used (0, omega arith, refl)

  -- an earlier grant is among those before
  used_since : (place later : ℕ) (event : Event) (block : Block) → place < later → slice_get story place ≡ Some event
      → granted_block event.kind ≡ Some block → IsUsed opening (take later story) block
  used_since place later event block lt is tells =
      inr (inr (inr (told_among granted_block (take later story) event block (among story place later lt is) tells)))
    where
      among : (l : List Event) (k n : ℕ) → k < n → slice_get l k ≡ Some event → Contains (take n l) event
      among [] k n less is = absurd cc
      among (x ∷ l) k zero less is = absurd (omega (arith, less))
      among (x ∷ l) zero (suc n) less is = let same : x ≡ event = cc in (0, omega arith, same)
      among (x ∷ l) (suc k) (suc n) less is = let rest = among l k n (omega (arith, less)) is in (suc rest.0, omega (arith, rest.1), rest.2)

  id_of : AskId → EventKind → AskId
  id_of other (Decide id index reply batch) = id
  id_of other kind = other

  pub record IsGrantedTo (block : Block) (id : AskId) : Type 0 where
    pub seat : ℕ
    pub index : ℕ
    pub pipeline : ℕ
    pub batch : List ℕ
    pub there : Contains story (record { seat = seat; kind = Decide id index (replies.Granted block pipeline) batch })

  event_of : (block : Block) (id : AskId) → IsGrantedTo block id → Event
  event_of block id grant = record { seat = grant.seat; kind = Decide id grant.index (replies.Granted block grant.pipeline) grant.batch }

  some_event : (a b : Event) → Some a ≡ Some b → a ≡ b
  some_event a b e = cc

  pub one_id : (block : Block) (id other : AskId) → IsGrantedTo block id → IsGrantedTo block other → id ≡ other
  unfolding id_of event_of
  one_id block id other a b = ⊎_elim
      (λ lt. absurd (grant_unused b.there.0 b.seat other b.index b.pipeline block b.batch found_b
      (used_since a.there.0 b.there.0 (event_of block id a) block lt found_a refl)))
      (λ le. ⊎_elim
      (λ lt. absurd (grant_unused a.there.0 a.seat id a.index a.pipeline block a.batch found_a
      (used_since b.there.0 a.there.0 (event_of block other b) block lt found_b refl)))
      (λ also.
      let same : a.there.0 ≡ b.there.0 = omega (arith, le, also) in
      let events = some_event (event_of block id a) (event_of block other b) (sym found_a ∙ ap (slice_get story) same ∙ found_b) in
      ap (λ (event : Event). id_of id event.kind) events)
      (cases_lt b.there.0 a.there.0))
      (cases_lt a.there.0 b.there.0)
    where
      found_a : slice_get story a.there.0 ≡ Some (event_of block id a)
      found_a = found_at story (event_of block id a) a.there

      found_b : slice_get story b.there.0 ≡ Some (event_of block other b)
      found_b = found_at story (event_of block other b) b.there

-- ---- and was on no disk

kind_rises : (opening : Opening) (before : List Event) (seat : ℕ) (kind : EventKind) → KindIsEnabled opening before seat kind
    → opening.next_id ≤ next_id opening before → opening.next_id ≤ newer (id_after kind) (next_id opening before)
kind_rises opening before seat (Grant stripe container pipeline first count) enabled le = omega (arith, le, enabled.next)
kind_rises opening before seat kind enabled le = le

ids_rise : (opening : Opening) (rest before : List Event) → IsLegalFrom opening before rest → opening.next_id ≤ next_id opening before
    → opening.next_id ≤ next_id opening (before ++ rest)
ids_rise opening [] before legal le = subst (λ (l : List Event). opening.next_id ≤ next_id opening l) (sym (append-nil before)) le
ids_rise opening (event ∷ rest) before legal le =
    let next : next_id opening (before ++ event ∷ []) ≡ newer (id_after event.kind) (next_id opening before) =
    fold_push (λ told (event : Event). newer (id_after event.kind) told) opening.next_id before event in
    subst (λ (l : List Event). opening.next_id ≤ next_id opening l) (moved_over before rest event)
    (ids_rise opening rest (before ++ event ∷ []) (legal_rest opening before event rest legal)
    (subst (λ (n : ℕ). opening.next_id ≤ n) (sym next) (kind_rises opening before event.seat event.kind (legal_first opening before event rest legal) le)))

module _ (opening : Opening) (story : List Event) (legal : IsLegal opening story) (block : Block) (id : AskId)
    (grant : IsGrantedTo opening story legal block id) where
  at_place : DecideIsEnabled opening (take grant.there.0 story) grant.seat id grant.index (replies.Granted block grant.pipeline) grant.batch
  at_place =
      let event : Event = record { seat = grant.seat; kind = Decide id grant.index (replies.Granted block grant.pipeline) grant.batch } in
      decided_at opening story legal grant.there.0 grant.seat id grant.index (replies.Granted block grant.pipeline) grant.batch
      (found_at story event grant.there)

  asked_for : (family_of at_place.request ≡ Allocation) × ((stripe : ℕ) × IsOfGrant (take grant.there.0 story) stripe block grant.pipeline)
  asked_for = granted_request opening (take grant.there.0 story)
      (namespace_of opening (take grant.there.0 story)) at_place.request block grant.pipeline at_place.one_thread at_place.granted

  -- a Grant that stands before has it
  pub of_grant : (stripe : ℕ) × IsOfGrant (take grant.there.0 story) stripe block grant.pipeline
  of_grant = asked_for.1

  pub no_lower : opening.next_id ≤ block.local
  no_lower =
      let front = take grant.there.0 story in
      let of = asked_for.1.1 in
      let event : Event = record { seat = of.seat; kind = Grant asked_for.1.0 block.container grant.pipeline of.first of.count } in
      let legal_here = front_legal opening story legal grant.there.0 in
      let enabled : GrantIsEnabled opening (take of.there.0 front) of.seat asked_for.1.0 block.container grant.pipeline of.first of.count =
      enabled_at opening front legal_here of.there.0 event (found_at front event of.there) in
      let rises = ids_rise opening (take of.there.0 front) [] (front_legal opening front legal_here of.there.0) (omega arith) in
      omega (arith, rises, enabled.next, of.local)

  pub was_nowhere : IdsAreFresh opening → WasThere opening block → ⊥
  was_nowhere fresh there = absurd (omega (arith, no_lower, fresh block (inr (inr there))))

-- ---- by an ask of a line

-- what is pending was asked
pub record WasAsked (id : AskId) (request : Request) (story : List Event) : Type 0 where
  pub seat : ℕ
  pub other : AskId
  pub there : Contains story (record { seat = seat; kind = Ask other request })
  pub same : is_id id other ≡ true

asked_behind : (id : AskId) (request : Request) (first : Event) (story : List Event) → WasAsked id request story → WasAsked id request (first ∷ story)
asked_behind id request first story asked =
    record { seat = asked.seat; other = asked.other; there = (suc asked.there.0, omega (arith, asked.there.1), asked.there.2); same = asked.same }

some_request : (a b : Request) → Some a ≡ Some b → a ≡ b
some_request a b e = cc

first_asks : (id : AskId) (request : Request) (first : Event) (story : List Event) (before : Option Request) → pending_after id before first.kind ≡ Some request
    → (before ≡ Some request) ⊎ WasAsked id request (first ∷ story)
first_asks id request first story before e = by first.kind refl
  where
    asked : (other : AskId) (made : Request) → first.kind ≡ Ask other made → (t : Bool) → is_id id other ≡ t → cond t (Some made) before ≡ Some request
        → (before ≡ Some request) ⊎ WasAsked id request (first ∷ story)
    asked other made is false test same = inl same
    asked other made is true test same =
        let one : made ≡ request = some_request made request same in
        let event : first ≡ record { seat = first.seat; kind = Ask other request } =
        ap (λ (kind : EventKind). record { seat = first.seat; kind = kind }) (is ∙ ap (Ask other) one) in
        inr (record { seat = first.seat; other = other; there = (0, omega arith, event); same = test })

    decided : (t : Bool) → cond t None before ≡ Some request → (before ≡ Some request) ⊎ WasAsked id request (first ∷ story)
    decided true same = absurd cc
    decided false same = inl same

    by : (kind : EventKind) → first.kind ≡ kind → (before ≡ Some request) ⊎ WasAsked id request (first ∷ story)
    by (Ask other made) is = asked other made is (is_id id other) refl (sym (ap (pending_after id before) is) ∙ e)
    by (Decide other index reply batch) is = decided (is_id id other) (sym (ap (pending_after id before) is) ∙ e)
    by kind is = inl (sym (ap (pending_after id before) is) ∙ e)

pending_from : (id : AskId) (request : Request) (story : List Event) (before : Option Request)
    → fold (λ before (event : Event). pending_after id before event.kind) before story ≡ Some request
    → (before ≡ Some request) ⊎ WasAsked id request story
pending_from id request [] before e = inl e
pending_from id request (first ∷ story) before e = ⊎_elim
    (λ here. first_asks id request first story before here)
    (λ later. inr (asked_behind id request first story later))
    (pending_from id request story (pending_after id before first.kind) e)

pub pending_asked : (id : AskId) (request : Request) (story : List Event) → pending id story ≡ Some request → WasAsked id request story
pending_asked id request story e = ⊎_elim (λ none. absurd cc) (λ asked. asked) (pending_from id request story None e)

pub one_ask_id : (id other : AskId) → is_id id other ≡ true → id ≡ other
one_ask_id id other e =
    let first = and_parts (other.client == id.client && other.line == id.line) (other.step == id.step) e in
    let both = and_parts (other.client == id.client) (other.line == id.line) first.0 in
    made (sym (eqb-true other.client id.client both.0)) (sym (eqb-true other.line id.line both.1)) (sym (eqb-true other.step id.step first.1))
  where
    made : id.client ≡ other.client → id.line ≡ other.line → id.step ≡ other.step → id ≡ other
    made client line step = λ i. record { client = client i; line = line i; step = step i }

fits_behind : (opening : Opening) (bytes : OpeningBytes) (script : Script) (before a b : List Event) → FitsFrom opening bytes script before (a ++ b)
    → FitsFrom opening bytes script (before ++ a) b
unfolding FitsFrom
fits_behind opening bytes script before [] b fits = subst (λ (l : List Event). FitsFrom opening bytes script l b) (sym (append-nil before)) fits
fits_behind opening bytes script before (event ∷ a) b fits =
    subst (λ (l : List Event). FitsFrom opening bytes script l b) (moved_over before a event)
    (fits_behind opening bytes script (before ++ event ∷ []) a b fits.1)

fits_first : (opening : Opening) (bytes : OpeningBytes) (script : Script) (before : List Event) (event : Event) (rest : List Event)
    → FitsFrom opening bytes script before (event ∷ rest) → EventFits opening bytes script before event.kind
unfolding FitsFrom
fits_first opening bytes script before event rest fits = fits.0

pub fits_at : (opening : Opening) (bytes : OpeningBytes) (script : Script) (story : List Event) → FitsFrom opening bytes script [] story
    → (place : ℕ) (event : Event) → slice_get story place ≡ Some event
    → EventFits opening bytes script (take place story) event.kind
fits_at opening bytes script story fits place event is =
    fits_first opening bytes script (take place story) event (drop (suc place) story)
    (fits_behind opening bytes script [] (take place story) (event ∷ drop (suc place) story)
    (subst (FitsFrom opening bytes script []) (split_at story place event is) fits))

pub granted_to_script : (opening : Opening) (bytes : OpeningBytes) (script : Script) (story : List Event) (legal : IsLegal opening story)
    → FitsFrom opening bytes script [] story
    → (block : Block) (id : AskId) → IsGrantedTo opening story legal block id → is_script id ≡ true
granted_to_script opening bytes script story legal fits block id grant =
    let front = take grant.there.0 story in
    let enabled = at_place opening story legal block id grant in
    let asked = pending_asked id enabled.request front enabled.undecided in
    let same = one_ask_id id asked.other asked.same in
    let event : Event = record { seat = asked.seat; kind = Ask asked.other enabled.request } in
    let found = got_of_taken story grant.there.0 asked.there.0 event (found_at front event asked.there) in
    let here = fits_at opening bytes script story fits asked.there.0 event found in
    by enabled.request (asked_for opening story legal block id grant).0 (is_script asked.other) refl (ap is_script same) here.1
  where
    by : (request : Request) → family_of request ≡ Allocation → {other : AskId} (t : Bool) → is_script other ≡ t → is_script id ≡ is_script other
        → (is_script other ≡ false → ServiceAskFits other request) → is_script id ≡ true
    by request allocates true test same service = same ∙ test
    by request allocates false test same service = let wrong : Allocation ≡ Service = sym allocates ∙ (service test).of_service in absurd cc
