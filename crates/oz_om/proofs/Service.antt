-- What the service job asked stays pending until it is decided, since its seat alone asks so.
use Rattle.std.proofs.Common.{◌≡◌, ◌⊎◌, ⊎_elim, inl, inr, ℕ, zero, suc, ◌||◌, ◌≤◌, ◌+◌, ◌-◌, ◌==◌, Bool, true, false, List, [], ◌∷◌, ◌++◌, take, drop, length, length-append, filter, Option, None, Some, Result, Ok, Err, IfOk, is_some, cond, eq-eqb, arith, refl, sym, ap, ◌∙◌, subst}
use Rattle.std.proofs.lemmas.Bool.{false≢true}
use Rattle.std.proofs.lemmas.Option.{none-some}
use Rattle.std.proofs.lemmas.List.Elements.{filter-append}
use Rattle.std.proofs.Math.Seq.{take-append_seam, take-append-add}
use Rattle.std.specs.List.{slice_get}
use Rattle.oz_asker.specs.laws.Asks.{same_id}
use Rattle.oz_core.specs.declared.event.Event.{Event}
use Rattle.oz_core.specs.declared.event.EventKind.{EventKind}
use Rattle.oz_core.specs.declared.event.EventKind.TheVariants.{Ask, Decide}
use Rattle.oz_core.specs.declared.opening.Opening.{Opening}
use Rattle.oz_core.specs.Asks.{asks, is_asked, is_id, is_script, pending}
use Rattle.oz_core.specs.Contents.{OpeningBytes}
use Rattle.oz_core.specs.Fits.{EventFits}
use Rattle.oz_core.specs.Law.{AskIsEnabled, DecideIsEnabled, IsLegal, IsLegalFrom, KindIsEnabled, MayGo, PurgesLogged}
use Rattle.oz_core.specs.Seats.{service_seat, stripe_seat}
use Rattle.oz_core.specs.Stories.{mine}
use Rattle.oz_kept.specs.laws.Deleted.{enabled_at, split_at}
use Rattle.oz_kept.specs.laws.Granted.{one_ask_id}
use Rattle.oz_kept.specs.laws.Places.{legal_behind}
use Rattle.oz_model.specs.Answers.{Answers}
use Rattle.oz_core.specs.Manager.{namespace_at}
use Rattle.oz_names.specs.Names.{stripe_of}
use Rattle.oz_requests.specs.declared.reply.Reply.{Reply}
use Rattle.oz_requests.specs.declared.request.AskId.{AskId}
use Rattle.oz_requests.specs.declared.request.Family.TheVariants.{Service}
use Rattle.oz_requests.specs.declared.request.PurgeRow.{PurgeRow}
use Rattle.oz_requests.specs.declared.request.Request.{Request}
use Rattle.oz_requests.specs.declared.request.Request.TheVariants.{Purge}
use Rattle.oz_requests.specs.Families.{family_of}
use Rattle.oz_requests.specs.Names.{volume_in}
use Rattle.oz_script.specs.declared.lines.script.Script.{Script}
use Rattle.oz_buffer.specs.laws.Courses.{pending-push}
use Rattle.oz_turn.specs.Told.{BeginsWith, own_entries}
use Rattle.oz_om.specs.Served.{IsDecidedBehind, IsServed, WaitsForNoOther, service_ask, service_id}
use Rattle.oz_om.proofs.LastAsk.{neither, none_stays, pending_behind, pending_on, unasked_stays}
use Rattle.oz_om.proofs.Gone.{go_later}

-- ---- who asks by the service job's id

-- a list that grows by nothing
none_more : {E : Type 0} (l more : List E) → l ++ more ≡ l → more ≡ []
none_more l [] same = refl
none_more l (x ∷ more) same = absurd (omega (arith, ap length same, length-append l (x ∷ more)))

not_of_others : (opening : Opening) (before : List Event) (seat : ℕ) (kind : EventKind) → KindIsEnabled opening before seat kind
    → (seat == service_seat) ≡ false → asks service_id kind ≡ false
not_of_others opening before seat (Ask other request) enabled apart = by (is_id service_id other) refl
  where
    by : (t : Bool) → is_id service_id other ≡ t → asks service_id (Ask other request) ≡ false
    by true same =
        let of_service : is_script other ≡ false = ap is_script (sym (one_ask_id service_id other same)) in
        absurd (false≢true (sym apart ∙ eq-eqb seat service_seat (enabled.asker.of_service of_service)))
    by false other_id = other_id
not_of_others opening before seat kind enabled apart = refl

unasked_from : (opening : Opening) (before more : List Event) → IsLegalFrom opening before more → mine service_seat more ≡ []
    → is_asked service_id more ≡ false
unfolding IsLegalFrom
unasked_from opening before [] legal none = refl
unasked_from opening before (event ∷ more) legal none = by (event.seat == service_seat) refl (unasked_from opening (before ++ event ∷ []) more legal.1)
  where
    kept : (t : Bool) → (event.seat == service_seat) ≡ t → cond t (event ∷ mine service_seat more) (mine service_seat more) ≡ []
    kept t e = sym (ap (λ (b : Bool). cond b (event ∷ mine service_seat more) (mine service_seat more)) e) ∙ none

    by : (t : Bool) → (event.seat == service_seat) ≡ t → (mine service_seat more ≡ [] → is_asked service_id more ≡ false)
        → is_asked service_id (event ∷ more) ≡ false
    by true e rest = let some = kept true e in absurd cc
    by false e rest =
        ap (λ (b : Bool). b || is_asked service_id more) (not_of_others opening before event.seat event.kind legal.0 e)
        ∙ rest (kept false e)

in_front : (id : AskId) (n : ℕ) (more : List Event) → is_asked id more ≡ false → is_asked id (take n more) ≡ false
in_front id zero more none = refl
in_front id (suc n) [] none = refl
in_front id (suc n) (event ∷ more) none =
    let parts = neither (asks id event.kind) (is_asked id more) none in
    ap (λ (b : Bool). b || is_asked id (take n more)) parts.0 ∙ in_front id n more parts.1

further : (id : AskId) (before more : List Event) (n : ℕ) → length before ≤ n → is_asked id more ≡ false → is_asked id (drop n (before ++ more)) ≡ false
further id [] more n le none = behind n more none
  where
    behind : (n : ℕ) (l : List Event) → is_asked id l ≡ false → is_asked id (drop n l) ≡ false
    behind zero l none = none
    behind (suc n) [] none = refl
    behind (suc n) (event ∷ l) none = behind n l (neither (asks id event.kind) (is_asked id l) none).1
further id (event ∷ before) more zero le none = absurd (omega (arith, le))
further id (event ∷ before) more (suc n) le none = further id before more n (omega (arith, le)) none

-- ---- a story goes on, and the service job's seat added nothing

module _ (opening : Opening) (before more given : List Event) (legal : IsLegal opening (before ++ more))
    (was : mine service_seat before ≡ given) (own : mine service_seat (before ++ more) ≡ given) where
  unasked : is_asked service_id more ≡ false
  unasked = unasked_from opening before more (legal_behind opening [] before more legal)
      (none_more (mine service_seat before) (mine service_seat more)
      (sym (filter-append (λ (event : Event). event.seat == service_seat) before more) ∙ own ∙ sym was))

  still : (n : ℕ) (request : Request) → (pending service_id (before ++ take n more) ≡ pending service_id before) ⊎ (pending service_id (before ++ take n more) ≡ None)
  still n request = subst (λ (o : Option Request). (o ≡ pending service_id before) ⊎ (o ≡ None)) (sym (pending_on service_id before (take n more)))
      (unasked_stays service_id (take n more) (pending service_id before) (in_front service_id n more unasked))

  pub waits_still : (request : Request) → WaitsForNoOther before request → WaitsForNoOther (before ++ more) request
  waits_still request waits other is = ⊎_elim
      (λ same. waits other (sym same ∙ sym (pending_on service_id before more) ∙ is))
      (λ none. absurd (none-some other (sym none ∙ sym (pending_on service_id before more) ∙ is)))
      (unasked_stays service_id more (pending service_id before) unasked)

  module _ (request : Request) (waits : pending service_id before ≡ Some request) (index : ℕ)
      (decided : IsDecidedBehind (before ++ more) (length before) service_id index) where
    abbrev story : List Event
    story = before ++ more

    abbrev place : ℕ
    place = decided.0

    abbrev event : Event
    event = record { seat = decided.1; kind = Decide service_id index decided.2 decided.3 }

    enabled : DecideIsEnabled opening (take place story) decided.1 service_id index decided.2 decided.3
    enabled = enabled_at opening story legal place event decided.5

    until : take place story ≡ before ++ take (place - length before) more
    until =
        let le = decided.4 in
        let parts : place ≡ length before + (place - length before) = omega (arith, le) in
        ap (λ n. take n story) parts ∙ take-append-add before more (place - length before)

    one : pending service_id (take place story) ≡ Some request
    one = ⊎_elim
        (λ same. ap (pending service_id) until ∙ same ∙ waits)
        (λ none. absurd (none-some enabled.request (sym none ∙ sym (ap (pending service_id) until) ∙ enabled.undecided)))
        (still (place - length before) request)

    request_is : enabled.request ≡ request
    request_is = let same = sym enabled.undecided ∙ one in cc

    pub served : (seen : List Event) → length seen ≤ length before → IsServed opening seen story request index
    served seen le =
        let beyond = decided.4 in (
          decided.2,
          record {
            place = place;
            behind = omega (arith, le, beyond);
            index = index;
            batch = decided.3;
            there = decided.5 ∙ ap (λ (n : ℕ). Some (record { seat = n; kind = Decide service_id index decided.2 decided.3 }))
                (enabled.of_stripe ∙ ap (λ (r : Request). stripe_seat (stripe_of (volume_in r))) request_is);
            asked = one;
            one_thread = subst (λ (r : Request). Answers (namespace_at opening story place) r decided.2) request_is enabled.one_thread;
          },
          refl,
        )

    pub none_waits : pending service_id story ≡ None
    none_waits =
        let le = decided.4 in
        ap (pending service_id) (split_at story place event decided.5)
        ∙ (pending_on service_id (take place story) (event ∷ drop (suc place) story)
        ∙ (ap (λ (t : Bool). pending_behind service_id (cond t None (pending service_id (take place story))) (drop (suc place) story)) (same_id service_id)
        ∙ none_stays service_id (drop (suc place) story) (further service_id before more (suc place) (omega (arith, le)) unasked)))

-- the same of a story that begins so
module _ (opening : Opening) (before story given : List Event) (begins : BeginsWith story before) (legal : IsLegal opening story)
    (was : mine service_seat before ≡ given) (own : mine service_seat story ≡ given) where
  legal_on : IsLegal opening (before ++ begins.0)
  legal_on = subst (IsLegal opening) begins.1 legal

  own_on : mine service_seat (before ++ begins.0) ≡ given
  own_on = subst (λ (l : List Event). mine service_seat l ≡ given) begins.1 own

  pub waits_on : (request : Request) → WaitsForNoOther before request → WaitsForNoOther story request
  waits_on request waits = subst (λ (l : List Event). WaitsForNoOther l request) (sym begins.1)
      (waits_still opening before begins.0 given legal_on was own_on request waits)

  module _ (request : Request) (waits : pending service_id before ≡ Some request) (index : ℕ)
      (decided : IsDecidedBehind story (length before) service_id index) where
    decided_on : IsDecidedBehind (before ++ begins.0) (length before) service_id index
    decided_on = subst (λ (l : List Event). IsDecidedBehind l (length before) service_id index) begins.1 decided

    pub served_on : (seen : List Event) → length seen ≤ length before → IsServed opening seen story request index
    served_on seen le = subst (λ (l : List Event). IsServed opening seen l request index) (sym begins.1)
        (served opening before begins.0 given legal_on was own_on request waits index decided_on seen le)

    pub none_on : pending service_id story ≡ None
    none_on = subst (λ (l : List Event). pending service_id l ≡ None) (sym begins.1)
        (none_waits opening before begins.0 given legal_on was own_on request waits index decided_on)

-- ---- the Ask that is added

go_still : (seen more : List Event) (stripe local : ℕ) → MayGo seen stripe local → MayGo (seen ++ more) stripe local
go_still seen more stripe local go =
    go_later (seen ++ more) (length seen) stripe local (subst (λ (l : List Event). MayGo l stripe local) (sym (take-append_seam seen more)) go)

pub logged_still : (seen more : List Event) (request : Request) → PurgesLogged seen request → PurgesLogged (seen ++ more) request
logged_still seen more (Purge volume rows) logged = λ k d within. go_still seen more (stripe_of volume) _ (logged k d within)
logged_still seen more request logged = tt

pub may_ask : (opening : Opening) (story : List Event) (request : Request) → PurgesLogged story request → AskIsEnabled opening story service_seat service_id request
may_ask opening story request logged = record {
  asker = record { of_line = λ is. absurd (false≢true is); of_service = λ _. refl };
  unasked = λ is. absurd (false≢true is);
  untold = λ is. absurd (false≢true is);
  decided = λ is. absurd (false≢true is);
  stable = λ is. absurd (false≢true is);
  logged = logged;
}

pub ask_fits : (opening : Opening) (bytes : OpeningBytes) (script : Script) (story : List Event) (request : Request) → family_of request ≡ Service
    → EventFits opening bytes script story (Ask service_id request)
ask_fits opening bytes script story request service =
    (λ is. absurd (false≢true is), λ _. record { of_service = service; its_id = refl })

-- ---- what the seat knows

-- what it gave is its own in what it has seen, by whatever number it has
pub own_of : (number : ℕ) (story given : List Event) → number ≡ service_seat → own_entries (λ (event : Event). event.seat) number story ≡ given
    → mine service_seat story ≡ given
own_of number story given is own = subst (λ (n : ℕ). own_entries (λ (event : Event). event.seat) n story ≡ given) is own

pub for_any : {A E : Type 0} (P : Type 0) (r : Result A E) → P → IfOk r (λ _. P)
for_any P (Ok x) p = p
for_any P (Err e) p = tt

pub none_of : {A : Type 0} (o : Option A) → is_some o ≡ false → o ≡ None
none_of None e = refl
none_of (Some x) e = absurd (false≢true (sym e))

pub asked_of : (story : List Event) (request : Request) → WaitsForNoOther story request → is_some (pending service_id story) ≡ true
    → pending service_id story ≡ Some request
asked_of story request waits some = by (pending service_id story) refl
  where
    by : (o : Option Request) → pending service_id story ≡ o → pending service_id story ≡ Some request
    by None e = absurd (false≢true (sym (ap is_some e) ∙ some))
    by (Some other) e = e ∙ ap (λ (r : Request). Some r) (waits other e)

pub now_asked : (story : List Event) (request : Request) → pending service_id (story ++ service_ask request ∷ []) ≡ Some request
now_asked story request =
    pending-push service_id story (service_ask request)
    ∙ ap (λ (t : Bool). cond t (Some request) (pending service_id story)) (same_id service_id)

some_request : Request → Option Request → Request
some_request other None = other
some_request other (Some request) = request

pub waits_alone : (story : List Event) (request : Request) → pending service_id story ≡ Some request → WaitsForNoOther story request
unfolding some_request
waits_alone story request is other also = sym (ap (some_request request) (sym is ∙ also))

pub waits_for_none : (story : List Event) (request : Request) → pending service_id story ≡ None → WaitsForNoOther story request
waits_for_none story request none other also = absurd (none-some other (sym none ∙ also))
