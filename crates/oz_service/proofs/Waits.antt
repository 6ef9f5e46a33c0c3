-- What the service job waits for stays so while its seat gives nothing, since that seat alone asks by its id.
use Rattle.std.proofs.Common.{◌≡◌, ◌⊎◌, ⊎_elim, inl, inr, ◌||◌, ◌==◌, Bool, true, false, List, [], ◌∷◌, ◌++◌, length, length-append, fold, ℕ, Option, None, Some, cond, eq-eqb, arith, refl, sym, ap, ◌∙◌, subst}
use Rattle.std.proofs.lemmas.Bool.{false≢true, or_left}
use Rattle.std.proofs.lemmas.Option.{none-some}
use Rattle.std.proofs.lemmas.List.Elements.{Contains-append_left, filter-append, filter_map-append}
use Rattle.std.proofs.lemmas.List.Folds.{list_any-append}
use Rattle.std.proofs.lemmas.List.Sums.{fold-append}
use Rattle.oz_asker.specs.laws.Asks.{legal_of_follow}
use Rattle.oz_buffer.specs.Buffer.{AllFollow, Follows}
use Rattle.oz_core.specs.declared.event.Event.{Event}
use Rattle.oz_core.specs.declared.event.EventKind.{EventKind}
use Rattle.oz_core.specs.declared.event.EventKind.TheVariants.{Ask, Decide, PurgeAsk}
use Rattle.oz_core.specs.declared.opening.Opening.{Opening}
use Rattle.oz_core.specs.Asks.{asks, is_asked, is_id, is_script, pending, pending_after}
use Rattle.oz_core.specs.Contents.{OpeningBytes}
use Rattle.oz_core.specs.Law.{IsLegal, IsLegalFrom, KindIsEnabled, MayGo, PurgesLogged}
use Rattle.oz_core.specs.Scm.{is_in_logs, logged, names_block}
use Rattle.oz_core.specs.Seats.{service_seat, stripe_seat}
use Rattle.oz_core.specs.Stories.{all_told, mine}
use Rattle.oz_fields.specs.declared.block.Block.{Block}
use Rattle.oz_kept.specs.laws.Granted.{one_ask_id}
use Rattle.oz_kept.specs.laws.Places.{legal_behind}
use Rattle.oz_names.specs.Names.{stripe_of}
use Rattle.oz_om.specs.Served.{service_id}
use Rattle.oz_requests.specs.declared.request.AskId.{AskId}
use Rattle.oz_requests.specs.declared.request.Request.{Request}
use Rattle.oz_requests.specs.declared.request.Request.TheVariants.{Purge}
use Rattle.oz_script.specs.declared.lines.script.Script.{Script}
use Rattle.oz_service.specs.Pass.{Awaits}
use Rattle.oz_turn.specs.Told.{BeginsWith, own_entries}

-- ---- what is pending of an id that asks nothing more

pending_behind : AskId → Option Request → List Event → Option Request
pending_behind id before more = fold (λ was (event : Event). pending_after id was event.kind) before more

neither : (a b : Bool) → (a || b) ≡ false → (a ≡ false) × (b ≡ false)
neither true b e = absurd (false≢true (sym e))
neither false b e = (refl, e)

one_more : (id : AskId) (before : Option Request) (kind : EventKind) → asks id kind ≡ false
    → (pending_after id before kind ≡ before) ⊎ (pending_after id before kind ≡ None)
one_more id before (Ask other request) none = inl (ap (λ (t : Bool). cond t (Some request) before) none)
one_more id before (Decide other index reply batch) none = by (is_id id other) refl
  where
    by : (t : Bool) → is_id id other ≡ t
        → (pending_after id before (Decide other index reply batch) ≡ before) ⊎ (pending_after id before (Decide other index reply batch) ≡ None)
    by true same = inr (ap (λ (t : Bool). cond t None before) same)
    by false apart = inl (ap (λ (t : Bool). cond t None before) apart)
one_more id before kind none = inl refl

unasked_stays : (id : AskId) (more : List Event) (before : Option Request) → is_asked id more ≡ false
    → (pending_behind id before more ≡ before) ⊎ (pending_behind id before more ≡ None)
unfolding pending_behind
unasked_stays id [] before none = inl refl
unasked_stays id (event ∷ more) before none =
    let parts = neither (asks id event.kind) (is_asked id more) none in
    ⊎_elim
    (λ same. subst (λ (o : Option Request). (pending_behind id o more ≡ before) ⊎ (pending_behind id o more ≡ None)) (sym same) (unasked_stays id more before parts.1))
    (λ gone. inr (subst (λ (o : Option Request). pending_behind id o more ≡ None) (sym gone) (⊎_elim (λ e. e) (λ e. e) (unasked_stays id more None parts.1))))
    (one_more id before event.kind parts.0)

pending_on : (id : AskId) (before more : List Event) → pending id (before ++ more) ≡ pending_behind id (pending id before) more
unfolding pending_behind
pending_on id before more = fold-append (λ was (event : Event). pending_after id was event.kind) None before more

-- ---- who asks by the service job's id

none_more : {E : Type 0} (l more : List E) → l ++ more ≡ l → more ≡ []
none_more l [] same = refl
none_more l (x ∷ more) same = absurd (omega (arith, ap length same, length-append l (x ∷ more)))

not_of_others : (opening : Opening) (before : List Event) (seat : ℕ) (kind : EventKind) → KindIsEnabled opening before seat kind
    → (seat == service_seat) ≡ false → asks service_id kind ≡ false
not_of_others opening before seat (Ask other request) enabled apart = by (is_id service_id other) refl
  where
    by : (t : Bool) → is_id service_id other ≡ t → asks service_id (Ask other request) ≡ false
    by true same =
        let of_service : is_script other ≡ false = ap is_script (sym (one_ask_id service_id other same)) in
        absurd (false≢true (sym apart ∙ eq-eqb seat service_seat (enabled.asker.of_service of_service)))
    by false other_id = other_id
not_of_others opening before seat kind enabled apart = refl

unasked_from : (opening : Opening) (before more : List Event) → IsLegalFrom opening before more → mine service_seat more ≡ []
    → is_asked service_id more ≡ false
unfolding IsLegalFrom
unasked_from opening before [] legal none = refl
unasked_from opening before (event ∷ more) legal none = by (event.seat == service_seat) refl (unasked_from opening (before ++ event ∷ []) more legal.1)
  where
    kept : (t : Bool) → (event.seat == service_seat) ≡ t → cond t (event ∷ mine service_seat more) (mine service_seat more) ≡ []
    kept t e = sym (ap (λ (b : Bool). cond b (event ∷ mine service_seat more) (mine service_seat more)) e) ∙ none

    by : (t : Bool) → (event.seat == service_seat) ≡ t → (mine service_seat more ≡ [] → is_asked service_id more ≡ false)
        → is_asked service_id (event ∷ more) ≡ false
    by true e rest = let some = kept true e in absurd cc
    by false e rest =
        ap (λ (b : Bool). b || is_asked service_id more) (not_of_others opening before event.seat event.kind legal.0 e)
        ∙ rest (kept false e)

-- ---- what was logged stays so

pub logged_more : (seen more : List Event) (block : Block) → is_in_logs (all_told logged seen) block ≡ true
    → is_in_logs (all_told logged (seen ++ more)) block ≡ true
logged_more seen more block is =
    ap (λ (l : List _). is_in_logs l block) (filter_map-append (λ (event : Event). logged event.kind) seen more)
    ∙ (list_any-append (names_block block) (all_told logged seen) (all_told logged more)
    ∙ or_left (is_in_logs (all_told logged seen) block) (is_in_logs (all_told logged more) block) is)

pub go_still : (seen more : List Event) (stripe local : ℕ) → MayGo seen stripe local → MayGo (seen ++ more) stripe local
go_still seen more stripe local go = record {
  blocks = go.blocks;
  purged = Contains-append_left seen more (record { seat = stripe_seat stripe; kind = PurgeAsk go.blocks }) go.purged;
  block = go.block;
  among = go.among;
  its_local = go.its_local;
  logged = λ k d within. logged_more seen more _ (go.logged k d within);
}

logged_still : (seen more : List Event) (request : Request) → PurgesLogged seen request → PurgesLogged (seen ++ more) request
logged_still seen more (Purge volume rows) logged = λ k d within. go_still seen more (stripe_of volume) _ (logged k d within)
logged_still seen more request logged = tt

pub logged_on : (seen story : List Event) (request : Request) → BeginsWith story seen → PurgesLogged seen request → PurgesLogged story request
logged_on seen story request begins logged = subst (λ (l : List Event). PurgesLogged l request) (sym begins.1) (logged_still seen begins.0 request logged)

-- ---- a story goes on, and the service job's seat gave nothing

module _ (opening : Opening) (before more given : List Event) (legal : IsLegal opening (before ++ more))
    (was : mine service_seat before ≡ given) (own : mine service_seat (before ++ more) ≡ given) where
  unasked : is_asked service_id more ≡ false
  unasked = unasked_from opening before more (legal_behind opening [] before more legal)
      (none_more (mine service_seat before) (mine service_seat more)
      (sym (filter-append (λ (event : Event). event.seat == service_seat) before more) ∙ own ∙ sym was))

  at_most : (pending service_id (before ++ more) ≡ pending service_id before) ⊎ (pending service_id (before ++ more) ≡ None)
  at_most = subst (λ (o : Option Request). (o ≡ pending service_id before) ⊎ (o ≡ None)) (sym (pending_on service_id before more))
      (unasked_stays service_id more (pending service_id before) unasked)

  awaits_still : (waiting : Option Request) → Awaits before waiting → Awaits (before ++ more) waiting
  awaits_still None none = ⊎_elim (λ same. same ∙ none) (λ gone. gone) at_most
  awaits_still (Some request) awaits = (
    logged_still before more request awaits.0,
    λ other is. ⊎_elim (λ same. awaits.1 other (sym same ∙ is)) (λ none. absurd (none-some other (sym none ∙ is))) at_most,
  )

pub awaits_on : (Coherent : Type 0) (opening : Opening) (bytes : OpeningBytes) (script : Script) (before story given : List Event) (waiting : Option Request) → Coherent
    → BeginsWith story before → AllFollow (Follows Coherent opening bytes script) [] story
    → mine service_seat before ≡ given → mine service_seat story ≡ given → Awaits before waiting → Awaits story waiting
awaits_on Coherent opening bytes script before story given waiting coherent begins follow was own awaits =
    subst (λ (l : List Event). Awaits l waiting) (sym begins.1)
    (awaits_still opening before begins.0 given (subst (IsLegal opening) begins.1 (legal_of_follow Coherent opening bytes script story coherent follow))
    was (subst (λ (l : List Event). mine service_seat l ≡ given) begins.1 own) waiting awaits)

-- what a seat of this number knows of its own
pub own_of : (number : ℕ) (story given : List Event) → number ≡ service_seat → own_entries (λ (event : Event). event.seat) number story ≡ given
    → mine service_seat story ≡ given
own_of number story given is own = subst (λ (n : ℕ). own_entries (λ (event : Event). event.seat) n story ≡ given) is own
