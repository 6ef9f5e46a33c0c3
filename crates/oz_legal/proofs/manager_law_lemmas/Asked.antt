-- What a line asked and what is pending of it; and rows that may go.
use Rattle.std.proofs.Common.{◌≡◌, ℕ, Bool, true, false, ◌&&◌, ◌||◌, ◌==◌, cond, List, [], ◌∷◌, fold, refl, sym, ◌∙◌, ap, subst, Option, None, Some}
use Rattle.std.specs.Option.{is_none, option_map_or}
use Rattle.std.specs.List.{list_any, list_all, filter_map, cons_option, Contains, All}
use Rattle.std.proofs.lemmas.Bool.{eqb-true, eq-eqb}
use Rattle.std.proofs.lemmas.List.Sums.{AllPass-from_list_all, list_all-from_AllPass}
use Rattle.oz_fields.specs.declared.block.Block.{Block}
use Rattle.oz_dellog.specs.declared.txn.Txn.{Txn}
use Rattle.oz_requests.specs.declared.request.AskId.{AskId}
use Rattle.oz_requests.specs.declared.request.Request.{Request}
use Rattle.oz_core.specs.declared.event.Event.{Event}
use Rattle.oz_core.specs.declared.event.EventKind.{EventKind}
use Rattle.oz_core.specs.declared.event.EventKind.TheVariants as kind
use Rattle.oz_core.specs.Asks.{asks, is_asked, is_of_line, pending, pending_after}
use Rattle.oz_core.specs.Law.{MayGo}
use Rattle.oz_core.specs.Scm.{is_in_logs, logged, names_block}
use Rattle.oz_core.specs.Seats.{stripe_seat}
use Rattle.oz_core.specs.Stories.{all_told}
use Rattle.oz_legal.specs.manager_law.Asking.{is_decided, AreDecided, purges_local, lets_go}
use Rattle.oz_legal.proofs.manager_law_lemmas.Found.{false-true, both, neither, joined, nothing, Found, found, finds, at, same_id}

-- ---- what is pending was asked

same_both : {X : Type 0} (b : Bool) (x : X) → cond b x x ≡ x
same_both true x = refl
same_both false x = refl

unasked-step : (id : AskId) (kind : EventKind) → asks id kind ≡ false → pending_after id None kind ≡ None
unasked-step id (kind.Ask other request) h = ap (λ (b : Bool). cond b (Some request) None) h
unasked-step id (kind.Decide other index reply batch) h = same_both _ None
unasked-step id _ h = refl

pub unasked : (id : AskId) (story : List Event) → is_asked id story ≡ false → pending id story ≡ None
unasked id [] h = refl
unasked id (event ∷ story) h =
    let two : (asks id event.kind ≡ false) × (is_asked id story ≡ false) = neither (asks id event.kind) (is_asked id story) h in
    ap (λ (before : Option Request). fold (λ before (e : Event). pending_after id before e.kind) before story) (unasked-step id event.kind two.0)
    ∙ unasked id story two.1

-- ---- a line's asks, decided

decided-at : (client line : ℕ) (story : List Event) (earlier : AskId) → is_of_line client line earlier ≡ true → (kind : EventKind) → asks earlier kind ≡ true → is_decided client line story kind ≡ true → pending earlier story ≡ None
decided-at client line story earlier of (kind.Ask other request) so decided =
    let there : cond (is_of_line client line earlier) (is_none (pending earlier story)) true ≡ true = subst (λ (i : AskId). cond (is_of_line client line i) (is_none (pending i story)) true ≡ true) (same_id earlier other so) decided in
    nothing (pending earlier story) (subst (λ (b : Bool). cond b (is_none (pending earlier story)) true ≡ true) of there)
decided-at client line story earlier of _ so decided = false-true so

decided-go : (client line : ℕ) (story : List Event) → list_all (λ (event : Event). is_decided client line story event.kind) story ≡ true → (earlier : AskId) → is_of_line client line earlier ≡ true → (b : Bool) → is_asked earlier story ≡ b → pending earlier story ≡ None
decided-go client line story h earlier of true e =
    let f : Found (λ (event : Event). asks earlier event.kind) story = found (λ (event : Event). asks earlier event.kind) story e in
    decided-at client line story earlier of f.item.kind f.so (at (λ (event : Event). is_decided client line story event.kind) story f.item f.there h)
decided-go client line story h earlier of false e = unasked earlier story e

pub decided : (client line : ℕ) (story : List Event) → list_all (λ (event : Event). is_decided client line story event.kind) story ≡ true → AreDecided client line story
decided client line story h earlier of = decided-go client line story h earlier of (is_asked earlier story) refl

decides-ask : (client line : ℕ) (story : List Event) → AreDecided client line story → (id : AskId) → (b : Bool) → is_of_line client line id ≡ b → cond b (is_none (pending id story)) true ≡ true
decides-ask client line story h id true e = ap (λ (o : Option Request). is_none o) (h id e)
decides-ask client line story h id false e = refl

decides : (client line : ℕ) (story : List Event) → AreDecided client line story → (kind : EventKind) → is_decided client line story kind ≡ true
decides client line story h (kind.Ask id request) = decides-ask client line story h id (is_of_line client line id) refl
decides client line story h _ = refl

pub decided-by : (client line : ℕ) (story : List Event) → AreDecided client line story → list_all (λ (event : Event). is_decided client line story event.kind) story ≡ true
decided-by client line story h = list_all-from_AllPass (λ (event : Event). is_decided client line story event.kind) story (λ k d l. decides client line story h _)

-- ---- a story's own log

any-cons : {Y : Type 0} (p : Y → Bool) (o : Option Y) (ys : List Y) → list_any p (cons_option o ys) ≡ (option_map_or p o false || list_any p ys)
any-cons p None ys = refl
any-cons p (Some y) ys = refl

pub any-told : {X Y : Type 0} (p : Y → Bool) (h : X → Option Y) (xs : List X) → list_any p (filter_map h xs) ≡ list_any (λ x. option_map_or p (h x) false) xs
any-told p h [] = refl
any-told p h (x ∷ xs) = any-cons p (h x) (filter_map h xs) ∙ ap (λ (b : Bool). option_map_or p (h x) false || b) (any-told p h xs)

-- ---- rows that may go

goes : (story : List Event) (stripe local seat : ℕ) → seat ≡ stripe_seat stripe → (kind : EventKind) → Contains story (record { seat = seat; kind = kind }) → purges_local story local kind ≡ true → MayGo story stripe local
goes story stripe local seat its (kind.PurgeAsk blocks) there so =
    let two = both (list_any (λ (block : Block). block.local == local) blocks) (list_all (λ (block : Block). is_in_logs (all_told logged story) block) blocks) so in
    let f : Found (λ (block : Block). block.local == local) blocks = found (λ (block : Block). block.local == local) blocks two.0 in
    record {
      blocks = blocks;
      purged = subst (λ (s : ℕ). Contains story (record { seat = s; kind = kind.PurgeAsk blocks })) its there;
      block = f.item;
      among = f.there;
      its_local = eqb-true f.item.local local f.so;
      logged = AllPass-from_list_all (λ (block : Block). is_in_logs (all_told logged story) block) blocks two.1;
    }
goes story stripe local seat its _ there so = false-true so

pub may_go-found : (story : List Event) (stripe local : ℕ) → list_any (λ (event : Event). lets_go story stripe local event) story ≡ true → MayGo story stripe local
may_go-found story stripe local h =
    let f : Found (λ (event : Event). lets_go story stripe local event) story = found (λ (event : Event). lets_go story stripe local event) story h in
    let two = both (f.item.seat == stripe_seat stripe) (purges_local story local f.item.kind) f.so in
    goes story stripe local f.item.seat (eqb-true f.item.seat (stripe_seat stripe) two.0) f.item.kind f.there two.1

pub may_go-finds : (story : List Event) (stripe local : ℕ) → MayGo story stripe local → list_any (λ (event : Event). lets_go story stripe local event) story ≡ true
may_go-finds story stripe local is =
    finds (λ (event : Event). lets_go story stripe local event) story (record { seat = stripe_seat stripe; kind = kind.PurgeAsk is.blocks }) is.purged
    (joined (stripe_seat stripe == stripe_seat stripe) (purges_local story local (kind.PurgeAsk is.blocks)) (eq-eqb (stripe_seat stripe) (stripe_seat stripe) refl)
    (joined (list_any (λ (block : Block). block.local == local) is.blocks) (list_all (λ (block : Block). is_in_logs (all_told logged story) block) is.blocks)
    (finds (λ (block : Block). block.local == local) is.blocks is.block is.among (eq-eqb is.block.local local is.its_local))
    (list_all-from_AllPass (λ (block : Block). is_in_logs (all_told logged story) block) is.blocks is.logged)))
