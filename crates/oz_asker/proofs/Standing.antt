-- What stands behind an Ask that was found, or that was appended.
use Rattle.std.proofs.Common.{◌≡◌, ◌≢◌, ℕ, Bool, true, List, [], ◌∷◌, ◌++◌, length, Option, None, Some, Result, Ok, Err, IfOk, IfErr, cond, is_some, refl, sym, ap, ◌∙◌, subst}
use Rattle.std.proofs.lemmas.Bool.{false≢true}
use Rattle.std.specs.List.{slice_get}
use Rattle.oz_core.specs.declared.event.Event.{Event}
use Rattle.oz_core.specs.declared.event.EventKind.TheVariants.{Ask}
use Rattle.oz_core.specs.declared.opening.Opening.{Opening}
use Rattle.oz_core.specs.Asks.{is_script, pending}
use Rattle.oz_core.specs.Contents.{OpeningBytes}
use Rattle.oz_core.specs.Law.{AskIsEnabled, PurgesLogged}
use Rattle.oz_core.specs.Seats.{IsAskSeat}
use Rattle.oz_script.specs.declared.lines.script.Script.{Script}
use Rattle.oz_requests.specs.declared.request.AskId.{AskId}
use Rattle.oz_requests.specs.declared.request.Family.TheVariants.{Service}
use Rattle.oz_requests.specs.declared.request.Request.{Request}
use Rattle.oz_requests.specs.declared.request.Request.TheVariants.{Purge}
use Rattle.oz_requests.specs.Families.{family_of}
use Rattle.oz_buffer.specs.Buffer.{AllFollow, Follows}
use Rattle.oz_buffer.specs.laws.Courses.{pending-push}
use Rattle.oz_asker.specs.Asked.{IsAskAt, IsLate, MayAsk}
use Rattle.oz_asker.specs.declared.fault.AskFault.{AskFault}
use Rattle.oz_asker.specs.declared.fault.AskFault.TheVariants as faults
use Rattle.oz_asker.specs.laws.Asks.{legal_of_follow, pending_is_asked, same_id}

pub some_of : {A : Type 0} (o : Option A) → is_some o ≡ true → (x : A) × (o ≡ Some x)
some_of None is = absurd (false≢true is)
some_of (Some x) is = (x, refl)

-- ---- answers

pub if_ok_also : {A E : Type 0} {P Q : A → Type 0} (r : Result A E) → IfOk r P → ((x : A) → P x → Q x) → IfOk r Q
if_ok_also (Ok x) p also = also x p
if_ok_also (Err e) p also = tt

fault_of : AskFault → Result ℕ AskFault → AskFault
fault_of other (Ok place) = other
fault_of other (Err fault) = fault

pub same_fault : (one other : AskFault) (answer : Result ℕ AskFault) → answer ≡ Err one → answer ≡ Err other → one ≡ other
unfolding fault_of
same_fault one other answer is also = sym (ap (fault_of one) is) ∙ ap (fault_of one) also

count_of : ℕ → AskFault → ℕ
count_of other (faults.Stopped count) = count
count_of other fault = other

same_count : (a b : ℕ) → faults.Stopped a ≡ faults.Stopped b → b ≡ a
unfolding count_of
same_count a b e = sym (ap (count_of a) e)

pub late_of : (story : List Event) (id : AskId) (r : Result ℕ AskFault) (count : ℕ)
    → IfErr r (λ fault. (n : ℕ) × (fault ≡ faults.Stopped n) × IsLate story id n) → r ≡ Err (faults.Stopped count) → IsLate story id count
late_of story id r count late is =
    let there = subst (λ (o : Result ℕ AskFault). IfErr o (λ fault. (n : ℕ) × (fault ≡ faults.Stopped n) × IsLate story id n)) is late in
    subst (λ n. IsLate story id n) (same_count count there.0 there.1) there.2

pub not_of_blocks : (story : List Event) (id : AskId) (r : Result ℕ AskFault)
    → IfErr r (λ fault. (n : ℕ) × (fault ≡ faults.Stopped n) × IsLate story id n) → r ≡ Err faults.OtherBlocks → ⊥
not_of_blocks story id r late is =
    let there = subst (λ (o : Result ℕ AskFault). IfErr o (λ fault. (n : ℕ) × (fault ≡ faults.Stopped n) × IsLate story id n)) is late in
    let stopped = there.1 in cc

-- ---- an Ask that was found

module _ (Coherent : Type 0) (opening : Opening) (bytes : OpeningBytes) (script : Script) (story : List Event) (coherent : Coherent)
    (all : AllFollow (Follows Coherent opening bytes script) [] story) (id : AskId) (of_script : is_script id ≡ true) (request : Request)
    (same : (other : Request) → pending id story ≡ Some other → other ≡ request) (some : is_some (pending id story) ≡ true) where
  pub found_pending : pending id story ≡ Some request
  found_pending = let one = some_of (pending id story) some in one.1 ∙ ap (λ (r : Request). Some r) (same one.0 one.1)

  pub found_there : (place : ℕ) → (other : Request) × IsAskAt story place id other → IsAskAt story place id request
  found_there place (other, there) =
      pending_is_asked opening story (legal_of_follow Coherent opening bytes script story coherent all) id of_script place request other there found_pending

-- ---- an Ask that was appended

abbrev ask : ℕ → AskId → Request → Event
ask seat id request = record { seat = seat; kind = Ask id request }

pub now_pending : (story : List Event) (seat : ℕ) (id : AskId) (request : Request) → pending id (story ++ ask seat id request ∷ []) ≡ Some request
now_pending story seat id request =
    pending-push id story (ask seat id request) ∙ ap (λ (t : Bool). cond t (Some request) (pending id story)) (same_id id)

last_there : {A : Type 0} (l : List A) (x : A) → slice_get (l ++ x ∷ []) (length l) ≡ Some x
last_there [] x = refl
last_there (y ∷ l) x = last_there l x

pub now_there : (seen story entries : List Event) (seat : ℕ) (id : AskId) (request : Request) → seen ≡ story ++ ask seat id request ∷ [] → entries ≡ story
    → IsAskAt seen (length entries) id request
now_there seen story entries seat id request whole same =
    (seat, ap (λ (l : List Event). slice_get l (length entries)) whole ∙ (ap (λ (l : List Event). slice_get (story ++ ask seat id request ∷ []) (length l)) same ∙ last_there story (ask seat id request)))

-- ---- what the law asks

none_purged : (story : List Event) (request : Request) → family_of request ≢ Service → PurgesLogged story request
none_purged story (Purge volume rows) other = absurd (other refl)
none_purged story request other = tt

pub may_enable : (opening : Opening) (story : List Event) (seat : ℕ) (id : AskId) (request : Request) → IsAskSeat id seat → family_of request ≢ Service
    → MayAsk opening story id → AskIsEnabled opening story seat id request
may_enable opening story seat id request asker other may = record {
  asker = asker;
  unasked = λ _. may.unasked;
  untold = λ _. may.untold;
  decided = λ _. may.decided;
  stable = λ _. may.stable;
  logged = none_purged story request other;
}

pub enabled_may : (opening : Opening) (story : List Event) (seat : ℕ) (id : AskId) (request : Request) → is_script id ≡ true
    → AskIsEnabled opening story seat id request → MayAsk opening story id
enabled_may opening story seat id request of_script enabled = record {
  unasked = enabled.unasked of_script;
  untold = enabled.untold of_script;
  decided = enabled.decided of_script;
  stable = enabled.stable of_script;
}
