-- Three that acknowledged a transaction are all of its members, and each has applied it.
use Rattle.std.proofs.Common.{◌≡◌, ◌≢◌, ⊎_elim, ℕ, suc, ◌<◌, ◌≤◌, Bool, true, false, ◌==◌, cond, List, []}
use Rattle.std.proofs.Common.{◌∷◌, ◌++◌, length, take, None, Some, Contains, refl, sym, ◌∙◌, ap}
use Rattle.std.proofs.Common.{subst, append-nil, arith}
use Rattle.std.proofs.lemmas.Bool.{and_parts, cases_Bool, eqb-true, ne_eqb}
use Rattle.std.proofs.lemmas.List.Elements.{Contains-get_or, filter_map-append}
use Rattle.std.proofs.lemmas.List.Kept.{AllPairs-cons}
use Rattle.std.proofs.lemmas.List.Quantifiers.{all_pairs_push}
use Rattle.std.proofs.lemmas.Map.Made.{IsDistinct-from_AllPairs, length-le_from_is_member}
use Rattle.std.proofs.lemmas.Map.Views.{Contains-from_any, list_any-from_Contains}
use Rattle.std.proofs.lemmas.Option.{cond_some, none-some}
use Rattle.std.specs.Cmp.{nat_eq_equiv, unsigned_Decides}
use Rattle.std.specs.List.{AllPairs, cons_option, flat_map, list_any, slice_get}
use Rattle.std.specs.Prelude.{nat_eq}
use Rattle.oz_core.specs.declared.event.Event.{Event}
use Rattle.oz_core.specs.declared.event.EventKind.{EventKind}
use Rattle.oz_core.specs.declared.event.EventKind.TheVariants.{AckDel, Delete}
use Rattle.oz_core.specs.declared.opening.Opening.{Opening}
use Rattle.oz_core.specs.declared.opening.Unretired.{Unretired}
use Rattle.oz_core.specs.Law.{AckDelIsEnabled, IsLegal, IsLegalFrom, KindIsEnabled, applies}
use Rattle.oz_core.specs.Scm.{acknowledged_at_opening, acknowledger, acknowledgers}
use Rattle.oz_core.specs.Stories.{all_told, has_event}
use Rattle.oz_kept.specs.laws.Places.{legal_first, legal_rest, moved_over}
use Rattle.oz_kept.specs.laws.Deleted.{enabled_at, first_or_later, found_at, got_of_taken}
use Rattle.oz_kept.specs.reopened.laws.Named.{told_event}
use Rattle.oz_kept.specs.reopened.laws.Placed.{event_there}
use Rattle.oz_repl.specs.views.Away.{NumbersAreOld}

-- ---- a Delete at its place

pub record IsAppliedAt (story : List Event) (dn number place : ℕ) : Type 0 where
  pub seat : ℕ
  pub locals : List ℕ
  pub there : slice_get story place ≡ Some (record { seat = seat; kind = Delete dn number locals })

applied_kind : (dn number : ℕ) (kind : EventKind) → applies dn number kind ≡ true → (locals : List ℕ) × (kind ≡ Delete dn number locals)
applied_kind dn number (Delete other txn locals) e =
    let both = and_parts (other == dn) (txn == number) e in
    (locals, ap (λ (n : ℕ). Delete n txn locals) (eqb-true other dn both.0) ∙ ap (λ (n : ℕ). Delete dn n locals) (eqb-true txn number both.1))
applied_kind dn number kind e = absurd cc

pub applied_at : (story : List Event) (dn number : ℕ) → has_event (applies dn number) story ≡ true → (place : ℕ) × IsAppliedAt story dn number place
applied_at story dn number e =
    let it = event_there (applies dn number) story e in
    let is = applied_kind dn number it.event.kind it.so in (
      it.there.0,
      record {
        seat = it.event.seat;
        locals = is.0;
        there = found_at story it.event it.there ∙ ap (λ (kind : EventKind). Some (record { seat = it.event.seat; kind = kind })) is.1;
      },
    )

-- ---- an AckDel at its place, and what stands before it

acked_kind : (dn number : ℕ) (kind : EventKind) → acknowledger number kind ≡ Some dn → kind ≡ AckDel dn number
acked_kind dn number (AckDel other txn) e =
    let both = cond_some (txn == number) other dn e in
    ap (λ (n : ℕ). AckDel n txn) both.1 ∙ ap (AckDel dn) (eqb-true txn number both.0)
acked_kind dn number kind e = absurd (none-some dn e)

pub ack_applied : (opening : Opening) (story : List Event) → IsLegal opening story → (dn number : ℕ)
    → Contains (all_told (acknowledger number) story) dn → (place : ℕ) × IsAppliedAt story dn number place
ack_applied opening story legal dn number among =
    let told = told_event (acknowledger number) story dn among in
    let kind = acked_kind dn number told.event.kind told.told in
    let is : slice_get story told.there.0 ≡ Some (record { seat = told.event.seat; kind = AckDel dn number }) =
    found_at story told.event told.there ∙ ap (λ (kind : EventKind). Some (record { seat = told.event.seat; kind = kind })) kind in
    let enabled : AckDelIsEnabled opening (take told.there.0 story) told.event.seat dn number = enabled_at opening
    story legal told.there.0 (record { seat = told.event.seat; kind = AckDel dn number }) is in
    let before = applied_at (take told.there.0 story) dn number enabled.applied in
    (before.0, record { seat = before.1.seat; locals = before.1.locals; there = got_of_taken story told.there.0 before.0 _ before.1.there })

-- ---- none acknowledges twice

ack_step : (opening : Opening) (before : List Event) (seat number : ℕ) (kind : EventKind)
    → KindIsEnabled opening before seat kind → acknowledged_at_opening opening number ≡ []
    → AllPairs ◌≢◌ (all_told (acknowledger number) before) → AllPairs ◌≢◌ (all_told (acknowledger number) before ++ cons_option (acknowledger number kind) [])
ack_step opening before seat number (AckDel dn txn) enabled none apart = by (txn == number) refl
  where
    told : List ℕ
    told = all_told (acknowledger number) before

    new : (txn == number) ≡ true → Contains (all_told (acknowledger number) before) dn → ⊥
    new e there =
        let same : txn ≡ number = eqb-true txn number e in
        let all : acknowledgers opening before number ≡ all_told (acknowledger number) before = ap
        (λ (l : List ℕ). l ++ all_told (acknowledger number) before) none in
        subst (λ (n : ℕ). Contains (acknowledgers opening before n) dn → ⊥) same enabled.new (subst (λ (l : List ℕ). Contains l dn) (sym all) there)

    by : (t : Bool) → (txn == number) ≡ t → AllPairs ◌≢◌ (all_told (acknowledger number) before ++ cons_option (cond t (Some dn) None) [])
    by true e =
        all_pairs_push ◌≢◌ (all_told (acknowledger number) before) dn apart
        (λ k d lt same. new e (subst (Contains (all_told (acknowledger number) before)) same (Contains-get_or (all_told (acknowledger number) before) k d lt)))
    by false e = subst (λ (l : List ℕ). AllPairs ◌≢◌ l) (sym (append-nil (all_told (acknowledger number) before))) apart
ack_step opening before seat number kind enabled none apart = subst (λ (l : List ℕ). AllPairs ◌≢◌ l)
    (sym (append-nil (all_told (acknowledger number) before))) apart

acks_from : (opening : Opening) (number : ℕ) (rest before : List Event) → IsLegalFrom opening before rest
    → acknowledged_at_opening opening number ≡ [] → AllPairs ◌≢◌ (all_told (acknowledger number) before)
    → AllPairs ◌≢◌ (all_told (acknowledger number) (before ++ rest))
acks_from opening number [] before legal none apart = subst
    (λ (l : List Event). AllPairs ◌≢◌ (all_told (acknowledger number) l)) (sym (append-nil before)) apart
acks_from opening number (event ∷ rest) before legal none apart =
    let next = ack_step opening before event.seat number event.kind (legal_first opening before event rest legal) none apart in
    subst (λ (l : List Event). AllPairs ◌≢◌ (all_told (acknowledger number) l)) (moved_over before rest event)
    (acks_from opening number rest (before ++ event ∷ []) (legal_rest opening before event rest legal) none
    (subst (λ (l : List ℕ). AllPairs ◌≢◌ l) (sym (filter_map-append (λ (event : Event). acknowledger number event.kind) before (event ∷ []))) next))

pub acks_apart : (opening : Opening) (number : ℕ) (story : List Event) → IsLegal opening story
    → acknowledged_at_opening opening number ≡ [] → AllPairs ◌≢◌ (all_told (acknowledger number) story)
acks_apart opening number story legal none = acks_from opening number story [] legal none (λ i j d less lt. absurd (omega (arith, lt)))

-- ---- nor as the run began

none_in : (number : ℕ) (all : List Unretired) → ((it : Unretired) → Contains all it → it.txn.number < number)
    → flat_map (λ (it : Unretired). cond (it.txn.number == number) it.acknowledgers []) all ≡ []
none_in number [] below = refl
none_in number (it ∷ all) below =
    let lt = below it (0, omega arith, refl) in
    ap (λ (t : Bool). cond t it.acknowledgers [] ++ flat_map (λ (it : Unretired). cond (it.txn.number == number)
    it.acknowledgers []) all) (ne_eqb it.txn.number number (λ same. omega (arith, lt, same)))
    ∙ none_in number all (λ other there. below other (suc there.0, omega (arith, there.1), there.2))

pub none_at_opening : (opening : Opening) (number : ℕ) → NumbersAreOld opening → opening.last_txn < number → acknowledged_at_opening opening number ≡ []
none_at_opening opening number numbered above = none_in number opening.unretired (λ it there. let le = numbered it there in omega (arith, le, above))

-- ---- three that differ, among three

pub all_of_three : (found members : List ℕ) → AllPairs ◌≢◌ found → 3 ≤ length found → length members ≡ 3
    → ((dn : ℕ) → Contains found dn → Contains members dn) → (dn : ℕ) → Contains members dn → Contains found dn
all_of_three found members apart enough three within dn member = ⊎_elim
    (λ is. Contains-from_any (λ x y e. eqb-true x y e) dn found is)
    (λ not.
    let differ : AllPairs ◌≢◌ (dn ∷ found) = AllPairs-cons ◌≢◌ dn found
    (λ k d lt same. missing not (subst (Contains found) (sym same) (Contains-get_or found k d lt))) apart in
    let fewer = length-le_from_is_member nat_eq_equiv (dn ∷ found) members (IsDistinct-from_AllPairs unsigned_Decides (dn ∷ found) differ) among in
    absurd (omega (arith, fewer, enough, three)))
    (cases_Bool (list_any (nat_eq dn) found))
  where
    missing : list_any (nat_eq dn) found ≡ false → Contains found dn → ⊥
    missing not there = let is = list_any-from_Contains nat_eq_equiv dn found there in absurd cc

    among : (q : ℕ) → list_any (nat_eq q) (dn ∷ found) ≡ true → list_any (nat_eq q) members ≡ true
    among q e =
        let there = Contains-from_any (λ x y e. eqb-true x y e) q (dn ∷ found) e in
        list_any-from_Contains nat_eq_equiv q members
        (⊎_elim (λ same. subst (Contains members) same member) (λ later. within q later) (first_or_later dn q found there))
