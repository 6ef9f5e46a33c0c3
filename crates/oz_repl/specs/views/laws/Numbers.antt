-- The numbers of logged transactions rise, so each has one Log.
use Rattle.std.proofs.Common.{◌≡◌, ⊎_elim, ℕ, suc, ◌+◌, ◌-◌, ◌<◌, ◌≤◌, List, [], ◌∷◌, ◌++◌}
use Rattle.std.proofs.Common.{take, drop, map, Option, Some, Contains, refl, sym, ◌∙◌, ap, subst, append-nil}
use Rattle.std.proofs.Common.{arith}
use Rattle.std.proofs.lemmas.Bool.{cases_lt}
use Rattle.std.proofs.lemmas.List.{take-append-drop}
use Rattle.std.proofs.lemmas.List.Elements.{Contains-append_cases}
use Rattle.std.proofs.lemmas.List.Sums.{fold_push}
use Rattle.std.proofs.lemmas.Option.{same_Some}
use Rattle.std.specs.List.{slice_get}
use Rattle.oz_dellog.specs.declared.txn.Txn.{Txn}
use Rattle.oz_core.specs.declared.event.Event.{Event}
use Rattle.oz_core.specs.declared.event.EventKind.{EventKind}
use Rattle.oz_core.specs.declared.event.EventKind.TheVariants.{Log}
use Rattle.oz_core.specs.declared.opening.Opening.{Opening}
use Rattle.oz_core.specs.declared.opening.Unretired.{Unretired}
use Rattle.oz_core.specs.Law.{IsLegal, IsLegalFrom, KindIsEnabled, LogIsEnabled}
use Rattle.oz_core.specs.Scm.{last_txn, logged, logged_number, logs}
use Rattle.oz_core.specs.Stories.{all_told, newer}
use Rattle.oz_kept.specs.laws.Places.{later_front, legal_first, legal_rest, moved_over}
use Rattle.oz_kept.specs.laws.Deleted.{enabled_at, found_at, front_legal, got_of_taken, legal_parts, legal_to}
use Rattle.oz_kept.specs.laws.Contents.{front_grows}
use Rattle.oz_kept.specs.reopened.laws.Logged.{txn_of}
use Rattle.oz_kept.specs.reopened.laws.Named.{told_event}
use Rattle.oz_repl.specs.views.Away.{NumbersAreOld}

-- ---- the last number rises

txn_next : (opening : Opening) (before : List Event) (event : Event) → last_txn opening (before ++ event ∷ []) ≡ newer
    (logged_number event.kind) (last_txn opening before)
txn_next opening before event = fold_push (λ told (event : Event). newer (logged_number event.kind) told) opening.last_txn before event

kind_rises : (opening : Opening) (before : List Event) (seat : ℕ) (kind : EventKind) → KindIsEnabled opening before
    seat kind → last_txn opening before ≤ newer (logged_number kind) (last_txn opening before)
kind_rises opening before seat (Log number container locals) enabled = omega (arith, enabled.next)
kind_rises opening before seat kind enabled = omega arith

pub txns_rise : (opening : Opening) (rest before : List Event) → IsLegalFrom opening before rest → last_txn opening before ≤ last_txn opening (before ++ rest)
txns_rise opening [] before legal = subst (λ (l : List Event). last_txn opening before ≤ last_txn opening l) (sym (append-nil before)) (omega arith)
txns_rise opening (event ∷ rest) before legal =
    let first = kind_rises opening before event.seat event.kind (legal_first opening before event rest legal) in
    let later = txns_rise opening rest (before ++ event ∷ []) (legal_rest opening before event rest legal) in
    subst (λ (l : List Event). last_txn opening before ≤ last_txn opening l) (moved_over before rest event)
    (omega (arith, first, later, txn_next opening before event))

-- ---- a Log at its place

pub record IsLoggedAt (story : List Event) (place : ℕ) (txn : Txn) : Type 0 where
  pub seat : ℕ
  pub there : slice_get story place ≡ Some (record { seat = seat; kind = Log txn.number txn.container txn.locals })

some_txn : (a b : Txn) → Some a ≡ Some b → a ≡ b
some_txn a b e = same_Some a b e

pub logged_at : (story : List Event) (txn : Txn) → Contains (all_told logged story) txn → (place : ℕ) × IsLoggedAt story place txn
logged_at story txn among = by (told_event logged story txn among).event.kind refl
  where
    event : Event
    event = (told_event logged story txn among).event

    by : (kind : EventKind) → event.kind ≡ kind → (place : ℕ) × IsLoggedAt story place txn
    by (Log number container locals) e =
        let told = told_event logged story txn among in
        let same : record { number = number; container = container; locals = locals } ≡ txn = some_txn _ txn (sym (ap logged e) ∙ told.told) in
        let is : slice_get story told.there.0 ≡ Some (record { seat = event.seat; kind = Log number container locals }) =
        found_at story event told.there ∙ ap (λ (kind : EventKind). Some (record { seat = event.seat; kind = kind })) e in
        (told.there.0, subst (IsLoggedAt story told.there.0) same (record { seat = event.seat; there = is }))
    by kind e = let none = sym (ap logged e) ∙ (told_event logged story txn among).told in absurd cc

module _ (opening : Opening) (story : List Event) (legal : IsLegal opening story) where
  number_at : (place : ℕ) (txn : Txn) → IsLoggedAt story place txn → txn.number ≡ last_txn opening (take place story) + 1
  number_at place txn at =
      let enabled : LogIsEnabled opening (take place story) at.seat txn.number txn.container txn.locals =
      enabled_at opening story legal place (record { seat = at.seat; kind = Log txn.number txn.container txn.locals }) at.there in
      enabled.next

  pub above_opening : (place : ℕ) (txn : Txn) → IsLoggedAt story place txn → opening.last_txn < txn.number
  above_opening place txn at =
      let rises = txns_rise opening (take place story) [] (front_legal opening story legal place) in
      let is = number_at place txn at in
      omega (arith, rises, is)

  txns_within : (place later : ℕ) → place ≤ later → last_txn opening (take place story) ≤ last_txn opening (take later story)
  txns_within place later le =
      subst (λ (l : List Event). last_txn opening (take place story) ≤ last_txn opening l) (sym (later_front story place later le))
      (txns_rise opening (take (later - place) (drop place story)) (take place story)
      (legal_to opening (take place story) (take (later - place) (drop place story)) (drop (later - place) (drop place story))
      (subst (IsLegalFrom opening (take place story)) (sym (take-append-drop (later - place) (drop place story))) (legal_parts opening story place legal))))

  later_above : (place later : ℕ) (txn other : Txn) → place < later → IsLoggedAt story place txn → IsLoggedAt story later other → txn.number < other.number
  later_above place later txn other lt at after =
      let event : Event = record { seat = at.seat; kind = Log txn.number txn.container txn.locals } in
      let here : last_txn opening (take (suc place) story) ≡ txn.number = ap (last_txn opening)
      (front_grows story place event at.there) ∙ txn_next opening (take place story) event in
      let is = number_at later other after in
      let within = txns_within (suc place) later (omega (arith, lt)) in
      omega (arith, here, is, within)

  -- one number is of one transaction
  pub one_txn : (place other_place : ℕ) (txn other : Txn) → IsLoggedAt story place txn → IsLoggedAt story other_place
      other → txn.number ≡ other.number → (place ≡ other_place) × (txn ≡ other)
  one_txn place other_place txn other at after same = ⊎_elim
      (λ lt. let less = later_above place other_place txn other lt at after in absurd (omega (arith, less, same)))
      (λ le. ⊎_elim
      (λ lt. let less = later_above other_place place other txn lt after at in absurd (omega (arith, less, same)))
      (λ also.
      let one : place ≡ other_place = omega (arith, le, also) in
      (one, events (sym at.there ∙ ap (slice_get story) one ∙ after.there)))
      (cases_lt other_place place))
      (cases_lt place other_place)
    where
      events : ◌≡◌ {A = Option Event}
          (Some (record { seat = at.seat; kind = Log txn.number txn.container txn.locals }))
          (Some (record { seat = after.seat; kind = Log other.number other.container other.locals })) → txn ≡ other
      events e =
          let first : Event = record { seat = at.seat; kind = Log txn.number txn.container txn.locals } in
          let second : Event = record { seat = after.seat; kind = Log other.number other.container other.locals } in
          some_txn txn other (ap (λ (event : Event). logged event.kind) (same_Some first second e))

  -- a transaction of the log with the number of one that was logged is that one, logged there
  pub of_number : (numbered : NumbersAreOld opening) (place front : ℕ) (txn other : Txn) → IsLoggedAt story place txn
      → Contains (logs opening (take front story)) other → other.number ≡ txn.number
      → (other ≡ txn) × (IsLoggedAt (take front story) place txn)
  of_number numbered place front txn other at among same = ⊎_elim
      (λ old.
      let it = txn_of opening.unretired other old in
      let le = numbered it.unretired it.there in
      let is = ap (λ (t : Txn). t.number) it.same in
      let above = above_opening place txn at in
      absurd (omega (arith, le, is, above, same)))
      (λ new.
      let there = logged_at (take front story) other new in
      let after : IsLoggedAt story there.0 other = record { seat = there.1.seat; there = got_of_taken story front there.0 _ there.1.there } in
      let one = one_txn there.0 place other txn after at same in
      (one.1, subst (λ (n : ℕ). IsLoggedAt (take front story) n txn) one.0 (subst (IsLoggedAt (take front story) there.0) one.1 there.1)))
      (Contains-append_cases (map (λ (unretired : Unretired). unretired.txn) opening.unretired) (all_told logged (take front story)) other among)
