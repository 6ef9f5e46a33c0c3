-- In a legal story no two transactions of the log have one number.
use Rattle.std.proofs.Common.{◌≡◌, ⊎_elim, ◌⊎◌, ℕ, ◌+◌, ◌≤◌, List, [], ◌∷◌, ◌++◌, map, Option, None, Some, Contains}
use Rattle.std.proofs.Common.{inl, inr, sym, ◌∙◌, ap, subst, append-nil, arith}
use Rattle.std.proofs.lemmas.List.Elements.{filter_map-append, Contains-append_cases, Contains-append_left, Contains-append_right}
use Rattle.std.proofs.lemmas.List.Sums.{fold_push}
use Rattle.std.specs.List.{cons_option}
use Rattle.oz_dellog.specs.declared.txn.Txn.{Txn}
use Rattle.oz_core.specs.declared.event.Event.{Event}
use Rattle.oz_core.specs.declared.event.EventKind.{EventKind}
use Rattle.oz_core.specs.declared.event.EventKind.TheVariants.{Log}
use Rattle.oz_core.specs.declared.opening.Opening.{Opening}
use Rattle.oz_core.specs.declared.opening.Unretired.{Unretired}
use Rattle.oz_core.specs.Law.{IsLegal, IsLegalFrom, KindIsEnabled}
use Rattle.oz_core.specs.Scm.{logs, logged, last_txn, logged_number}
use Rattle.oz_core.specs.Stories.{all_told, newer}
use Rattle.oz_kept.specs.laws.Places.{moved_over, legal_first, legal_rest}
use Rattle.oz_kept.specs.laws.Reached.{in_none, in_one}
use Rattle.oz_kept.specs.reopened.laws.Logged.{txn_of}
use Rattle.oz_halted.specs.Missing.{LogIsNumbered}

-- each number is at most the last, and of one transaction
pub record AreNumbered (opening : Opening) (story : List Event) : Type 0 where
  pub below : (txn : Txn) → Contains (logs opening story) txn → txn.number ≤ last_txn opening story
  pub apart : (txn other : Txn) → Contains (logs opening story) txn → Contains (logs opening story) other → txn.number ≡ other.number → txn ≡ other

record IsNextLog (opening : Opening) (before : List Event) (kind : EventKind) : Type 0 where
  rises : last_txn opening before ≤ newer (logged_number kind) (last_txn opening before)
  number : (txn : Txn) → logged kind ≡ Some txn → txn.number ≡ last_txn opening before + 1
  last : (txn : Txn) → logged kind ≡ Some txn → newer (logged_number kind) (last_txn opening before) ≡ txn.number

some_txn : (a b : Txn) → Some a ≡ Some b → a ≡ b
some_txn a b e = cc

next_log : (opening : Opening) (before : List Event) (seat : ℕ) (kind : EventKind) → KindIsEnabled opening before seat kind → IsNextLog opening before kind
next_log opening before seat (Log number container locals) enabled = record {
  rises = omega (arith, enabled.next);
  number = λ txn is. sym (ap (λ (t : Txn). t.number) (some_txn _ txn is)) ∙ enabled.next;
  last = λ txn is. ap (λ (t : Txn). t.number) (some_txn _ txn is);
}
next_log opening before seat kind enabled = record { rises = omega arith; number = λ txn is. absurd cc; last = λ txn is. absurd cc }

last_next : (opening : Opening) (before : List Event) (event : Event)
    → last_txn opening (before ++ event ∷ []) ≡ newer (logged_number event.kind) (last_txn opening before)
last_next opening before event = fold_push (λ told (event : Event). newer (logged_number event.kind) told) opening.last_txn before event

-- the log after an event has what it had, and what that logs
logs_next : (opening : Opening) (before : List Event) (event : Event) (txn : Txn) → Contains (logs opening (before ++ event ∷ [])) txn
    → Contains (logs opening before) txn ⊎ (logged event.kind ≡ Some txn)
logs_next opening before event txn there =
    let all = map (λ (unretired : Unretired). unretired.txn) opening.unretired in
    ⊎_elim
    (λ old. inl (Contains-append_left all (all_told logged before) txn old))
    (λ told. ⊎_elim
    (λ old. inl (Contains-append_right all (all_told logged before) txn old))
    (λ new. inr (by (logged event.kind) new))
    (Contains-append_cases (all_told logged before) (all_told logged (event ∷ [])) txn
    (subst (λ (l : List Txn). Contains l txn) (filter_map-append (λ (event : Event). logged event.kind) before (event ∷ [])) told)))
    (Contains-append_cases all (all_told logged (before ++ event ∷ [])) txn there)
  where
    by : (o : Option Txn) → Contains (cons_option o []) txn → o ≡ Some txn
    by None among = absurd (in_none txn among)
    by (Some first) among = ap Some (in_one first txn among)

numbered_next : (opening : Opening) (before : List Event) (event : Event) → IsNextLog opening before event.kind → AreNumbered opening before
    → AreNumbered opening (before ++ event ∷ [])
numbered_next opening before event next old = record {
  below = λ txn there. ⊎_elim
      (λ was. let le = old.below txn was in omega (arith, le, next.rises, last_next opening before event))
      (λ new. let same = next.last txn new in omega (arith, same, last_next opening before event))
      (logs_next opening before event txn there);
  apart = λ txn other there also same. ⊎_elim
      (λ was. ⊎_elim
      (λ also_was. old.apart txn other was also_was same)
      (λ new. let le = old.below txn was in let above = next.number other new in absurd (omega (arith, le, above, same)))
      (logs_next opening before event other also))
      (λ new. ⊎_elim
      (λ also_was. let le = old.below other also_was in let above = next.number txn new in absurd (omega (arith, le, above, same)))
      (λ also_new. some_txn txn other (sym new ∙ also_new))
      (logs_next opening before event other also))
      (logs_next opening before event txn there);
}

numbered_from : (opening : Opening) (rest before : List Event) → IsLegalFrom opening before rest → AreNumbered opening before
    → AreNumbered opening (before ++ rest)
numbered_from opening [] before legal old = subst (AreNumbered opening) (sym (append-nil before)) old
numbered_from opening (event ∷ rest) before legal old =
    let next = next_log opening before event.seat event.kind (legal_first opening before event rest legal) in
    subst (AreNumbered opening) (moved_over before rest event)
    (numbered_from opening rest (before ++ event ∷ []) (legal_rest opening before event rest legal) (numbered_next opening before event next old))

pub are_numbered : (opening : Opening) (story : List Event) → LogIsNumbered opening → IsLegal opening story → AreNumbered opening story
are_numbered opening story numbered legal = numbered_from opening story [] legal (record {
  below = λ txn there.
      let of = txn_of opening.unretired txn (at_opening txn there) in
      subst (λ (t : Txn). t.number ≤ opening.last_txn) of.same (numbered.below of.unretired of.there);
  apart = λ txn other there also same.
      let one = txn_of opening.unretired txn (at_opening txn there) in
      let two = txn_of opening.unretired other (at_opening other also) in
      let equal = numbered.apart one.unretired two.unretired one.there two.there (ap (λ (t : Txn). t.number) one.same ∙ same
      ∙ sym (ap (λ (t : Txn). t.number) two.same)) in
      sym one.same ∙ ap (λ (u : Unretired). u.txn) equal ∙ two.same;
})
  where
    at_opening : (txn : Txn) → Contains (logs opening []) txn → Contains (map (λ (unretired : Unretired). unretired.txn) opening.unretired) txn
    at_opening txn there = subst (λ (l : List Txn). Contains l txn) (append-nil (map (λ (unretired : Unretired). unretired.txn) opening.unretired)) there
