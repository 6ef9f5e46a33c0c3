-- Over an ordered log a number is of one transaction, and each that acknowledged it is a member, once.
use Rattle.std.proofs.Common.{◌≡◌, ◌≢◌, ⊎_elim, ℕ, suc, Bool, true, false, ◌==◌, cond, List, [], ◌∷◌, ◌++◌, take}
use Rattle.std.proofs.Common.{drop, map, None, Some, Contains, refl, sym, ◌∙◌, ap, subst, append-nil, append_assoc}
use Rattle.std.proofs.Common.{arith}
use Rattle.std.proofs.lemmas.Bool.{eqb-true, ne_eqb}
use Rattle.std.proofs.lemmas.List.{take-append-drop}
use Rattle.std.proofs.lemmas.List.Elements.{All-contains, Contains-append_cases, Contains-append_left, Contains-get_or, filter_map-append}
use Rattle.std.proofs.lemmas.List.Quantifiers.{all_pairs_push}
use Rattle.std.specs.List.{AllPairs, cons_option, flat_map}
use Rattle.oz_dellog.specs.declared.txn.Txn.{Txn}
use Rattle.oz_model.specs.laws.Members.{comes, mapped}
use Rattle.oz_core.specs.declared.event.Event.{Event}
use Rattle.oz_core.specs.declared.event.EventKind.{EventKind}
use Rattle.oz_core.specs.declared.event.EventKind.TheVariants.{AckDel, Delete}
use Rattle.oz_core.specs.declared.opening.Opening.{Opening}
use Rattle.oz_core.specs.declared.opening.Unretired.{Unretired}
use Rattle.oz_core.specs.Law.{DeleteIsEnabled, IsLegal, IsLegalFrom, KindIsEnabled}
use Rattle.oz_core.specs.Scm.{acknowledged_at_opening, acknowledger, acknowledgers, logged, logs, members}
use Rattle.oz_core.specs.Stories.{all_told}
use Rattle.oz_kept.specs.laws.Places.{legal_first, legal_rest, moved_over}
use Rattle.oz_kept.specs.laws.Deleted.{enabled_at, first_or_later}
use Rattle.oz_kept.specs.laws.Reached.{in_none}
use Rattle.oz_kept.specs.reopened.Left.{NumbersAreApart}
use Rattle.oz_kept.specs.reopened.laws.Logged.{txn_of}
use Rattle.oz_kept.specs.reopened.laws.Rising.{member_stays}
use Rattle.oz_repl.specs.views.laws.Acknowledged.{IsAppliedAt, ack_applied}
use Rattle.oz_repl.specs.views.laws.Numbers.{above_opening, logged_at, one_txn}
use Rattle.oz_owned.specs.Ordered.{LogIsOrdered}

-- ---- the log grows

abbrev pub opening_txns : Opening → List Txn
opening_txns opening = map (λ (unretired : Unretired). unretired.txn) opening.unretired

pub logs_append : (opening : Opening) (front rest : List Event) → logs opening (front ++ rest) ≡ logs opening front ++ all_told logged rest
logs_append opening front rest =
    ap (λ (l : List Txn). opening_txns opening ++ l) (filter_map-append (λ (event : Event). logged event.kind) front rest)
    ∙ sym (append_assoc (opening_txns opening) (all_told logged front) (all_told logged rest))

pub logs_grow : (opening : Opening) (story : List Event) (place : ℕ) (txn : Txn) → Contains (logs opening (take place story)) txn
    → Contains (logs opening story) txn
logs_grow opening story place txn there =
    subst (λ (l : List Event). Contains (logs opening l) txn) (take-append-drop place story)
    (subst (λ (l : List Txn). Contains l txn) (sym (logs_append opening (take place story) (drop place story)))
    (Contains-append_left (logs opening (take place story)) (all_told logged (drop place story)) txn there))

-- ---- numbers are apart

abbrev AreApart : List Unretired → Type 0
AreApart all = AllPairs (λ (one other : Unretired). one.txn.number ≢ other.txn.number) all

rest_apart : (it : Unretired) (all : List Unretired) → AreApart (it ∷ all) → AreApart all
rest_apart it all apart i j d less within = apart (suc i) (suc j) d (omega (arith, less)) (omega (arith, within))

first_apart : (it other : Unretired) (all : List Unretired) → AreApart (it ∷ all) → Contains all other → it.txn.number ≢ other.txn.number
first_apart it other all apart (k, lt, is) same = apart 0 (suc k) other (omega arith) (omega (arith, lt)) (same ∙ sym (ap (λ (u : Unretired). u.txn.number) is))

one_unretired : (all : List Unretired) → AreApart all → (one other : Unretired) → Contains all one → Contains all other
    → one.txn.number ≡ other.txn.number → one ≡ other
one_unretired [] apart one other here there same = absurd (in_none one here)
one_unretired (it ∷ all) apart one other here there same = ⊎_elim
    (λ first. ⊎_elim
    (λ also. sym first ∙ also)
    (λ later. absurd (first_apart it other all apart later (ap (λ (u : Unretired). u.txn.number) first ∙ same)))
    (first_or_later it other all there))
    (λ later. ⊎_elim
    (λ first. absurd (first_apart it one all apart later (ap (λ (u : Unretired). u.txn.number) first ∙ sym same)))
    (λ also. one_unretired all (rest_apart it all apart) one other later also same)
    (first_or_later it other all there))
    (first_or_later it one all here)

pub numbers_apart : (opening : Opening) → LogIsOrdered opening → NumbersAreApart opening
numbers_apart opening ordered one other here there same = one_unretired opening.unretired ordered.apart one other here there same

module _ (opening : Opening) (story : List Event) (legal : IsLegal opening story) (ordered : LogIsOrdered opening) where
  -- a transaction of the opening has another number than one that was logged since
  old_or_new : (one other : Txn) → Contains (opening_txns opening) one → Contains (all_told logged story) other → one.number ≡ other.number → ⊥
  old_or_new one other old new same =
      let it = txn_of opening.unretired one old in
      let at = logged_at story other new in
      let le = ordered.old it.unretired it.there in
      let is = ap (λ (t : Txn). t.number) it.same in
      let above = above_opening opening story legal at.0 other at.1 in
      absurd (omega (arith, le, is, above, same))

  pub one_number : (one other : Txn) → Contains (logs opening story) one → Contains (logs opening story) other → one.number ≡ other.number → one ≡ other
  one_number one other here there same = ⊎_elim
      (λ old. ⊎_elim
      (λ also.
      let it = txn_of opening.unretired one old in
      let that = txn_of opening.unretired other also in
      let numbers = ap (λ (t : Txn). t.number) it.same ∙ (same ∙ sym (ap (λ (t : Txn). t.number) that.same)) in
      sym it.same ∙ (ap (λ (u : Unretired). u.txn) (one_unretired opening.unretired ordered.apart it.unretired that.unretired it.there that.there
      numbers) ∙ that.same))
      (λ new. absurd (old_or_new one other old new same))
      (Contains-append_cases (opening_txns opening) (all_told logged story) other there))
      (λ new. ⊎_elim
      (λ old. absurd (old_or_new other one old new (sym same)))
      (λ also.
      let at = logged_at story one new in
      let that = logged_at story other also in
      (one_txn opening story legal at.0 that.0 one other at.1 that.1 same).1)
      (Contains-append_cases (opening_txns opening) (all_told logged story) other there))
      (Contains-append_cases (opening_txns opening) (all_told logged story) one here)

  -- who applied a number applied this transaction, and is a member of its container
  module _ (dn number place : ℕ) (applied : IsAppliedAt story dn number place) where
    pub may_delete : DeleteIsEnabled opening (take place story) applied.seat dn number applied.locals
    may_delete = enabled_at opening story legal place (record { seat = applied.seat; kind = Delete dn number applied.locals }) applied.there

    pub its_txn : (txn : Txn) → Contains (logs opening story) txn → txn.number ≡ number → may_delete.txn ≡ txn
    its_txn txn there same = one_number may_delete.txn txn (logs_grow opening story place may_delete.txn may_delete.logged) there
        (may_delete.of_number ∙ sym same)

    pub is_member : (txn : Txn) → Contains (logs opening story) txn → txn.number ≡ number → Contains (members opening story txn.container) dn
    is_member txn there same =
        subst (λ (l : List Event). Contains (members opening l txn.container) dn) (take-append-drop place story)
        (member_stays opening (take place story) (drop place story) txn.container dn
        (subst (λ (t : Txn). Contains (members opening (take place story) t.container) dn) (its_txn txn there same) may_delete.member))

  -- each acknowledger is a member
  pub acked_by_member : (txn : Txn) → Contains (logs opening story) txn → (dn : ℕ) → Contains (acknowledgers opening story txn.number) dn
      → Contains (members opening story txn.container) dn
  acked_by_member txn there dn acked = ⊎_elim
      (λ old.
      let origin = comes (λ (it : Unretired). cond (it.txn.number == txn.number) it.acknowledgers []) opening.unretired dn old in
      at_opening origin.item origin.there (origin.item.txn.number == txn.number) refl origin.has)
      (λ new.
      let was = ack_applied opening story legal dn txn.number new in
      is_member dn txn.number was.0 was.1 txn there refl)
      (Contains-append_cases (acknowledged_at_opening opening txn.number) (all_told (acknowledger txn.number) story) dn acked)
    where
      at_opening : (it : Unretired) → Contains opening.unretired it → (t : Bool) → (it.txn.number == txn.number) ≡ t
          → Contains (cond t it.acknowledgers []) dn → Contains (members opening story txn.container) dn
      at_opening it among false e has = absurd (in_none dn has)
      at_opening it among true e has =
          let same : it.txn ≡ txn = one_number it.txn txn (Contains-append_left (opening_txns opening) (all_told logged story) it.txn
          (mapped (λ (u : Unretired). u.txn) opening.unretired it among)) there (eqb-true it.txn.number txn.number e) in
          let placed = All-contains (Contains (members opening [] it.txn.container)) it.acknowledgers dn (ordered.placed it among) has in
          subst (λ (t : Txn). Contains (members opening story t.container) dn) same (member_stays opening [] story it.txn.container dn placed)

-- ---- none acknowledges twice

none_of_number : (number : ℕ) (all : List Unretired) → ((it : Unretired) → Contains all it → it.txn.number ≢ number)
    → flat_map (λ (it : Unretired). cond (it.txn.number == number) it.acknowledgers []) all ≡ []
none_of_number number [] others = refl
none_of_number number (it ∷ all) others =
    ap (λ (t : Bool). cond t it.acknowledgers [] ++ flat_map (λ (it : Unretired). cond (it.txn.number == number) it.acknowledgers []) all)
    (ne_eqb it.txn.number number (others it (0, omega arith, refl)))
    ∙ none_of_number number all (λ other there. others other (suc there.0, omega (arith, there.1), there.2))

opening_differ : (number : ℕ) (all : List Unretired) → AreApart all → ((it : Unretired) → Contains all it → AllPairs ◌≢◌ it.acknowledgers)
    → AllPairs ◌≢◌ (flat_map (λ (it : Unretired). cond (it.txn.number == number) it.acknowledgers []) all)
opening_differ number [] apart each = λ i j d less lt. absurd (omega (arith, lt))
opening_differ number (it ∷ all) apart each = by (it.txn.number == number) refl
    (opening_differ number all (rest_apart it all apart) (λ other there. each other (suc there.0, omega (arith, there.1), there.2)))
  where
    rest : List ℕ
    rest = flat_map (λ (it : Unretired). cond (it.txn.number == number) it.acknowledgers []) all

    by : (t : Bool) → (it.txn.number == number) ≡ t → AllPairs ◌≢◌ rest → AllPairs ◌≢◌ (cond t it.acknowledgers [] ++ rest)
    by true e others =
        let none = none_of_number number all (λ other there same. first_apart it other all apart there (eqb-true it.txn.number number e ∙ sym same)) in
        subst (λ (l : List ℕ). AllPairs ◌≢◌ l) (sym (ap (λ (l : List ℕ). it.acknowledgers ++ l) none
        ∙ append-nil it.acknowledgers)) (each it (0, omega arith, refl))
    by false e others = others

ack_step : (opening : Opening) (before : List Event) (seat number : ℕ) (kind : EventKind) → KindIsEnabled opening before seat kind
    → AllPairs ◌≢◌ (acknowledgers opening before number) → AllPairs ◌≢◌ (acknowledgers opening before number ++ cons_option (acknowledger number kind) [])
ack_step opening before seat number (AckDel dn txn) enabled apart = by (txn == number) refl
  where
    new : (txn == number) ≡ true → Contains (acknowledgers opening before number) dn → ⊥
    new e = subst (λ (n : ℕ). Contains (acknowledgers opening before n) dn → ⊥) (eqb-true txn number e) enabled.new

    by : (t : Bool) → (txn == number) ≡ t → AllPairs ◌≢◌ (acknowledgers opening before number ++ cons_option (cond t (Some dn) None) [])
    by true e =
        all_pairs_push ◌≢◌ (acknowledgers opening before number) dn apart
        (λ k d lt same. new e (subst (Contains (acknowledgers opening before number)) same (Contains-get_or (acknowledgers opening before number) k d lt)))
    by false e = subst (λ (l : List ℕ). AllPairs ◌≢◌ l) (sym (append-nil (acknowledgers opening before number))) apart
ack_step opening before seat number kind enabled apart = subst (λ (l : List ℕ). AllPairs ◌≢◌ l) (sym (append-nil (acknowledgers opening before number))) apart

acks_append : (opening : Opening) (before more : List Event) (number : ℕ)
    → acknowledgers opening (before ++ more) number ≡ acknowledgers opening before number ++ all_told (acknowledger number) more
acks_append opening before more number =
    ap (λ (l : List ℕ). acknowledged_at_opening opening number ++ l) (filter_map-append (λ (event : Event). acknowledger number event.kind) before more)
    ∙ sym (append_assoc (acknowledged_at_opening opening number) (all_told (acknowledger number) before) (all_told (acknowledger number) more))

acks_from : (opening : Opening) (number : ℕ) (rest before : List Event) → IsLegalFrom opening before rest → AllPairs ◌≢◌ (acknowledgers opening before number)
    → AllPairs ◌≢◌ (acknowledgers opening (before ++ rest) number)
acks_from opening number [] before legal apart = subst (λ (l : List Event). AllPairs ◌≢◌ (acknowledgers opening l number)) (sym (append-nil before)) apart
acks_from opening number (event ∷ rest) before legal apart =
    let next = ack_step opening before event.seat number event.kind (legal_first opening before event rest legal) apart in
    subst (λ (l : List Event). AllPairs ◌≢◌ (acknowledgers opening l number)) (moved_over before rest event)
    (acks_from opening number rest (before ++ event ∷ []) (legal_rest opening before event rest legal)
    (subst (λ (l : List ℕ). AllPairs ◌≢◌ l) (sym (acks_append opening before (event ∷ []) number)) next))

pub acks_differ : (opening : Opening) (number : ℕ) (story : List Event) → IsLegal opening story → LogIsOrdered opening
    → AllPairs ◌≢◌ (acknowledgers opening story number)
acks_differ opening number story legal ordered =
    acks_from opening number story [] legal
    (subst (λ (l : List ℕ). AllPairs ◌≢◌ l) (sym (append-nil (acknowledged_at_opening opening number)))
    (opening_differ number opening.unretired ordered.apart ordered.differ))

pub acks_grow : (opening : Opening) (story : List Event) (place number dn : ℕ) → Contains (acknowledgers opening (take place story) number) dn
    → Contains (acknowledgers opening story number) dn
acks_grow opening story place number dn there =
    subst (λ (l : List Event). Contains (acknowledgers opening l number) dn) (take-append-drop place story)
    (subst (λ (l : List ℕ). Contains l dn) (sym (acks_append opening (take place story) (drop place story) number))
    (Contains-append_left (acknowledgers opening (take place story) number) (all_told (acknowledger number) (drop place story)) dn there))
