-- The log of deleted blocks beside that of a story, and an event more.
use Rattle.std.specs.Prelude.{◌==◌, ◌||◌, ◌↔◌, Bool, true, false, not, Contains, filter, slice_set, map, nat_le, replicate}
use Rattle.std.specs.List.{filter_map, list_any, slice_index_or, cons_option}
use Rattle.std.proofs.Common.{◌≡◌, ◌⊎◌, inl, inr, ⊎_elim, ℕ, zero, suc, ◌+◌, ◌<◌, ◌≤◌, List, [], ◌∷◌, ◌++◌, length, Option, None, Some, refl, sym, ap, ◌∙◌, cond, subst, append_assoc, arith, eq-eqb}
use Rattle.std.proofs.lemmas.Bool.{false≢true, eqb-true, eqb-false, leb-true, ne_eqb}
use Rattle.std.proofs.lemmas.List.{append-nil, get_or-set_same, get_or-set_other, length-set}
use Rattle.std.proofs.lemmas.List.Elements.{Contains-append_cases, Contains-append_left, Contains-append_right, filter_map-append}
use Rattle.std.proofs.lemmas.List.Folds.{list_any-append, list_any_at}
use Rattle.std.proofs.lemmas.List.Sums.{length-filter}
use Rattle.std.specs.Cmp.{nat_cmp_total, unsigned_ties}
use Rattle.std.specs.FinMap.{FinMap, get, insert, remove, get-insert, get-remove}
use Rattle.std.specs.Option.{option_map, option_map_or}
use Rattle.std.specs.Ordering.{eq_by_cmp, nat_cmp}
use Rattle.oz_buffer.specs.laws.Following.{told-push, untold-push}
use Rattle.oz_core.specs.declared.event.Event.{Event}
use Rattle.oz_core.specs.declared.event.EventKind.{EventKind}
use Rattle.oz_core.specs.declared.event.EventKind.TheVariants as events
use Rattle.oz_core.specs.declared.opening.Opening.{Opening}
use Rattle.oz_core.specs.declared.opening.Unretired.{Unretired}
use Rattle.oz_core.specs.Scm.{acknowledged_at_opening, acknowledger, acknowledgers, is_retired, last_txn, logged as logged_in, logged_number, logs, retires}
use Rattle.oz_core.specs.Stories.{all_told, has_event}
use Rattle.oz_dellog.specs.declared.logged.Logged.{Logged}
use Rattle.oz_dellog.specs.declared.txn.Txn.{Txn}
use Rattle.oz_dellog.specs.Log.{Log, acknowledged, is_done, with_txn, without_txn}
use Rattle.oz_dellog.specs.Logged.{acknowledgement_count, is_acknowledged_by, new_logged, nobody, txn_of, with_acknowledgement}
use Rattle.oz_scm_events.specs.Granted.{by_scm}
use Rattle.oz_scm_events.specs.Kept.{IsLogOf, IsUnretired}

-- ---- two stories that say the same of the log

pub record SaySame (opening : Opening) (story later : List Event) : Type 0 where
  pub last : last_txn opening later ≡ last_txn opening story
  pub logs_are : logs opening later ≡ logs opening story
  pub acknowledgers_are : (number : ℕ) → acknowledgers opening later number ≡ acknowledgers opening story number
  pub retired_is : (number : ℕ) → is_retired number later ≡ is_retired number story

pub log_of_same : (opening : Opening) (story later : List Event) (log : Log) → SaySame opening story later → IsLogOf opening story log → IsLogOf opening later log
log_of_same opening story later log same is = record {
  last = is.last ∙ sym same.last;
  each = λ number logged there. let it = is.each number logged there in record {
    there = subst (λ (l : List Txn). Contains l (txn_of number logged)) (sym same.logs_are) it.there;
    unretired = same.retired_is number ∙ it.unretired;
    flags = it.flags;
    acknowledged = λ dn.
        subst (λ (l : List ℕ). is_acknowledged_by logged dn ≡ true ↔ Contains l dn) (sym (same.acknowledgers_are number)) (it.acknowledged dn);
  };
  all = λ txn among unretired. is.all txn (subst (λ (l : List Txn). Contains l txn) same.logs_are among) (sym (same.retired_is txn.number) ∙ unretired);
  logged_old = λ txn among. is.logged_old txn (subst (λ (l : List Txn). Contains l txn) same.logs_are among);
  acknowledged_old = λ number dn among. is.acknowledged_old number dn (subst (λ (l : List ℕ). Contains l dn) (same.acknowledgers_are number) among);
  retired_old = λ number retired. is.retired_old number (sym (same.retired_is number) ∙ retired);
}

-- ---- an event more

abbrev told_in : {X : Type 0} → Option X → List X
told_in told = cons_option told []

told_more : {X : Type 0} (tells : EventKind → Option X) (story : List Event) (event : Event) → all_told tells (story ++ event ∷ []) ≡ all_told tells story ++ told_in (tells event.kind)
told_more tells story event = filter_map-append (λ (event : Event). tells event.kind) story (event ∷ [])

or_true : (t : Bool) → (t || true) ≡ true
or_true true = refl
or_true false = refl

or_false : (t : Bool) → (t || false) ≡ t
or_false true = refl
or_false false = refl

module _ (opening : Opening) (story : List Event) (kind : EventKind) where
  abbrev more : List Event
  more = story ++ by_scm kind ∷ []

  logs_more : logs opening more ≡ logs opening story ++ told_in (logged_in kind)
  logs_more =
      let opened = map (λ (unretired : Unretired). unretired.txn) opening.unretired in
      ap (λ l. opened ++ l) (told_more logged_in story (by_scm kind)) ∙ sym (append_assoc opened (all_told logged_in story) (told_in (logged_in kind)))

  acknowledgers_more : (number : ℕ) → acknowledgers opening more number ≡ acknowledgers opening story number ++ told_in (acknowledger number kind)
  acknowledgers_more number =
      let opened = acknowledged_at_opening opening number in
      ap (λ l. opened ++ l) (told_more (acknowledger number) story (by_scm kind))
      ∙ sym (append_assoc opened (all_told (acknowledger number) story) (told_in (acknowledger number kind)))

  retired_more : (number : ℕ) → is_retired number more ≡ (is_retired number story || retires number kind)
  retired_more number =
      list_any-append (λ (event : Event). retires number event.kind) story (by_scm kind ∷ [])
      ∙ ap (λ t. is_retired number story || t) (or_false (retires number kind))

  no_log : logged_in kind ≡ None → logs opening more ≡ logs opening story
  no_log none = logs_more ∙ ap (λ o. logs opening story ++ told_in o) none ∙ append-nil (logs opening story)

  no_ack : (number : ℕ) → acknowledger number kind ≡ None → acknowledgers opening more number ≡ acknowledgers opening story number
  no_ack number none =
      acknowledgers_more number ∙ ap (λ o. acknowledgers opening story number ++ told_in o) none ∙ append-nil (acknowledgers opening story number)

  no_retirement : (number : ℕ) → retires number kind ≡ false → is_retired number more ≡ is_retired number story
  no_retirement number none = retired_more number ∙ ap (λ t. is_retired number story || t) none ∙ or_false (is_retired number story)

  -- one that isn't of the log
  pub quiet_log : logged_number kind ≡ None → logged_in kind ≡ None → ((number : ℕ) → acknowledger number kind ≡ None) → ((number : ℕ) → retires number kind ≡ false) → SaySame opening story more
  quiet_log no_number none no_acks no_retires = record {
    last = untold-push logged_number opening.last_txn story (by_scm kind) no_number;
    logs_are = no_log none;
    acknowledgers_are = λ number. no_ack number (no_acks number);
    retired_is = λ number. no_retirement number (no_retires number);
  }

-- ---- what stands under a number

test_of : (b : Bool) → (b ≡ true) ⊎ (b ≡ false)
test_of true = inl refl
test_of false = inr refl

abbrev Entries : Type 0
Entries = FinMap nat_cmp Logged

same_number : (q k : ℕ) → eq_by_cmp nat_cmp q k ≡ true → q ≡ k
same_number q k is = eqb-true q k (unsigned_ties q k ∙ is)

other_number : (q k : ℕ) → eq_by_cmp nat_cmp q k ≡ false → q ≡ k → ⊥
other_number q k is = eqb-false q k (unsigned_ties q k ∙ is)

put_here : (m : Entries) (k q : ℕ) (v : Logged) → eq_by_cmp nat_cmp q k ≡ true → get (insert m k v) q ≡ Some v
put_here m k q v same = get-insert nat_cmp_total m k v q ∙ ap (λ b. cond b (Some v) (get m q)) same

put_there : (m : Entries) (k q : ℕ) (v : Logged) → eq_by_cmp nat_cmp q k ≡ false → get (insert m k v) q ≡ get m q
put_there m k q v other = get-insert nat_cmp_total m k v q ∙ ap (λ b. cond b (Some v) (get m q)) other

gone_here : (m : Entries) (k q : ℕ) → eq_by_cmp nat_cmp q k ≡ true → get (remove m k) q ≡ None
gone_here m k q same = get-remove nat_cmp_total m k q ∙ ap (λ b. cond b None (get m q)) same

gone_there : (m : Entries) (k q : ℕ) → eq_by_cmp nat_cmp q k ≡ false → get (remove m k) q ≡ get m q
gone_there m k q other = get-remove nat_cmp_total m k q ∙ ap (λ b. cond b None (get m q)) other

same_logged : (one other : Logged) → Some one ≡ Some other → one ≡ other
same_logged one other is = cc is

single_at : (x y k : ℕ) → k < 1 → slice_index_or (x ∷ []) k y ≡ y → x ≡ y
single_at x y zero within is = is
single_at x y (suc k) within is = absurd (omega (arith, within))

single : (x y : ℕ) → Contains (x ∷ []) y → x ≡ y
single x y it = single_at x y it.0 it.1 it.2

among_one : {X : Type 0} (x : X) → Contains (x ∷ []) x
among_one x = (0, omega arith, refl)

one_txn_at : (x y : Txn) (k : ℕ) → k < 1 → slice_index_or (x ∷ []) k y ≡ y → x ≡ y
one_txn_at x y zero within is = is
one_txn_at x y (suc k) within is = absurd (omega (arith, within))

-- what stood there stands there still
still_there : (opening : Opening) (story later : List Event) (number : ℕ) (logged : Logged)
    → (Contains (logs opening story) (txn_of number logged) → Contains (logs opening later) (txn_of number logged))
    → is_retired number later ≡ is_retired number story → acknowledgers opening later number ≡ acknowledgers opening story number
    → IsUnretired opening story number logged → IsUnretired opening later number logged
still_there opening story later number logged goes retired acks it = record {
  there = goes it.there;
  unretired = retired ∙ it.unretired;
  flags = it.flags;
  acknowledged = λ dn. subst (λ (l : List ℕ). is_acknowledged_by logged dn ≡ true ↔ Contains l dn) (sym acks) (it.acknowledged dn);
}

none_of : (n k : ℕ) → slice_index_or (replicate n false) k false ≡ false
none_of zero k = refl
none_of (suc n) zero = refl
none_of (suc n) (suc k) = none_of n k

nobody_flagged : (container dn : ℕ) (locals : List ℕ) → is_acknowledged_by (new_logged container locals) dn ≡ true → ⊥
unfolding nobody
nobody_flagged container dn locals is = absurd (false≢true (sym (none_of 256 dn) ∙ is))

-- ---- an acknowledgement

flag_same : (flags : List Bool) (i j : ℕ) → i < length flags → j ≡ i → slice_index_or (slice_set flags i true) j false ≡ true
flag_same flags i j within same = ap (λ n. slice_index_or (slice_set flags i true) n false) same ∙ get_or-set_same flags i true false within

flag_before : (flags : List Bool) (i j : ℕ) → (j ≡ i → ⊥) → slice_index_or (slice_set flags i true) j false ≡ slice_index_or flags j false
flag_before flags i j apart = get_or-set_other flags i j true false apart

module _ (opening : Opening) (story : List Event) (log : Log) (is : IsLogOf opening story log) where
  module _ (number dn : ℕ) (logged : Logged) (there : get log.unretired number ≡ Some logged) (few : dn < length nobody) where
    abbrev acked : EventKind
    acked = events.AckDel dn number

    abbrev after_ack : List Event
    after_ack = story ++ by_scm acked ∷ []

    abbrev flagged : Logged
    flagged = with_acknowledgement logged dn

    before : IsUnretired opening story number logged
    before = is.each number logged there

    acks_here : acknowledgers opening after_ack number ≡ acknowledgers opening story number ++ dn ∷ []
    acks_here =
        acknowledgers_more opening story acked number
        ∙ ap (λ t. acknowledgers opening story number ++ told_in (cond t (Some dn) None)) (eq-eqb number number refl)

    acks_there : (q : ℕ) → (q ≡ number → ⊥) → acknowledgers opening after_ack q ≡ acknowledgers opening story q
    acks_there q apart = no_ack opening story acked q (ap (λ t. cond t (Some dn) None) (ne_eqb number q (λ same. apart (sym same))))

    logs_still : logs opening after_ack ≡ logs opening story
    logs_still = no_log opening story acked refl

    still_retired : (q : ℕ) → is_retired q after_ack ≡ is_retired q story
    still_retired q = no_retirement opening story acked q refl

    within : dn < length logged.acknowledged
    within = subst (λ (n : ℕ). dn < n) (sym before.flags) few

    flags_are : (other : ℕ) → is_acknowledged_by flagged other ≡ true ↔ Contains (acknowledgers opening story number ++ dn ∷ []) other
    flags_are other = elim (test_of (other == dn)) [
      | inl same ↦
          let it = eqb-true other dn same in (
            λ flag. Contains-append_right (acknowledgers opening story number) (dn ∷ []) other (subst (Contains (dn ∷ [])) (sym it) (among_one dn)),
            λ among. flag_same logged.acknowledged dn other within it,
          )
      | inr apart ↦
          let as_before = flag_before logged.acknowledged dn other (eqb-false other dn apart) in (
            λ flag. Contains-append_left (acknowledgers opening story number) (dn ∷ []) other ((before.acknowledged other).0 (sym as_before ∙ flag)),
            λ among. as_before ∙ (before.acknowledged other).1
                (⊎_elim (λ old. old) (λ new. absurd (eqb-false other dn apart (sym (single dn other new)))) (Contains-append_cases (acknowledgers opening story number) (dn ∷ []) other among)),
          )
    ]

    flagged_there : IsUnretired opening after_ack number flagged
    flagged_there = record {
      there = subst (λ (l : List Txn). Contains l (txn_of number logged)) (sym logs_still) before.there;
      unretired = still_retired number ∙ before.unretired;
      flags = length-set logged.acknowledged dn true ∙ before.flags;
      acknowledged = λ other. subst (λ (l : List ℕ). is_acknowledged_by flagged other ≡ true ↔ Contains l other) (sym acks_here) (flags_are other);
    }

    ack_is : acknowledged log number dn ≡ record { last = log.last; unretired = insert log.unretired number flagged }
    ack_is = ap (λ (o : Option Logged). option_map_or (λ logged. record { last = log.last; unretired = insert log.unretired number (with_acknowledgement logged dn) }) o log) there

    each_acked : (q : ℕ) (w : Logged) → get (insert log.unretired number flagged) q ≡ Some w → IsUnretired opening after_ack q w
    each_acked q w at = elim (test_of (eq_by_cmp nat_cmp q number)) [
      | inl same ↦
          let it = same_logged flagged w (sym (put_here log.unretired number q flagged same) ∙ at) in
          subst (λ (n : ℕ). IsUnretired opening after_ack n w) (sym (same_number q number same)) (subst (IsUnretired opening after_ack number) it flagged_there)
      | inr other ↦
          still_there opening story after_ack q w (λ among. subst (λ (l : List Txn). Contains l (txn_of q w)) (sym logs_still) among) (still_retired q)
          (acks_there q (other_number q number other)) (is.each q w (sym (put_there log.unretired number q flagged other) ∙ at))
    ]

    all_acked : (txn : Txn) → Contains (logs opening after_ack) txn → is_retired txn.number after_ack ≡ false
        → option_map (txn_of txn.number) (get (insert log.unretired number flagged) txn.number) ≡ Some txn
    all_acked txn among unretired =
        let old = is.all txn (subst (λ (l : List Txn). Contains l txn) logs_still among) (sym (still_retired txn.number) ∙ unretired) in
        elim (test_of (eq_by_cmp nat_cmp txn.number number)) [
          | inl same ↦
              let its = ap (get log.unretired) (same_number txn.number number same) ∙ there in
              ap (option_map (txn_of txn.number)) (put_here log.unretired number txn.number flagged same) ∙ sym (ap (option_map (txn_of txn.number)) its) ∙ old
          | inr other ↦ ap (option_map (txn_of txn.number)) (put_there log.unretired number txn.number flagged other) ∙ old
        ]

    acks_old : (q other : ℕ) → Contains (acknowledgers opening after_ack q) other → q ≤ log.last
    acks_old q other among = elim (test_of (q == number)) [
      | inl same ↦ subst (λ (n : ℕ). n ≤ log.last) (sym (eqb-true q number same)) (is.logged_old (txn_of number logged) before.there)
      | inr apart ↦ is.acknowledged_old q other (subst (λ (l : List ℕ). Contains l other) (acks_there q (eqb-false q number apart)) among)
    ]

    pub log_acked : IsLogOf opening after_ack (acknowledged log number dn)
    log_acked = subst (IsLogOf opening after_ack) (sym ack_is) (record {
      last = is.last ∙ sym (untold-push logged_number opening.last_txn story (by_scm acked) refl);
      each = each_acked;
      all = all_acked;
      logged_old = λ txn among. is.logged_old txn (subst (λ (l : List Txn). Contains l txn) logs_still among);
      acknowledged_old = acks_old;
      retired_old = λ q retired. is.retired_old q (sym (still_retired q) ∙ retired);
    })

  -- ---- a retirement

  module _ (number : ℕ) (logged : Logged) (there : get log.unretired number ≡ Some logged) where
    abbrev retired : EventKind
    retired = events.Retire number

    abbrev after_retirement : List Event
    after_retirement = story ++ by_scm retired ∷ []

    logs_kept : logs opening after_retirement ≡ logs opening story
    logs_kept = no_log opening story retired refl

    acks_kept : (q : ℕ) → acknowledgers opening after_retirement q ≡ acknowledgers opening story q
    acks_kept q = no_ack opening story retired q refl

    others_kept : (q : ℕ) → (q ≡ number → ⊥) → is_retired q after_retirement ≡ is_retired q story
    others_kept q apart = no_retirement opening story retired q (ne_eqb number q (λ same. apart (sym same)))

    it_is_retired : (q : ℕ) → q ≡ number → is_retired q after_retirement ≡ true
    it_is_retired q same = retired_more opening story retired q ∙ ap (λ t. is_retired q story || t) (eq-eqb number q (sym same)) ∙ or_true (is_retired q story)

    each_left : (q : ℕ) (w : Logged) → get (remove log.unretired number) q ≡ Some w → IsUnretired opening after_retirement q w
    each_left q w at = elim (test_of (eq_by_cmp nat_cmp q number)) [
      | inl same ↦ absurd (cc (sym (gone_here log.unretired number q same) ∙ at))
      | inr other ↦
          still_there opening story after_retirement q w (λ among. subst (λ (l : List Txn). Contains l (txn_of q w)) (sym logs_kept) among)
          (others_kept q (other_number q number other)) (acks_kept q) (is.each q w (sym (gone_there log.unretired number q other) ∙ at))
    ]

    all_left : (txn : Txn) → Contains (logs opening after_retirement) txn → is_retired txn.number after_retirement ≡ false
        → option_map (txn_of txn.number) (get (remove log.unretired number) txn.number) ≡ Some txn
    all_left txn among unretired = elim (test_of (eq_by_cmp nat_cmp txn.number number)) [
      | inl same ↦ absurd (false≢true (sym unretired ∙ it_is_retired txn.number (same_number txn.number number same)))
      | inr other ↦
          ap (option_map (txn_of txn.number)) (gone_there log.unretired number txn.number other)
          ∙ is.all txn (subst (λ (l : List Txn). Contains l txn) logs_kept among) (sym (others_kept txn.number (other_number txn.number number other)) ∙ unretired)
    ]

    retired_before : (q : ℕ) → is_retired q after_retirement ≡ true → q ≤ log.last
    retired_before q gone = elim (test_of (q == number)) [
      | inl same ↦ subst (λ (n : ℕ). n ≤ log.last) (sym (eqb-true q number same)) (is.logged_old (txn_of number logged) (is.each number logged there).there)
      | inr apart ↦ is.retired_old q (sym (others_kept q (eqb-false q number apart)) ∙ gone)
    ]

    pub log_retired : IsLogOf opening after_retirement (without_txn log number)
    log_retired = record {
      last = is.last ∙ sym (untold-push logged_number opening.last_txn story (by_scm retired) refl);
      each = each_left;
      all = all_left;
      logged_old = λ txn among. is.logged_old txn (subst (λ (l : List Txn). Contains l txn) logs_kept among);
      acknowledged_old = λ q dn among. is.acknowledged_old q dn (subst (λ (l : List ℕ). Contains l dn) (acks_kept q) among);
      retired_old = retired_before;
    }

  -- ---- a transaction more

  module _ (container : ℕ) (locals : List ℕ) where
    abbrev next : ℕ
    next = log.last + 1

    abbrev new : Txn
    new = record { number = next; container = container; locals = locals }

    abbrev logs_it : EventKind
    logs_it = events.Log next container locals

    abbrev after_log : List Event
    after_log = story ++ by_scm logs_it ∷ []

    logs_now : logs opening after_log ≡ logs opening story ++ new ∷ []
    logs_now = logs_more opening story logs_it

    acks_as_before : (q : ℕ) → acknowledgers opening after_log q ≡ acknowledgers opening story q
    acks_as_before q = no_ack opening story logs_it q refl

    retired_as_before : (q : ℕ) → is_retired q after_log ≡ is_retired q story
    retired_as_before q = no_retirement opening story logs_it q refl

    not_retired : is_retired next story ≡ false
    not_retired = elim (test_of (is_retired next story)) [
      | inl gone ↦ let le = is.retired_old next gone in absurd (omega (arith, le))
      | inr not ↦ not
    ]

    fresh : IsUnretired opening after_log next (new_logged container locals)
    fresh = record {
      there = subst (λ (l : List Txn). Contains l new) (sym logs_now) (Contains-append_right (logs opening story) (new ∷ []) new (among_one new));
      unretired = retired_as_before next ∙ not_retired;
      flags = refl;
      acknowledged = λ dn. (
        λ flag. absurd (nobody_flagged container dn locals flag),
        λ among. let le = is.acknowledged_old next dn (subst (λ (l : List ℕ). Contains l dn) (acks_as_before next) among) in absurd (omega (arith, le)),
      );
    }

    in_logs : (txn : Txn) → Contains (logs opening story) txn → Contains (logs opening after_log) txn
    in_logs txn among = subst (λ (l : List Txn). Contains l txn) (sym logs_now) (Contains-append_left (logs opening story) (new ∷ []) txn among)

    old_or_new : (txn : Txn) → Contains (logs opening after_log) txn → Contains (logs opening story) txn ⊎ (new ≡ txn)
    old_or_new txn among = ⊎_elim
        (λ old. inl old)
        (λ it. inr (one_txn_at new txn it.0 it.1 it.2))
        (Contains-append_cases (logs opening story) (new ∷ []) txn (subst (λ (l : List Txn). Contains l txn) logs_now among))

    each_logged : (q : ℕ) (w : Logged) → get (insert log.unretired next (new_logged container locals)) q ≡ Some w → IsUnretired opening after_log q w
    each_logged q w at = elim (test_of (eq_by_cmp nat_cmp q next)) [
      | inl same ↦
          let it = same_logged (new_logged container locals) w (sym (put_here log.unretired next q (new_logged container locals) same) ∙ at) in
          subst (λ (n : ℕ). IsUnretired opening after_log n w) (sym (same_number q next same)) (subst (IsUnretired opening after_log next) it fresh)
      | inr other ↦
          still_there opening story after_log q w (in_logs (txn_of q w)) (retired_as_before q) (acks_as_before q)
          (is.each q w (sym (put_there log.unretired next q (new_logged container locals) other) ∙ at))
    ]

    all_logged : (txn : Txn) → Contains (logs opening after_log) txn → is_retired txn.number after_log ≡ false
        → option_map (txn_of txn.number) (get (insert log.unretired next (new_logged container locals)) txn.number) ≡ Some txn
    all_logged txn among unretired = ⊎_elim
        (λ old.
        let le = is.logged_old txn old in
        elim (test_of (eq_by_cmp nat_cmp txn.number next)) [
          | inl same ↦ let at = same_number txn.number next same in absurd (omega (arith, le, at))
          | inr other ↦
              ap (option_map (txn_of txn.number)) (put_there log.unretired next txn.number (new_logged container locals) other)
              ∙ is.all txn old (sym (retired_as_before txn.number) ∙ unretired)
        ])
        (λ it.
        subst (λ (t : Txn). option_map (txn_of t.number) (get (insert log.unretired next (new_logged container locals)) t.number) ≡ Some t) it
        (ap (option_map (txn_of next)) (put_here log.unretired next next (new_logged container locals) (sym (unsigned_ties next next) ∙ eq-eqb next next refl))))
        (old_or_new txn among)

    pub log_logged : IsLogOf opening after_log (with_txn log container locals)
    log_logged = record {
      last = sym (told-push logged_number opening.last_txn story (by_scm logs_it));
      each = each_logged;
      all = all_logged;
      logged_old = λ txn among. ⊎_elim
          (λ old. let le = is.logged_old txn old in omega (arith, le))
          (λ it. let at = ap (λ (t : Txn). t.number) it in omega (arith, at)) (old_or_new txn among);
      acknowledged_old = λ q dn among.
          let le = is.acknowledged_old q dn (subst (λ (l : List ℕ). Contains l dn) (acks_as_before q) among) in omega (arith, le);
      retired_old = λ q gone. let le = is.retired_old q (sym (retired_as_before q) ∙ gone) in omega (arith, le);
    }

-- ---- three flags are three acknowledgements

abbrev has : ℕ → List ℕ → Bool
has x acks = list_any (λ a. a == x) acks

abbrev without : ℕ → List ℕ → List ℕ
without x acks = filter (λ a. not (a == x)) acks

no_more : (x : ℕ) (acks : List ℕ) → length (without x acks) ≤ length acks
no_more x [] = omega arith
no_more x (a ∷ acks) = by (a == x) (no_more x acks)
  where
    by : (t : Bool) → length (without x acks) ≤ length acks → length (cond (not t) (a ∷ without x acks) (without x acks)) ≤ length (a ∷ acks)
    by true le = omega (arith, le)
    by false le = omega (arith, le)

fewer : (x : ℕ) (acks : List ℕ) → has x acks ≡ true → length (without x acks) + 1 ≤ length acks
fewer x [] among = absurd (false≢true among)
fewer x (a ∷ acks) among = by (a == x) among (no_more x acks) (fewer x acks)
  where
    by : (t : Bool) → (t || has x acks) ≡ true → length (without x acks) ≤ length acks → (has x acks ≡ true → length (without x acks) + 1 ≤ length acks)
        → length (cond (not t) (a ∷ without x acks) (without x acks)) + 1 ≤ length (a ∷ acks)
    by true is le rest = omega (arith, le)
    by false is le rest = let less = rest is in omega (arith, less)

has_rest : (x y : ℕ) (acks : List ℕ) → (y ≡ x → ⊥) → has y acks ≡ true → has y (without x acks) ≡ true
has_rest x y [] apart among = among
has_rest x y (a ∷ acks) apart among = by (a == x) refl (a == y) refl among (has_rest x y acks apart)
  where
    by : (t : Bool) → (a == x) ≡ t → (u : Bool) → (a == y) ≡ u → (u || has y acks) ≡ true → (has y acks ≡ true → has y (without x acks) ≡ true)
        → has y (cond (not t) (a ∷ without x acks) (without x acks)) ≡ true
    by true is true too either rest = absurd (apart (sym (eqb-true a y too) ∙ eqb-true a x is))
    by true is false too either rest = rest either
    by false is true too either rest = ap (λ t. t || has y (without x acks)) too
    by false is false too either rest = ap (λ t. t || has y (without x acks)) too ∙ rest either

flags_few : (flags : List Bool) (first : ℕ) (acks : List ℕ) → ((k : ℕ) → slice_index_or flags k false ≡ true → has (first + k) acks ≡ true) → length (filter (λ flag. flag) flags) ≤ length acks
flags_few [] first acks all = omega arith
flags_few (false ∷ flags) first acks all =
    flags_few flags (suc first) acks (λ k flag. subst (λ n. has n acks ≡ true) (omega arith) (all (suc k) flag))
flags_few (true ∷ flags) first acks all =
    let le =
    flags_few flags (suc first) (without first acks)
    (λ k flag. has_rest first (suc first + k) acks (λ same. omega (arith, same)) (subst (λ n. has n acks ≡ true) (omega arith) (all (suc k) flag))) in
    let less = fewer first acks (subst (λ n. has n acks ≡ true) (omega arith) (all 0 refl)) in
    omega (arith, le, less)

has_it : (x : ℕ) (acks : List ℕ) → Contains acks x → has x acks ≡ true
has_it x acks it = list_any_at (λ a. a == x) acks it.0 x it.1 (eq-eqb (slice_index_or acks it.0 x) x it.2)

from_none : (k : ℕ) → k ≡ 0 + k
from_none k = omega arith

pub three_acknowledged : (opening : Opening) (story : List Event) (number : ℕ) (logged : Logged) → IsUnretired opening story number logged → nat_le 3 (acknowledgement_count logged) ≡ true
    → 3 ≤ length (acknowledgers opening story number)
three_acknowledged opening story number logged it done =
    let acks = acknowledgers opening story number in
    let le =
    flags_few logged.acknowledged 0 acks (λ k flag. subst (λ n. has n acks ≡ true) (from_none k) (has_it k acks ((it.acknowledged k).0 flag))) in
    let many = leb-true 3 (acknowledgement_count logged) done in
    let count = length-filter (λ (flag : Bool). flag) logged.acknowledged in
    omega (arith, le, many, count)
