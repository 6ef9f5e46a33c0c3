-- What entries keep of the log: numbers up to the last one, and acknowledgements by members alone.
use Rattle.std.proofs.Common.{◌≡◌, ◌⊎◌, inl, inr, ℕ, zero, suc, ◌+◌, ◌-◌, ◌<◌, ◌≤◌, ◌&&◌, Bool, true, false, not, cond, List, [], ◌∷◌, ◌++◌, length, replicate, slice_get, slice_set, Option, None, Some, Result, Ok, Err, refl, sym, ap, subst, ◌∙◌, arith, leb}
use Rattle.std.proofs.lemmas.Bool.{false≢true, and_parts, leb-true, eqb-true}
use Rattle.std.proofs.lemmas.List.{length-set}
use Rattle.std.specs.Cmp.{ranked, nat_cmp_is, nat_cmp_total}
use Rattle.std.specs.declared.cmp.Ordering.TheVariants.{Less, Equal, Greater}
use Rattle.std.specs.FinMap.{FinMap, get, insert, remove, empty, get-empty, get-insert, get-remove}
use Rattle.std.specs.List.{slice_index_or}
use Rattle.std.specs.Option.{is_some, option_map_or}
use Rattle.std.specs.Ordering.{nat_cmp, eq_by_cmp, is_eq}
use Rattle.oz_container.specs.declared.state.Event.{Event}
use Rattle.oz_dellog.specs.Log.{Log, with_txn, acknowledged, without_txn, is_done}
use Rattle.oz_dellog.specs.Logged.{nobody, new_logged, is_acknowledged_by, with_acknowledgement}
use Rattle.oz_dellog.specs.declared.logged.Logged.{Logged as LoggedTxn}
use Rattle.oz_dellog.specs.declared.txn.Txn.{Txn}
use Rattle.oz_scm.specs.declared.grants.container.Container.{Container}
use Rattle.oz_scm.specs.declared.grants.entry.Entry.{Entry}
use Rattle.oz_scm.specs.declared.grants.entry.Entry.TheVariants.{Nodes, Granted, Stepped, Logged, Acked, Retired}
use Rattle.oz_scm.specs.declared.grants.entry.Grant.{Grant}
use Rattle.oz_scm.specs.grants.Build.{made_from, body_at, Makes}
use Rattle.oz_scm.specs.grants.Log.{IsOfMembers, IsOrdered}
use Rattle.oz_scm.specs.grants.Made.{Made, begun, container_at, with_container, with_stepped, granted_in, stepped, is_made, is_member, is_owed_by, may_ack, log_of, MayGrant, MayStep, MayLog, MayAck, MayRetire, MayFollow, after_grant, after_step, after_log, after_ack, after_retirement, after_entry}
use Rattle.oz_scm.specs.grants.laws.Journals.{followed_ok, body_follows}
use Rattle.oz_scm.specs.Scm.{made_for}
use Rattle.oz_scm.proofs.grants_lemmas.Rooms.{DifferAt, at_number, next_at, set_is, push_is, differ_set, differ_push, at_set, at_push, same_or_not, Led, led_of}

-- ---- entries of a map

abbrev Entries : Type 0
Entries = FinMap nat_cmp LoggedTxn

test_of : (b : Bool) → (b ≡ true) ⊎ (b ≡ false)
test_of true = inl refl
test_of false = inr refl

pub same_key : (q k : ℕ) → eq_by_cmp nat_cmp q k ≡ true → q ≡ k
same_key q k is = elim (nat_cmp q k) as (λ r. nat_cmp q k ≡ r → is_eq r ≡ true → q ≡ k) [
  | Less ↦ λ r e. absurd (false≢true e)
  | Equal ↦ λ r e. ranked q k Equal (sym r)
  | Greater ↦ λ r e. absurd (false≢true e)
] refl is

pub key_itself : (q k : ℕ) → q ≡ k → eq_by_cmp nat_cmp q k ≡ true
key_itself q k is = ap is_eq (sym (nat_cmp_is q k Equal is))

pub all_put : (P : ℕ → LoggedTxn → Type 0) (m : Entries) (k : ℕ) (v : LoggedTxn) → P k v → ((q : ℕ) (w : LoggedTxn) → get m q ≡ Some w → P q w)
    → (q : ℕ) (w : LoggedTxn) → get (insert m k v) q ≡ Some w → P q w
all_put P m k v here all q w is = elim (test_of (eq_by_cmp nat_cmp q k)) [
  | inl same ↦
      let there : ◌≡◌ {A = Option LoggedTxn} (Some v) (Some w) = sym (get-insert nat_cmp_total m k v q ∙ ap (λ b. cond b (Some v) (get m q)) same) ∙ is in
      let value : v ≡ w = cc there in
      subst (λ (n : ℕ). P n w) (sym (same_key q k same)) (subst (P k) value here)
  | inr other ↦ all q w (sym (get-insert nat_cmp_total m k v q ∙ ap (λ b. cond b (Some v) (get m q)) other) ∙ is)
]

pub all_left : (P : ℕ → LoggedTxn → Type 0) (m : Entries) (k : ℕ) → ((q : ℕ) (w : LoggedTxn) → get m q ≡ Some w → P q w)
    → (q : ℕ) (w : LoggedTxn) → get (remove m k) q ≡ Some w → P q w
all_left P m k all q w is = elim (test_of (eq_by_cmp nat_cmp q k)) [
  | inl same ↦ absurd (cc (sym (get-remove nat_cmp_total m k q ∙ ap (λ b. cond b None (get m q)) same) ∙ is))
  | inr other ↦ all q w (sym (get-remove nat_cmp_total m k q ∙ ap (λ b. cond b None (get m q)) other) ∙ is)
]

-- ---- containers keep their pipelines

abbrev StayThere : List Container → List Container → Type 0
StayThere l other = (n : ℕ) (c : Container) → container_at l n ≡ Some c
    → (d : Container) × (container_at other n ≡ Some d) × (d.pipeline ≡ c.pipeline)

there_of : (l : List Container) (i : ℕ) → i < length l → (c : Container) × (slice_get l i ≡ Some c)
there_of [] i lt = absurd (omega (arith, lt))
there_of (x ∷ l) zero lt = (x, refl)
there_of (x ∷ l) (suc i) lt = there_of l i (omega (arith, lt))

container_there : (l : List Container) (n : ℕ) → is_made l n ≡ true → (c : Container) × (container_at l n ≡ Some c)
container_there l zero is = absurd (false≢true is)
container_there l (suc i) is =
    let le : suc i ≤ length l = leb-true _ _ (and_parts _ _ is).1 in
    there_of l i (omega (arith, le))

stay_set : (l : List Container) (number : ℕ) (old c : Container) → container_at l number ≡ Some old → c.pipeline ≡ old.pipeline → StayThere l (with_container number c l)
stay_set l number old c there same n d is =
    let within = at_number l number old there in
    subst (λ (o : List Container). (e : Container) × (container_at o n ≡ Some e) × (e.pipeline ≡ d.pipeline)) (set_is l number c old there)
    (elim (same_or_not n number) [
      | inl here ↦
          let one : old ≡ d = cc (sym there ∙ sym (ap (container_at l) here) ∙ is) in (
            c,
            ap (container_at (slice_set l (number - 1) c)) here ∙ at_set l number c within.0 within.1,
            same ∙ ap (λ (x : Container). x.pipeline) one,
          )
      | inr other ↦ (d, differ_set l number c within.0 n other ∙ is, refl)
    ])

stay_push : (l : List Container) (number : ℕ) (c : Container) → container_at l number ≡ None → 1 ≤ number → number ≤ length l + 1 → StayThere l (with_container number c l)
stay_push l number c none least most n d is =
    subst (λ (o : List Container). (e : Container) × (container_at o n ≡ Some e) × (e.pipeline ≡ d.pipeline)) (push_is l number c none least most)
    (elim (same_or_not n number) [
      | inl here ↦ absurd (cc (sym (ap (container_at l) here ∙ none) ∙ is))
      | inr other ↦ (d, differ_push l number c (next_at l number none least most) n other ∙ is, refl)
    ])

granted_least : (made : Made) (grant : Grant) → MayGrant made grant → 1 ≤ grant.container
granted_least made grant may = leb-true _ _ (and_parts _ _ may.container_is).0

granted_most : (made : Made) (grant : Grant) → MayGrant made grant → grant.container ≤ length made.containers + 1
granted_most made grant may = leb-true _ _ (and_parts _ _ may.container_is).1

granted_of : (made : Made) (grant : Grant) → MayGrant made grant → (o : Option Container) → container_at made.containers grant.container ≡ o
    → StayThere made.containers (with_container grant.container (granted_in o grant.pipeline grant.count) made.containers)
granted_of made grant may None is = stay_push made.containers grant.container (granted_in None grant.pipeline grant.count) is (granted_least made grant may) (granted_most made grant may)
granted_of made grant may (Some old) is = stay_set made.containers grant.container old (granted_in (Some old) grant.pipeline grant.count) is refl

stay_granted : (made : Made) (grant : Grant) → MayGrant made grant → StayThere made.containers (after_grant grant made).containers
stay_granted made grant may = granted_of made grant may (container_at made.containers grant.container) refl

stay_stepped : (made : Made) (number : ℕ) (event : Event) → StayThere made.containers (after_step number event made).containers
stay_stepped made number event = of (stepped (container_at made.containers number) event) refl
  where
    of : (o : Option Container) → stepped (container_at made.containers number) event ≡ o → StayThere made.containers (with_stepped number (stepped (container_at made.containers number) event) made.containers)
    of None is = subst (λ (o : Option Container). StayThere made.containers (with_stepped number o made.containers)) (sym is) (λ n c there. (c, there, refl))
    of (Some c) is =
        let led = led_of (container_at made.containers number) event c is in
        subst (λ (o : Option Container). StayThere made.containers (with_stepped number o made.containers)) (sym is) (stay_set made.containers number led.old c led.there led.pipeline)

members_stay : (made later : Made) (logged : LoggedTxn) → later.nodes ≡ made.nodes → StayThere made.containers later.containers → IsOfMembers made logged → IsOfMembers later logged
members_stay made later logged nodes stay is =
    let there = stay logged.container is.container is.there in
    record {
      container = there.0;
      there = there.1;
      members = λ dn acked. ap (λ (n : ℕ). is_member n (Some there.0) dn) nodes ∙ same there.0 is.container dn there.2 ∙ is.members dn acked;
    }
  where
    same : (c d : Container) (dn : ℕ) → c.pipeline ≡ d.pipeline → is_member made.nodes (Some c) dn ≡ is_member made.nodes (Some d) dn
    same c d dn is = ap (λ (p : ℕ). is_member made.nodes (Some (record d { pipeline = p })) dn) is

-- ---- acknowledgements

none_of : (n k : ℕ) → slice_index_or (replicate n false) k false ≡ false
none_of zero k = refl
none_of (suc n) zero = refl
none_of (suc n) (suc k) = none_of n k

nobody_acked : (container dn : ℕ) (locals : List ℕ) → is_acknowledged_by (new_logged container locals) dn ≡ true → ⊥
unfolding nobody
nobody_acked container dn locals is = absurd (false≢true (sym (none_of 256 dn) ∙ is))

flag_set : (flags : List Bool) (i j : ℕ) → slice_index_or (slice_set flags i true) j false ≡ true → (j ≡ i) ⊎ (slice_index_or flags j false ≡ true)
flag_set [] i j is = inr is
flag_set (x ∷ flags) zero zero is = inl refl
flag_set (x ∷ flags) zero (suc j) is = inr is
flag_set (x ∷ flags) (suc i) zero is = inr is
flag_set (x ∷ flags) (suc i) (suc j) is = elim (flag_set flags i j is) [
  | inl same ↦ inl (ap suc same)
  | inr other ↦ inr other
]

-- the transaction that a datanode owes an acknowledgement
pub record Owed (made : Made) (number dn : ℕ) : Type 0 where
  pub logged : LoggedTxn
  pub there : get made.unretired number ≡ Some logged
  pub owed : is_owed_by made dn logged ≡ true

pub owed_of : (made : Made) (number dn : ℕ) → MayAck made number dn → Owed made number dn
owed_of made number dn may = of (get made.unretired number) refl may
  where
    of : (o : Option LoggedTxn) → get made.unretired number ≡ o → option_map_or (is_owed_by made dn) o false ≡ true → Owed made number dn
    of None is may = absurd (false≢true may)
    of (Some logged) is may = record { logged = logged; there = is; owed = may }

-- ---- each entry keeps it

-- a flag for each number that a datanode may have
abbrev HasFlags : LoggedTxn → Type 0
HasFlags logged = length logged.acknowledged ≡ length nobody

log_ordered : (made : Made) (txn : Txn) → MayLog made txn → IsOrdered made → IsOrdered (after_log txn made)
log_ordered made txn may is =
    let there = container_there made.containers txn.container may.container_is in
    record {
      last = all_put (λ n w. n ≤ made.last_txn + 1) made.unretired (made.last_txn + 1) (new_logged txn.container txn.locals) (omega arith)
          (λ n w at. let le = is.last n w at in omega (arith, le));
      members = all_put (λ n w. IsOfMembers (after_log txn made) w) made.unretired (made.last_txn + 1) (new_logged txn.container txn.locals)
          (record { container = there.0; there = there.1; members = λ dn acked. absurd (nobody_acked txn.container dn txn.locals acked) })
          (λ n w at. members_stay made (after_log txn made) w refl (λ n c there. (c, there, refl)) (is.members n w at));
      flags = all_put (λ n w. HasFlags w) made.unretired (made.last_txn + 1) (new_logged txn.container txn.locals) refl is.flags;
    }

ack_ordered : (made : Made) (number dn : ℕ) → MayAck made number dn → IsOrdered made → IsOrdered (after_ack number dn made)
ack_ordered made number dn may is =
    let owed = owed_of made number dn may in
    let to : Option LoggedTxn → Made = λ o. record made {
      last_txn = (option_map_or (λ logged. record { last = made.last_txn; unretired = insert made.unretired number (with_acknowledgement logged dn) }) o (log_of made)).last;
      unretired = (option_map_or (λ logged. record { last = made.last_txn; unretired = insert made.unretired number (with_acknowledgement logged dn) }) o (log_of made)).unretired;
    } in
    let old = is.members number owed.logged owed.there in
    let is_member_now : is_member made.nodes (container_at made.containers owed.logged.container) dn ≡ true = (and_parts _ _ owed.owed).0 in
    subst (λ (o : Option LoggedTxn). IsOrdered (to o)) (sym owed.there) (record {
      last = all_put (λ n w. n ≤ made.last_txn) made.unretired number (with_acknowledgement owed.logged dn) (is.last number owed.logged owed.there) is.last;
      members = all_put (λ n w. IsOfMembers (to (Some owed.logged)) w) made.unretired number (with_acknowledgement owed.logged dn)
          (record {
            container = old.container;
            there = old.there;
            members = λ other acked. elim (flag_set owed.logged.acknowledged dn other acked) [
              | inl same ↦ ap (is_member made.nodes (Some old.container)) same ∙ sym (ap (λ (o : Option Container). is_member made.nodes o dn) old.there) ∙ is_member_now
              | inr before ↦ old.members other before
            ];
          })
          (λ n w at. members_stay made (to (Some owed.logged)) w refl (λ n c there. (c, there, refl)) (is.members n w at));
      flags = all_put (λ n w. HasFlags w) made.unretired number (with_acknowledgement owed.logged dn)
          (length-set owed.logged.acknowledged dn true ∙ is.flags number owed.logged owed.there) is.flags;
    })

retirement_ordered : (made : Made) (number : ℕ) → IsOrdered made → IsOrdered (after_retirement number made)
retirement_ordered made number is = record {
  last = all_left (λ n w. n ≤ made.last_txn) made.unretired number is.last;
  members = all_left (λ n w. IsOfMembers (after_retirement number made) w) made.unretired number
      (λ n w at. members_stay made (after_retirement number made) w refl (λ n c there. (c, there, refl)) (is.members n w at));
  flags = all_left (λ n w. HasFlags w) made.unretired number is.flags;
}

moved : (made later : Made) → later.nodes ≡ made.nodes → later.last_txn ≡ made.last_txn → later.unretired ≡ made.unretired → StayThere made.containers later.containers → IsOrdered made → IsOrdered later
moved made later nodes last log stay is = record {
  last = λ n w at. subst (λ (k : ℕ). n ≤ k) (sym last) (is.last n w (sym (ap (λ (m : Entries). get m n) log) ∙ at));
  members = λ n w at. members_stay made later w nodes stay (is.members n w (sym (ap (λ (m : Entries). get m n) log) ∙ at));
  flags = λ n w at. is.flags n w (sym (ap (λ (m : Entries). get m n) log) ∙ at);
}

begun_ordered : (nodes : ℕ) → IsOrdered (begun nodes)
begun_ordered nodes = record {
  last = λ n w at. absurd (cc (sym (get-empty nat_cmp n) ∙ at));
  members = λ n w at. absurd (cc (sym (get-empty nat_cmp n) ∙ at));
  flags = λ n w at. absurd (cc (sym (get-empty nat_cmp n) ∙ at));
}

abbrev OrderedIf : Option Made → Type 0
OrderedIf None = Unit {0}
OrderedIf (Some made) = IsOrdered made

entry_ordered : (entry : Entry) (found : Option Made) → MayFollow found entry → OrderedIf found → OrderedIf (after_entry entry found)
entry_ordered (Nodes count) None follows is = begun_ordered count
entry_ordered (Nodes count) (Some made) follows is = is
entry_ordered (Granted stripe grant) None follows is = tt
entry_ordered (Granted stripe grant) (Some made) follows is = moved made (after_grant grant made) refl refl refl (stay_granted made grant follows.1) is
entry_ordered (Stepped container event) None follows is = tt
entry_ordered (Stepped container event) (Some made) follows is = moved made (after_step container event made) refl refl refl (stay_stepped made container event) is
entry_ordered (Logged txn) None follows is = tt
entry_ordered (Logged txn) (Some made) follows is = log_ordered made txn follows is
entry_ordered (Acked number dn) None follows is = tt
entry_ordered (Acked number dn) (Some made) follows is = ack_ordered made number dn follows is
entry_ordered (Retired number) None follows is = tt
entry_ordered (Retired number) (Some made) follows is = retirement_ordered made number is

ordered_from : (bodies : List (List ℕ)) (found later : Option Made) → made_from found bodies ≡ Ok later → OrderedIf found → OrderedIf later
unfolding made_from
ordered_from [] found later e is = let same : found ≡ later = cc e in subst OrderedIf same is
ordered_from (bytes ∷ bodies) found later e is =
    let one = followed_ok (body_at found bytes) (λ (entry : Entry). made_from (after_entry entry found) bodies) later e in
    ordered_from bodies (after_entry one.0 found) later one.2 (entry_ordered one.0 found (body_follows found bytes one.0 one.1) is)

pub ordered : (bodies : List (List ℕ)) (made : Made) → Makes bodies (Some made) → IsOrdered made
ordered bodies made makes = ordered_from bodies None (Some made) makes tt

-- and so what is loaded by them
pub loaded_ordered : (given : ℕ) (bodies : List (List ℕ)) (found : Option Made) → Makes bodies found → IsOrdered (made_for given found)
loaded_ordered given bodies None makes = begun_ordered given
loaded_ordered given bodies (Some made) makes = ordered bodies made makes
