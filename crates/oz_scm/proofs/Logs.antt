-- What the log in memory keeps, and what an entry of the log makes of it.
use Rattle.std.proofs.Common.{◌≡◌, ◌⊎◌, inl, inr, ℕ, zero, suc, ◌+◌, ◌<◌, ◌≤◌, ◌&&◌, Bool, true, false, not, cond, List, [], length, Option, None, Some, refl, sym, ap, subst, ◌∙◌, arith}
use Rattle.std.proofs.lemmas.Bool.{OnTrue_at, and_parts, cases_lt, leb-true}
use Rattle.std.proofs.lemmas.List.Elements.{All-nil}
use Rattle.oz_nodes.specs.Pipelines.{pipelines_of}
use Rattle.std.specs.Bool.{OnTrue}
use Rattle.std.specs.Cmp.{nat_cmp_total}
use Rattle.std.specs.FinMap.{FinMap, get, insert, remove, empty, get-empty, get-insert, get-remove}
use Rattle.std.specs.Option.{option_map_or}
use Rattle.std.specs.Ordering.{nat_cmp, eq_by_cmp}
use Rattle.oz_dellog.specs.Log.{Log, with_txn, acknowledged, without_txn, awaits, is_done}
use Rattle.oz_dellog.specs.Logged.{new_logged, is_acknowledged_by, with_acknowledgement}
use Rattle.oz_dellog.specs.declared.logged.Logged.{Logged as LoggedTxn}
use Rattle.oz_dellog.specs.declared.txn.Txn.{Txn}
use Rattle.oz_scm.specs.declared.grants.container.Container.{Container}
use Rattle.oz_scm.specs.grants.Made.{Made, container_at, log_of, with_log, is_owed_by, is_local_count, MayLog, MayAck, MayRetire, after_log, after_ack, after_retirement}
use Rattle.oz_scm.specs.grants.Log.{IsLocalCount}
use Rattle.oz_scm.specs.grants.Steps.{IsListed, IsSound, WasLogged, made_of}
use Rattle.oz_scm.proofs.Ordered.{same_key, all_put, all_left, Owed, owed_of}

abbrev Entries : Type 0
Entries = FinMap nat_cmp LoggedTxn

-- what a call did that succeeded
pub noted : (r : Bool) (P : Type 0) → r ≡ true → OnTrue r P → P
noted r P is done = OnTrue_at is done

-- no number is above the last
abbrev Below : ℕ → Entries → Type 0
Below last m = (number : ℕ) → last < number → get m number ≡ None

test_of : (b : Bool) → (b ≡ true) ⊎ (b ≡ false)
test_of true = inl refl
test_of false = inr refl

below_put : (last : ℕ) (m : Entries) (k : ℕ) (v : LoggedTxn) → k ≤ last → Below last m → Below last (insert m k v)
below_put last m k v le below q lt = elim (test_of (eq_by_cmp nat_cmp q k)) [
  | inl same ↦ absurd (omega (arith, le, lt, same_key q k same))
  | inr other ↦ get-insert nat_cmp_total m k v q ∙ ap (λ b. cond b (Some v) (get m q)) other ∙ below q lt
]

below_left : (last : ℕ) (m : Entries) (k : ℕ) → Below last m → Below last (remove m k)
below_left last m k below q lt = elim (test_of (eq_by_cmp nat_cmp q k)) [
  | inl same ↦ get-remove nat_cmp_total m k q ∙ ap (λ b. cond b None (get m q)) same
  | inr other ↦ get-remove nat_cmp_total m k q ∙ ap (λ b. cond b None (get m q)) other ∙ below q lt
]

there_below : (last : ℕ) (m : Entries) (k : ℕ) (v : LoggedTxn) → Below last m → get m k ≡ Some v → k ≤ last
there_below last m k v below is = elim (cases_lt last k) [
  | inl above ↦ absurd (cc (sym (below k above) ∙ is))
  | inr le ↦ le
]

-- each transaction has as many ids as it may have
abbrev Counted : Entries → Type 0
Counted m = (number : ℕ) (logged : LoggedTxn) → get m number ≡ Some logged → IsLocalCount logged.locals

pub counted_by : (locals : List ℕ) → is_local_count (length locals) ≡ true → IsLocalCount locals
counted_by locals is =
    let both = and_parts _ _ is in
    record { some = leb-true _ _ both.0; few = leb-true _ _ both.1 }

counted_put : (m : Entries) (k : ℕ) (v : LoggedTxn) → IsLocalCount v.locals → Counted m → Counted (insert m k v)
counted_put m k v count counted = all_put (λ q w. IsLocalCount w.locals) m k v count counted

counted_left : (m : Entries) (k : ℕ) → Counted m → Counted (remove m k)
counted_left m k counted = all_left (λ q w. IsLocalCount w.locals) m k counted

module _ (nodes next : ℕ) (log : Log) (l : List Container) (roomy : List ℕ) where
  abbrev made : Made
  made = made_of log nodes next l

  abbrev Kept : Log → Type 0
  Kept log = IsSound (made_of log nodes next l) × IsListed l roomy

  with_below : (later : Log) → Below later.last later.unretired → Counted later.unretired → Kept log → Kept later
  with_below later below counted kept = (
    record {
      least = kept.0.least;
      most = kept.0.most;
      pipelines = kept.0.pipelines;
      granted = kept.0.granted;
      few = kept.0.few;
      within = kept.0.within;
      below = below;
      counted = counted;
    },
    kept.1,
  )

  pub kept_log : (later : Log) (container : ℕ) (locals : List ℕ) → IsLocalCount locals → later ≡ with_txn log container locals → Kept log → Kept later
  kept_log later container locals count is kept =
      let next : ℕ = log.last + 1 in
      subst Kept (sym is) (with_below (with_txn log container locals)
      (below_put next log.unretired next (new_logged container locals) (omega arith) (λ q lt. kept.0.below q (omega (arith, lt))))
      (counted_put log.unretired next (new_logged container locals) count kept.0.counted) kept)

  pub made_log : (txn : Txn) (later : Log) → later ≡ with_txn log txn.container txn.locals → ◌≡◌ {A = Made} (made_of later nodes next l) (after_log txn made)
  made_log txn later is = ap (λ (x : Log). made_of x nodes next l) is

  pub was_logged : (txn : Txn) (later : Log) → later ≡ with_txn log txn.container txn.locals → Kept log → WasLogged made (made_of later nodes next l)
  was_logged txn later is kept = record { txn = txn; below = kept.0.below; is = made_log txn later is }

  module _ (number dn : ℕ) (may : MayAck made number dn) where
    owed : Owed made number dn
    owed = owed_of made number dn may

    pub owed_awaits : awaits log number dn ≡ true
    owed_awaits = ap (λ (o : Option LoggedTxn). option_map_or (λ logged. not (is_acknowledged_by logged dn)) o false) owed.there ∙ (and_parts _ _ owed.owed).1

    acked_log : acknowledged log number dn ≡ record { last = log.last; unretired = insert log.unretired number (with_acknowledgement owed.logged dn) }
    acked_log = ap (λ (o : Option LoggedTxn). option_map_or (λ logged. record { last = log.last; unretired = insert log.unretired number (with_acknowledgement logged dn) }) o log) owed.there

    pub kept_ack : (later : Log) → later ≡ acknowledged log number dn → Kept log → Kept later
    kept_ack later is kept = subst Kept (sym (is ∙ acked_log))
        (with_below (record { last = log.last; unretired = insert log.unretired number (with_acknowledgement owed.logged dn) })
        (below_put log.last log.unretired number (with_acknowledgement owed.logged dn) (there_below log.last log.unretired number owed.logged kept.0.below owed.there) kept.0.below)
        (counted_put log.unretired number (with_acknowledgement owed.logged dn) (kept.0.counted number owed.logged owed.there) kept.0.counted) kept)

    pub made_ack : (later : Log) → later ≡ acknowledged log number dn → ◌≡◌ {A = Made} (made_of later nodes next l) (after_ack number dn made)
    made_ack later is =
        let after : Option LoggedTxn → Made = λ o. with_log (option_map_or (λ logged. record { last = log.last; unretired = insert log.unretired number (with_acknowledgement logged dn) }) o (log_of made)) made in
        ap (λ (x : Log). made_of x nodes next l) (is ∙ acked_log) ∙ sym (ap after owed.there)

  pub kept_retired : (number : ℕ) (later : Log) → later ≡ without_txn log number → Kept log → Kept later
  kept_retired number later is kept = subst Kept (sym is)
      (with_below (without_txn log number) (below_left log.last log.unretired number kept.0.below) (counted_left log.unretired number kept.0.counted) kept)

  pub made_retired : (number : ℕ) (later : Log) → later ≡ without_txn log number → ◌≡◌ {A = Made} (made_of later nodes next l) (after_retirement number made)
  made_retired number later is = ap (λ (x : Log). made_of x nodes next l) is

  -- ---- what was logged last is taken back

  module _ (before : Made) (was : WasLogged before made) (later : Log)
      (taken : (old : Log) (container : ℕ) (locals : List ℕ) → get old.unretired (old.last + 1) ≡ None → log ≡ with_txn old container locals → later ≡ old) where
    back : later ≡ log_of before
    back = taken (log_of before) was.txn.container was.txn.locals (was.below (before.last_txn + 1) (omega arith)) (ap log_of was.is)

    was_there : Kept log → Counted before.unretired
    was_there kept q w is = elim (cases_lt before.last_txn q) [
      | inl above ↦ absurd (cc (sym (was.below q above) ∙ is))
      | inr le ↦ elim (test_of (eq_by_cmp nat_cmp q (before.last_txn + 1))) [
        | inl same ↦ absurd (omega (arith, le, same_key q (before.last_txn + 1) same))
        | inr other ↦ kept.0.counted q w
            (ap (λ (m : Made). get m.unretired q) was.is
            ∙ (get-insert nat_cmp_total before.unretired (before.last_txn + 1) (new_logged was.txn.container was.txn.locals) q
            ∙ ap (λ b. cond b (Some (new_logged was.txn.container was.txn.locals)) (get before.unretired q)) other) ∙ is)
      ]
    ]

    pub kept_back : Kept log → Kept later
    kept_back kept = subst Kept (sym back) (with_below (log_of before) was.below (was_there kept) kept)

    pub made_back : ◌≡◌ {A = Made} (made_of later nodes next l) before
    made_back =
        let nodes_is : nodes ≡ before.nodes = ap (λ (m : Made). m.nodes) was.is in
        let next_is : next ≡ before.next_id = ap (λ (m : Made). m.next_id) was.is in
        let l_is : l ≡ before.containers = ap (λ (m : Made). m.containers) was.is in
        λ i. made_of (back i) (nodes_is i) (next_is i) (l_is i)

none_at : (n : ℕ) → container_at [] n ≡ None
none_at zero = refl
none_at (suc n) = refl

empty_kept : (nodes : ℕ) (log : Log) → 3 ≤ nodes → nodes ≤ 16 → log ≡ record { last = 0; unretired = empty }
    → IsSound (made_of log nodes 1 []) × IsListed [] []
empty_kept nodes log least most is = (
  record {
    least = least;
    most = most;
    pipelines = All-nil (λ (c : Container). c.pipeline < pipelines_of nodes);
    granted = All-nil (λ (c : Container). c.granted < 1);
    few = omega arith;
    within = omega arith;
    below = λ number lt. ap (λ (x : Log). get x.unretired number) is ∙ get-empty nat_cmp number;
    counted = λ number logged there. absurd (cc (sym (ap (λ (x : Log). get x.unretired number) is ∙ get-empty nat_cmp number) ∙ there));
  },
  λ number. (λ among. absurd among, λ room. absurd (cc (sym (none_at number) ∙ room.there))),
)

pub begun_kept : (nodes : ℕ) (l : List Container) (roomy : List ℕ) (log : Log) → 3 ≤ nodes → nodes ≤ 16 → l ≡ [] → roomy ≡ [] → log ≡ record { last = 0; unretired = empty }
    → IsSound (made_of log nodes 1 l) × IsListed l roomy
begun_kept nodes l roomy log least most one two is =
    subst (λ (l : List Container). IsSound (made_of log nodes 1 l) × IsListed l roomy) (sym one)
    (subst (λ (r : List ℕ). IsSound (made_of log nodes 1 []) × IsListed [] r) (sym two) (empty_kept nodes log least most is))
