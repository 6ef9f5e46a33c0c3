-- The replicas that a datanode's disks are left with.
use Rattle.std.proofs.Common.{◌≡◌, ℕ, suc, ◌≤◌, ◌==◌, max, Bool, true, false, not, ◌&&◌, ◌||◌, List, [], ◌∷◌, ◌++◌, length, map, fold, Option, None, Some, Contains, cond, refl, sym, ◌∙◌, ap, subst, zero-le, arith}
use mathlib.Core.Bool.{false≢true}
use Rattle.std.proofs.Math.Nat.{max-eq_left, max-eq_right, le-max_right}
use Rattle.std.proofs.lemmas.Bool.{eqb-true, eq-eqb, and_parts}
use Rattle.std.proofs.lemmas.List.Elements.{Contains-append_left, Contains-append_right}
use Rattle.std.specs.List.{flat_map, list_any, slice_get}
use Rattle.std.specs.Option.{option_map_or}
use Rattle.oz_container.specs.declared.state.State.TheVariants.{Open, Closed}
use Rattle.oz_dellog.specs.declared.txn.Txn.{Txn}
use Rattle.oz_core.specs.declared.event.Event.{Event}
use Rattle.oz_core.specs.declared.event.EventKind.{EventKind}
use Rattle.oz_core.specs.declared.event.EventKind.TheVariants.{CloseCommand, Delete, Wipe}
use Rattle.oz_core.specs.declared.opening.NodeOpening.{NodeOpening}
use Rattle.oz_core.specs.declared.opening.Opening.{Opening}
use Rattle.oz_core.specs.declared.opening.Replica.{Replica}
use Rattle.oz_core.specs.Law.{IsLegal}
use Rattle.oz_core.specs.Nodes.{is_open, closes_at_opening, was_closed, is_closed, closed_after}
use Rattle.oz_core.specs.Scm.{logs}
use Rattle.oz_core.specs.Stories.{all_told, newer}
use Rattle.oz_kept.specs.laws.Granted.{told_among}
use Rattle.oz_kept.specs.reopened.Left.{greatest_in, was_greatest, greatest_of, greatest_after, is_txn_of}
use Rattle.oz_model.specs.laws.Members.{joins, mapped, of_mapped, passing, same_test}
use Rattle.oz_halted.specs.halting.laws.Unchanged.{changes}
use Rattle.oz_halted.proofs.leaving_lemmas.Absent.{none_changes, stays_false, stays_zero, beyond}
use Rattle.oz_halted.proofs.leaving_lemmas.Held.{found_get, passes_some}

-- a container that is closed on a datanode
abbrev pub closed_number : EventKind → Option ℕ
closed_number (CloseCommand dn number) = Some number
closed_number _ = None

no_of : (t : Bool) → (t ≡ true → ⊥) → t ≡ false
no_of true none = absurd (none refl)
no_of false none = refl

module _ (opening : Opening) (story : List Event) where
  -- the containers of which there may be something to tell
  abbrev pub numbers : List ℕ
  numbers =
      flat_map (λ (node : NodeOpening). map (λ (replica : Replica). replica.container) node.replicas) opening.nodes
      ++ (all_told closed_number story ++ map (λ (txn : Txn). txn.container) (logs opening story))

  abbrev pub replica_of : ℕ → ℕ → Replica
  replica_of dn container = record {
    container = container;
    state = cond (is_closed opening story dn container) Closed Open;
    greatest = greatest_of opening story dn container;
  }

  abbrev pub replicas_left : ℕ → List Replica
  replicas_left dn = map (replica_of dn) numbers

  -- ---- each of which there is something is among them

  of_opening : (container dn : ℕ) (node : NodeOpening) (replica : Replica) → slice_get opening.nodes dn ≡ Some node → Contains node.replicas replica → replica.container ≡ container → Contains numbers container
  of_opening container dn node replica is there same =
      Contains-append_left (flat_map (λ (node : NodeOpening). map (λ (replica : Replica). replica.container) node.replicas) opening.nodes)
      (all_told closed_number story ++ map (λ (txn : Txn). txn.container) (logs opening story)) container
      (joins (λ (node : NodeOpening). map (λ (replica : Replica). replica.container) node.replicas) opening.nodes node container (found_get opening.nodes dn node is)
      (subst (Contains (map (λ (replica : Replica). replica.container) node.replicas)) same (mapped (λ (replica : Replica). replica.container) node.replicas replica there)))

  of_events : (container : ℕ) → Contains (all_told closed_number story) container → Contains numbers container
  of_events container there =
      Contains-append_right (flat_map (λ (node : NodeOpening). map (λ (replica : Replica). replica.container) node.replicas) opening.nodes)
      (all_told closed_number story ++ map (λ (txn : Txn). txn.container) (logs opening story)) container
      (Contains-append_left (all_told closed_number story) (map (λ (txn : Txn). txn.container) (logs opening story)) container there)

  of_logs : (container : ℕ) → Contains (map (λ (txn : Txn). txn.container) (logs opening story)) container → Contains numbers container
  of_logs container there =
      Contains-append_right (flat_map (λ (node : NodeOpening). map (λ (replica : Replica). replica.container) node.replicas) opening.nodes)
      (all_told closed_number story ++ map (λ (txn : Txn). txn.container) (logs opening story)) container
      (Contains-append_right (all_told closed_number story) (map (λ (txn : Txn). txn.container) (logs opening story)) container there)

  module _ (dn container : ℕ) where
    -- ---- which are closed

    module _ (none : Contains numbers container → ⊥) where
      not_closed_before : was_closed opening dn container ≡ false
      not_closed_before = by (slice_get opening.nodes dn) refl
        where
          by : (o : Option NodeOpening) → slice_get opening.nodes dn ≡ o → option_map_or (closes_at_opening container) o false ≡ false
          by None e = refl
          by (Some node) e = no_of (closes_at_opening container node) (λ some.
              let found = passing (λ (replica : Replica). replica.container == container && not (is_open replica.state)) node.replicas some in
              none (of_opening container dn node found.item e found.there
              (eqb-true found.item.container container (and_parts (found.item.container == container) (not (is_open found.item.state)) found.so).0)))

      kind_closes_none : (event : Event) (kind : EventKind) → event.kind ≡ kind → Contains story event → (before : Bool) → before ≡ false → newer (closed_after dn container kind) before ≡ false
      kind_closes_none event (CloseCommand other number) is there before old = by (other == dn && number == container) refl
        where
          by : (t : Bool) → (other == dn && number == container) ≡ t → newer (cond t (Some true) None) before ≡ false
          by true e =
              let same = eqb-true number container (and_parts (other == dn) (number == container) e).1 in
              absurd (none (of_events container (subst (Contains (all_told closed_number story)) same (told_among closed_number story event number there (ap closed_number is)))))
          by false e = old
      kind_closes_none event (Wipe other) is there before old = by (other == dn)
        where
          by : (t : Bool) → newer (cond t (Some false) None) before ≡ false
          by true = refl
          by false = old
      kind_closes_none event kind is there before old = old

      never_closed : is_closed opening story dn container ≡ false
      never_closed = stays_false (closed_after dn container) story (was_closed opening dn container) not_closed_before (λ event there before old. kind_closes_none event event.kind refl there before old)

      -- ---- nothing was applied

      not_before : was_greatest opening dn container ≡ 0
      not_before = by (slice_get opening.nodes dn) refl
        where
          none_in : (node : NodeOpening) (l : List Replica) → ((replica : Replica) → Contains l replica → replica.container ≡ container → ⊥)
              → fold (λ most (replica : Replica). cond (replica.container == container) (max most replica.greatest) most) 0 l ≡ 0
          none_in node [] never = refl
          none_in node (replica ∷ l) never =
              ap (λ (t : Bool). fold (λ most (replica : Replica). cond (replica.container == container) (max most replica.greatest) most) (cond t (max 0 replica.greatest) 0) l)
              (no_of (replica.container == container) (λ e. never replica (0, omega arith, refl) (eqb-true replica.container container e)))
              ∙ none_in node l (λ other there. never other (suc there.0, omega (arith, there.1), there.2))

          by : (o : Option NodeOpening) → slice_get opening.nodes dn ≡ o → option_map_or (greatest_in container) o 0 ≡ 0
          by None e = refl
          by (Some node) e = none_in node node.replicas (λ replica there same. none (of_opening container dn node replica e there same))

      kind_applies_none : (kind : EventKind) → greatest_after (logs opening story) dn container 0 kind ≡ 0
      kind_applies_none (Delete other number locals) = by (other == dn && list_any (is_txn_of number container) (logs opening story)) refl
        where
          by : (t : Bool) → (other == dn && list_any (is_txn_of number container) (logs opening story)) ≡ t → cond t (max 0 number) 0 ≡ 0
          by true e =
              let found = passing (is_txn_of number container) (logs opening story) (and_parts (other == dn) (list_any (is_txn_of number container) (logs opening story)) e).1 in
              let same = eqb-true found.item.container container (and_parts (found.item.number == number) (found.item.container == container) found.so).1 in
              absurd (none (of_logs container (subst (Contains (map (λ (txn : Txn). txn.container) (logs opening story))) same (mapped (λ (txn : Txn). txn.container) (logs opening story) found.item found.there))))
          by false e = refl
      kind_applies_none (Wipe other) = by (other == dn)
        where
          by : (t : Bool) → ◌≡◌ {A = ℕ} (cond t 0 0) 0
          by true = refl
          by false = refl
      kind_applies_none kind = refl

      never_applied : greatest_of opening story dn container ≡ 0
      never_applied = stays_zero (λ most (event : Event). greatest_after (logs opening story) dn container most event.kind) story (was_greatest opening dn container) not_before (λ event there. kind_applies_none event.kind)

    -- ---- what its disks say of the container

    among : (list_any (λ (number : ℕ). number == container) numbers ≡ true) → Contains numbers container
    among some =
        let found = passing (λ (number : ℕ). number == container) numbers some in
        subst (Contains numbers) (eqb-true found.item container found.so) found.there

    pub closed_same : list_any (λ (replica : Replica). replica.container == container && not (is_open replica.state)) (replicas_left dn) ≡ is_closed opening story dn container
    closed_same = same_test (list_any (λ (replica : Replica). replica.container == container && not (is_open replica.state)) (replicas_left dn)) (is_closed opening story dn container)
        (λ some.
        let found = passing (λ (replica : Replica). replica.container == container && not (is_open replica.state)) (replicas_left dn) some in
        let of = of_mapped (replica_of dn) numbers found.item found.there in
        let both = and_parts (found.item.container == container) (not (is_open found.item.state)) found.so in
        let same : of.0 ≡ container = ap (λ (r : Replica). r.container) of.2 ∙ eqb-true found.item.container container both.0 in
        let state : not (is_open (cond (is_closed opening story dn of.0) Closed Open)) ≡ true = ap (λ (r : Replica). not (is_open r.state)) of.2 ∙ both.1 in
        subst (λ (n : ℕ). is_closed opening story dn n ≡ true) same (closed_by (is_closed opening story dn of.0) state))
        (λ closed.
        let there : Contains numbers container = by_any (list_any (λ (number : ℕ). number == container) numbers) refl closed in
        passes_some (λ (replica : Replica). replica.container == container && not (is_open replica.state)) (replicas_left dn) (replica_of dn container) (mapped (replica_of dn) numbers container there)
        (ap (λ (t : Bool). t && not (is_open (cond (is_closed opening story dn container) Closed Open))) (eq-eqb container container refl) ∙ ap (λ (t : Bool). not (is_open (cond t Closed Open))) closed))
      where
        closed_by : (t : Bool) → not (is_open (cond t Closed Open)) ≡ true → t ≡ true
        closed_by true e = refl
        closed_by false e = e

        by_any : (t : Bool) → list_any (λ (number : ℕ). number == container) numbers ≡ t → is_closed opening story dn container ≡ true → Contains numbers container
        by_any true e closed = among e
        by_any false e closed = absurd (false≢true (sym (never_closed (λ there. false≢true (sym e ∙ passes_some (λ (number : ℕ). number == container) numbers container there (eq-eqb container container refl)))) ∙ closed))

    greatest_step : ℕ → Replica → ℕ
    greatest_step most replica = cond (replica.container == container) (max most replica.greatest) most

    -- so many as there are, it is the same
    fold_all : (l : List ℕ) (start : ℕ) → fold (λ most (replica : Replica). cond (replica.container == container) (max most replica.greatest) most) start (map (replica_of dn) l)
        ≡ cond (list_any (λ (number : ℕ). number == container) l) (max start (greatest_of opening story dn container)) start
    fold_all [] start = refl
    fold_all (x ∷ l) start = by (x == container) refl (fold_all l)
      where
        by : (t : Bool) → (x == container) ≡ t
            → ((start : ℕ) → fold (λ most (replica : Replica). cond (replica.container == container) (max most replica.greatest) most) start (map (replica_of dn) l) ≡ cond (list_any (λ (number : ℕ). number == container) l) (max start (greatest_of opening story dn container)) start)
            → fold (λ most (replica : Replica). cond (replica.container == container) (max most replica.greatest) most) (cond t (max start (greatest_of opening story dn x)) start) (map (replica_of dn) l)
            ≡ cond (t || list_any (λ (number : ℕ). number == container) l) (max start (greatest_of opening story dn container)) start
        by false e rest = rest start
        by true e rest =
            ap (λ (n : ℕ). fold (λ most (replica : Replica). cond (replica.container == container) (max most replica.greatest) most) (max start (greatest_of opening story dn n)) (map (replica_of dn) l)) (eqb-true x container e)
            ∙ rest (max start (greatest_of opening story dn container)) ∙ twice (list_any (λ (number : ℕ). number == container) l) (greatest_of opening story dn container)
          where
            twice : (t : Bool) (g : ℕ) → cond t (max (max start g) g) (max start g) ≡ max start g
            twice true g = max-eq_left (le-max_right start g)
            twice false g = refl

    pub greatest_same : fold (λ most (replica : Replica). cond (replica.container == container) (max most replica.greatest) most) 0 (replicas_left dn) ≡ greatest_of opening story dn container
    greatest_same = fold_all numbers 0 ∙ by (list_any (λ (number : ℕ). number == container) numbers) refl
      where
        by : (t : Bool) → list_any (λ (number : ℕ). number == container) numbers ≡ t → cond t (max 0 (greatest_of opening story dn container)) 0 ≡ greatest_of opening story dn container
        by true e = max-eq_right zero-le
        by false e = sym (never_applied (λ there. false≢true (sym e ∙ passes_some (λ (number : ℕ). number == container) numbers container there (eq-eqb container container refl))))

    -- ---- a datanode that isn't there has none

    module _ (legal : IsLegal opening story) (le : length opening.nodes ≤ dn) where
      kind_closes_nothing : (kind : EventKind) → changes dn kind ≡ false → (before : Bool) → before ≡ false → newer (closed_after dn container kind) before ≡ false
      kind_closes_nothing (CloseCommand other number) none before is = ap (λ (t : Bool). newer (cond (t && number == container) (Some true) None) before) none ∙ is
      kind_closes_nothing (Wipe other) none before is = ap (λ (t : Bool). newer (cond t (Some false) None) before) none ∙ is
      kind_closes_nothing kind none before is = is

      pub absent_closed : is_closed opening story dn container ≡ false
      absent_closed =
          stays_false (closed_after dn container) story (was_closed opening dn container) (ap (λ (o : Option NodeOpening). option_map_or (closes_at_opening container) o false) (beyond opening.nodes dn le))
          (λ event there before is. kind_closes_nothing event.kind (none_changes opening story legal dn le event there) before is)

      kind_applies_nothing : (kind : EventKind) → changes dn kind ≡ false → greatest_after (logs opening story) dn container 0 kind ≡ 0
      kind_applies_nothing (Delete other number locals) none = ap (λ (t : Bool). cond (t && list_any (is_txn_of number container) (logs opening story)) (max 0 number) 0) none
      kind_applies_nothing (Wipe other) none = ap (λ (t : Bool). cond t 0 0) none
      kind_applies_nothing kind none = refl

      pub absent_greatest : greatest_of opening story dn container ≡ 0
      absent_greatest =
          stays_zero (λ most (event : Event). greatest_after (logs opening story) dn container most event.kind) story (was_greatest opening dn container) (ap (λ (o : Option NodeOpening). option_map_or (greatest_in container) o 0) (beyond opening.nodes dn le))
          (λ event there. kind_applies_nothing event.kind (none_changes opening story legal dn le event there))
