-- The log of deleted blocks that was loaded is that of the opening.
use Rattle.std.proofs.Common.{◌≡◌, ◌⊎◌, inl, inr, ℕ, ◌+◌, ◌<◌, ◌≤◌, ◌==◌, Bool, true, false, cond, List, [], ◌∷◌, ◌++◌, length, map, get_or, Option, None, Some, Contains, option_map, refl, sym, ◌∙◌, ap, subst, arith, append-nil, eq-eqb}
use Rattle.std.proofs.lemmas.Bool.{cases_lt, eqb-true, false≢true}
use Rattle.std.proofs.lemmas.List.{get_or_past}
use Rattle.std.proofs.lemmas.List.FromFn.{get_or-range_with_len, length-range_with_len}
use Rattle.std.proofs.lemmas.Map.Views.{Contains-from_lookup}
use Rattle.std.specs.Cmp.{unsigned_ties}
use Rattle.std.specs.FinMap.{entries, find, get, get-entries}
use Rattle.std.specs.List.{range_with_len}
use Rattle.std.specs.Map.{lookup}
use Rattle.std.specs.Ordering.{eq_by_cmp, nat_cmp}
use Rattle.oz_core.specs.declared.opening.Opening.{Opening}
use Rattle.oz_core.specs.declared.opening.Unretired.{Unretired}
use Rattle.oz_core.specs.Scm.{acknowledged_at_opening, acknowledgers, logs}
use Rattle.oz_datanode.specs.Datanode.{State as Datanode}
use Rattle.oz_dellog.specs.declared.logged.Logged.{Logged}
use Rattle.oz_dellog.specs.declared.txn.Txn.{Txn}
use Rattle.oz_dellog.specs.Logged.{is_acknowledged_by, txn_of}
use Rattle.oz_loaded.specs.Unseated.{UnseatedView}
use Rattle.oz_model.specs.laws.Members.{comes, filtered, joins, mapped, of_filtered, of_mapped}
use Rattle.oz_namespace.specs.declared.namespace.Namespace.{Namespace}
use Rattle.oz_scm.specs.grants.Log.{IsOrdered}
use Rattle.oz_scm.specs.grants.Made.{Made, log_of}
use Rattle.oz_scm_events.specs.Kept.{IsLogOf}
use Rattle.oz_nodes_loaded.specs.store_opening.Openings.{acknowledged_by, opened_log, opened_txn, opening_of}
use Rattle.oz_nodes_loaded.specs.store_opening.laws.Logs.{comes_of}

same_key : (q k : ℕ) → eq_by_cmp nat_cmp q k ≡ true → q ≡ k
same_key q k is = eqb-true q k (unsigned_ties q k ∙ is)

looked : (number : ℕ) (es : List (ℕ × Logged)) → lookup (eq_by_cmp nat_cmp number) es ≡ find nat_cmp number es
looked number [] = refl
looked number (e ∷ es) = ap (cond (eq_by_cmp nat_cmp number e.0) (Some e.1)) (looked number es)

test_of : (b : Bool) → (b ≡ true) ⊎ (b ≡ false)
test_of true = inl refl
test_of false = inr refl

none_in : {A Claim : Type 0} (x : A) → Contains [] x → Claim
none_in x there = absurd (omega (arith, there.1))

-- ---- who acknowledged

in_range : (count dn : ℕ) → dn < count → Contains (range_with_len 0 count) dn
in_range count dn less =
    let many = length-range_with_len 0 count in
    let at = get_or-range_with_len 0 count dn dn less in
    (dn, omega (arith, less, many), omega (arith, at))

flag_within : (flags : List Bool) (dn : ℕ) → get_or flags dn false ≡ true → dn < length flags
flag_within flags dn flag = elim (cases_lt dn (length flags)) [
  | inl less ↦ less
  | inr past ↦ absurd (false≢true (sym (get_or_past flags dn false past) ∙ flag))
]

flagged : (its : Logged) (dn : ℕ) → is_acknowledged_by its dn ≡ true → Contains (acknowledged_by its) dn
flagged its dn flag =
    filtered (is_acknowledged_by its) (range_with_len 0 (length its.acknowledged)) dn (in_range (length its.acknowledged) dn (flag_within its.acknowledged dn flag)) flag

module _ {D : Type 0} (unseated : UnseatedView) (namespace : Namespace) (made : Made) (nodes : List (Datanode D)) where
  abbrev opening : Opening
  opening = opening_of unseated namespace made nodes

  abbrev all : List Unretired
  all = opened_log made.unretired

  abbrev its_txn : Unretired → Txn
  its_txn it = it.txn

  abbrev of_number : ℕ → Unretired → List ℕ
  of_number number it = cond (it.txn.number == number) it.acknowledgers []

  entry_there : (number : ℕ) (logged : Logged) → get made.unretired number ≡ Some logged → Contains all (opened_txn (number, logged))
  entry_there number logged there =
      mapped opened_txn (entries made.unretired) (number, logged)
      (Contains-from_lookup same_key number logged (entries made.unretired) (looked number (entries made.unretired) ∙ sym (get-entries made.unretired number) ∙ there))

  txn_there : (number : ℕ) (logged : Logged) → get made.unretired number ≡ Some logged → Contains (logs opening []) (txn_of number logged)
  txn_there number logged there =
      subst (λ (l : List Txn). Contains l (txn_of number logged)) (sym (append-nil (map its_txn all)))
      (mapped its_txn all (opened_txn (number, logged)) (entry_there number logged there))

  -- what the opening has of a transaction
  record Has (txn : Txn) : Type 0 where
    its : Logged
    there : get made.unretired txn.number ≡ Some its
    is : txn_of txn.number its ≡ txn

  has : (txn : Txn) → Contains (logs opening []) txn → Has txn
  has txn among =
      let from = of_mapped its_txn all txn (subst (λ (l : List Txn). Contains l txn) (append-nil (map its_txn all)) among) in
      let it = comes_of made.unretired from.0 from.1 in
      subst Has from.2 (record { its = it.its; there = it.there; is = sym (ap its_txn it.is) })

  acknowledged : (number dn : ℕ) (logged : Logged) → get made.unretired number ≡ Some logged → is_acknowledged_by logged dn ≡ true → Contains (acknowledgers opening [] number) dn
  acknowledged number dn logged there flag =
      subst (λ (l : List ℕ). Contains l dn) (sym (append-nil (acknowledged_at_opening opening number)))
      (joins (of_number number) all (opened_txn (number, logged)) dn (entry_there number logged there)
      (subst (λ (t : Bool). Contains (cond t (acknowledged_by logged) []) dn) (sym (eq-eqb number number refl)) (flagged logged dn flag)))

  -- whose flag stands under a number
  record IsFlagged (number dn : ℕ) : Type 0 where
    its : Logged
    there : get made.unretired number ≡ Some its
    flag : is_acknowledged_by its dn ≡ true

  flag_of : (number dn : ℕ) → Contains (acknowledgers opening [] number) dn → IsFlagged number dn
  flag_of number dn among =
      let origin = comes (of_number number) all dn (subst (λ (l : List ℕ). Contains l dn) (append-nil (acknowledged_at_opening opening number)) among) in
      let from = comes_of made.unretired origin.item origin.there in
      by origin.item from.its from.there from.is (origin.item.txn.number == number) refl origin.has
    where
      by : (item : Unretired) (its : Logged) → get made.unretired item.txn.number ≡ Some its → item ≡ opened_txn (item.txn.number, its)
          → (t : Bool) → (item.txn.number == number) ≡ t → Contains (cond t item.acknowledgers []) dn → IsFlagged number dn
      by item its there is true same has =
          subst (λ (n : ℕ). IsFlagged n dn) (eqb-true item.txn.number number same) (record {
            its = its;
            there = there;
            flag = (of_filtered (is_acknowledged_by its) (range_with_len 0 (length its.acknowledged)) dn
                (subst (λ (u : Unretired). Contains u.acknowledgers dn) is has)).1;
          })
      by item its there is false other has = none_in dn has

  same_logged : (one other : Logged) → Some one ≡ Some other → one ≡ other
  same_logged one other is = cc is

  pub loaded_log_is : IsOrdered made → IsLogOf opening [] (log_of made)
  loaded_log_is ordered = record {
    last = refl;
    each = λ number logged there. record {
      there = txn_there number logged there;
      unretired = refl;
      flags = ordered.flags number logged there;
      acknowledged = λ dn. (
        λ flag. acknowledged number dn logged there flag,
        λ among. let of = flag_of number dn among in
            subst (λ (l : Logged). is_acknowledged_by l dn ≡ true) (same_logged of.its logged (sym of.there ∙ there)) of.flag,
      );
    };
    all = λ txn among unretired. let of = has txn among in ap (option_map (txn_of txn.number)) of.there ∙ ap (λ (t : Txn). Some t) of.is;
    logged_old = λ txn among. let of = has txn among in ordered.last txn.number of.its of.there;
    acknowledged_old = λ number dn among. let of = flag_of number dn among in ordered.last number of.its of.there;
    retired_old = λ number retired. absurd (false≢true retired);
  }
