-- Entries keep their order and their slots where one is put at the end or taken out.
use Rattle.std.proofs.Common.{◌≡◌, ◌≢◌, ℕ, ◌⊎◌, cond, List, [], ◌∷◌, ◌++◌, refl, sym, ap, ◌∙◌, subst, Some, not, arith, inl, inr}
use Rattle.std.proofs.lemmas.Bool.{cases_eq, eq-eqb, ne_eqb, false≢true}
use Rattle.std.specs.Prelude.{IsSome}
use Rattle.oz_epochs.specs.Epochs.{EpochEntry, entry, found, without, IsAway, NoSlotTwice, EndsBy, EpochsRise, AreInOrder, behind}

module _ {K : Type 0} where
  pub away_behind : (s : ℕ) (xs : List (EpochEntry K)) (e : EpochEntry K) → IsAway s xs → e.slot ≢ s → IsAway s (xs ++ e ∷ [])
  away_behind s [] e away other = (other, tt)
  away_behind s (x ∷ xs) e away other = (away.0, away_behind s xs e away.1 other)

  pub once_behind : (xs : List (EpochEntry K)) (e : EpochEntry K) → NoSlotTwice xs → IsAway e.slot xs → NoSlotTwice (xs ++ e ∷ [])
  once_behind [] e once away = (tt, tt)
  once_behind (x ∷ xs) e once away = (away_behind x.slot xs e once.0 (λ is. away.0 (sym is)), once_behind xs e once.1 away.1)

  pub rise_behind : (xs : List (EpochEntry K)) (e : EpochEntry K) → EpochsRise xs → EndsBy e.epoch xs → EpochsRise (xs ++ e ∷ [])
  rise_behind [] e rise ends = tt
  rise_behind (x ∷ []) e rise ends = (ends, tt)
  rise_behind (x ∷ y ∷ xs) e rise ends = (rise.0, rise_behind (y ∷ xs) e rise.1 ends)

  rise_tail : (e : EpochEntry K) (ys : List (EpochEntry K)) → EpochsRise (e ∷ ys) → EpochsRise ys
  rise_tail e [] rise = tt
  rise_tail e (y ∷ ys) rise = rise.1

  pub rise_without : (xs : List (EpochEntry K)) (e : EpochEntry K) (ys : List (EpochEntry K)) → EpochsRise (xs ++ e ∷ ys) → EpochsRise (xs ++ ys)
  rise_without [] e ys rise = rise_tail e ys rise
  rise_without (x ∷ []) e [] rise = tt
  rise_without (x ∷ []) e (y ∷ ys) rise = let low = rise.0 in let high = rise.1.0 in (omega arith, rise.1.1)
  rise_without (x ∷ y ∷ xs) e ys rise = (rise.0, rise_without (y ∷ xs) e ys rise.1)

  away_front : (s : ℕ) (xs ys : List (EpochEntry K)) → IsAway s (xs ++ ys) → IsAway s xs
  away_front s [] ys away = tt
  away_front s (x ∷ xs) ys away = (away.0, away_front s xs ys away.1)

  away_back : (s : ℕ) (xs ys : List (EpochEntry K)) → IsAway s (xs ++ ys) → IsAway s ys
  away_back s [] ys away = away
  away_back s (x ∷ xs) ys away = away_back s xs ys away.1

  away_both : (s : ℕ) (xs ys : List (EpochEntry K)) → IsAway s xs → IsAway s ys → IsAway s (xs ++ ys)
  away_both s [] ys a b = b
  away_both s (x ∷ xs) ys a b = (a.0, away_both s xs ys a.1 b)

  -- what an entry in the middle keeps apart
  pub record Apart (xs : List (EpochEntry K)) (e : EpochEntry K) (ys : List (EpochEntry K)) : Type 0 where
    pub front_once : NoSlotTwice xs
    pub back_once : NoSlotTwice ys
    pub front_away : IsAway e.slot xs
    pub back_away : IsAway e.slot ys
    pub among_front : (s : ℕ) → (IsAway s xs → ⊥) → IsAway s ys
    pub among_back : (s : ℕ) → (IsAway s ys → ⊥) → IsAway s xs
    pub joined : NoSlotTwice (xs ++ ys)

  away_or : (s : ℕ) (ys : List (EpochEntry K)) → IsAway s ys ⊎ (IsAway s ys → ⊥)
  away_or s [] = inl tt
  away_or s (y ∷ ys) = elim (cases_eq y.slot s) [
    | inl is ↦ inr (λ away. away.0 is)
    | inr other ↦ elim (away_or s ys) [ inl away ↦ inl (other, away) | inr among ↦ inr (λ away. among away.1) ]
  ]

  pub apart : (xs : List (EpochEntry K)) (e : EpochEntry K) (ys : List (EpochEntry K)) → NoSlotTwice (xs ++ e ∷ ys) → Apart xs e ys
  apart [] e ys once = record {
    front_once = tt;
    back_once = once.1;
    front_away = tt;
    back_away = once.0;
    among_front = λ s among. absurd (among tt);
    among_back = λ s among. tt;
    joined = once.1;
  }
  apart (x ∷ xs) e ys once =
      let rest = apart xs e ys once.1 in
      let past = away_back x.slot xs (e ∷ ys) once.0 in
      record {
        front_once = (away_front x.slot xs (e ∷ ys) once.0, rest.front_once);
        back_once = rest.back_once;
        front_away = ((λ is. past.0 (sym is)), rest.front_away);
        back_away = rest.back_away;
        among_front = λ s among. elim (cases_eq x.slot s) [
          | inl is ↦ subst (λ k. IsAway k ys) is past.1
          | inr other ↦ rest.among_front s (λ away. among (other, away))
        ];
        among_back = λ s among. ((λ is. among (subst (λ k. IsAway k ys) is past.1)), rest.among_back s among);
        joined = (away_both x.slot xs ys (away_front x.slot xs (e ∷ ys) once.0) past.1, rest.joined);
      }

  without_away : (s : ℕ) (xs : List (EpochEntry K)) → IsAway s xs → without s xs ≡ xs
  without_away s [] away = refl
  without_away s (x ∷ xs) away =
      ap (λ b. cond (not b) (x ∷ without s xs) (without s xs)) (ne_eqb x.slot s away.0) ∙ ap (λ l. x ∷ l) (without_away s xs away.1)

  pub without_one : (xs : List (EpochEntry K)) (e : EpochEntry K) (ys : List (EpochEntry K)) → IsAway e.slot xs → IsAway e.slot ys → without e.slot (xs ++ e ∷ ys) ≡ xs ++ ys
  without_one [] e ys front back =
      ap (λ b. cond (not b) (e ∷ without e.slot ys) (without e.slot ys)) (eq-eqb e.slot e.slot refl) ∙ without_away e.slot ys back
  without_one (x ∷ xs) e ys front back =
      ap (λ b. cond (not b) (x ∷ without e.slot (xs ++ e ∷ ys)) (without e.slot (xs ++ e ∷ ys))) (ne_eqb x.slot e.slot front.0)
      ∙ ap (λ l. x ∷ l) (without_one xs e ys front.1 back)

  pub found_one : (xs : List (EpochEntry K)) (e : EpochEntry K) (ys : List (EpochEntry K)) → IsAway e.slot xs → found e.slot (xs ++ e ∷ ys) ≡ Some (e.epoch, e.key)
  found_one [] e ys front = ap (λ b. cond b (Some (e.epoch, e.key)) (found e.slot ys)) (eq-eqb e.slot e.slot refl)
  found_one (x ∷ xs) e ys front =
      ap (λ b. cond b (Some (x.epoch, x.key)) (found e.slot (xs ++ e ∷ ys))) (ne_eqb x.slot e.slot front.0) ∙ found_one xs e ys front.1

  -- the entry of a slot, and those before and behind it
  pub found_between : (s : ℕ) (es : List (EpochEntry K)) → IsSome (found s es)
      → (xs : List (EpochEntry K)) × (e : EpochEntry K) × (ys : List (EpochEntry K)) × (es ≡ xs ++ e ∷ ys) × (e.slot ≡ s)
  found_between s [] some = absurd (false≢true some)
  found_between s (x ∷ es) some = elim (cases_eq x.slot s) [
    | inl is ↦ ([], x, es, refl, is)
    | inr other ↦
        let rest = found_between s es (subst (λ b. IsSome (cond b (Some (x.epoch, x.key)) (found s es))) (ne_eqb x.slot s other) some) in
        (x ∷ rest.0, rest.1, rest.2, ap (λ l. x ∷ l) rest.3, rest.4)
  ]

  -- without the first entry the others are left
  pub without_first : (slot epoch : ℕ) (key : K) (es : List (EpochEntry K)) → es ≡ entry slot epoch key ∷ behind es → AreInOrder es → without slot es ≡ behind es
  without_first slot epoch key es is order =
      let once : NoSlotTwice (entry slot epoch key ∷ behind es) = subst NoSlotTwice is order.slots in
      ap (λ l. without slot l) is ∙ without_one [] (entry slot epoch key) (behind es) tt once.0

  pub in_order_behind : (es : List (EpochEntry K)) → AreInOrder es → AreInOrder (behind es)
  in_order_behind [] order = order
  in_order_behind (e ∷ es) order = record { slots = order.slots.1; epochs = rise_tail e es order.epochs }
