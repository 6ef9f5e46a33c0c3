-- How transactions of a container are added one by one.
use Rattle.std.proofs.Common.{◌≡◌, ◌≢◌, ◌⊎◌, ⊎_elim, ◌++◌, ◌∷◌, ◌+◌, ◌<◌, ℕ, zero, suc, List, [], All, Some, length, inl, inr, refl, sym, ap, ◌∙◌, subst, append-nil, append_assoc, arith}
use Rattle.std.proofs.lemmas.Grind.{flat_map-append}
use Rattle.std.proofs.lemmas.List.Elements.{All-append, All-from_recursion, recursion_from_All}
use Rattle.std.proofs.lemmas.Option.{slice_get_within}
use Rattle.std.specs.List.{AllByRecursion, flat_map, slice_get}
use Rattle.oz_dellog.specs.declared.txn.TheConstants.{MOST_LOCALS}
use Rattle.oz_dellog.specs.declared.txn.Txn.{Txn}
use Rattle.oz_scm.specs.grants.Log.{IsLocalCount}
use Rattle.oz_service.specs.Splitting.{AreInOrder, StandsBefore}

-- More of the container were added, which name the first of the ids; the rest isn't named yet, and where there is a rest all are full.
pub record Split (container : ℕ) (locals : List ℕ) (before after : List Txn) (rest : List ℕ) : Type 0 where
  pub more : List Txn
  pub is : after ≡ before ++ more
  pub of_it : All (λ (txn : Txn). txn.container ≡ container) more
  pub parts : locals ≡ flat_map (λ (txn : Txn). txn.locals) more ++ rest
  pub full : rest ≢ [] → All (λ (txn : Txn). length txn.locals ≡ MOST_LOCALS) more

module _ {A : Type 0} where
  -- what is at a place of a list with one element more
  got : (l : List A) (x y : A) (k : ℕ) → slice_get (l ++ x ∷ []) k ≡ Some y → (slice_get l k ≡ Some y) ⊎ ((k ≡ length l) × (x ≡ y))
  got [] x y zero is = inr (refl, cc)
  got [] x y (suc k) is = absurd cc
  got (z ∷ l) x y zero is = inl is
  got (z ∷ l) x y (suc k) is = ⊎_elim (λ h. inl h) (λ h. inr (omega (arith, h.0), h.1)) (got l x y k is)

  at_of : (P : A → Type 0) (l : List A) (k : ℕ) (y : A) → AllByRecursion P l → slice_get l k ≡ Some y → P y
  at_of P [] k y all is = absurd cc
  at_of P (x ∷ l) zero y all is = let same : x ≡ y = cc in subst P same all.0
  at_of P (x ∷ l) (suc k) y all is = at_of P l k y all.1 is

  pub one : (P : A → Type 0) (x : A) → P x → All P (x ∷ [])
  one P x h = All-from_recursion P (x ∷ []) (h, tt)

-- one more behind all that may stand before it
pub pushed : (last : ℕ) (l : List Txn) (x : Txn) → AreInOrder last l → x.number ≡ last + 1 + length l → All (λ one. StandsBefore one x) l
    → IsLocalCount x.locals → AreInOrder last (l ++ x ∷ [])
pushed last l x was number before count =
    let among = recursion_from_All (λ one. StandsBefore one x) l before in record {
      numbered = λ k txn at. ⊎_elim (was.numbered k txn) (λ (h : (k ≡ length l) × (x ≡ txn)). ap (λ (t : Txn). t.number) (sym h.1) ∙ number ∙ omega (arith, h.0)) (got l x txn k at);
      rise = λ k one next at behind. ⊎_elim
          (λ (there : slice_get l k ≡ Some one). ⊎_elim
          (was.rise k one next there)
          (λ (h : (k + 1 ≡ length l) × (x ≡ next)). subst (StandsBefore one) h.1 (at_of (λ one. StandsBefore one x) l k one among there))
          (got l x next (k + 1) behind))
          (λ (h : (k ≡ length l) × (x ≡ one)). absurd (⊎_elim
          (λ (there : slice_get l (k + 1) ≡ Some next). omega (arith, slice_get_within l (k + 1) next there, h.0))
          (λ (its : (k + 1 ≡ length l) × (x ≡ next)). omega (arith, its.0, h.0))
          (got l x next (k + 1) behind)))
          (got l x one k at);
      counted = All-append (λ (txn : Txn). IsLocalCount txn.locals) l (x ∷ []) was.counted (one (λ (txn : Txn). IsLocalCount txn.locals) x count);
    }

module _ (container : ℕ) (locals rest part later : List ℕ) (old now after : List Txn) (x : Txn) (split : Split container locals old now rest)
    (is : after ≡ now ++ x ∷ []) (of_it : x.container ≡ container) (its : x.locals ≡ part) (parts : rest ≡ part ++ later) where
  -- one more of the container
  pub split_more : (later ≢ [] → length part ≡ MOST_LOCALS) → rest ≢ [] → Split container locals old after later
  split_more full some = record {
    more = split.more ++ x ∷ [];
    is = is ∙ ap (λ l. l ++ x ∷ []) split.is ∙ append_assoc old split.more (x ∷ []);
    of_it = All-append (λ (txn : Txn). txn.container ≡ container) split.more (x ∷ []) split.of_it (one (λ (txn : Txn). txn.container ≡ container) x of_it);
    parts = split.parts ∙ ap (λ l. flat_map (λ (txn : Txn). txn.locals) split.more ++ l) parts
        ∙ sym (append_assoc (flat_map (λ (txn : Txn). txn.locals) split.more) part later)
        ∙ ap (λ l. l ++ later) (ap (λ l. flat_map (λ (txn : Txn). txn.locals) split.more ++ l) (sym its ∙ sym (append-nil x.locals))
        ∙ sym (flat_map-append (λ (txn : Txn). txn.locals) split.more (x ∷ [])));
    full = λ left. All-append (λ (txn : Txn). length txn.locals ≡ MOST_LOCALS) split.more (x ∷ []) (split.full some)
        (one (λ (txn : Txn). length txn.locals ≡ MOST_LOCALS) x (ap length its ∙ full left));
  }

  -- before which all others may stand
  pub all_before : All (λ (txn : Txn). txn.container < container) old → rest ≢ [] → All (λ other. StandsBefore other x) now
  all_before above some =
      let Before : Txn → Type 0 = λ other. StandsBefore other x in
      let lower : All Before old = λ k other within. inl (omega (arith, above k other within, of_it)) in
      let same : All Before split.more = λ k other within. inr (split.of_it k other within ∙ sym of_it, split.full some k other within) in
      subst (All Before) (sym split.is) (All-append Before old split.more lower same)
