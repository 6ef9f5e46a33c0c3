-- A list that grows by those items of another that are to go.
use Rattle.std.proofs.Common.{◌≡◌, ◌⊎◌, ◌↔◌, inl, inr, ⊎_elim, ℕ, suc, ◌+◌, ◌<◌, ◌≤◌, List, [], ◌∷◌, ◌++◌, length, take, get_or, Contains, sym, ◌∙◌, ap, subst, arith}
use Rattle.std.proofs.Math.Seq.{take-suc}
use Rattle.std.proofs.lemmas.List.{take_all}
use Rattle.std.proofs.lemmas.List.Elements.{Contains-append_left, Contains-append_right, Contains-push_cases}
use Rattle.oz_kept.specs.laws.Reached.{in_none}

module _ (Goes : ℕ → Type 0) where
  -- it has what it had, and those of the others that are to go
  abbrev pub Grown : List ℕ → List ℕ → List ℕ → Type 0
  Grown others before now = (x : ℕ) → Contains now x ↔ (Contains before x ⊎ (Contains others x × Goes x))

  pub grown_none : (others before : List ℕ) → Grown (take 0 others) before before
  grown_none others before x = (λ has. inl has, λ it. ⊎_elim (λ has. has) (λ its. absurd (in_none x its.0)) it)

  pub grown_more : (others before now after : List ℕ) (n item : ℕ) → Grown (take n others) before now → n < length others → item ≡ get_or others n 0
      → ((x : ℕ) → Contains after x ↔ (Contains now x ⊎ ((x ≡ item) × Goes item))) → Grown (take (n + 1) others) before after
  grown_more others before now after n item grown lt is more x = (
    λ has. ⊎_elim
        (λ was. ⊎_elim
        (λ had. inl had)
        (λ its. inr (in_front x its.0, its.1))
        ((grown x).0 was))
        (λ new. inr (
          subst (λ (l : List ℕ). Contains l x) (sym split) (Contains-append_right (take n others) (item ∷ []) x (0, omega arith, sym new.0)),
          subst Goes (sym new.0) new.1,
        ))
        ((more x).0 has),
    λ it. ⊎_elim
        (λ had. (more x).1 (inl ((grown x).1 (inl had))))
        (λ its. ⊎_elim
        (λ front. (more x).1 (inl ((grown x).1 (inr (front, its.1)))))
        (λ last. (more x).1 (inr (sym last, subst Goes (sym last) its.1)))
        (Contains-push_cases (take n others) item x (subst (λ (l : List ℕ). Contains l x) split its.0)))
        it,
  )
    where
      split : take (n + 1) others ≡ take n others ++ item ∷ []
      split =
          let next : n + 1 ≡ suc n = omega arith in
          ap (λ (k : ℕ). take k others) next ∙ take-suc others n 0 lt ∙ ap (λ (i : ℕ). take n others ++ i ∷ []) (sym is)

      in_front : (x : ℕ) → Contains (take n others) x → Contains (take (n + 1) others) x
      in_front x has = subst (λ (l : List ℕ). Contains l x) (sym split) (Contains-append_left (take n others) (item ∷ []) x has)

  -- once all were looked at
  pub grown_all : (others before now : List ℕ) (n : ℕ) → Grown (take n others) before now → length others ≤ n → Grown others before now
  grown_all others before now n grown past = subst (λ (l : List ℕ). Grown l before now) (take_all n others past) grown

  -- one more
  pub grown_one : (before : List ℕ) (item : ℕ) → Goes item → (x : ℕ) → Contains (before ++ item ∷ []) x ↔ (Contains before x ⊎ ((x ≡ item) × Goes item))
  grown_one before item goes x = (
    λ has. ⊎_elim (λ had. inl had) (λ last. inr (sym last, goes)) (Contains-push_cases before item x has),
    λ it. ⊎_elim
        (λ had. Contains-append_left before (item ∷ []) x had)
        (λ last. Contains-append_right before (item ∷ []) x (0, omega arith, sym last.0))
        it,
  )
