-- The greatest number of a container when a story has one more event.
use Rattle.std.proofs.Common.{◌≡◌, ℕ, ◌+◌, ◌<◌, ◌≤◌, Bool, true, false, ◌||◌, cond, List, [], ◌∷◌, length, take, get_or, Option, Some, None, refl, sym, ◌∙◌, ap, ◌⊎◌, inl, inr, ⊎_elim, arith}
use Rattle.std.proofs.lemmas.Bool.{eqb-true, eq-eqb}
use Rattle.std.proofs.lemmas.List.Sums.{fold_more}
use Rattle.std.specs.Prelude.{fold, max, is_some}
use Rattle.std.specs.List.{list_any}
use Rattle.std.specs.Ordering.{eq_by_cmp, nat_cmp}
use Rattle.std.specs.Cmp.{unsigned_ties, nat_cmp_total}
use Rattle.std.specs.FinMap.{get, insert, keys, get-insert, contains_key-keys}
use Rattle.oz_container.specs.declared.state.State.{State}
use Rattle.oz_core.specs.declared.event.Event.{Event}
use Rattle.oz_core.specs.declared.event.EventKind.{EventKind}
use Rattle.oz_core.specs.declared.event.EventKind.TheVariants as kind
use Rattle.oz_core.specs.declared.opening.Container.{Container}
use Rattle.oz_core.specs.declared.opening.Opening.{Opening}
use Rattle.oz_core.specs.Scm.{Containers, containers, containers_after, granted_in, come_to, greatest_container}
use Rattle.oz_replay.specs.laws.Found.{false-true}
use Rattle.oz_scm_law.specs.Words.{greatest_after}

abbrev has : ℕ → List ℕ → Bool
has q xs = list_any (eq_by_cmp nat_cmp q) xs

tied : (q x : ℕ) → eq_by_cmp nat_cmp q x ≡ true → q ≡ x
tied q x h = eqb-true q x (unsigned_ties q x ∙ h)

ties : (q : ℕ) → eq_by_cmp nat_cmp q q ≡ true
ties q = sym (unsigned_ties q q) ∙ eq-eqb q q refl

-- ---- the greatest of a list is one of it, and none is greater

at_least : (a : ℕ) (xs : List ℕ) → a ≤ fold max a xs
at_least a [] = omega arith
at_least a (x ∷ xs) = let more : max a x ≤ fold max (max a x) xs = at_least (max a x) xs in omega (arith, more)

bound-go : (a q x : ℕ) (xs : List ℕ) (b : Bool) → eq_by_cmp nat_cmp q x ≡ b → (b || has q xs) ≡ true → (has q xs ≡ true → q ≤ fold max (max a x) xs) → q ≤ fold max (max a x) xs
bound-go a q x xs true e h later =
    let is : q ≡ x = tied q x e in
    let more : max a x ≤ fold max (max a x) xs = at_least (max a x) xs in
    omega (arith, is, more)
bound-go a q x xs false e h later = later h

bound : (a q : ℕ) (xs : List ℕ) → has q xs ≡ true → q ≤ fold max a xs
bound a q [] h = false-true h
bound a q (x ∷ xs) h = bound-go a q x xs (eq_by_cmp nat_cmp q x) refl h (λ later. bound (max a x) q xs later)

or-left : (a b : Bool) → a ≡ true → (a || b) ≡ true
or-left a b h = ap (λ (c : Bool). c || b) h

or-right : (a b : Bool) → b ≡ true → (a || b) ≡ true
or-right true b h = refl
or-right false b h = h

max_is : (a x : ℕ) → (max a x ≡ a) ⊎ (max a x ≡ x)
max_is a x = grind arith

reached-go : (a x : ℕ) (xs : List ℕ) → fold max (max a x) xs ≡ max a x → (max a x ≡ a) ⊎ (max a x ≡ x) → (fold max (max a x) xs ≡ a) ⊎ (has (fold max (max a x) xs) (x ∷ xs) ≡ true)
reached-go a x xs e (inl is) = inl (e ∙ is)
reached-go a x xs e (inr is) = inr (or-left _ _ (ap (λ (q : ℕ). eq_by_cmp nat_cmp q x) (e ∙ is) ∙ ties x))

reached : (a : ℕ) (xs : List ℕ) → (fold max a xs ≡ a) ⊎ (has (fold max a xs) xs ≡ true)
reached a [] = inl refl
reached a (x ∷ xs) =
    ⊎_elim (λ e. reached-go a x xs e (max_is a x))
    (λ h. inr (or-right (eq_by_cmp nat_cmp (fold max (max a x) xs) x) (has (fold max (max a x) xs) xs) h))
    (reached (max a x) xs)

-- ---- the greatest number of a map

abbrev top : Containers → ℕ
top m = fold max 0 (keys m)

is_key : (m : Containers) (q : ℕ) → is_some (get m q) ≡ true → has q (keys m) ≡ true
is_key m q h = sym (contains_key-keys m q) ∙ h

key_is : (m : Containers) (q : ℕ) → has q (keys m) ≡ true → is_some (get m q) ≡ true
key_is m q h = contains_key-keys m q ∙ h

got : (m : Containers) (k q : ℕ) (v : Container) → is_some (get (insert m k v) q) ≡ is_some (cond (eq_by_cmp nat_cmp q k) (Some v) (get m q))
got m k q v = ap is_some (get-insert nat_cmp_total m k v q)

-- a number of the map with one more is that one or one of the map, and the other way round
of_more-go : (m : Containers) (k q : ℕ) (v : Container) (b : Bool) → eq_by_cmp nat_cmp q k ≡ b → is_some (cond b (Some v) (get m q)) ≡ true → (q ≡ k) ⊎ (has q (keys m) ≡ true)
of_more-go m k q v true e h = inl (tied q k e)
of_more-go m k q v false e h = inr (is_key m q h)

of_more : (m : Containers) (k q : ℕ) (v : Container) → has q (keys (insert m k v)) ≡ true → (q ≡ k) ⊎ (has q (keys m) ≡ true)
of_more m k q v h = of_more-go m k q v (eq_by_cmp nat_cmp q k) refl (sym (got m k q v) ∙ key_is (insert m k v) q h)

more_of-go : (m : Containers) (k q : ℕ) (v : Container) (b : Bool) → eq_by_cmp nat_cmp q k ≡ b → has q (keys m) ≡ true → is_some (cond b (Some v) (get m q)) ≡ true
more_of-go m k q v true e h = refl
more_of-go m k q v false e h = key_is m q h

more_of : (m : Containers) (k q : ℕ) (v : Container) → has q (keys m) ≡ true → has q (keys (insert m k v)) ≡ true
more_of m k q v h = is_key (insert m k v) q (got m k q v ∙ more_of-go m k q v (eq_by_cmp nat_cmp q k) refl h)

more_itself : (m : Containers) (k : ℕ) (v : Container) → has k (keys (insert m k v)) ≡ true
more_itself m k v = is_key (insert m k v) k (got m k k v ∙ ap (λ (b : Bool). is_some (cond b (Some v) (get m k))) (ties k))

no_less : (m : Containers) (k : ℕ) (v : Container) → max (top m) k ≤ top (insert m k v)
no_less m k v =
    let itself : k ≤ top (insert m k v) = bound 0 k (keys (insert m k v)) (more_itself m k v) in
    let others : top m ≤ top (insert m k v) =
    ⊎_elim (λ (e : top m ≡ 0). omega (arith, e)) (λ h. bound 0 (top m) (keys (insert m k v)) (more_of m k (top m) v h)) (reached 0 (keys m)) in
    omega (arith, itself, others)

no_more : (m : Containers) (k : ℕ) (v : Container) → top (insert m k v) ≤ max (top m) k
no_more m k v =
    ⊎_elim (λ (e : top (insert m k v) ≡ 0). omega (arith, e))
    (λ h. ⊎_elim (λ (e : top (insert m k v) ≡ k). omega (arith, e))
    (λ there. let below : top (insert m k v) ≤ top m = bound 0 (top (insert m k v)) (keys m) there in omega (arith, below))
    (of_more m k (top (insert m k v)) v h))
    (reached 0 (keys (insert m k v)))

grown : (m : Containers) (k : ℕ) (v : Container) → top (insert m k v) ≡ max (top m) k
grown m k v = omega (arith, no_less m k v, no_more m k v)

come : (m : Containers) (number : ℕ) (state : State) (was : Option Container) → get m number ≡ was → top (come_to m number state was) ≡ top m
come m number state None there = refl
come m number state (Some container) there =
    let below : number ≤ top m = bound 0 number (keys m) (is_key m number (ap is_some there)) in
    omega (arith, below, grown m number (record container { state = state }))

greatest-after : (before : Containers) (kind : EventKind) → top (containers_after before kind) ≡ greatest_after (top before) kind
greatest-after before (kind.Grant stripe container pipeline first count) = grown before container (granted_in (get before container) pipeline count)
greatest-after before (kind.Closed container state) = come before container state (get before container) refl
greatest-after before kind = refl

pub greatest_more : (opening : Opening) (story : List Event) (i : ℕ) (d : Event) → i < length story → greatest_container opening (take (i + 1) story) ≡ greatest_after (greatest_container opening (take i story)) (get_or story i d).kind
greatest_more opening story i d within =
    ap (λ (m : Containers). top m) (fold_more (λ before (event : Event). containers_after before event.kind) opening.containers story i d within)
    ∙ greatest-after (containers opening (take i story)) (get_or story i d).kind
