-- What a datanode holds of a list, found step by step; and a transaction of the log, of the opening or of the story.
use Rattle.std.proofs.Common.{◌≡◌, ℕ, zero, suc, ◌+◌, ◌<◌, ◌≤◌, Bool, true, false, cond, ◌⊎◌, inl, inr, List, [], ◌∷◌, ◌++◌, map, length, take, drop, get_or, Option, Some, None, IsSomeAnd, refl, sym, ◌∙◌, ap, subst, arith}
use Rattle.std.proofs.lemmas.List.{append-nil, length-append, length-take-le, take-append-drop, take_all, take_more, drop_more, get_or_at}
use Rattle.std.proofs.lemmas.List.Elements.{filter-append, filter_more, All-more, Contains-append_cases, Contains-append_left, Contains-append_right}
use Rattle.std.specs.List.{filter, filter_map, cons_option, All, Any, Contains, slice_index_or}
use Rattle.oz_dellog.specs.declared.txn.Txn.{Txn}
use Rattle.oz_core.specs.declared.event.Event.{Event}
use Rattle.oz_core.specs.declared.opening.Opening.{Opening}
use Rattle.oz_core.specs.declared.opening.Unretired.{Unretired}
use Rattle.oz_core.specs.Scm.{logged, logs}
use Rattle.oz_core.specs.Stories.{all_told}
use Rattle.oz_node_law.specs.Words.{IsApplied, HasApplied}

-- ---- what passes, step by step

-- the first n of these are what passes of the first i of all
pub record IsSoFar (p : ℕ → Bool) (all locals : List ℕ) (i n : ℕ) : Type 0 where
  pub front : take n locals ≡ filter p (take i all)
  pub within : n ≤ length locals

pub passed_over : (p : ℕ → Bool) (all locals : List ℕ) (i n : ℕ) → IsSoFar p all locals i n → i < length all → p (get_or all i 0) ≡ false → IsSoFar p all locals (i + 1) n
passed_over p all locals i n so within miss =
    let kept : filter p (take (i + 1) all) ≡ filter p (take i all) =
    filter_more p all i 0 within ∙ (ap (λ (b : Bool). filter p (take i all) ++ cond b (get_or all i 0 ∷ []) []) miss ∙ append-nil (filter p (take i all))) in
    record { front = so.front ∙ sym kept; within = so.within }

pub passed : (p : ℕ → Bool) (all locals : List ℕ) (i n : ℕ) → IsSoFar p all locals i n → i < length all → p (get_or all i 0) ≡ true → n < length locals → get_or locals n 0 ≡ get_or all i 0 → IsSoFar p all locals (i + 1) (n + 1)
passed p all locals i n so within hit has is =
    let more : filter p (take (i + 1) all) ≡ filter p (take i all) ++ get_or all i 0 ∷ [] =
    filter_more p all i 0 within ∙ ap (λ (b : Bool). filter p (take i all) ++ cond b (get_or all i 0 ∷ []) []) hit in
    record {
      front = take_more locals n 0 has ∙ (ap (λ (xs : List ℕ). xs ++ get_or locals n 0 ∷ []) so.front ∙ (ap (λ (x : ℕ). filter p (take i all) ++ x ∷ []) is ∙ sym more));
      within = omega arith;
    }

-- all that passes, parted where one passes
parted : (p : ℕ → Bool) (all : List ℕ) (i : ℕ) → i < length all → p (get_or all i 0) ≡ true → filter p all ≡ filter p (take i all) ++ get_or all i 0 ∷ filter p (drop (i + 1) all)
parted p all i within hit =
    ap (filter p) (sym (take-append-drop i all))
    ∙ (filter-append p (take i all) (drop i all)
    ∙ ap (λ (xs : List ℕ). filter p (take i all) ++ xs) (ap (filter p) (drop_more all i 0 within) ∙ ap (λ (b : Bool). cond b (get_or all i 0 ∷ filter p (drop (i + 1) all)) (filter p (drop (i + 1) all))) hit))

pub next_is : (p : ℕ → Bool) (all locals : List ℕ) (i n : ℕ) → IsSoFar p all locals i n → i < length all → p (get_or all i 0) ≡ true → locals ≡ filter p all → (n < length locals) × (get_or locals n 0 ≡ get_or all i 0)
next_is p all locals i n so within hit are =
    let x : ℕ = get_or all i 0 in
    let rest : List ℕ = filter p (drop (i + 1) all) in
    let split : locals ≡ take n locals ++ x ∷ rest = are ∙ (parted p all i within hit ∙ ap (λ (xs : List ℕ). xs ++ x ∷ rest) (sym so.front)) in
    let long : length (take n locals) ≡ n = length-take-le n locals so.within in
    let whole : length locals ≡ length (take n locals) + length (x ∷ rest) = ap length split ∙ length-append (take n locals) (x ∷ rest) in
    (omega arith, ap (λ (xs : List ℕ). get_or xs n 0) split ∙ get_or_at (take n locals) x rest 0 n long)

pub all_passed : (p : ℕ → Bool) (all locals : List ℕ) (i n : ℕ) → IsSoFar p all locals i n → length all ≤ i → n ≡ length locals → locals ≡ filter p all
all_passed p all locals i n so past end =
    sym (take_all n locals (omega arith)) ∙ (so.front ∙ ap (filter p) (take_all i all past))

pub are_passed : (p : ℕ → Bool) (all locals : List ℕ) (i n : ℕ) → IsSoFar p all locals i n → length all ≤ i → locals ≡ filter p all → n ≡ length locals
are_passed p all locals i n so past are =
    sym (length-take-le n locals so.within) ∙ ap length (so.front ∙ (ap (filter p) (take_all i all past) ∙ sym are))

-- ---- one of a list

any-here : {X : Type 0} (P : X → Type 0) (x : X) (xs : List X) → P x → Any P (x ∷ xs)
any-here P x xs is = (zero, x, omega arith, refl, is)

any-there : {X : Type 0} (P : X → Type 0) (x : X) (xs : List X) → Any P xs → Any P (x ∷ xs)
any-there P x xs a = (suc a.0, a.1, omega (arith, a.2), a.3, a.4)

any-at : {X : Type 0} (P : X → Type 0) (x : X) (xs : List X) (k : ℕ) (y : X) → k < length (x ∷ xs) → slice_index_or (x ∷ xs) k y ≡ y → P y → P x ⊎ Any P xs
any-at P x xs zero y within is so = inl (subst P (sym is) so)
any-at P x xs (suc k) y within is so = inr (k, y, omega arith, is, so)

any-cases : {X : Type 0} (P : X → Type 0) (x : X) (xs : List X) → Any P (x ∷ xs) → P x ⊎ Any P xs
any-cases P x xs a = any-at P x xs a.0 a.1 a.2 a.3 a.4

any-none : {X : Type 0} (P : X → Type 0) → Any P [] → ⊥
any-none P a = omega (arith, a.2)

pub mapped : {X Y : Type 0} (P : Y → Type 0) (f : X → Y) (xs : List X) → Any (λ x. P (f x)) xs → Any P (map f xs)
mapped P f [] a = absurd (any-none (λ x. P (f x)) a)
mapped P f (x ∷ xs) a =
    elim (any-cases (λ z. P (f z)) x xs a) as (λ c. Any P (map f (x ∷ xs))) [ inl is ↦ any-here P (f x) (map f xs) is | inr rest ↦ any-there P (f x) (map f xs) (mapped P f xs rest) ]

pub unmapped : {X Y : Type 0} (P : Y → Type 0) (f : X → Y) (xs : List X) → Any P (map f xs) → Any (λ x. P (f x)) xs
unmapped P f [] a = absurd (any-none P a)
unmapped P f (x ∷ xs) a =
    elim (any-cases P (f x) (map f xs) a) as (λ c. Any (λ z. P (f z)) (x ∷ xs)) [ inl is ↦ any-here (λ z. P (f z)) x xs is | inr rest ↦ any-there (λ z. P (f z)) x xs (unmapped P f xs rest) ]

told-here : {Y : Type 0} (P : Y → Type 0) (o : Option Y) (ys : List Y) → IsSomeAnd o P → Any P (cons_option o ys)
told-here P None ys is = absurd is
told-here P (Some y) ys is = any-here P y ys is

told-there : {Y : Type 0} (P : Y → Type 0) (o : Option Y) (ys : List Y) → Any P ys → Any P (cons_option o ys)
told-there P None ys a = a
told-there P (Some y) ys a = any-there P y ys a

told-cases : {Y : Type 0} (P : Y → Type 0) (o : Option Y) (ys : List Y) → Any P (cons_option o ys) → IsSomeAnd o P ⊎ Any P ys
told-cases P None ys a = inr a
told-cases P (Some y) ys a = any-cases P y ys a

pub told : {X Y : Type 0} (P : Y → Type 0) (h : X → Option Y) (xs : List X) → Any (λ x. IsSomeAnd (h x) P) xs → Any P (filter_map h xs)
told P h [] a = absurd (any-none (λ x. IsSomeAnd (h x) P) a)
told P h (x ∷ xs) a =
    elim (any-cases (λ z. IsSomeAnd (h z) P) x xs a) as (λ c. Any P (filter_map h (x ∷ xs))) [ inl is ↦ told-here P (h x) (filter_map h xs) is | inr rest ↦ told-there P (h x) (filter_map h xs) (told P h xs rest) ]

pub untold : {X Y : Type 0} (P : Y → Type 0) (h : X → Option Y) (xs : List X) → Any P (filter_map h xs) → Any (λ x. IsSomeAnd (h x) P) xs
untold P h [] a = absurd (any-none P a)
untold P h (x ∷ xs) a =
    elim (told-cases P (h x) (filter_map h xs) a) as (λ c. Any (λ z. IsSomeAnd (h z) P) (x ∷ xs)) [ inl is ↦ any-here (λ z. IsSomeAnd (h z) P) x xs is | inr rest ↦ any-there (λ z. IsSomeAnd (h z) P) x xs (untold P h xs rest) ]

-- ---- a transaction of the log

pub record InLog (P : Txn → Type 0) (opening : Opening) (story : List Event) : Type 0 where
  pub txn : Txn
  pub logged : Contains (logs opening story) txn
  pub so : P txn

of-any : (P : Txn → Type 0) (opening : Opening) (story : List Event) (xs : List Txn) → ((txn : Txn) → Contains xs txn → Contains (logs opening story) txn) → Any P xs → InLog P opening story
of-any P opening story xs within a = record { txn = a.1; logged = within a.1 (a.0, a.2, a.3); so = a.4 }

to-any : {X : Type 0} (P : X → Type 0) (xs : List X) (x : X) → Contains xs x → P x → Any P xs
to-any P xs x there so = (there.0, x, there.1, there.2, so)

abbrev were : Opening → List Txn
were opening = map (λ (unretired : Unretired). unretired.txn) opening.unretired

pub log-has : (P : Txn → Type 0) (opening : Opening) (story : List Event) → Any (λ (unretired : Unretired). P unretired.txn) opening.unretired ⊎ Any (λ (event : Event). IsSomeAnd (logged event.kind) P) story → InLog P opening story
log-has P opening story (inl was) = of-any P opening story (were opening) (λ txn there. Contains-append_left (were opening) (all_told logged story) txn there) (mapped P (λ (unretired : Unretired). unretired.txn) opening.unretired was)
log-has P opening story (inr came) = of-any P opening story (all_told logged story) (λ txn there. Contains-append_right (were opening) (all_told logged story) txn there) (told P (λ (event : Event). logged event.kind) story came)

pub has-log : (P : Txn → Type 0) (opening : Opening) (story : List Event) (txn : Txn) → Contains (logs opening story) txn → P txn → Any (λ (unretired : Unretired). P unretired.txn) opening.unretired ⊎ Any (λ (event : Event). IsSomeAnd (logged event.kind) P) story
has-log P opening story txn there so =
    elim (Contains-append_cases (were opening) (all_told logged story) txn there) as (λ c. Any (λ (unretired : Unretired). P unretired.txn) opening.unretired ⊎ Any (λ (event : Event). IsSomeAnd (logged event.kind) P) story) [
      | inl was ↦ inl (unmapped P (λ (unretired : Unretired). unretired.txn) opening.unretired (to-any P (were opening) txn was so))
      | inr came ↦ inr (untold P (λ (event : Event). logged event.kind) story (to-any P (all_told logged story) txn came so))
    ]

pub applied : (opening : Opening) (story : List Event) (dn number : ℕ) (locals : List ℕ) → Any (λ (unretired : Unretired). IsApplied opening story dn number locals unretired.txn) opening.unretired ⊎ Any (λ (event : Event). IsSomeAnd (logged event.kind) (IsApplied opening story dn number locals)) story → HasApplied opening story dn number locals
applied opening story dn number locals either =
    let l : InLog (IsApplied opening story dn number locals) opening story = log-has (IsApplied opening story dn number locals) opening story either in
    record { txn = l.txn; logged = l.logged; applied = l.so }

pub applied-by : (opening : Opening) (story : List Event) (dn number : ℕ) (locals : List ℕ) → HasApplied opening story dn number locals → Any (λ (unretired : Unretired). IsApplied opening story dn number locals unretired.txn) opening.unretired ⊎ Any (λ (event : Event). IsSomeAnd (logged event.kind) (IsApplied opening story dn number locals)) story
applied-by opening story dn number locals has = has-log (IsApplied opening story dn number locals) opening story has.txn has.logged has.applied

-- ---- the opening's transactions, one after another

pub here : {X : Type 0} (P : X → Type 0) (xs : List X) (i : ℕ) (x : X) → i < length xs → x ≡ get_or xs i x → P x → Any P xs
here P xs i x within is so = (i, x, within, sym is, so)

pub nowhere : {X : Type 0} (P : X → Type 0) (xs : List X) → All (λ x. ¬ P x) xs → Any P xs → ⊥
nowhere P xs none a = none a.0 a.1 a.2 (subst P (sym a.3) a.4)

pub not_yet : {X : Type 0} (P : X → Type 0) (xs : List X) (i : ℕ) (x : X) → i < length xs → x ≡ get_or xs i x → ¬ P x → All (λ y. ¬ P y) (take i xs) → All (λ y. ¬ P y) (take (i + 1) xs)
not_yet P xs i x within is not_so none = All-more (λ y. ¬ P y) xs i x within none (λ so. not_so (subst P (sym is) so))
