-- Lists by their ends.
use Rattle.std.proofs.Common.{◌≡◌, ℕ, ◌+◌, ◌-◌, ◌<◌, List, [], ◌∷◌, ◌++◌, length, take, get_or, Some, None, Bool, true, false, fold, refl, sym, ◌∙◌, ap, arith, length-append}
use mathlib.Core.Bool.{false≢true}
use Rattle.std.proofs.lemmas.List.Sums.{fold_push}
use Rattle.std.proofs.lemmas.List.Folds.{list_any-append}
use Rattle.std.proofs.lemmas.Grind.{flat_map-append}
use Rattle.std.proofs.lemmas.List.{append-nil, take_more}
use Rattle.std.specs.List.{flat_map, list_any}
use Rattle.oz_core.specs.Stories.{last_in}

-- what stands before the last item
pub same-front : {X : Type 0} (xs ys : List X) (a b : X) → xs ++ a ∷ [] ≡ ys ++ b ∷ [] → xs ≡ ys
same-front [] [] a b e = refl
same-front [] (y ∷ ys) a b e = absurd (omega (arith, ap length e, length-append ys (b ∷ [])))
same-front (x ∷ xs) [] a b e = absurd (omega (arith, ap length e, length-append xs (a ∷ [])))
same-front (x ∷ xs) (y ∷ ys) a b e =
    let tails : xs ++ a ∷ [] ≡ ys ++ b ∷ [] = cc in
    let heads : x ≡ y = cc in
    let fronts : xs ≡ ys = same-front xs ys a b tails in
    rw (heads, fronts) refl

-- the last item of one more
pub last-of-more : {X : Type 0} (xs : List X) (x : X) → last_in (xs ++ x ∷ []) ≡ Some x
last-of-more xs x = fold_push (λ before y. Some y) None xs x

last-behind : {X : Type 0} (a : X) (xs : List X) (d : X)
    → fold (λ before y. Some y) (Some a) xs ≡ Some (get_or (a ∷ xs) (length xs) d)
last-behind a [] d = refl
last-behind a (x ∷ xs) d = last-behind x xs d

pub last-at : {X : Type 0} (xs : List X) (d : X) → 0 < length xs → last_in xs ≡ Some (get_or xs (length xs - 1) d)
last-at [] d some = absurd (omega (arith, some))
last-at (x ∷ xs) d some =
    let same : length (x ∷ xs) - 1 ≡ length xs = omega arith in
    last-behind x xs d ∙ ap (λ n. Some (get_or (x ∷ xs) n d)) (sym same)

-- a test that none passes
pub none-of-more : {X : Type 0} (p : X → Bool) (xs : List X) (x : X)
    → list_any p xs ≡ false → p x ≡ false → list_any p (xs ++ x ∷ []) ≡ false
none-of-more p xs x before here = list_any-append p xs (x ∷ []) ∙ rw (before, here) refl

any-behind : {X : Type 0} (p : X → Bool) (a : X) (xs : List X) (last : X)
    → p a ≡ false → list_any p xs ≡ false → fold (λ before y. Some y) (Some a) xs ≡ Some last → p last ≡ false
any-behind p a [] last here none e =
    let same : a ≡ last = cc in rw (sym same) here
any-behind p a (x ∷ xs) last here none e = by (p x) refl (any-behind p x xs last)
  where
    by : (b : Bool) → p x ≡ b
        → (p x ≡ false → list_any p xs ≡ false → fold (λ before y. Some y) (Some x) xs ≡ Some last → p last ≡ false)
        → p last ≡ false
    by false so behind = behind so (rw so at none) e
    by true so behind = absurd (false≢true (sym (rw so at none)))

pub last-fails : {X : Type 0} (p : X → Bool) (xs : List X) (last : X)
    → list_any p xs ≡ false → last_in xs ≡ Some last → p last ≡ false
last-fails p [] last none e = absurd (none-some last e)
  where
    none-some : {X : Type 0} (x : X) → None ≡ Some x → ⊥
    none-some x e = cc
last-fails p (x ∷ xs) last none e = by (p x) refl
  where
    by : (b : Bool) → p x ≡ b → p last ≡ false
    by false so = any-behind p x xs last so (rw so at none) e
    by true so = absurd (false≢true (sym (rw so at none)))

-- the contents of one piece more
pub joined-more : (contents : List (List ℕ)) (i : ℕ) (d : List ℕ) → i < length contents
    → flat_map (λ (content : List ℕ). content) (take (i + 1) contents)
    ≡ flat_map (λ (content : List ℕ). content) (take i contents) ++ get_or contents i d
joined-more contents i d within =
    let content : List ℕ = get_or contents i d in
    ap (flat_map (λ (content : List ℕ). content)) (take_more contents i d within)
    ∙ (flat_map-append (λ (content : List ℕ). content) (take i contents) (content ∷ [])
    ∙ ap (λ (xs : List ℕ). flat_map (λ (content : List ℕ). content) (take i contents) ++ xs) (append-nil content))
