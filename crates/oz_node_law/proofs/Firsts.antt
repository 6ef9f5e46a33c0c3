-- The first that a list tells.
use Rattle.std.proofs.Common.{◌≡◌, ℕ, ◌+◌, ◌<◌, List, [], ◌∷◌, ◌++◌, length, take, get_or, Option, Some, None, refl, sym, ◌∙◌, ap}
use Rattle.std.proofs.lemmas.List.{append-nil, append_assoc, take_more}
use Rattle.std.proofs.lemmas.List.Elements.{filter_map-append}
use Rattle.std.specs.List.{filter_map, flat_map, cons_option}
use Rattle.std.specs.Option.{option_or}
use Rattle.oz_core.specs.Stories.{first_in}

pub first-append : {X : Type 0} (xs ys : List X) → first_in (xs ++ ys) ≡ option_or (first_in xs) (first_in ys)
first-append [] ys = refl
first-append (x ∷ xs) ys = refl

first-option : {X : Type 0} (o : Option X) → first_in (cons_option o []) ≡ o
first-option None = refl
first-option (Some x) = refl

pub first-told : {X Y : Type 0} (h : X → Option Y) (xs : List X) (i : ℕ) (d : X) → i < length xs → first_in (filter_map h (take (i + 1) xs)) ≡ option_or (first_in (filter_map h (take i xs))) (h (get_or xs i d))
first-told h xs i d within =
    ap (λ ys. first_in (filter_map h ys)) (take_more xs i d within)
    ∙ (ap first_in (filter_map-append h (take i xs) (get_or xs i d ∷ []))
    ∙ (first-append (filter_map h (take i xs)) (cons_option (h (get_or xs i d)) [])
    ∙ ap (option_or (first_in (filter_map h (take i xs)))) (first-option (h (get_or xs i d)))))

flat-append : {X Y : Type 0} (f : X → List Y) (xs ys : List X) → flat_map f (xs ++ ys) ≡ flat_map f xs ++ flat_map f ys
flat-append f [] ys = refl
flat-append f (x ∷ xs) ys = ap (λ zs. f x ++ zs) (flat-append f xs ys) ∙ sym (append_assoc (f x) (flat_map f xs) (flat_map f ys))

pub first-flat : {X Y : Type 0} (f : X → List Y) (xs : List X) (i : ℕ) (d : X) → i < length xs → first_in (flat_map f (take (i + 1) xs)) ≡ option_or (first_in (flat_map f (take i xs))) (first_in (f (get_or xs i d)))
first-flat f xs i d within =
    ap (λ ys. first_in (flat_map f ys)) (take_more xs i d within)
    ∙ (ap first_in (flat-append f (take i xs) (get_or xs i d ∷ []))
    ∙ (first-append (flat_map f (take i xs)) (f (get_or xs i d) ++ [])
    ∙ ap (λ ys. option_or (first_in (flat_map f (take i xs))) (first_in ys)) (append-nil (f (get_or xs i d)))))
