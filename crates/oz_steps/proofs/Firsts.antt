-- The first that a list tells.
use Rattle.std.proofs.Common.{◌≡◌, ℕ, ◌+◌, ◌<◌, List, [], ◌∷◌, ◌++◌, length, take, get_or, Option, Some, None, refl, ◌∙◌, ap}
use Rattle.std.proofs.lemmas.List.{take_more}
use Rattle.std.proofs.lemmas.List.Elements.{filter_map-append}
use Rattle.std.specs.List.{filter_map, cons_option}
use Rattle.std.specs.Option.{option_or}
use Rattle.oz_core.specs.Stories.{first_in}

first-of-both : {X : Type 0} (xs ys : List X) → first_in (xs ++ ys) ≡ option_or (first_in xs) (first_in ys)
first-of-both [] ys = refl
first-of-both (x ∷ xs) ys = refl

first-of-one : {X : Type 0} (o : Option X) → first_in (cons_option o []) ≡ o
first-of-one None = refl
first-of-one (Some x) = refl

-- of one item more
pub first-of-more : {X Y : Type 0} (h : X → Option Y) (xs : List X) (i : ℕ) (d : X) → i < length xs
    → first_in (filter_map h (take (i + 1) xs)) ≡ option_or (first_in (filter_map h (take i xs))) (h (get_or xs i d))
first-of-more h xs i d within =
    let before = first_in (filter_map h (take i xs)) in
    ap (λ ys. first_in (filter_map h ys)) (take_more xs i d within)
    ∙ (ap first_in (filter_map-append h (take i xs) (get_or xs i d ∷ []))
    ∙ (first-of-both (filter_map h (take i xs)) (cons_option (h (get_or xs i d)) [])
    ∙ ap (option_or before) (first-of-one (h (get_or xs i d)))))
