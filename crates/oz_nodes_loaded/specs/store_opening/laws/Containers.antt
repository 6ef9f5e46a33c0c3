-- Containers in the order of their numbers are those of the map.
use Rattle.std.proofs.Common.{◌≡◌, ℕ, zero, suc, ◌+◌, ◌<◌, Bool, true, false, cond, List, [], ◌∷◌, None, Some, option_map, ◌∙◌, ap, arith}
use Rattle.std.proofs.lemmas.Cmp.{nat_cmp_total}
use Rattle.std.specs.FinMap.{get, get-empty, get-insert}
use Rattle.std.specs.List.{slice_get}
use Rattle.std.specs.Ordering.{eq_by_cmp, nat_cmp}
use Rattle.oz_entries.specs.laws.Blocks.{eq_number}
use Rattle.oz_scm.specs.declared.grants.container.Container.{Container as MadeContainer}
use Rattle.oz_scm.specs.grants.Made.{container_at}
use Rattle.oz_nodes_loaded.specs.store_opening.Openings.{containers_from, opened_container}

same_number : (n : ℕ) → eq_by_cmp nat_cmp n n ≡ true
same_number n = eq_number n n ∙ grind arith

other_number : (n m : ℕ) → m < n → eq_by_cmp nat_cmp n m ≡ false
other_number n m above = eq_number n m ∙ grind (arith, above)

lower_number : (n m : ℕ) → n < m → eq_by_cmp nat_cmp n m ≡ false
lower_number n m below = eq_number n m ∙ grind (arith, below)

-- none has a number below the first
none_below : (made : List MadeContainer) (first number : ℕ) → number < first → get (containers_from first made) number ≡ None
none_below [] first number below = get-empty nat_cmp number
none_below (one ∷ made) first number below =
    get-insert nat_cmp_total (containers_from (first + 1) made) first (opened_container one) number
    ∙ (ap (λ (t : Bool). cond t (Some (opened_container one)) (get (containers_from (first + 1) made) number)) (lower_number number first below)
    ∙ none_below made (first + 1) number (omega (arith, below)))

each_from : (made : List MadeContainer) (first place : ℕ)
    → get (containers_from first made) (first + place) ≡ option_map opened_container (slice_get made place)
each_from [] first place = get-empty nat_cmp (first + place)
each_from (one ∷ made) first zero =
    let here : first + zero ≡ first = omega arith in
    get-insert nat_cmp_total (containers_from (first + 1) made) first (opened_container one) (first + zero)
    ∙ ap (λ (t : Bool). cond t (Some (opened_container one)) (get (containers_from (first + 1) made) (first + zero)))
    (ap (λ (n : ℕ). eq_by_cmp nat_cmp n first) here ∙ same_number first)
each_from (one ∷ made) first (suc place) =
    let next : first + suc place ≡ (first + 1) + place = omega arith in
    get-insert nat_cmp_total (containers_from (first + 1) made) first (opened_container one) (first + suc place)
    ∙ (ap (λ (t : Bool). cond t (Some (opened_container one)) (get (containers_from (first + 1) made) (first + suc place)))
    (other_number (first + suc place) first (omega arith))
    ∙ (ap (λ (n : ℕ). get (containers_from (first + 1) made) n) next ∙ each_from made (first + 1) place))

pub containers_are : (made : List MadeContainer) (number : ℕ) → get (containers_from 1 made) number ≡ option_map opened_container (container_at made number)
containers_are made zero = none_below made 1 zero (omega arith)
containers_are made (suc place) =
    let next : suc place ≡ 1 + place = omega arith in
    ap (λ (n : ℕ). get (containers_from 1 made) n) next ∙ each_from made 1 place
