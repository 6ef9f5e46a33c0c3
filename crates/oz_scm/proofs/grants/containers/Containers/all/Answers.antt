use Rattle.std.proofs.Common.{◌≡◌, ℕ, ◌+◌, ◌<◌, List, [], ◌∷◌, ◌++◌, length, take, map, get_or, sym, ap, ◌∙◌, refl, arith}
use Rattle.std.proofs.lemmas.List.{map-append, take_more}
use Rattle.std.specs.List.{range_with_len}
use Rattle.std.proofs.lemmas.List.FromFn.{map-range_with_len_more}
use Rattle.oz_scm.specs.declared.grants.container.Container.{Container}
use Rattle.oz_scm.proofs.grants.containers.Containers.all.Goals as goal

same_map : (l : List ℕ) → map (λ (n : ℕ). n) l ≡ l
same_map [] = refl
same_map (n ∷ l) = ap (λ (r : List ℕ). n ∷ r) (same_map l)

range_more : (a n j : ℕ) → a + n ≡ j → range_with_len a (n + 1) ≡ range_with_len a n ++ j ∷ []
range_more a n j is = sym (same_map (range_with_len a (n + 1))) ∙ map-range_with_len_more (λ (n : ℕ). n) a n j is ∙ ap (λ (r : List ℕ). r ++ j ∷ []) (same_map (range_with_len a n))

all_more : (l : List Container) (k : ℕ) (before after : List (ℕ × Container)) (items : List Container) (d : Container) → after ≡ before ++ (k + 1, get_or items k d) ∷ [] → items ≡ l → k < length l
    → (map (λ (one : ℕ × Container). one.0) before ≡ range_with_len 1 k) × (map (λ (one : ℕ × Container). one.1) before ≡ take k l)
    → (map (λ (one : ℕ × Container). one.0) after ≡ range_with_len 1 (k + 1)) × (map (λ (one : ℕ × Container). one.1) after ≡ take (k + 1) l)
all_more l k before after items d is same lt kept = (
  ap (map (λ (one : ℕ × Container). one.0)) is ∙ map-append (λ (one : ℕ × Container). one.0) before ((k + 1, get_or items k d) ∷ [])
      ∙ ap (λ (r : List ℕ). r ++ (k + 1) ∷ []) kept.0 ∙ sym (range_more 1 k (k + 1) (omega arith)),
  ap (map (λ (one : ℕ × Container). one.1)) is ∙ map-append (λ (one : ℕ × Container). one.1) before ((k + 1, get_or items k d) ∷ [])
      ∙ ap (λ (r : List Container). r ++ get_or items k d ∷ []) kept.1 ∙ ap (λ (i : List Container). take k l ++ get_or i k d ∷ []) same ∙ sym (take_more l k d lt),
)

pub loop-place-preserved : goal.loop-place-preserved
loop-place-preserved c =
    let l = c.self.inside.list.items in
    let k = c.loop-place.place in
    let lt : k < length l = omega (arith, c.deref-container-items.ensures.len, ap (λ (l : List Container). length l) c.deref-container-items.ensures.value) in
    rw (← c.self.view_is) (all_more l k c.loop-place.all.items c.push.new.self.items _ _ c.in_ok-push.ensures.items c.deref-container-items.ensures.value lt (rw (← c.self.view_is) at c.loop-place.invariant))
