-- What transactions name of a container, and what blocks have of it.
use Rattle.std.proofs.Common.{◌≡◌, ◌≢◌, ⊎_elim, ◌++◌, ◌∷◌, ◌+◌, ◌<◌, ◌≤◌, ◌==◌, Bool, true, false, cond, ℕ, List, [], All, None, Some, refl, sym, ap, ◌∙◌, subst, append-nil, arith}
use Rattle.std.proofs.Math.Nat.{eq-or-lt_of_le}
use Rattle.std.proofs.lemmas.Bool.{cases_lt, eq-eqb, eqb-true}
use Rattle.std.proofs.lemmas.Grind.{flat_map-append}
use Rattle.std.proofs.lemmas.List.Elements.{All-append, recursion_from_All}
use Rattle.std.specs.List.{AllByRecursion, cons_option, flat_map}
use Rattle.oz_dellog.specs.declared.txn.Txn.{Txn}
use Rattle.oz_fields.specs.declared.block.Block.{Block}
use Rattle.oz_service.specs.Splitting.{AddsOf, IsPassed, locals_in, named_by, named_in}

apart : {A : Type 0} (a b : ℕ) (x y : A) → a ≢ b → cond (a == b) x y ≡ y
apart a b x y differ = elim (a == b) as (λ t. (a == b) ≡ t → cond t x y ≡ y) [
  | true ↦ λ same. absurd (differ (eqb-true a b same))
  | false ↦ λ other. refl
] refl

none_named : (container : ℕ) (l : List Txn) → AllByRecursion (λ txn. container ≢ txn.container) l → named_in container l ≡ []
none_named container [] all = refl
none_named container (txn ∷ l) all =
    ap (λ here. here ++ named_in container l) (apart container txn.container txn.locals [] all.0) ∙ none_named container l all.1

all_named : (container : ℕ) (l : List Txn) → AllByRecursion (λ txn. txn.container ≡ container) l → named_in container l ≡ flat_map (λ (txn : Txn). txn.locals) l
all_named container [] all = refl
all_named container (txn ∷ l) all =
    ap (λ here. here ++ named_in container l) (ap (λ (t : Bool). cond t txn.locals []) (eq-eqb container txn.container (sym all.0)))
    ∙ ap (λ more. txn.locals ++ more) (all_named container l all.1)

none_local : (container : ℕ) (l : List Block) → AllByRecursion (λ block. container ≢ block.container) l → locals_in container l ≡ []
none_local container [] all = refl
none_local container (block ∷ l) all =
    ap (λ here. cons_option here (locals_in container l)) (apart container block.container (Some block.local) None all.0) ∙ none_local container l all.1

module _ (least container : ℕ) (blocks : List Block) (before after : List Txn) (from : least ≤ container)
    (passed : All (IsPassed least (Some container)) blocks) (below : All (λ (txn : Txn). txn.container < least) before)
    (adds : AddsOf container (locals_in container blocks) before after) where
  -- all are below what comes next
  pub all_below : All (λ (txn : Txn). txn.container < container + 1) after
  all_below =
      let Below : Txn → Type 0 = λ txn. txn.container < container + 1 in
      subst (All Below) (sym adds.is) (All-append Below before adds.more
      (λ k txn within. omega (arith, below k txn within, from)) (λ k txn within. omega (arith, adds.of_it k txn within)))

  parts : (other : ℕ) → named_in other after ≡ named_in other before ++ named_in other adds.more
  parts other = ap (named_in other) adds.is ∙ flat_map-append (named_by other) before adds.more

  none_of_more : (other : ℕ) → other ≢ container → named_in other adds.more ≡ []
  none_of_more other differ = none_named other adds.more (recursion_from_All (λ (txn : Txn). other ≢ txn.container) adds.more
      (λ k txn within same. differ (same ∙ adds.of_it k txn within)))

  none_of_before : (other : ℕ) → least ≤ other → named_in other before ≡ []
  none_of_before other above = none_named other before (recursion_from_All (λ (txn : Txn). other ≢ txn.container) before
      (λ k txn within same. omega (arith, same, above, below k txn within)))

  none_of_blocks : (other : ℕ) → least ≤ other → other < container → locals_in other blocks ≡ []
  none_of_blocks other above lower = none_local other blocks (recursion_from_All (λ (block : Block). other ≢ block.container) blocks
      (λ k block within same. ⊎_elim
      (λ (under : _ < least). omega (arith, same, above, under)) (λ (over : container < _). omega (arith, same, lower, over)) (passed k block within)))

  -- of all containers up to this one all is named
  pub whole_now : ((other : ℕ) → other < least → named_in other before ≡ locals_in other blocks) → (other : ℕ) → other < container + 1
      → named_in other after ≡ locals_in other blocks
  whole_now whole other lower = ⊎_elim
      (λ (low : other < least). parts other
      ∙ ap (λ l. named_in other before ++ l) (none_of_more other (λ same. omega (arith, same, low, from)))
      ∙ append-nil (named_in other before) ∙ whole other low)
      (λ (above : least ≤ other). parts other
      ∙ ap (λ l. l ++ named_in other adds.more) (none_of_before other above)
      ∙ ⊎_elim
      (λ (same : other ≡ container). all_named other adds.more (recursion_from_All (λ (txn : Txn). txn.container ≡ other) adds.more
      (λ k txn within. adds.of_it k txn within ∙ sym same))
      ∙ adds.named ∙ ap (λ c. locals_in c blocks) (sym same))
      (λ (under : other < container). none_of_more other (λ same. omega (arith, same, under)) ∙ sym (none_of_blocks other above under))
      (eq-or-lt_of_le (omega (arith, lower))))
      (cases_lt other least)

-- where no block is left, all is named
pub whole_then : (least : ℕ) (blocks : List Block) (txns : List Txn) → All (IsPassed least None) blocks → All (λ (txn : Txn). txn.container < least) txns
    → ((other : ℕ) → other < least → named_in other txns ≡ locals_in other blocks) → (other : ℕ) → named_in other txns ≡ locals_in other blocks
whole_then least blocks txns passed below whole other = ⊎_elim
    (whole other)
    (λ (above : least ≤ other). none_named other txns (recursion_from_All (λ (txn : Txn). other ≢ txn.container) txns
    (λ k txn within same. omega (arith, same, above, below k txn within)))
    ∙ sym (none_local other blocks (recursion_from_All (λ (block : Block). other ≢ block.container) blocks
    (λ k block within same. omega (arith, same, above, passed k block within)))))
    (cases_lt other least)
