-- The greatest local id, datanode by datanode.
use Rattle.std.proofs.Common.{◌≡◌, ◌⊎◌, inl, inr, ℕ, ◌-◌, max, List, [], ◌∷◌, ◌++◌, length, get_or, refl, sym, ◌∙◌, ap, subst, arith, length-append}
use Rattle.std.specs.List.{Any}
use Rattle.std.proofs.lemmas.Bool.{cases_lt}
use Rattle.std.proofs.lemmas.List.{get_or_append_left, get_or-append_right}
use Rattle.std.proofs.lemmas.List.Quantifiers.{Any-push}
use Rattle.oz_block.specs.Lists.{IsGreatestHeld}
use Rattle.oz_entries.specs.Node.{Node}
use Rattle.oz_nodes_loaded.specs.Ids.{HoldsId, IsSeen, IsGreatestSeen}

-- none was looked at
pub seen_first : (greatest : ℕ) → IsGreatestSeen greatest [] greatest
seen_first greatest = record {
  is_seen = inl refl;
  none_above = λ other seen. elim seen [ inl is ↦ omega (arith, is) | inr some ↦ absurd (omega (arith, some.2)) ];
}

any_behind : (P : Node → Type 0) (nodes : List Node) (node : Node) → Any P nodes → Any P (nodes ++ node ∷ [])
any_behind P nodes node (k, x, within, at, is) = (
  k,
  x,
  omega (arith, within, length-append nodes (node ∷ [])),
  get_or_append_left nodes (node ∷ []) x k within ∙ at,
  is,
)

any_of_more : (P : Node → Type 0) (nodes : List Node) (node : Node) → Any P (nodes ++ node ∷ []) → Any P nodes ⊎ P node
any_of_more P nodes node (k, x, within, at, is) = elim (cases_lt k (length nodes)) [
  | inl sooner ↦ inl (k, x, sooner, sym (get_or_append_left nodes (node ∷ []) x k sooner) ∙ at, is)
  | inr last ↦
      let size = length-append nodes (node ∷ []) in
      let here : k - length nodes ≡ 0 = omega (arith, within, last, size) in
      let same : node ≡ x =
      sym (ap (λ (n : ℕ). get_or (node ∷ []) n x) here) ∙ (sym (get_or-append_right nodes (node ∷ []) (length nodes) k x refl last) ∙ at) in
      inr (subst P (sym same) is)
]

-- one datanode more
pub seen_more : (greatest : ℕ) (nodes : List Node) (seen : ℕ) (node : Node) (id : ℕ) → IsGreatestSeen greatest nodes seen
    → IsGreatestHeld node id → IsGreatestSeen greatest (nodes ++ node ∷ []) (max seen id)
seen_more greatest nodes seen node id before held = record {
  is_seen = elim (cases_lt seen id) [
    | inl above ↦
        let is : max seen id ≡ id = omega (arith, above) in
        let found = held.is_held (omega (arith, above)) in
        inr (Any-push (HoldsId (max seen id)) nodes node (found.0, found.1, sym found.2 ∙ sym is))
    | inr not ↦
        let is : seen ≡ max seen id = omega (arith, not) in
        subst (IsSeen greatest (nodes ++ node ∷ [])) is (elim before.is_seen [
          | inl same ↦ inl same
          | inr some ↦ inr (any_behind (HoldsId seen) nodes node some)
        ])
  ];
  none_above = λ other is. elim is [
    | inl same ↦ omega (arith, before.none_above other (inl same))
    | inr some ↦ elim (any_of_more (HoldsId other) nodes node some) [
      | inl earlier ↦ omega (arith, before.none_above other (inr earlier))
      | inr own ↦ omega (arith, held.none_above own.0 own.1, own.2)
    ]
  ];
}
