-- Halving a list whose keys rise: it ends at the key, or in the gap where the key would stand.
use Rattle.std.proofs.Common.{◌≡◌, ℕ, zero, suc, ◌<◌, ◌≤◌, ◌+◌, List, [], ◌∷◌, length, take, drop, get_or, false}
use Rattle.std.proofs.Common.{Result, Ok, Err, IfOk, IfErr, sym, ap, subst, arith}
use Rattle.std.specs.List.{HoldsAt}
use Rattle.std.specs.List.Sorted.{IsSearchInRange, IsBinarySearchResult, IsNonDecreasingBy}
use Rattle.std.specs.Ordering.{is_lt, ordering_index}
use Rattle.std.specs.declared.cmp.Ordering.TheVariants.{Equal}
use Rattle.std.proofs.lemmas.List.Sorted.{searchable_from_sorted}
use Rattle.oz_rows.specs.declared.key.RowKey.{RowKey}
use Rattle.oz_rows.specs.Order.{key_order}
use Rattle.oz_rows.specs.RowMaps.{IsBelow}
use Rattle.oz_rows.specs.laws.Order.{key_order_total, below_above}
use Rattle.oz_rows.specs.laws.Splits.{parts_at, some_item, all_front, all_rest}
use Rattle.oz_rows.specs.laws.Rising.{Rise, AllUnder, AllOver, before_at, behind_at}

module _ {A : Type 0} (key_of : A → RowKey) where
  -- the key stands here, with lower keys before it and greater ones behind
  pub record StandsAt (l : List A) (key : RowKey) (place : ℕ) : Type 0 where
    pub in_range : place < length l
    pub tied : HoldsAt (λ item. key_order (key_of item) key ≡ Equal) l place
    pub before : AllUnder key_of key (take place l)
    pub after : AllOver key_of key (drop (place + 1) l)

  -- the key would stand here, between lower keys and greater ones
  pub record WouldStandAt (l : List A) (key : RowKey) (place : ℕ) : Type 0 where
    pub in_range : place ≤ length l
    pub before : AllUnder key_of key (take place l)
    pub after : AllOver key_of key (drop place l)

  next_above : (l : List A) → Rise key_of l → (k : ℕ) (d : A) → suc k < length l → IsBelow (key_of (get_or l k d)) (key_of (get_or l (suc k) d))
  next_above [] rise k d lt = absurd (omega arith)
  next_above (x ∷ []) rise k d lt = absurd (omega arith)
  next_above (x ∷ y ∷ l) rise zero d lt = rise.0.0
  next_above (x ∷ y ∷ l) rise (suc k) d lt = next_above (y ∷ l) rise.1 k d (omega arith)

  module _ (l : List A) (rise : Rise key_of l) (key : RowKey) where
    pub comparisons_rise : IsNonDecreasingBy (λ item. ordering_index (key_order (key_of item) key)) l
    comparisons_rise = searchable_from_sorted key_order_total key_of l key (λ k d le lt.
        let next : suc k ≡ k + 1 = omega arith in
        subst (λ n. is_lt (key_order (key_of (get_or l n d)) (key_of (get_or l k d))) ≡ false) next
        (ap is_lt (below_above (key_of (get_or l k d)) (key_of (get_or l (suc k) d)) (next_above l rise k d (omega arith)))))

    stands : (at : ℕ) → at < length l → HoldsAt (λ item. key_order (key_of item) key ≡ Equal) l at → StandsAt l key at
    stands at lt tied =
        let d = some_item l at lt in
        let around = subst (Rise key_of) (parts_at l at d lt) rise in
        let next : at + 1 ≡ suc at = omega arith in
        record {
          in_range = lt;
          tied = tied;
          before = before_at key_of (take at l) (drop (suc at) l) (get_or l at d) key (tied d) around;
          after = subst (λ n. AllOver key_of key (drop n l)) (sym next) (behind_at key_of (take at l) (drop (suc at) l) (get_or l at d) key (tied d) around);
        }

    module _ (Found Absent : ℕ → Type 0) (found : (at : ℕ) → StandsAt l key at → Found at) (absent : (at : ℕ) → WouldStandAt l key at → Absent at) where
      pub halved : (r : Result ℕ ℕ) → IsSearchInRange r (length l) → IsBinarySearchResult (λ item. key_order (key_of item) key) l r
          → record { found : IfOk r Found; absent : IfErr r Absent }
      halved (Ok at) in_range tied = record { found = found at (stands at in_range tied); absent = tt }
      halved (Err at) in_range parted = record {
        found = tt;
        absent = absent at (record {
          in_range = in_range;
          before = all_front _ l at in_range (λ k d lt. (parted comparisons_rise).0 k d (omega arith) lt);
          after = all_rest _ l at (λ k d le lt. (parted comparisons_rise).1 k d le lt);
        });
      }
