-- What a walk's first step tells of the rows of an owner, and of the next snapshot.
use Rattle.std.proofs.Common.{◌≡◌, ◌⊎◌, inl, inr, ⊎_elim, ℕ, ◌<◌, ◌≤◌, ◌==◌, Bool, true, false, ◌&&◌, List, [], ◌∷◌, IsSome, is_some, cond, refl, sym, ◌∙◌, ap, subst, arith}
use mathlib.Core.Bool.{false≢true}
use Rattle.std.proofs.lemmas.Bool.{cases_lt}
use Rattle.std.specs.Ordering.{is_eq, ordering_then}
use Rattle.std.specs.declared.cmp.Ordering.{Ordering}
use Rattle.std.specs.declared.cmp.Ordering.TheVariants.{Less, Equal, Greater}
use Rattle.oz_reclaim.specs.Owners.{is_owned, HasOwned, IsFirstOwned, number_of}
use Rattle.oz_reclaim.specs.Work.{IsLater, IsNextOwner, OwnsRow}
use Rattle.oz_reclaim.proofs.Between.{cmp, tied, squeeze, one_number, front, back, both, same_number, number_itself, same_bucket, both_tied, bucket_itself, is_that_bucket, name_last, number_last, kind_between, numbers_below, below_numbers}
use Rattle.oz_rows.specs.declared.key.RowKey.{RowKey}
use Rattle.oz_rows.specs.declared.key.RowKey.TheVariants as keys
use Rattle.oz_rows.specs.declared.row.Row.{Row}
use Rattle.oz_rows.specs.Order.{key_order}
use Rattle.oz_rows.specs.Rows.{kind_of}
use Rattle.oz_rows.specs.RowMaps.{Rows, IsBelow, IsNext, HasNoNext, is_bucket}
use Rattle.oz_rows.specs.laws.Order.{above_below}
use Rattle.oz_rows.specs.laws.Same.{same_is_one}

tied_number : (o : ℕ) (p : Ordering) → ordering_then (cmp (o ∷ []) (o ∷ [])) p ≡ p
tied_number o p = ap (λ q. ordering_then q p) (tied (o ∷ []))

-- whether a snapshot's row is one of the bucket
module _ (v b : List ℕ) where
  of_bucket : RowKey → Bool
  of_bucket (keys.Snapshot w c n) = is_bucket v b w c
  of_bucket key = false

module _ (v b : List ℕ) (o : ℕ) where
  IsOfOwner : RowKey → Type 0
  IsOfOwner key = ((k : List ℕ) × (l : ℕ) × (key ≡ keys.Deleted v b o k l)) ⊎ ((l : ℕ) × (key ≡ keys.Renamed v b o l))

  owned_is : (key : RowKey) → is_owned v b o key ≡ true → IsOfOwner key
  unfolding IsOfOwner
  owned_is (keys.Deleted w c p k l) e =
      let same = same_bucket v b w c (front (is_bucket v b w c) _ e) in
      let number = same_number p o (back (is_bucket v b w c) _ e) in
      inl (k, l, λ i. keys.Deleted (sym same.volume i) (sym same.bucket i) (number i) k l)
  owned_is (keys.Renamed w c p l) e =
      let same = same_bucket v b w c (front (is_bucket v b w c) _ e) in
      let number = same_number p o (back (is_bucket v b w c) _ e) in
      inr (l, λ i. keys.Renamed (sym same.volume i) (sym same.bucket i) (number i) l)
  owned_is key e = absurd (false≢true e)

  its_own : (w c : List ℕ) (p : ℕ) → v ≡ w → b ≡ c → o ≡ p → is_bucket v b w c && p == o ≡ true
  its_own w c p volume bucket number = both (is_bucket v b w c) (p == o) (is_that_bucket v b w c volume bucket) (ap (λ x. x == o) (sym number) ∙ number_itself o)

  deleted_between : (k m : List ℕ) (l n : ℕ) (key : RowKey) → kind_of key ≡ 5 → IsBelow (keys.Deleted v b o k l) key → IsBelow key (keys.Deleted v b o m n) → is_owned v b o key ≡ true
  deleted_between k m l n (keys.Deleted w c p q r) kind low high =
      let first = squeeze v w _ _ low high in
      let second = squeeze b c _ _ first.low first.high in
      let third = squeeze (o ∷ []) (p ∷ []) _ _ second.low second.high in
      its_own w c p first.same second.same (one_number o p third.same)
  deleted_between k m l n key kind low high = absurd (omega (arith, kind))

  renamed_between : (l n : ℕ) (key : RowKey) → kind_of key ≡ 8 → IsBelow (keys.Renamed v b o l) key → IsBelow key (keys.Renamed v b o n) → is_owned v b o key ≡ true
  renamed_between l n (keys.Renamed w c p r) kind low high =
      let first = squeeze v w _ _ low high in
      let second = squeeze b c _ _ first.low first.high in
      let third = squeeze (o ∷ []) (p ∷ []) _ _ second.low second.high in
      its_own w c p first.same second.same (one_number o p third.same)
  renamed_between l n key kind low high = absurd (omega (arith, kind))

  owned_between : (first key other : RowKey) → kind_of other ≡ kind_of first → is_owned v b o first ≡ true → is_owned v b o other ≡ true → IsBelow first key → IsBelow key other → is_owned v b o key ≡ true
  unfolding IsOfOwner
  owned_between first key other kind its its_too low high = by (owned_is first its) (owned_is other its_too)
    where
      by : IsOfOwner first → IsOfOwner other → is_owned v b o key ≡ true
      by (inl (k, l, e)) (inl (m, n, f)) = deleted_between k m l n key (kind_between first key other kind low high ∙ ap kind_of e) (subst (λ x. IsBelow x key) e low) (subst (IsBelow key) f high)
      by (inr (l, e)) (inr (n, f)) = renamed_between l n key (kind_between first key other kind low high ∙ ap kind_of e) (subst (λ x. IsBelow x key) e low) (subst (IsBelow key) f high)
      by (inl (k, l, e)) (inr (n, f)) = let clash : 8 ≡ 5 = sym (ap kind_of f) ∙ kind ∙ ap kind_of e in absurd (omega (arith, clash))
      by (inr (l, e)) (inl (m, n, f)) = let clash : 5 ≡ 8 = sym (ap kind_of f) ∙ kind ∙ ap kind_of e in absurd (omega (arith, clash))

  deleted_first : (other : RowKey) → kind_of other ≡ 5 → is_owned v b o other ≡ true → IsBelow other (keys.Deleted v b o [] 0) → ⊥
  unfolding IsOfOwner
  deleted_first other kind its below = by (owned_is other its)
    where
      by : IsOfOwner other → ⊥
      by (inl (k, l, e)) = name_last k _ (number_last l) (sym (both_tied v b _ ∙ tied_number o _) ∙ subst (λ x. IsBelow x (keys.Deleted v b o [] 0)) e below)
      by (inr (l, e)) = let clash : 8 ≡ 5 = sym (ap kind_of e) ∙ kind in absurd (omega (arith, clash))

  renamed_first : (other : RowKey) → kind_of other ≡ 8 → is_owned v b o other ≡ true → IsBelow other (keys.Renamed v b o 0) → ⊥
  unfolding IsOfOwner
  renamed_first other kind its below = by (owned_is other its)
    where
      by : IsOfOwner other → ⊥
      by (inr (l, e)) = number_last l (sym (both_tied v b _ ∙ tied_number o _) ∙ subst (λ x. IsBelow x (keys.Renamed v b o 0)) e below)
      by (inl (k, l, e)) = let clash : 5 ≡ 8 = sym (ap kind_of e) ∙ kind in absurd (omega (arith, clash))

  pub first_deleted : IsFirstOwned v b o (keys.Deleted v b o [] 0)
  first_deleted = record { owned = its_own v b o refl refl refl; first = deleted_first }

  pub first_renamed : IsFirstOwned v b o (keys.Renamed v b o 0)
  first_renamed = record { owned = its_own v b o refl refl refl; first = renamed_first }

  module _ (all : Rows) where
    -- what stands from the first key of an owner on is what the owner has
    module _ (start : RowKey) (first : IsFirstOwned v b o start) (absent : is_some (all start) ≡ false) where
      over : (key : RowKey) → kind_of key ≡ kind_of start → is_owned v b o key ≡ true → IsSome (all key) → IsBelow start key
      over key kind its there = by (key_order start key) refl
        where
          by : (p : Ordering) → key_order start key ≡ p → IsBelow start key
          by Less e = e
          by Equal e = absurd (false≢true (sym absent ∙ ap (λ x. is_some (all x)) (same_is_one start key (ap is_eq e)) ∙ there))
          by Greater e = absurd (first.first key kind its (above_below start key e))

      pub none_behind : HasNoNext all start → HasOwned all (kind_of start) v b o → ⊥
      none_behind none (key, kind, its, there) = none key (record { has_row = there; same_kind = kind; above = over key kind its there })

      pub other_behind : (key : RowKey) (row : Row) → IsNext all start key row → is_owned v b o key ≡ false → HasOwned all (kind_of start) v b o → ⊥
      other_behind key row next not (q, kind, its, there) = by (key_order key q) refl
        where
          by : (p : Ordering) → key_order key q ≡ p → ⊥
          by Less e = false≢true (sym not ∙ owned_between start key q kind first.owned its next.is_above.above e)
          by Equal e = false≢true (sym not ∙ ap (is_owned v b o) (same_is_one key q (ap is_eq e)) ∙ its)
          by Greater e = next.least q (record { has_row = there; same_kind = kind; above = over q kind its there }) (above_below key q e)

    pub owns_deleted : HasOwned all 5 v b o → OwnsRow all v b o
    unfolding IsOfOwner
    owns_deleted (key, kind, its, there) = by (owned_is key its)
      where
        by : IsOfOwner key → OwnsRow all v b o
        by (inl (k, l, e)) = inl (k, l, subst (λ x. IsSome (all x)) e there)
        by (inr (l, e)) = inr (l, subst (λ x. IsSome (all x)) e there)

    pub owns_renamed : HasOwned all 8 v b o → OwnsRow all v b o
    unfolding IsOfOwner
    owns_renamed (key, kind, its, there) = by (owned_is key its)
      where
        by : IsOfOwner key → OwnsRow all v b o
        by (inl (k, l, e)) = inl (k, l, subst (λ x. IsSome (all x)) e there)
        by (inr (l, e)) = inr (l, subst (λ x. IsSome (all x)) e there)

    pub owned_by : OwnsRow all v b o → HasOwned all 5 v b o ⊎ HasOwned all 8 v b o
    owned_by (inl (k, l, there)) = inl (keys.Deleted v b o k l, refl, its_own v b o refl refl refl, there)
    owned_by (inr (l, there)) = inr (keys.Renamed v b o l, refl, its_own v b o refl refl refl, there)

-- ---- the next snapshot

module _ (all : Rows) (v b : List ℕ) (n : ℕ) where
  later_above : (m : ℕ) → n < m → IsBelow (keys.Snapshot v b n) (keys.Snapshot v b m)
  later_above m lt = both_tied v b _ ∙ below_numbers n m lt

  pub none_later : HasNoNext all (keys.Snapshot v b n) → IsNextOwner all v b n 0
  none_later none = inl (refl, λ m later. none (keys.Snapshot v b m) (record { has_row = later.1; same_kind = refl; above = later_above m later.0 }))

  pub next_is : (key : RowKey) (row : Row) → IsNext all (keys.Snapshot v b n) key row → IsNextOwner all v b n (number_of v b key)
  unfolding of_bucket
  next_is (keys.Snapshot w c m) row next = by (is_bucket v b w c) refl
    where
      here : is_bucket v b w c ≡ true → IsNextOwner all v b n m
      here e =
          let same = same_bucket v b w c e in
          let key : keys.Snapshot w c m ≡ keys.Snapshot v b m = (λ i. keys.Snapshot (sym same.volume i) (sym same.bucket i) m) in
          let lt : n < m = numbers_below n m (sym (both_tied v b _) ∙ subst (IsBelow (keys.Snapshot v b n)) key next.is_above.above) in
          inr ((lt, subst (λ x. IsSome (all x)) key next.is_above.has_row), λ other later. least key other later)
        where
          least : keys.Snapshot w c m ≡ keys.Snapshot v b m → (other : ℕ) → IsLater all v b n other → m ≤ other
          least key other later = ⊎_elim
              (λ under. absurd (next.least (keys.Snapshot v b other) (record { has_row = later.1; same_kind = refl; above = later_above other later.0 })
              (subst (IsBelow (keys.Snapshot v b other)) (sym key) (both_tied v b _ ∙ below_numbers other m under))))
              (λ le. le)
              (cases_lt other m)

      elsewhere : is_bucket v b w c ≡ false → IsNextOwner all v b n 0
      elsewhere not = inl (refl, λ other later. apart other later (key_order (keys.Snapshot w c m) (keys.Snapshot v b other)) refl)
        where
          apart : (other : ℕ) → IsLater all v b n other → (p : Ordering) → key_order (keys.Snapshot w c m) (keys.Snapshot v b other) ≡ p → ⊥
          apart other later Less e =
              let first = squeeze v w _ _ next.is_above.above e in
              let second = squeeze b c _ _ first.low first.high in
              false≢true (sym not ∙ is_that_bucket v b w c first.same second.same)
          apart other later Equal e =
              let key = same_is_one (keys.Snapshot w c m) (keys.Snapshot v b other) (ap is_eq e) in
              false≢true (sym not ∙ ap (of_bucket v b) key ∙ bucket_itself v b)
          apart other later Greater e = next.least (keys.Snapshot v b other) (record { has_row = later.1; same_kind = refl; above = later_above other later.0 }) (above_below (keys.Snapshot w c m) (keys.Snapshot v b other) e)

      by : (t : Bool) → is_bucket v b w c ≡ t → IsNextOwner all v b n (cond (is_bucket v b w c) m 0)
      by true e = subst (λ (t : Bool). IsNextOwner all v b n (cond t m 0)) (sym e) (here e)
      by false e = subst (λ (t : Bool). IsNextOwner all v b n (cond t m 0)) (sym e) (elsewhere e)
  next_is key row next = let kind = next.is_above.same_kind in absurd (omega (arith, kind))
