-- The numbers of a bucket's snapshots are gathered from row to row.
use Rattle.std.proofs.Common.{◌≡◌, ◌≢◌, ⊎_elim, inl, inr, ℕ, ◌<◌, ◌≤◌, ◌==◌, ◌&&◌, ◌||◌, Bool, true, false, List, [], ◌∷◌, ◌++◌, IsSome, cond, refl, sym, ◌∙◌, ap, subst, arith}
use mathlib.Core.Bool.{false≢true}
use Rattle.std.proofs.lemmas.Bool.{cases_lt}
use Rattle.std.proofs.lemmas.Bool.Decides.{nat_tests}
use Rattle.std.proofs.lemmas.Cmp.{nat_list_cmp_total, tied_itself}
use Rattle.std.specs.Cmp.Lexicographic.{slice_cmp, same_text, other_text}
use Rattle.std.specs.FinMap.{nat_cmp-IsAntisymmetric, slice_cmp-IsAntisymmetric}
use Rattle.std.specs.List.{AllByRecursion}
use Rattle.std.specs.Ordering.{nat_cmp, is_eq, is_lt, ordering_then, ordering_reverse}
use Rattle.std.specs.declared.cmp.Ordering.{Ordering}
use Rattle.std.specs.declared.cmp.Ordering.TheVariants.{Less, Equal, Greater}
use Rattle.oz_decision.specs.laws.Rising.{each_in_turn}
use Rattle.oz_decision.specs.laws.SessionRows.{all_append}
use Rattle.oz_model.specs.Buckets.{is_same_name}
use Rattle.oz_om_key.specs.om_change.Noting.{AreSnapshotNumbers, HasSnapshotRow}
use Rattle.oz_om_key.specs.om_change.Numbers.{number_of}
use Rattle.oz_reclaim.specs.Work.{IsLater, IsNextOwner}
use Rattle.oz_rows.specs.declared.key.RowKey.{RowKey}
use Rattle.oz_rows.specs.declared.key.RowKey.TheVariants as keys
use Rattle.oz_rows.specs.declared.row.Row.{Row}
use Rattle.oz_rows.specs.Order.{key_order}
use Rattle.oz_rows.specs.RowMaps.{Rows, IsBelow, IsNext, HasNoNext}
use Rattle.oz_rows.specs.laws.Order.{above_below}
use Rattle.oz_rows.specs.laws.Same.{same_is_one}
use Rattle.oz_sound.specs.StandsFor.{NumbersRise, is_among}

-- ---- names and numbers in order

abbrev cmp : List ℕ → List ℕ → Ordering
cmp a b = slice_cmp nat_cmp a b

pub tied : (a : List ℕ) → cmp a a ≡ Equal
tied a = tied_itself nat_list_cmp_total a

pub not_less : {P : Type 0} {o : Ordering} → is_lt o ≡ false → o ≡ Less → P
not_less e f = absurd (false≢true (sym e ∙ ap is_lt f))

-- a name that stands between two equal ones is the same
pub record Squeezed (x y : List ℕ) (p q : Ordering) : Type 0 where
  pub same : x ≡ y
  pub low : p ≡ Less
  pub high : q ≡ Less

pub squeeze : (x y : List ℕ) (p q : Ordering) → ordering_then (cmp x y) p ≡ Less → ordering_then (cmp y x) q ≡ Less → Squeezed x y p q
squeeze x y p q low high = by (cmp x y) refl low (sym (ap (λ o. ordering_then o q) (nat_list_cmp_total.antisymm y x)) ∙ high)
  where
    by : (o : Ordering) → cmp x y ≡ o → ordering_then o p ≡ Less → ordering_then (ordering_reverse (cmp x y)) q ≡ Less → Squeezed x y p q
    by Less e low high = not_less {o = Greater} refl (sym (ap (λ o. ordering_then (ordering_reverse o) q) e) ∙ high)
    by Equal e low high = record { same = slice_cmp-IsAntisymmetric nat_cmp-IsAntisymmetric x y e; low = low; high = sym (ap (λ o. ordering_then (ordering_reverse o) q) e) ∙ high }
    by Greater e low high = not_less {o = Greater} refl low

pub both_tied : (v b : List ℕ) (o : Ordering) → ordering_then (cmp v v) (ordering_then (cmp b b) o) ≡ o
both_tied v b o = ap (λ p. ordering_then p (ordering_then (cmp b b) o)) (tied v) ∙ ap (λ p. ordering_then p o) (tied b)

pub numbers_below : (n m : ℕ) → ordering_then (ordering_then (nat_cmp n m) Equal) Equal ≡ Less → n < m
numbers_below n m e = by (nat_cmp n m) refl e
  where
    by : (o : Ordering) → nat_cmp n m ≡ o → ordering_then (ordering_then o Equal) Equal ≡ Less → n < m
    by Less f e = grind (arith, nat_tests, f)
    by Equal f e = not_less {o = Equal} refl e
    by Greater f e = not_less {o = Greater} refl e

pub below_numbers : (n m : ℕ) → n < m → ordering_then (ordering_then (nat_cmp n m) Equal) Equal ≡ Less
below_numbers n m lt = ap (λ o. ordering_then (ordering_then o Equal) Equal) (less n m lt)
  where
    less : (n m : ℕ) → n < m → nat_cmp n m ≡ Less
    less n m lt = by (nat_cmp n m) refl
      where
        by : (o : Ordering) → nat_cmp n m ≡ o → nat_cmp n m ≡ Less
        by Less f = f
        by Equal f = grind (arith, nat_tests, f)
        by Greater f = grind (arith, nat_tests, f)

-- ---- one and the same bucket

abbrev is_of : List ℕ → List ℕ → List ℕ → List ℕ → Bool
is_of v b w c = is_same_name w v && is_same_name c b

same_name : (a b : List ℕ) → is_same_name a b ≡ true → a ≡ b
same_name a b e = same_text a b (sym e)

pub itself : (a : List ℕ) → is_same_name a a ≡ true
itself a = by_test (is_same_name a a) refl
  where
    by_test : (t : Bool) → is_same_name a a ≡ t → is_same_name a a ≡ true
    by_test true e = e
    by_test false e = absurd (other_text a a (sym e) refl)

both_names : (s t : Bool) → s && t ≡ true → (s ≡ true) × (t ≡ true)
both_names true t e = (refl, e)
both_names false t e = absurd (false≢true e)

its_bucket : (v b w c : List ℕ) → is_of v b w c ≡ true → (w ≡ v) × (c ≡ b)
its_bucket v b w c e = let two = both_names (is_same_name w v) _ e in (same_name w v two.0, same_name c b two.1)

bucket_itself : (v b : List ℕ) → is_of v b v b ≡ true
bucket_itself v b = ap (λ (t : Bool). t && is_same_name b b) (itself v) ∙ itself b

-- ---- the next snapshot

module _ (all : Rows) (v b : List ℕ) (n : ℕ) where
  later_above : (m : ℕ) → n < m → IsBelow (keys.Snapshot v b n) (keys.Snapshot v b m)
  later_above m lt = both_tied v b _ ∙ below_numbers n m lt

  pub none_later : HasNoNext all (keys.Snapshot v b n) → IsNextOwner all v b n 0
  none_later none = inl (refl, λ m later. none (keys.Snapshot v b m) (record { has_row = later.1; same_kind = refl; above = later_above m later.0 }))

  module _ (w c : List ℕ) (m : ℕ) (row : Row) (next : IsNext all (keys.Snapshot v b n) (keys.Snapshot w c m) row) where
    abbrev found : RowKey
    found = keys.Snapshot w c m

    not_before : (other : ℕ) → IsLater all v b n other → IsBelow (keys.Snapshot v b other) found → ⊥
    not_before other later = next.least (keys.Snapshot v b other) (record { has_row = later.1; same_kind = refl; above = later_above other later.0 })

    here : (w ≡ v) × (c ≡ b) → IsNextOwner all v b n m
    here same = inr (
      (lt, subst (λ x. IsSome (all x)) key next.is_above.has_row),
      λ other later. ⊎_elim
          (λ under. absurd (not_before other later (subst (IsBelow (keys.Snapshot v b other)) (sym key) (both_tied v b _ ∙ below_numbers other m under))))
          (λ le. le) (cases_lt other m),
    )
      where
        key : found ≡ keys.Snapshot v b m
        key i = keys.Snapshot (same.0 i) (same.1 i) m

        lt : n < m
        lt = numbers_below n m (sym (both_tied v b _) ∙ subst (IsBelow (keys.Snapshot v b n)) key next.is_above.above)

    elsewhere : ((w ≡ v) × (c ≡ b) → ⊥) → IsNextOwner all v b n 0
    elsewhere not = inl (refl, λ other later. apart other later (key_order found (keys.Snapshot v b other)) refl)
      where
        apart : (other : ℕ) → IsLater all v b n other → (p : Ordering) → key_order found (keys.Snapshot v b other) ≡ p → ⊥
        apart other later Less e =
            let first = squeeze v w _ _ next.is_above.above e in
            let second = squeeze b c _ _ first.low first.high in
            not (sym first.same, sym second.same)
        apart other later Equal e =
            let key = same_is_one found (keys.Snapshot v b other) (ap is_eq e) in
            let volume : w ≡ v = cc in
            let bucket : c ≡ b = cc in
            not (volume, bucket)
        apart other later Greater e = not_before other later (above_below found (keys.Snapshot v b other) e)

    its : (t : Bool) → is_of v b w c ≡ t → IsNextOwner all v b n (cond t m 0)
    its true e = here (its_bucket v b w c e)
    its false e = elsewhere (λ same. false≢true (sym e ∙ (λ i. is_of v b (same.0 i) (same.1 i)) ∙ bucket_itself v b))

    pub the_next : IsNextOwner all v b n (number_of v b found)
    the_next = its (is_of v b w c) refl

  pub next_is : (key : RowKey) (row : Row) → IsNext all (keys.Snapshot v b n) key row → IsNextOwner all v b n (number_of v b key)
  next_is (keys.Snapshot w c m) row next = the_next w c m row next
  next_is key row next = let kind = next.is_above.same_kind in absurd (omega (arith, kind))

-- ---- the numbers so far

module _ (all : Rows) (v b : List ℕ) where
  -- these are the numbers up to one
  pub record UpTo (last : ℕ) (numbers : List ℕ) : Type 0 where
    pub rise : NumbersRise numbers
    pub each : AllByRecursion (HasSnapshotRow all v b) numbers
    pub under : AllByRecursion (λ number. number ≤ last) numbers
    pub every : (number : ℕ) → number ≤ last → HasSnapshotRow all v b number → is_among number numbers ≡ true

  pub at_first : UpTo 0 []
  at_first = record { rise = tt; each = tt; under = tt; every = λ number most has. absurd (let some = has.0 in omega (arith, most, some)) }

  rise_more : (n : ℕ) (numbers : List ℕ) → NumbersRise numbers → AllByRecursion (λ number. number < n) numbers → NumbersRise (numbers ++ n ∷ [])
  rise_more n [] rise under = (tt, tt)
  rise_more n (x ∷ numbers) rise under = (all_append (λ other. x < other) numbers (n ∷ []) rise.0 (under.0, tt), rise_more n numbers rise.1 under.1)

  number_itself : (n : ℕ) → (n == n) ≡ true
  number_itself n = grind (arith, nat_tests)

  among_more : (n m : ℕ) (numbers : List ℕ) → is_among m numbers ≡ true → is_among m (numbers ++ n ∷ []) ≡ true
  among_more n m [] e = absurd (false≢true e)
  among_more n m (x ∷ numbers) e = by (x == m) e (among_more n m numbers)
    where
      by : (t : Bool) → t || is_among m numbers ≡ true → (is_among m numbers ≡ true → is_among m (numbers ++ n ∷ []) ≡ true) → t || is_among m (numbers ++ n ∷ []) ≡ true
      by true e later = refl
      by false e later = later e

  among_last : (n : ℕ) (numbers : List ℕ) → is_among n (numbers ++ n ∷ []) ≡ true
  among_last n [] = ap (λ (t : Bool). t || false) (number_itself n)
  among_last n (x ∷ numbers) = by (x == n) (among_last n numbers)
    where
      by : (t : Bool) → is_among n (numbers ++ n ∷ []) ≡ true → t || is_among n (numbers ++ n ∷ []) ≡ true
      by true later = refl
      by false later = later

  module _ (last : ℕ) (numbers : List ℕ) (so_far : UpTo last numbers) where
    pub one_more : (n : ℕ) → n ≢ 0 → IsNextOwner all v b last n → UpTo n (numbers ++ n ∷ [])
    one_more n some (inl (none, no_later)) = absurd (some none)
    one_more n some (inr ((above, there), least)) = record {
      rise = rise_more n numbers so_far.rise (each_in_turn _ _ (λ m le. omega (arith, le, above)) numbers so_far.under);
      each = all_append (HasSnapshotRow all v b) numbers (n ∷ []) so_far.each ((omega (arith, above), there), tt);
      under = all_append (λ m. m ≤ n) numbers (n ∷ []) (each_in_turn _ _ (λ m le. omega (arith, le, above)) numbers so_far.under) ((omega arith), tt);
      every = λ m most has. ⊎_elim
          (λ later. let low = least m (later, has.1) in subst (λ x. is_among x (numbers ++ n ∷ []) ≡ true) (the_same m n low most) (among_last n numbers))
          (λ le. among_more n m numbers (so_far.every m le has)) (cases_lt last m);
    }
      where
        the_same : (m n : ℕ) → n ≤ m → m ≤ n → n ≡ m
        the_same m n low most = omega (arith, low, most)

    pub all_of_them : IsNextOwner all v b last 0 → AreSnapshotNumbers all v b numbers
    all_of_them (inr (later, least)) = absurd (let above = later.0 in omega (arith, above))
    all_of_them (inl (none, no_later)) = record {
      rise = so_far.rise;
      each = so_far.each;
      every = λ m has. ⊎_elim (λ later. absurd (no_later m (later, has.1))) (λ le. so_far.every m le has) (cases_lt last m);
    }
