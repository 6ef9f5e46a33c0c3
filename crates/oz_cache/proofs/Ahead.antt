-- How many cached rows are still ahead of a walk.
use Rattle.std.proofs.Common.{◌≡◌, ℕ, ◌+◌, ◌<◌, ◌≤◌, Bool, true, false, [], ◌∷◌, length, Some, None, cond, refl, ◌∙◌, ap, arith}
use mathlib.Core.Bool.{false≢true}
use Rattle.std.specs.Ordering.{is_lt}
use Rattle.oz_rows.specs.declared.key.RowKey.{RowKey}
use Rattle.oz_rows.specs.Order.{key_order}
use Rattle.oz_sorted.specs.declared.entry.Entry.{Entry}
use Rattle.oz_rows.specs.RowMaps.{IsBelow, is_same}
use Rattle.oz_rows.specs.laws.Order.{key_order_total, itself, less_from_test}
use Rattle.oz_rows.specs.laws.Same.{same_is_one}
use Rattle.oz_cache.specs.declared.cached_rows.CachedRow.{CachedRow}
use Rattle.oz_cache.specs.Places.{Entries, found}
use Rattle.oz_cache.proofs.Counting.{Answer, AnswersNext, AnswersFirst}

-- how many entries have a greater key
abbrev pub count_above : RowKey → Entries → ℕ
count_above key [] = 0
count_above key (e ∷ es) = cond {A = ℕ} (is_lt (key_order key e.key)) 1 0 + count_above key es

-- how many have the key that was found or a greater one
abbrev pub count_ahead : Answer → Entries → ℕ
count_ahead None es = 0
count_ahead (Some at) es = 1 + count_above at.0.now es

no_row : (x : CachedRow) → None ≡ Some x → ⊥
no_row x e = cc

by_tests : (s t : Bool) → (s ≡ true → t ≡ true) → cond {A = ℕ} s 1 0 ≤ cond {A = ℕ} t 1 0
by_tests true true so = omega arith
by_tests true false so = absurd (false≢true (so refl))
by_tests false true so = omega arith
by_tests false false so = omega arith

one_at_most : (s : Bool) → cond {A = ℕ} s 1 0 ≤ 1
one_at_most true = omega arith
one_at_most false = omega arith

pub no_more : (key : RowKey) (es : Entries) → count_above key es ≤ length es
no_more key [] = omega arith
no_more key (e ∷ es) = omega (arith, one_at_most (is_lt (key_order key e.key)), no_more key es)

module _ (from at : RowKey) (above : IsBelow from at) where
  one_less : (e : Entry RowKey CachedRow) → cond {A = ℕ} (is_lt (key_order at e.key)) 1 0 ≤ cond {A = ℕ} (is_lt (key_order from e.key)) 1 0
  one_less e = by_tests (is_lt (key_order at e.key)) (is_lt (key_order from e.key)) (λ lt. ap is_lt (key_order_total.trans from at e.key above (less_from_test (key_order at e.key) lt)))

  fewer : (es : Entries) → count_above at es ≤ count_above from es
  fewer [] = omega arith
  fewer (e ∷ es) = omega (arith, one_less e, fewer es)

  pub less_ahead : (es : Entries) (x : CachedRow) → found es at ≡ Some x → count_above at es < count_above from es
  less_ahead [] x e = absurd (no_row x e)
  less_ahead (f ∷ es) x e = by_test (is_same f.key at) refl e (less_ahead es x)
    where
      by_test : (t : Bool) → is_same f.key at ≡ t → cond t (Some f.value) (found es at) ≡ Some x → (found es at ≡ Some x → count_above at es < count_above from es) → count_above at (f ∷ es) < count_above from (f ∷ es)
      by_test true same e rest =
          let is_at = same_is_one f.key at same in
          let here : cond {A = ℕ} (is_lt (key_order at f.key)) 1 0 ≡ 0 = ap (λ (t : Bool). cond {A = ℕ} t 1 0) (ap (λ k. is_lt (key_order at k)) is_at ∙ ap is_lt (itself at)) in
          let there : cond {A = ℕ} (is_lt (key_order from f.key)) 1 0 ≡ 1 = ap (λ (t : Bool). cond {A = ℕ} t 1 0) (ap (λ k. is_lt (key_order from k)) is_at ∙ ap is_lt above) in
          omega (arith, here, there, fewer es)
      by_test false other e rest = omega (arith, one_less f, rest e)

-- a key with an entry is not above itself
pub some_not_above : (at : RowKey) (es : Entries) (x : CachedRow) → found es at ≡ Some x → count_above at es < length es
some_not_above at [] x e = absurd (no_row x e)
some_not_above at (f ∷ es) x e = by_test (is_same f.key at) refl e (some_not_above at es x)
  where
    by_test : (t : Bool) → is_same f.key at ≡ t → cond t (Some f.value) (found es at) ≡ Some x → (found es at ≡ Some x → count_above at es < length es) → count_above at (f ∷ es) < length (f ∷ es)
    by_test true same e rest =
        let is_at = same_is_one f.key at same in
        let here : cond {A = ℕ} (is_lt (key_order at f.key)) 1 0 ≡ 0 = ap (λ (t : Bool). cond {A = ℕ} t 1 0) (ap (λ k. is_lt (key_order at k)) is_at ∙ ap is_lt (itself at)) in
        omega (arith, here, no_more at es)
    by_test false other e rest = omega (arith, one_at_most (is_lt (key_order at f.key)), rest e)

pub ahead_first : (es : Entries) (from : RowKey) (answer : Answer) → AnswersFirst (found es) from answer → count_ahead answer es ≤ length es
ahead_first es from None none = omega arith
ahead_first es from (Some at) first = omega (arith, some_not_above at.0.now es at.1.now first.its_row)

pub ahead_next : (es : Entries) (key : RowKey) (answer : Answer) → AnswersNext (found es) key answer → count_ahead answer es ≤ count_above key es
ahead_next es key None none = omega arith
ahead_next es key (Some at) next = omega (arith, less_ahead key at.0.now next.is_above.above es at.1.now next.its_value)
