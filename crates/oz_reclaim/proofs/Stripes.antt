-- The numbers that stripes have drawn, in a namespace and in the rows that stand for it.
use Rattle.std.proofs.Common.{◌≡◌, ◌≤◌, ◌<◌, ◌+◌, ◌==◌, ℕ, Bool, true, false, List, [], ◌∷◌, map, length, Some, cond, refl, ◌∙◌, ap, subst, arith}
use Rattle.std.proofs.lemmas.Bool.Decides.{nat_tests}
use Rattle.std.proofs.Math.Nat.{mod-lt}
use Rattle.std.specs.Prelude.{sum, slice_index, slice_set}
use Rattle.std.specs.List.{AllByRecursion}
use Rattle.oz_names.specs.Names.{stripe_of}
use Rattle.oz_namespace.specs.declared.namespace.Namespace.{Namespace}
use Rattle.oz_namespace.specs.Namespace.{sixteen}
use Rattle.oz_rows.specs.declared.key.RowKey.TheVariants as keys
use Rattle.oz_rows.specs.declared.row.Row.TheVariants as rows
use Rattle.oz_rows.specs.RowMaps.{Rows, is_same}
use Rattle.oz_sound.specs.StandsFor.{drawn_in}

one_number : (a b : ℕ) → (a == b) ≡ true → a ≡ b
one_number a b e = grind (arith, nat_tests, e)

above : (a b : ℕ) → (a == b) ≡ false → a ≤ b → a + 1 ≤ b
above a b e low = grind (arith, nat_tests, e, low)

-- the numbers from one on
abbrev Counts : ℕ → List ℕ → Type 0
Counts i [] = Unit {0}
Counts i (x ∷ l) = (x ≡ i) × Counts (i + 1) l

each_from : (P : ℕ → Type 0) (i : ℕ) (l : List ℕ) → Counts i l → AllByRecursion P l → (s : ℕ) → i ≤ s → s < i + length l → P s
each_from P i [] counts all s low high = absurd (omega (arith, low, high))
each_from P i (x ∷ l) counts all s low high = by_test (i == s) refl (each_from P (i + 1) l counts.1 all.1 s)
  where
    by_test : (t : Bool) → (i == s) ≡ t → (i + 1 ≤ s → s < i + 1 + length l → P s) → P s
    by_test true e later = subst P (counts.0 ∙ one_number i s e) all.0
    by_test false e later = later (above i s e low) (omega (arith, high))

-- what holds of each of the sixteen
of_sixteen : (P : ℕ → Type 0) → AllByRecursion P sixteen → (s : ℕ) → s < 16 → P s
of_sixteen P all s few = each_from P 0 sixteen (refl, (refl, (refl, (refl, (refl, (refl, (refl, (refl, (refl, (refl, (refl, (refl, (refl, (refl, (refl, (refl, tt)))))))))))))))) all s (omega arith) (omega (arith, few))

pub stripe_is : (v : List ℕ) → stripe_of v < 16
stripe_is v = mod-lt (sum v) (omega arith)

abbrev numbers_in : Rows → List ℕ
numbers_in all = map (λ stripe. drawn_in (all (keys.Stripe stripe))) sixteen

number_at : (all : Rows) (s : ℕ) → s < 16 → slice_index (numbers_in all) s ≡ drawn_in (all (keys.Stripe s))
number_at all = of_sixteen (λ s. slice_index (numbers_in all) s ≡ drawn_in (all (keys.Stripe s))) (refl, (refl, (refl, (refl, (refl, (refl, (refl, (refl, (refl, (refl, (refl, (refl, (refl, (refl, (refl, (refl, tt))))))))))))))))

-- a stripe's row says how many were drawn
pub drawn_shown : (all : Rows) (namespace : Namespace) → namespace.stripes ≡ numbers_in all → (s : ℕ) → s < 16 → slice_index namespace.stripes s ≡ drawn_in (all (keys.Stripe s))
drawn_shown all namespace stands s few = ap (λ l. slice_index l s) stands ∙ number_at all s few

-- where a stripe's row has this number
abbrev pub with_number : Rows → ℕ → ℕ → Rows
with_number all s n key = cond (is_same (keys.Stripe s) key) (Some (rows.Stripe n)) (all key)

pub numbers_after : (all : Rows) (n s : ℕ) → s < 16 → slice_set (numbers_in all) s n ≡ numbers_in (with_number all s n)
numbers_after all n = of_sixteen (λ s. slice_set (numbers_in all) s n ≡ numbers_in (with_number all s n)) (refl, (refl, (refl, (refl, (refl, (refl, (refl, (refl, (refl, (refl, (refl, (refl, (refl, (refl, (refl, (refl, tt))))))))))))))))
