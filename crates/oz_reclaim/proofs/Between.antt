-- What stands between two keys that begin alike begins like them.
use Rattle.std.proofs.Common.{◌≡◌, ℕ, ◌<◌, ◌==◌, Bool, true, false, ◌&&◌, List, [], ◌∷◌, refl, sym, ◌∙◌, ap, arith, get_or}
use mathlib.Core.Bool.{false≢true}
use Rattle.std.specs.Ordering.{nat_cmp, is_eq, is_lt, is_gt, ordering_then, ordering_reverse}
use Rattle.std.specs.declared.cmp.Ordering.{Ordering}
use Rattle.std.specs.declared.cmp.Ordering.TheVariants.{Less, Equal, Greater}
use Rattle.std.specs.Cmp.Lexicographic.{slice_cmp}
use Rattle.std.specs.FinMap.{nat_cmp-IsAntisymmetric, slice_cmp-IsAntisymmetric}
use Rattle.std.proofs.lemmas.Bool.Decides.{nat_tests}
use Rattle.std.proofs.lemmas.Cmp.{nat_list_cmp_total, tied_itself}
use Rattle.oz_rows.specs.declared.key.RowKey.{RowKey}
use Rattle.oz_rows.specs.Rows.{kind_of}
use Rattle.oz_rows.specs.RowMaps.{IsBelow, is_bucket}
use Rattle.oz_rows.specs.laws.Order.{kinds_rise}

abbrev pub cmp : List ℕ → List ℕ → Ordering
cmp a b = slice_cmp nat_cmp a b

pub tied : (a : List ℕ) → cmp a a ≡ Equal
tied a = tied_itself nat_list_cmp_total a

not_less : {P : Type 0} {o : Ordering} → is_lt o ≡ false → o ≡ Less → P
not_less e f = absurd (false≢true (sym e ∙ ap is_lt f))

-- a name is what stands between two equal ones
pub record Squeezed (x y : List ℕ) (p q : Ordering) : Type 0 where
  pub same : x ≡ y
  pub low : p ≡ Less
  pub high : q ≡ Less

pub squeeze : (x y : List ℕ) (p q : Ordering) → ordering_then (cmp x y) p ≡ Less → ordering_then (cmp y x) q ≡ Less → Squeezed x y p q
squeeze x y p q low high = by (cmp x y) refl low (sym (ap (λ o. ordering_then o q) (nat_list_cmp_total.antisymm y x)) ∙ high)
  where
    by : (o : Ordering) → cmp x y ≡ o → ordering_then o p ≡ Less → ordering_then (ordering_reverse (cmp x y)) q ≡ Less → Squeezed x y p q
    by Less e low high = not_less {o = Greater} refl (sym (ap (λ o. ordering_then (ordering_reverse o) q) e) ∙ high)
    by Equal e low high = record { same = slice_cmp-IsAntisymmetric nat_cmp-IsAntisymmetric x y e; low = low; high = sym (ap (λ o. ordering_then (ordering_reverse o) q) e) ∙ high }
    by Greater e low high = not_less {o = Greater} refl low

pub one_number : (a b : ℕ) → a ∷ [] ≡ b ∷ [] → a ≡ b
one_number a b e = ap (λ (l : List ℕ). get_or l 0 0) e

pub front : (a b : Bool) → a && b ≡ true → a ≡ true
front true b e = refl
front false b e = e

pub back : (a b : Bool) → a && b ≡ true → b ≡ true
back true b e = e
back false b e = absurd (false≢true e)

pub both : (a b : Bool) → a ≡ true → b ≡ true → a && b ≡ true
both true b e f = f
both false b e f = absurd (false≢true e)

pub same_number : (a b : ℕ) → (a == b) ≡ true → a ≡ b
same_number a b e = grind (arith, nat_tests, e)

pub number_itself : (a : ℕ) → (a == a) ≡ true
number_itself a = grind (arith, nat_tests)

-- the two names of a bucket
pub record SameBucket (v b w c : List ℕ) : Type 0 where
  pub volume : v ≡ w
  pub bucket : b ≡ c

level : (o p : Ordering) → is_eq (ordering_then o p) ≡ true → (o ≡ Equal) × (is_eq p ≡ true)
level Equal p e = (refl, e)
level Less p e = absurd (false≢true e)
level Greater p e = absurd (false≢true e)

pub same_bucket : (v b w c : List ℕ) → is_bucket v b w c ≡ true → SameBucket v b w c
same_bucket v b w c e =
    let first = level (cmp v w) (ordering_then (cmp b c) Equal) e in
    let second = level (cmp b c) Equal first.1 in
    record { volume = slice_cmp-IsAntisymmetric nat_cmp-IsAntisymmetric v w first.0; bucket = slice_cmp-IsAntisymmetric nat_cmp-IsAntisymmetric b c second.0 }

pub both_tied : (v b : List ℕ) (o : Ordering) → ordering_then (cmp v v) (ordering_then (cmp b b) o) ≡ o
both_tied v b o = ap (λ p. ordering_then p (ordering_then (cmp b b) o)) (tied v) ∙ ap (λ p. ordering_then p o) (tied b)

pub bucket_itself : (v b : List ℕ) → is_bucket v b v b ≡ true
bucket_itself v b = ap is_eq (both_tied v b Equal)

pub is_that_bucket : (v b w c : List ℕ) → v ≡ w → b ≡ c → is_bucket v b w c ≡ true
is_that_bucket v b w c volume bucket = (λ i. is_bucket v b (sym volume i) (sym bucket i)) ∙ bucket_itself v b

-- nothing is below an empty name, or 0, and what stands behind decides
pub name_last : (a : List ℕ) (o : Ordering) → (o ≡ Less → ⊥) → ordering_then (cmp a []) o ≡ Less → ⊥
name_last [] o not e = not e
name_last (x ∷ a) o not e = not_less {o = Greater} refl e

pub number_last : (n : ℕ) → ordering_then (ordering_then (nat_cmp n 0) Equal) Equal ≡ Less → ⊥
number_last n e = by (nat_cmp n 0) refl e
  where
    by : (o : Ordering) → nat_cmp n 0 ≡ o → ordering_then (ordering_then o Equal) Equal ≡ Less → ⊥
    by Less f e = grind (arith, nat_tests, f)
    by Equal f e = not_less {o = Equal} refl e
    by Greater f e = not_less {o = Greater} refl e

pub number_first : (n : ℕ) (o : Ordering) → (o ≡ Less → ⊥) → ordering_then (ordering_then (nat_cmp n 0) Equal) o ≡ Less → ⊥
number_first n o not e = by (nat_cmp n 0) refl e
  where
    by : (p : Ordering) → nat_cmp n 0 ≡ p → ordering_then (ordering_then p Equal) o ≡ Less → ⊥
    by Less f e = grind (arith, nat_tests, f)
    by Equal f e = not e
    by Greater f e = not_less {o = Greater} refl e

pub not_equal : Equal ≡ Less → ⊥
not_equal e = not_less {o = Equal} refl e

-- a key between two of one kind is of that kind
pub kind_between : (a key c : RowKey) → kind_of c ≡ kind_of a → IsBelow a key → IsBelow key c → kind_of key ≡ kind_of a
kind_between a key c same low high = omega (arith, kinds_rise a key (ap is_gt low), kinds_rise key c (ap is_gt high), same)

pub numbers_below : (n m : ℕ) → ordering_then (ordering_then (nat_cmp n m) Equal) Equal ≡ Less → n < m
numbers_below n m e = by (nat_cmp n m) refl e
  where
    by : (o : Ordering) → nat_cmp n m ≡ o → ordering_then (ordering_then o Equal) Equal ≡ Less → n < m
    by Less f e = grind (arith, nat_tests, f)
    by Equal f e = absurd (not_equal e)
    by Greater f e = not_less {o = Greater} refl e

pub below_numbers : (n m : ℕ) → n < m → ordering_then (ordering_then (nat_cmp n m) Equal) Equal ≡ Less
below_numbers n m lt = ap (λ o. ordering_then (ordering_then o Equal) Equal) (less n m lt)
  where
    less : (n m : ℕ) → n < m → nat_cmp n m ≡ Less
    less n m lt = by (nat_cmp n m) refl
      where
        by : (o : Ordering) → nat_cmp n m ≡ o → nat_cmp n m ≡ Less
        by Less f = f
        by Equal f = grind (arith, nat_tests, f)
        by Greater f = grind (arith, nat_tests, f)
