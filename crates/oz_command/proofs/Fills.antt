-- Data that is made of a number, from a place on.
use Rattle.std.proofs.Common.{◌≡◌, ℕ, zero, suc, ◌+◌, ◌-◌, ◌≤◌, take, drop, map, refl, ap, ◌∙◌, arith}
use Rattle.std.specs.List.{range_with_len}
use Rattle.std.proofs.lemmas.List.FromFn.{take-map-range_with_len}

same_range : (f : ℕ → ℕ) (a b m n : ℕ) → a ≡ b → m ≡ n → map f (range_with_len a m) ≡ map f (range_with_len b n)
same_range f a b m n e d = rw (e, d) refl

-- the first ones left out
pub drop-map-range : (f : ℕ → ℕ) (a k n : ℕ) → k ≤ n → drop k (map f (range_with_len a n)) ≡ map f (range_with_len (a + k) (n - k))
drop-map-range f a zero n le = same_range f a (a + 0) n (n - 0) (omega arith) (omega arith)
drop-map-range f a (suc k) zero le = absurd (omega arith)
drop-map-range f a (suc k) (suc n) le =
    drop-map-range f (a + 1) k n (omega arith) ∙ same_range f (a + 1 + k) (a + suc k) (n - k) (suc n - suc k) (omega arith) (omega arith)

-- so many of them, from a place on
pub part : (f : ℕ → ℕ) (first count whole : ℕ) → first + count ≤ whole
    → take count (drop first (map f (range_with_len 0 whole))) ≡ map f (range_with_len first count)
part f first count whole le =
    ap (take count) (drop-map-range f 0 first whole (omega arith))
    ∙ take-map-range_with_len f (0 + first) (whole - first) count (omega arith)
    ∙ same_range f (0 + first) first count count (omega arith) refl
