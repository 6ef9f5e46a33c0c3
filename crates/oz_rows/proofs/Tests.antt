-- Two tests of one fact.
use Rattle.std.proofs.Common.{◌≡◌, Bool, true, false, refl, sym}

pub same_test : {P : Type 0} → (a b : Bool) → (a ≡ true → P) → (P → a ≡ true) → (b ≡ true → P) → (P → b ≡ true) → a ≡ b
same_test true b a-yes a-from b-yes b-from = sym (b-from (a-yes refl))
same_test false true a-yes a-from b-yes b-from = a-from (b-yes refl)
same_test false false a-yes a-from b-yes b-from = refl
