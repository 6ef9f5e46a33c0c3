-- The members of a pipeline differ, and are known datanodes.
use Rattle.std.proofs.Common.{◌≡◌, ◌≢◌, ℕ, ◌+◌, ◌-◌, ◌%◌, ◌<◌, ◌≤◌, [], ◌∷◌, sym, ap, ◌∙◌, ⊎_elim, arith, All, AllPairs}
use Rattle.std.proofs.Math.Nat.{mod-eq_of_lt, add-mod_right, mod-lt}
use Rattle.std.proofs.lemmas.Bool.{cases_lt}
use Rattle.std.proofs.lemmas.Bool.Decides.{nat_tests}
use Rattle.std.proofs.lemmas.List.Elements.{All-cons, All-nil}
use Rattle.std.proofs.lemmas.List.Kept.{AllPairs-cons}
use Rattle.oz_nodes.specs.Pipelines.{members_of, pipelines_of}

-- past the end it begins again
goes_round : (a n : ℕ) → n ≤ a → a < n + n → a % n ≡ a - n
goes_round a n le lt =
    let whole : (a - n) + n ≡ a = omega arith in
    let small : a - n < n = omega arith in
    ap (λ x. x % n) (sym whole) ∙ add-mod_right (a - n) n ∙ mod-eq_of_lt small

-- numbers less than a round apart come to different places
apart : (a b n : ℕ) → a < b → b < a + n → b < n + n → (a % n) ≢ (b % n)
apart a b n below near lt same =
    ⊎_elim
    (λ (la : a < n). ⊎_elim
    (λ (lb : b < n). let ea = mod-eq_of_lt la in let eb = mod-eq_of_lt lb in omega arith)
    (λ (lb : n ≤ b). let ea = mod-eq_of_lt la in let eb = goes_round b n lb lt in omega arith)
    (cases_lt b n))
    (λ (la : n ≤ a). let small : a < n + n = omega arith in let ea = goes_round a n la small in let large : n ≤ b = omega arith in let eb = goes_round b n
    large lt in omega arith)
    (cases_lt a n)

known_pipeline : (count pipeline : ℕ) → 3 ≤ count → pipeline < pipelines_of count → pipeline < count
known_pipeline count pipeline least known = grind (arith, nat_tests)

none_apart : AllPairs {X = ℕ} ◌≢◌ []
none_apart i j d ahead below = absurd (omega arith)

three_apart : (a b c : ℕ) → a ≢ b → a ≢ c → b ≢ c → AllPairs ◌≢◌ (a ∷ b ∷ c ∷ [])
three_apart a b c ab ac bc =
    AllPairs-cons ◌≢◌ a (b ∷ c ∷ []) (All-cons (λ y. a ≢ y) b (c ∷ []) ab (All-cons (λ y. a ≢ y) c [] ac (All-nil (λ y. a ≢ y))))
    (AllPairs-cons ◌≢◌ b (c ∷ []) (All-cons (λ y. b ≢ y) c [] bc (All-nil (λ y. b ≢ y)))
    (AllPairs-cons ◌≢◌ c [] (All-nil (λ y. c ≢ y)) none_apart))

-- the three members, each apart from the next two
pub record AreThree (count pipeline : ℕ) : Type 0 where
  pub one : (pipeline % count) ≢ ((pipeline + 1) % count)
  pub two : (pipeline % count) ≢ ((pipeline + 2) % count)
  pub three : ((pipeline + 1) % count) ≢ ((pipeline + 2) % count)

pub are_three : (count pipeline : ℕ) → 3 ≤ count → pipeline < pipelines_of count → AreThree count pipeline
are_three count p least known =
    let below = known_pipeline count p least known in
    record {
      one = apart p (p + 1) count (omega arith) (omega arith) (omega arith);
      two = apart p (p + 2) count (omega arith) (omega arith) (omega arith);
      three = apart (p + 1) (p + 2) count (omega arith) (omega arith) (omega arith);
    }

pub members_apart : (count pipeline : ℕ) → 3 ≤ count → pipeline < pipelines_of count → AllPairs ◌≢◌ (members_of count pipeline)
members_apart count p least known =
    let three = are_three count p least known in
    three_apart _ _ _ three.one three.two three.three

pub members_known : (count pipeline : ℕ) → 3 ≤ count → All (λ dn. dn < count) (members_of count pipeline)
members_known count p least =
    let some : 0 < count = omega arith in
    All-cons (λ dn. dn < count) (p % count) ((p + 1) % count ∷ (p + 2) % count ∷ []) (mod-lt p some)
    (All-cons (λ dn. dn < count) ((p + 1) % count) ((p + 2) % count ∷ []) (mod-lt (p + 1) some)
    (All-cons (λ dn. dn < count) ((p + 2) % count) [] (mod-lt (p + 2) some) (All-nil (λ dn. dn < count))))
