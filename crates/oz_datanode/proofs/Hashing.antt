-- How far the digests of chunks are made.
use Rattle.std.proofs.Common.{◌≡◌, ◌⊎◌, ℕ, ◌+◌, ◌<◌, ◌≤◌, inl, inr, List, [], length, get_or, set, sym, ap, subst, ◌∙◌, arith}
use Rattle.std.proofs.lemmas.Bool.{cases_lt}
use Rattle.std.proofs.lemmas.List.{get_or-set_same, get_or-set_other, length-set}
use Rattle.sha2.specs.Sha256.{sha256}
use Rattle.oz_datanode.specs.Hashed.{chunk_at}

-- those of so many chunks are
pub record HashedTo (count : ℕ) (digests : List (List ℕ)) (bytes : List ℕ) : Type 0 where
  pub size : length digests ≡ 4
  pub done : (k : ℕ) → k < count → get_or digests k [] ≡ sha256 (chunk_at k bytes)

pub hashed_more : (count : ℕ) (digests after : List (List ℕ)) (bytes digest : List ℕ) → HashedTo count digests bytes → count < 4 → digest ≡ sha256 (chunk_at count bytes) → after ≡ set digests count digest → HashedTo (count + 1) after bytes
hashed_more count digests after bytes digest so_far small is now = record {
  size = ap length now ∙ (length-set digests count digest ∙ so_far.size);
  done = λ k less. ap (λ (l : List (List ℕ)). get_or l k []) now ∙ at k (cases_lt k count) less;
} where
  at : (k : ℕ) → (k < count) ⊎ (count ≤ k) → k < count + 1 → get_or (set digests count digest) k [] ≡ sha256 (chunk_at k bytes)
  at k (inl lower) less = get_or-set_other digests count k digest [] (λ same. absurd (omega (arith, lower, same))) ∙ so_far.done k lower
  at k (inr last) less =
      let same : k ≡ count = omega (arith, less, last) in
      subst (λ (n : ℕ). get_or (set digests count digest) n [] ≡ sha256 (chunk_at n bytes)) (sym same) (get_or-set_same digests count digest [] (omega (arith, small, so_far.size)) ∙ is)
