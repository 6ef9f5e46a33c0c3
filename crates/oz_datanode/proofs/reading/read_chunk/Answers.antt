use Rattle.std.proofs.Common.{◌≡◌, ℕ, ◌+◌, Bool, true, not, eqb, ◌&&◌, List, [], ◌∷◌, refl, sym, ap, ◌∙◌, eq-eqb}
use Rattle.std.proofs.lemmas.Bool.{false≢true}
use Rattle.std.specs.Cmp.Lexicographic.{pointwise}
use Rattle.std.specs.List.{slice_range}
use Rattle.oz_chunk.specs.Slots.{start_of}
use Rattle.sha2.specs.Sha256.{sha256}
use Rattle.oz_datanode.proofs.reading.read_chunk.Goals as goal

-- what differs isn't one
same_pointwise : (xs : List ℕ) → pointwise eqb xs xs ≡ true
same_pointwise [] = refl
same_pointwise (x ∷ xs) = ap (λ (b : Bool). b && pointwise eqb xs xs) (eq-eqb x x refl) ∙ same_pointwise xs

differ : (xs ys : List ℕ) (b : Bool) → b ≡ not (pointwise eqb xs ys) → b ≡ true → xs ≡ ys → ⊥
differ xs ys b is ne same = false≢true (sym (ap not (ap (λ (l : List ℕ). pointwise eqb l ys) same ∙ same_pointwise ys)) ∙ (sym is ∙ ne))

pub returns-then-ne-clause-bad : goal.returns-then-ne-clause-bad
returns-then-ne-clause-bad g c = λ kept found is slots tells.
    let one : kept ≡ c.args.chunk.now.digest = cc in
    let two : found ≡ c.digest-found.result = cc in
    (one, two ∙ (c.digest-found.ensures ∙ ap sha256 (c.in-Ok.ensures.bytes slots tells ∙ ap (λ (n : ℕ). slice_range slots (start_of c.args.chunk.now.slot) (start_of c.args.chunk.now.slot + n)) c.min-size.ensures)), λ same. differ c.digest-found.result c.args.chunk.now.digest c.ne.result c.ne.ensures c.if-ne.true (sym two ∙ (same ∙ one)))
