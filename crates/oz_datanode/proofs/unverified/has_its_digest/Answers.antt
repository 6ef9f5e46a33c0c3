use Rattle.std.proofs.Common.{List, ℕ, eqb, sym, ◌∙◌, eqb-true, eq-eqb}
use Rattle.std.proofs.lemmas.Slice.Eq.{slice_eq-Decides}
use Rattle.oz_datanode.proofs.unverified.has_its_digest.Goals as goal

pub returns : goal.returns
returns c =
    let decides = slice_eq-Decides {E = eqb} (λ a b. (eqb-true a b, eq-eqb a b)) c.digest.result c.args.chunk.now.digest c.eq.result c.eq.ensures in
    (λ is. sym (decides.0 is) ∙ c.digest.ensures, λ kept. decides.1 (c.digest.ensures ∙ sym kept))
