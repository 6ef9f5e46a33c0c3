-- What a push with room to spare leaves.
use Rattle.std.proofs.Common.{◌≡◌, List, [], ◌∷◌, ◌++◌, Result, is_ok, IsOk, if◌then◌else◌, ◌∙◌, ap}
use Rattle.std.proofs.lemmas.Bool.{cond-true}

pub pushed : {X T E : Type 0} (outcome : Result T E) (x : X) (first old new : List X) → IsOk outcome → old ≡ first → new ≡ (if is_ok outcome then old ++ x ∷ [] else old) → new ≡ first ++ x ∷ []
pushed outcome x first old new ok same is = is ∙ (cond-true (is_ok outcome) (old ++ x ∷ []) old ok ∙ ap (λ (l : List _). l ++ x ∷ []) same)
