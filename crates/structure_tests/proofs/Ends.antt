-- A list ends by the epoch of the entry that was put at its end.
use Rattle.std.proofs.Common.{ℕ, List, [], ◌∷◌, ◌++◌, arith}
use Rattle.oz_epochs.specs.Epochs.{EpochEntry, entry, EndsBy}

pub ends_pushed : {K : Type 0} (epoch slot : ℕ) (key : K) (es : List (EpochEntry K)) → EndsBy epoch (es ++ entry slot epoch key ∷ [])
ends_pushed epoch slot key [] = omega arith
ends_pushed epoch slot key (f ∷ []) = omega arith
ends_pushed epoch slot key (f ∷ g ∷ es) = ends_pushed epoch slot key (g ∷ es)
