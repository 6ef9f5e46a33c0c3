use Rattle.std.proofs.Common.{◌≡◌, ◌∷◌, map, take, codes}
use Rattle.std.specs.String.{string_bytes}
use Rattle.oz_cluster.proofs.files.words.words_of_run.Given as goal

abbrev pub invariant-loop-option : goal.invariant-loop-option
invariant-loop-option l = map string_bytes l.words.items ≡ codes "run" ∷ l.dir ∷ map string_bytes (take l.option-index l.options)
