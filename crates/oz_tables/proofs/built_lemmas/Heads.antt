-- The head of a body.
use Rattle.std.proofs.Common.{◌≡◌, ℕ, ◌≤◌, List, [], ◌∷◌, length, Ok, arith}
use Rattle.oz_rows.specs.declared.operation.Head.{Head}
use Rattle.oz_rows.specs.Reading.{head_at}

pub head_has_bytes : (bytes : List ℕ) (head : Head) (rest : List ℕ) → head_at bytes ≡ Ok (head, rest) → 1 ≤ length bytes
unfolding head_at
head_has_bytes [] head rest e = absurd cc
head_has_bytes (byte ∷ bytes) head rest e = omega arith
