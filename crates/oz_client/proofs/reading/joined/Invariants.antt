use Rattle.std.proofs.Common.{◌≡◌, ℕ, List, take}
use Rattle.std.specs.List.{flat_map}
use Rattle.oz_client.proofs.reading.joined.Given as goal

abbrev pub invariant-loop-content : goal.invariant-loop-content
invariant-loop-content l =
    l.bytes.items ≡ flat_map (λ (content : List ℕ). content) (take l.content-index l.fn.contents)
