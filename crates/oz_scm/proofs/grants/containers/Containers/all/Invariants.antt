use Rattle.std.proofs.Common.{◌≡◌, ℕ, map, take}
use Rattle.std.specs.List.{range_with_len}
use Rattle.oz_scm.specs.declared.grants.container.Container.{Container}
use Rattle.oz_scm.proofs.grants.containers.Containers.all.Given as goal

abbrev pub invariant-loop-place : goal.invariant-loop-place
invariant-loop-place l =
    (map (λ (one : ℕ × Container). one.0) l.all.items ≡ range_with_len 1 l.place)
    × (map (λ (one : ℕ × Container). one.1) l.all.items ≡ take l.place l.self.made.containers)
