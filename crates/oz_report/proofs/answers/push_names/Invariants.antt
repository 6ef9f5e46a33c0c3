use Rattle.std.proofs.Common.{◌≡◌, ◌++◌, take, length, decimal, codes}
use Rattle.std.specs.List.{flat_map}
use Rattle.oz_report.proofs.answers.push_names.Given as goal

abbrev pub invariant-loop-name : goal.invariant-loop-name
invariant-loop-name l = l.out.items ≡ l.fn.out.items ++ codes "OK " ++ decimal (length l.fn.names) ++ flat_map (λ name. codes " " ++ name) (take l.name-index l.fn.names)
