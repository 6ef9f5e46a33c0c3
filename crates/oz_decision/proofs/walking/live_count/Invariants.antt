use Rattle.std.proofs.Common.{◌≡◌, ◌≤◌, take, count_by}
use Rattle.oz_decision.specs.Walking.{is_live}
use Rattle.oz_decision.proofs.walking.live_count.Given as goal

abbrev pub invariant-loop-key : goal.invariant-loop-key
invariant-loop-key g l = record {
  counted : l.count ≡ count_by (λ key. is_live (g.M.RowMap.rows l.rows key)) (take l.key-index l.keys);
  small : l.count ≤ l.key-index;
}
