use Rattle.std.proofs.Common.{◌≡◌, ◌≤◌, ◌+◌, ◌++◌, map, reverse, vec_len, vec_capacity}
use Rattle.oz_reclaim.specs.sweep.Notes.{dated}
use Rattle.oz_reclaim.proofs.sweep.notes.move_dated.Given as goal

-- what is left is turned, and comes behind what was moved
abbrev pub invariant-loop-from : goal.invariant-loop-from
invariant-loop-from l = record {
  all : l.to.items ++ map (dated l.index) (reverse l.from.items) ≡ l.fn.to.items ++ map (dated l.index) l.fn.from.items;
  sum : vec_len l.to + vec_len l.from ≡ vec_len l.fn.to + vec_len l.fn.from;
  room : vec_capacity l.fn.to ≤ vec_capacity l.to;
}

abbrev pub decreases-loop-from : goal.decreases-loop-from
decreases-loop-from l = vec_len l.from
