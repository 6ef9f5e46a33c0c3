use Rattle.std.proofs.Common.{◌≡◌, ◌≤◌, ◌-◌, length, take, drop, IfSome}
use Rattle.std.specs.Option.{option_map}
use Rattle.oz_cluster.proofs.streams.read_through.Given as goal

abbrev pub invariant-loop-text : goal.invariant-loop-text
invariant-loop-text g l = record {
  left : g.S.Source.left l.source ≡ option_map (drop (length l.text.items)) (g.S.Source.left l.fn.source);
  bytes : IfSome (g.S.Source.left l.fn.source) (λ rest. l.text.items ≡ take (length l.text.items) rest);
  size : length l.text.items ≤ l.limit;
  faults : g.S.Source.faults l.fn.source ≤ g.S.Source.faults l.source;
}

abbrev pub decreases-loop-text : goal.decreases-loop-text
decreases-loop-text g l = l.limit - length l.text.items
