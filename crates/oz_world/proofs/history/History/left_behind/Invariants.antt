use Rattle.std.proofs.Common.{◌≡◌, drop, if◌then◌else◌}
use Rattle.oz_world.specs.Record.{left_by, synced_count, half_of, none_of}
use Rattle.oz_world.proofs.history.History.left_behind.Given as goal

abbrev pub invariant-loop-entry : goal.invariant-loop-entry
invariant-loop-entry l = record {
  rest : left_by (if l.half then half_of else none_of) l.left.items (drop l.entry-index l.self.entries.items) ≡ left_by (if l.half then half_of else none_of) l.self.first.items l.self.entries.items;
  synced : synced_count (drop l.entry-index l.self.entries.items) ≡ l.synced;
}
