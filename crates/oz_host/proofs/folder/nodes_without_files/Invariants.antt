use Rattle.std.proofs.Common.{◌≡◌, ◌≤◌, None, All, length}
use Rattle.std.specs.Vec.{vec_capacity}
use Rattle.oz_host.proofs.folder.nodes_without_files.Given as goal

abbrev pub invariant-loop : goal.invariant-loop
invariant-loop g l = record {
  count : length l.nodes.items ≡ l.counter;
  room : l.count ≤ vec_capacity l.nodes;
  untouched : All (λ node. (node.meta.place ≡ None) × (node.slots.place ≡ None)) l.nodes.items;
  unopened : All (λ node. (node.meta.file ≡ None) × (node.slots.file ≡ None)) l.nodes.items;
}
