use Rattle.std.proofs.Common.{◌≡◌, ◌≤◌, ℕ, None, IfSome, All, length, slice_get}
use Rattle.std.specs.Vec.{vec_capacity}
use Rattle.oz_host.specs.Folder.{AreNodeFilesIn}
use Rattle.oz_host.proofs.folder.nodes_in.Given as goal

abbrev pub invariant-loop-dn : goal.invariant-loop-dn
invariant-loop-dn g l = record {
  count : length l.nodes.items ≡ l.dn;
  room : l.count ≤ vec_capacity l.nodes;
  places : (dn : ℕ) → IfSome (slice_get l.nodes.items dn) (λ node. AreNodeFilesIn l.dir dn node.meta node.slots);
  unopened : All (λ node. (node.meta.file ≡ None) × (node.slots.file ≡ None)) l.nodes.items;
}
