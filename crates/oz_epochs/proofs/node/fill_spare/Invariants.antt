use Rattle.std.proofs.Common.{◌≡◌, ◌≤◌, ◌+◌, ◌-◌, ℕ, length}
use Rattle.oz_epochs.specs.Nodes.{HasSpare, Keeps}
use Rattle.oz_epochs.proofs.node.fill_spare.Given as goal

abbrev pub invariant-loop-slot : goal.invariant-loop-slot
invariant-loop-slot g l = record {
  capacity : l.nodes.capacity ≡ l.initial.nodes.capacity;
  within : l.slot ≤ l.nodes.capacity;
  filled : length l.nodes.items ≡ l.slot;
  more : length l.initial.nodes.items ≤ l.slot;
  kept : Keeps l.initial.nodes.items l.nodes.items;
  spare : (spare : ℕ) → HasSpare l.initial.nodes.items l.initial.spare_front spare → HasSpare l.nodes.items l.spare_front (spare + (l.slot - length l.initial.nodes.items));
}
