use Rattle.std.proofs.Common.{◌≡◌, ◌≤◌}
use Rattle.oz_block.specs.shelf.Written.{makes}
use Rattle.oz_block.proofs.shelf_lemmas.Making.{rest_makes}
use Rattle.oz_block.proofs.shelf.written.makes.Given as goal

abbrev pub invariant-loop-one : goal.invariant-loop-one
invariant-loop-one l = record {
  same : makes l.written l.block l.size ≡ rest_makes l.block l.written l.one-index l.place l.left;
  few : l.place ≤ l.one-index;
}
