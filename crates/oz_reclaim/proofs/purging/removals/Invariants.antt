use Rattle.std.proofs.Common.{◌≡◌, map}
use Rattle.oz_decision.specs.Drafts.{row_by_row}
use Rattle.oz_rows.specs.Operations.{batch_bytes}
use Rattle.oz_rows.specs.RowMaps.{gone}
use Rattle.oz_reclaim.proofs.purging.removals.Given as goal

abbrev pub invariant-loop-key : goal.invariant-loop-key
invariant-loop-key l = record {
  bytes : l.draft.bytes ≡ batch_bytes (row_by_row (map gone l.yielded));
  changes : l.draft.changes ≡ map gone l.yielded;
}
