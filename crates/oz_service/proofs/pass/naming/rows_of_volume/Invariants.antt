use Rattle.std.proofs.Common.{◌≡◌, length, map, take}
use Rattle.oz_om.specs.Purging.{key_of}
use Rattle.oz_reclaim.specs.Service.{key_named}
use Rattle.oz_service.proofs.pass.naming.rows_of_volume.Given as goal

-- each row that was looked at is named
abbrev pub invariant-loop-row : goal.invariant-loop-row
invariant-loop-row l = record {
  named : map (key_named l.volume) l.named.items ≡ map key_of (take l.row-index l.rows);
  count : length l.named.items ≡ l.row-index;
}
