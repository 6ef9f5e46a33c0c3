use Rattle.std.proofs.Common.{◌≡◌, length, map, take}
use Rattle.std.specs.List.{AllZip}
use Rattle.std.specs.Sync.Mutex.{mutex_guard_value}
use Rattle.oz_node_admin.specs.Seats.{OnlyLooked}
use Rattle.oz_service.specs.TakenDown.{HasSeenMore, ToldDowns, left_up}
use Rattle.oz_service.proofs.all_locked.taking_down.take_down_nodes.Given as goal

-- the first so many that had halted and were up were told to be down
abbrev pub invariant-loop-dn : goal.invariant-loop-dn
invariant-loop-dn g l = record {
  count : length l.nodes.items ≡ length l.fn.nodes.items;
  seen : AllZip HasSeenMore (map mutex_guard_value l.fn.nodes.items) (map mutex_guard_value l.nodes.items);
  told : ToldDowns (left_up l.fn.scm.mine (take l.dn (map mutex_guard_value l.fn.nodes.items))) l.fn.scm l.scm;
  looked : OnlyLooked g.R.Ring.turn l.fn.seat l.seat;
}
