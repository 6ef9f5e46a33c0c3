use Rattle.std.proofs.Common.{sym}
use Rattle.oz_entries.proofs.MapEdits.{room_same}
use Rattle.oz_entries.proofs.maps.make_room.Goals as goal

pub returns-in_ok-insert-in-None-clause-rows : goal.returns-in_ok-insert-in-None-clause-rows
returns-in_ok-insert-in-None-clause-rows c = room_same _ _ c.args.block (sym c.in-None.ensures.value) c.in_ok-insert-in-None.ensures.updates.0
