use Rattle.std.proofs.Common.{[]}
use Rattle.oz_world.specs.Disk.{seen}
use Rattle.oz_nodes_loaded.specs.store_opening.laws.Empty.{unwritten_store}
use Rattle.oz_nodes_loaded.proofs.store_opening.laws.unwritten_disks_are_a_store.Goals as goal

pub returns : goal.returns
returns g c unseated this count nodes unwritten =
    unwritten_store (λ (d : g.row.D.Denot). seen (g.D.Disk.told d) (g.D.Disk.clock d) (g.D.Disk.image d) (g.D.Disk.faults d)) c.an_empty_store_is_one.ensures.store
    unseated this (c.what_is_left_stands_in_deleted_rows.ensures [] unseated this)
    c.what_is_reached_stands_in_a_row.ensures count nodes unwritten
