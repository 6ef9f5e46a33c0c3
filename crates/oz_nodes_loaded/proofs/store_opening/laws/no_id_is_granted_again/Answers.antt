use Rattle.std.specs.Prelude.{map}
use Rattle.oz_datanode.specs.Datanode.{node_in}
use Rattle.oz_rows.specs.RowMaps.{row_of}
use Rattle.oz_nodes_loaded.specs.store_opening.laws.Stores.{ids_fresh, keys_fresh, rows_fresh}
use Rattle.oz_nodes_loaded.proofs.store_opening.laws.no_id_is_granted_again.Goals as goal

pub returns-clause-rows : goal.returns-clause-rows
returns-clause-rows g c = λ bodies unseated this made nodes block below. rows_fresh (row_of this.all) unseated this.greatest_id (map node_in nodes) made.next_id below block

pub returns-clause-keys : goal.returns-clause-keys
returns-clause-keys g c = λ bodies unseated this made nodes key local below. keys_fresh (row_of this.all) unseated this.greatest_id (map node_in nodes) made.next_id below key local

pub returns-clause-disks : goal.returns-clause-disks
returns-clause-disks g c = λ bodies unseated this made nodes namespace stands below.
    ids_fresh (row_of this.all) unseated this.greatest_id (c.what_is_left_stands_in_deleted_rows.ensures bodies unseated this) namespace
    (λ block is. c.what_is_reached_stands_in_a_row.ensures (row_of this.all) namespace block stands is) made nodes below
