use Rattle.oz_fields.specs.declared.block.Block.{Block}
use Rattle.oz_model.specs.Reach.{IsReached}
use Rattle.oz_rows.specs.RowMaps.{row_of}
use Rattle.oz_store.specs.Store.{IsInARow}
use Rattle.oz_nodes_loaded.specs.store_opening.Openings.{opening_bytes}
use Rattle.oz_nodes_loaded.specs.store_opening.laws.Stores.{coherent, rows_agree}
use Rattle.oz_world.specs.Disk.{seen}
use Rattle.oz_nodes_loaded.proofs.store_opening.laws.all_disks_are_a_store.Goals as goal

pub returns-clause-store : goal.returns-clause-store
returns-clause-store g c = λ bodies unseated this namespace made nodes stands sound below agree.
    let bytes = opening_bytes (λ (d : g.row.D.Denot). seen (g.D.Disk.told d) (g.D.Disk.clock d) (g.D.Disk.image d) (g.D.Disk.faults d)) nodes in
    let left = c.what_is_left_stands_in_deleted_rows.ensures bodies unseated this in
    let reached : (block : Block) → IsReached namespace block → IsInARow (row_of this.all) block = λ block is. c.what_is_reached_stands_in_a_row.ensures (row_of this.all) namespace block stands is in
    record {
      stands = stands;
      sound = sound;
      left = left;
      rows = rows_agree (row_of this.all) unseated this.greatest_id left namespace reached made nodes below bytes agree;
      disks = coherent (row_of this.all) unseated this.greatest_id left namespace reached made nodes below bytes agree;
    }

pub returns-clause-only : goal.returns-clause-only
returns-clause-only g c = λ all opening bytes store. record {
  made = store.rows.made;
  placed = store.disks.blocks.placed;
  digests_match = store.disks.blocks.digests_match;
  alike = store.disks.blocks.alike;
  whole = store.disks.blocks.whole;
  logged = store.disks.log;
}
