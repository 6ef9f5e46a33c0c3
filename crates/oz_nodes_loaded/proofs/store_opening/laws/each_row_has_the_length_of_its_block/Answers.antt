use Rattle.oz_world.specs.Disk.{seen}
use Rattle.oz_nodes_loaded.specs.store_opening.laws.Lengths.{lengths_agree}
use Rattle.oz_nodes_loaded.proofs.store_opening.laws.each_row_has_the_length_of_its_block.Goals as goal

pub returns : goal.returns
returns g c all unseated namespace made disks nodes dn node block row tell are agree at has =
    lengths_agree (λ (d : g.row.D.Denot). seen (g.D.Disk.told d) (g.D.Disk.clock d) (g.D.Disk.image d) (g.D.Disk.faults d))
    (λ bytes one stands. c.blocks_have_slots_of_their_own.ensures.made stands.0 one stands.2)
    all unseated namespace made disks nodes tell are agree dn node block row at has
