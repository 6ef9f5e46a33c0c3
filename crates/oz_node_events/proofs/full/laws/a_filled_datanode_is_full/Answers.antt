use Rattle.oz_datanode.specs.Datanode.{node_in}
use Rattle.oz_node_events.specs.full.laws.Counted.{filled_full}
use Rattle.oz_node_events.proofs.full.laws.a_filled_datanode_is_full.Goals as goal

pub returns : goal.returns
returns g c = λ opening story dn node block bytes used asked capacity has rows most filled. filled_full g.D.Disk.faults opening story dn node block bytes used asked capacity has
    (λ blocks chunks held full. c.slots_are_taken_by_blocks_or_chunks.ensures.full (node_in node) blocks chunks has held full) rows most filled
