use Rattle.oz_datanode.specs.Datanode.{meta_of}
use Rattle.oz_node_events.specs.full.laws.Journal.{change_stands, put_stands, stands_apart, wipe_stands}
use Rattle.oz_node_events.proofs.full.laws.a_journal_keeps_slots_apart.Goals as goal

pub returns-clause-loaded : goal.returns-clause-loaded
returns-clause-loaded g c = λ bytes node stands. c.blocks_have_slots_of_their_own.ensures.made stands.0 node stands.2

pub returns-clause-apart : goal.returns-clause-apart
returns-clause-apart g c = λ node stands. stands_apart g.D.Disk.told g.D.Disk.clock g.D.Disk.image g.D.Disk.faults c.blocks_have_slots_of_their_own.ensures.made node stands

pub returns-clause-put : goal.returns-clause-put
returns-clause-put g c = λ block bytes old new runs stood copied. put_stands g.D.Disk.told g.D.Disk.clock g.D.Disk.image g.D.Disk.faults c.bytes_stand_for_one_thing.ensures.one_reading c.bodies_make_one_node.ensures.one_node
    block bytes old new (g.met.D.Disk.read_is_image (meta_of new)) runs stood copied

pub returns-clause-changed : goal.returns-clause-changed
returns-clause-changed g c = λ entry old new follows stood changed. change_stands g.D.Disk.told g.D.Disk.clock g.D.Disk.image g.D.Disk.faults c.an_entry_is_one_body_more.ensures entry old new follows stood changed

pub returns-clause-wiped : goal.returns-clause-wiped
returns-clause-wiped g c = λ old new stood wiped. wipe_stands g.D.Disk.told g.D.Disk.clock g.D.Disk.image g.D.Disk.faults old new stood wiped
