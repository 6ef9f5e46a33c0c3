use Rattle.oz_datanode.proofs.Parts.{write_ends}
use Rattle.oz_datanode.proofs.datanode.Datanode.write_digested.Goals as goal

pub returns-clause-ends : goal.returns-clause-ends
returns-clause-ends g c = write_ends g.D.Disk.told g.D.Disk.faults c.args.block c.args.chunk c.args.bytes.now c.args.self.now c.write_part.new.self c.write_part.result (record { ran = c.in_ok-check_running.ensures.running; is = c.in_ok-check_open.ensures.open }) c.write_part.ensures.ends
