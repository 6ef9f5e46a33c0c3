use Rattle.std.proofs.Common.{subst}
use Rattle.oz_scm_events.specs.Left.{Leaves}
use Rattle.oz_scm_events.proofs.Kept.{kept_made}
use Rattle.oz_scm_events.proofs.Left.{at_rest}
use Rattle.oz_turn.specs.Seat.{mine_of}
use Rattle.oz_world.specs.Disk.{seen}
use Rattle.oz_scm_events.proofs.cell.ScmCell.is_left.Goals as goal

pub returns : goal.returns
returns g c =
    let O = g.O.Opened in
    subst
    (λ v. Leaves O.coherent O.opening v.scm (seen (g.D.Disk.told v.scm.disk) (g.D.Disk.clock v.scm.disk) (g.D.Disk.image v.scm.disk) (g.D.Disk.faults v.scm.disk)) v.seen v.mine) c.self.view_is
    (record {
      rests = λ running. at_rest O.opening (mine_of c.self.inside.seat) c.self.inside.scm _ _ (kept_made c.self.invariant.1 running) (c.stopped-stopped.ensures.at_rest running);
      halted = c.self.invariant.2;
    })
