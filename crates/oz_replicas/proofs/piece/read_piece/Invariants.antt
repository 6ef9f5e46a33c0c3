use Rattle.std.proofs.Common.{◌≡◌, None, take}
use Rattle.oz_replicas.specs.Reading.{IsFirstGiven}
use Rattle.oz_replicas.proofs.piece.read_piece.Given as goal

-- those so far gave none
abbrev pub invariant-loop-dn : goal.invariant-loop-dn
invariant-loop-dn g l = record {
  none : IsFirstGiven g.D.Disk.told g.D.Disk.clock g.D.Disk.image g.D.Disk.faults g.K.Kept.stands g.N.Noter.noted g.N.Noter.knows (g.N.Noter.subject l.fn.noter) l.piece.length (take l.dn-index l.dn-items) None l.fn.noter l.noter;
  subject : g.N.Noter.subject l.noter ≡ g.N.Noter.subject l.fn.noter;
}
