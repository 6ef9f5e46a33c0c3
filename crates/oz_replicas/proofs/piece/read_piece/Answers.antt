use Rattle.std.proofs.Common.{◌+◌, get_or, take, drop, ◌∙◌, rules}
use Rattle.std.proofs.lemmas.List.{take_more}
use Rattle.oz_replicas.proofs.Members.{first_more, first_found, cut_at}
use Rattle.oz_replicas.proofs.piece.read_piece.Goals as goal

pub returns-in-Some-clause-given : goal.returns-in-Some-clause-given
returns-in-Some-clause-given g c =
    let gave = rw (c.in-Some.is, c.loop-dn.invariant.subject) at c.in_ok-bytes.ensures.gave in
    rw (cut_at c.args.members c.loop-dn.dn-index (search rules)) (first_found g.D.Disk.told g.D.Disk.clock g.D.Disk.image g.D.Disk.faults g.K.Kept.stands g.N.Noter.noted g.N.Noter.knows (g.N.Noter.subject c.args.noter.now) (take c.loop-dn.dn-index c.args.members) c.args.piece.length (get_or c.args.members c.loop-dn.dn-index 0) (drop (c.loop-dn.dn-index + 1) c.args.members) c.in-Some.bytes.items c.args.noter.now c.loop-dn.noter c.read_member.new.noter c.loop-dn.invariant.none gave)

pub loop-dn-preserved : goal.loop-dn-preserved
loop-dn-preserved g c =
    let gave = rw (c.in_default.is, c.loop-dn.invariant.subject) at c.in_ok-bytes.ensures.gave in record {
      none = rw (take_more c.args.members c.loop-dn.dn-index 0 (search rules)) (first_more g.D.Disk.told g.D.Disk.clock g.D.Disk.image g.D.Disk.faults g.K.Kept.stands g.N.Noter.noted g.N.Noter.knows (g.N.Noter.subject c.args.noter.now) (take c.loop-dn.dn-index c.args.members) c.args.piece.length (get_or c.args.members c.loop-dn.dn-index 0) c.args.noter.now c.loop-dn.noter c.read_member.new.noter c.loop-dn.invariant.none gave);
      subject = c.read_member.ensures.subject ∙ c.loop-dn.invariant.subject;
    }
