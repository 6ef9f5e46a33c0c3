use Rattle.std.proofs.Common.{rules}
use Rattle.std.proofs.lemmas.Result.{err_from_is_err_and}
use Rattle.oz_replicas.proofs.Members.{all_three, short_one, short_two}
use Rattle.oz_replicas.proofs.replicas.write_block.Goals as goal

pub returns-in_err-second-clause-lacks : goal.returns-in_err-second-clause-lacks
returns-in_err-second-clause-lacks g c =
    let p = err_from_is_err_and c.from_residual-in_err-second.result c.from_residual-in_err-second.ensures.1 in
    rw p.1 (short_one g.D.Disk.told g.D.Disk.clock g.D.Disk.image g.D.Disk.faults g.K.Kept.stands g.N.Noter.noted g.N.Noter.knows (g.N.Noter.subject c.args.noter.now) c.args.members c.in_ok-first.first c.args.noter.now c.write_member.new.noter c.write_member-2.new.noter (search rules) c.in_ok-first.ensures.answered c.in_err-second.ensures.lacks)

pub returns-in_err-third-clause-lacks : goal.returns-in_err-third-clause-lacks
returns-in_err-third-clause-lacks g c =
    let p = err_from_is_err_and c.from_residual-in_err-third.result c.from_residual-in_err-third.ensures.1 in
    let second = rw c.write_member.ensures.subject at c.in_ok-second.ensures.answered in
    rw p.1 (short_two g.D.Disk.told g.D.Disk.clock g.D.Disk.image g.D.Disk.faults g.K.Kept.stands g.N.Noter.noted g.N.Noter.knows (g.N.Noter.subject c.args.noter.now) c.args.members c.in_ok-first.first c.in_ok-second.second c.args.noter.now c.write_member.new.noter c.write_member-2.new.noter c.write_member-3.new.noter (search rules) c.in_ok-first.ensures.answered second c.in_err-third.ensures.lacks)

pub returns-clause-written : goal.returns-clause-written
returns-clause-written g c =
    let second = rw c.write_member.ensures.subject at c.in_ok-second.ensures.answered in
    let third = rw (c.write_member-2.ensures.subject, c.write_member.ensures.subject) at c.in_ok-third.ensures.answered in
    all_three g.D.Disk.told g.D.Disk.clock g.D.Disk.image g.D.Disk.faults g.K.Kept.stands g.N.Noter.noted g.N.Noter.knows (g.N.Noter.subject c.args.noter.now) c.args.members c.in_ok-first.first c.in_ok-second.second c.in_ok-third.third c.args.noter.now c.write_member.new.noter c.write_member-2.new.noter c.write_member-3.new.noter (search rules) c.in_ok-first.ensures.answered second third
