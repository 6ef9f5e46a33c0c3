use Rattle.std.proofs.Common.{sym, subst, arith, length, ◌≤◌}
use Rattle.oz_cluster.specs.declared.files.stops.TheConstants.{LONGEST_FILE}
use Rattle.oz_cluster.specs.declared.files.words.Way.{Way}
use Rattle.oz_cluster.specs.files.Given.{IsGiven, file_limit}
use Rattle.oz_cluster.proofs.TransferGiven.{more_text, whole_text}
use Rattle.oz_cluster.proofs.files.stops.read_given.Goals as goal

pub returns-in-Ok-clause-given : goal.returns-in-Ok-clause-given
returns-in-Ok-clause-given g c =
    let short : length c.in-Ok.given.items ≤ LONGEST_FILE = omega (arith, c.if-len-le-LONGEST_FILE.true, c.len.ensures, c.in-Ok.given.ok.0) in
    subst (λ (way : Way). IsGiven way (g.S.Source.left c.args.source.now) (g.S.Source.left c.read_up_to.new.source) c.in-Ok.given.items) (sym c.in-Put.is)
    (whole_text _ c.in-Ok.given.items file_limit c.in-Ok.ensures.bytes (omega (arith, short)), short, c.in-Ok.ensures.through)

pub returns-in-Ok-2-clause-so : goal.returns-in-Ok-2-clause-so
returns-in-Ok-2-clause-so g c =
    (c.in-Put.is, more_text _ c.in-Ok.given.items file_limit LONGEST_FILE c.in-Ok.ensures.bytes (omega (arith, c.if-len-le-LONGEST_FILE.false, c.len.ensures, c.in-Ok.given.ok.0)), c.in-Ok.ensures.through)
