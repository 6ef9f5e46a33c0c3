use Rattle.std.proofs.Common.{◌^◌, arith}
use Rattle.oz_scm.proofs.Fitting.{all_below}
use Rattle.oz_scm.proofs.planning.are_numbers.Goals as goal

pub returns : goal.returns
returns c = all_below (2 ^ 64) c.args.locals.now (λ i. omega (arith, c.type_inv.locals i))
