use Rattle.std.proofs.Common.{◌^◌, arith}
use Rattle.oz_datanode.proofs.Named.{all_below}
use Rattle.oz_datanode.proofs.deleting.are_numbers.Goals as goal

pub returns : goal.returns
returns c = all_below (2 ^ 64) c.args.locals.now (λ i. omega (arith, c.type_inv.locals i))
