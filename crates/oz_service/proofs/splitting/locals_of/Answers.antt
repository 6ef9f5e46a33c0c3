use Rattle.std.proofs.Common.{arith}
use Rattle.std.proofs.lemmas.Grind.{common_steps}
use Rattle.std.proofs.lemmas.List.Elements.{filter_map-append}
use Rattle.oz_service.proofs.splitting.locals_of.Goals as goal

pub loop-block-preserved : goal.loop-block-preserved
loop-block-preserved c = grind (arith, common_steps, filter_map-append)
