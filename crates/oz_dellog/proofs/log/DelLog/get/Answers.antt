use Rattle.std.proofs.Common.{ap, ◌∙◌}
use Rattle.std.specs.FinMap.{get}
use Rattle.oz_dellog.proofs.Rising.{looks}
use Rattle.oz_dellog.proofs.log.DelLog.get.Goals as goal

pub returns : goal.returns
returns c =
    c.get.ensures.value ∙ looks c.args.number c.self.inside.unretired.entries ∙ ap (λ log. get log.unretired c.args.number) c.self.view_is
