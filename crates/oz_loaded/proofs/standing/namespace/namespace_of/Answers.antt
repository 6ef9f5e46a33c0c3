use Rattle.std.proofs.Common.{◌∙◌}
use Rattle.oz_loaded.proofs.standing_lemmas.Stands.{the_one}
use Rattle.oz_loaded.proofs.standing_lemmas.Striped.{all_drawn}
use Rattle.oz_loaded.proofs.standing.namespace.namespace_of.Goals as goal

pub returns : goal.returns
returns c = λ all namespace are stands.
    the_one all namespace (record { volumes = c.in_ok-volumes.volumes; stripes = c.all_drawn.result }) stands (c.in_ok-volumes.ensures all are) (c.all_drawn.ensures ∙ all_drawn all c.args.parts.now are)
