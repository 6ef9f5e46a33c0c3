use Rattle.oz_effects.proofs.Fitting.{bodies_fit}
use Rattle.oz_effects.specs.laws.Steps.{body_follows, bodies_based}
use Rattle.oz_effects.proofs.batches.a_batch_makes_a_body.Goals as goal

pub returns-clause-follows : goal.returns-clause-follows
returns-clause-follows c = body_follows

pub returns-clause-based : goal.returns-clause-based
returns-clause-based c = bodies_based

pub returns-clause-fit : goal.returns-clause-fit
returns-clause-fit c = bodies_fit
