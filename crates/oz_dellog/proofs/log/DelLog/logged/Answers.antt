use Rattle.std.proofs.Common.{subst, sym, Any}
use Rattle.oz_dellog.specs.Index.{Names}
use Rattle.oz_dellog.proofs.Sound.{is_logged, is_found}
use Rattle.oz_dellog.proofs.log.DelLog.logged.Goals as goal

pub returns : goal.returns
returns c = (
  λ yes. is_logged c.args.self.now c.self.inside.last c.self.inside.unretired c.self.inside.index c.args.block c.self.invariant c.self.view_is
      (subst (Any (λ number. Names c.self.inside.unretired number c.args.block.local)) c.numbers_of-numbers.ensures (c.any_names.ensures.0 yes)),
  λ named. c.any_names.ensures.1 (subst (Any (λ number. Names c.self.inside.unretired number c.args.block.local)) (sym c.numbers_of-numbers.ensures)
      (is_found c.args.self.now c.self.inside.last c.self.inside.unretired c.self.inside.index c.args.block c.self.invariant c.self.view_is named)),
)
