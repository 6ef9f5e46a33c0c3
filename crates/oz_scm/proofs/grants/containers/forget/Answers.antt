use Rattle.std.proofs.Common.{rules, not, nat_eq}
use Rattle.std.proofs.lemmas.Fn.{filter_same}
use Rattle.oz_scm.proofs.grants.containers.forget.Goals as goal

pub returns : goal.returns
returns c = filter_same _ (λ other. not (nat_eq other c.args.number)) _ (λ x b g called. search rules) _ _ c.retain.ensures.filtered
