use Rattle.std.proofs.Common.{not, rules}
use Rattle.std.proofs.lemmas.Fn.{filter_same}
use Rattle.oz_block.specs.shelf.Steps.{is_meant}
use Rattle.oz_block.proofs.shelf.written.take_out.Goals as goal

pub returns-clause-written : goal.returns-clause-written
returns-clause-written c = filter_same _ (λ one. not (is_meant c.args.which one)) _ (λ one b f' k. search rules) _ _ c.retain.ensures.filtered
