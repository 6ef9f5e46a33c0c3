use Rattle.std.proofs.Common.{sym, rules}
use Rattle.oz_steps.specs.Single.{single_of}
use Rattle.oz_steps.proofs.Once.{none-again}
use Rattle.oz_steps.proofs.requests.single.Goals as goal

pub returns-then-not-is_empty : goal.returns-then-not-is_empty
returns-then-not-is_empty c =
    sym (none-again c.args.came.now (single_of c.args.command.now) (λ e. search (rules, e)))
