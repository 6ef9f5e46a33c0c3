use Rattle.std.proofs.Common.{sym, rules}
use Rattle.oz_steps.specs.Requests.{commit_by}
use Rattle.oz_steps.proofs.Once.{none-again}
use Rattle.oz_steps.proofs.requests.commit_request.Goals as goal

pub returns-then-not-is_empty : goal.returns-then-not-is_empty
returns-then-not-is_empty c =
    sym (none-again c.args.came.now (commit_by c.args.label.now) (λ e. search (rules, e)))
