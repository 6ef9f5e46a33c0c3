use Rattle.std.proofs.Common.{◌≡◌, ℕ, List, Result, Ok, Err, IfOk, ◌∙◌, rules}
use Rattle.oz_command.specs.command_line.Words.{IsRunWith}
use Rattle.oz_main.proofs.folder.disks_named.Goals as goal

-- As many as words say that are read are as many as they say.
as_said : {T E : Type 0} (words : List (List ℕ)) (result : Result T E) (count : T → ℕ) (read nodes workers : ℕ) → IfOk result (λ x. count x ≡ read) → ((others : ℕ) × IsRunWith words read others) → ((others : ℕ) → IsRunWith words read others → IsRunWith words nodes workers → read ≡ nodes) → IsRunWith words nodes workers → IfOk result (λ x. count x ≡ nodes)
as_said words (Ok x) count read nodes workers counted is one run = counted ∙ one is.0 is.1 run
as_said words (Err e) count read nodes workers counted is one run = tt

pub returns-clause-count : goal.returns-clause-count
returns-clause-count g c nodes workers run =
    as_said _ _ _ _ nodes workers c.disks_in.ensures.count (search (rules, c.requires)) (λ others read said. c.words_are_one_run.ensures.nodes _ _ _ _ _ read said) run
