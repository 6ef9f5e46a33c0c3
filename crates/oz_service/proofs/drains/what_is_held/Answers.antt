use Rattle.oz_service.specs.laws.Drained.{not_drained, what_is_held}
use Rattle.oz_service.proofs.drains.what_is_held.Goals as goal

pub returns-clause-held : goal.returns-clause-held
returns-clause-held c = λ opening bytes loaded story start line dn legal store ordered is swept away let_go drains manager scm it none.
    what_is_held opening bytes loaded story start line legal store ordered is swept away let_go drains manager scm dn it none

pub returns-clause-undone : goal.returns-clause-undone
returns-clause-undone c = λ opening story start line dn is it drained. not_drained opening story start line dn is it drained
