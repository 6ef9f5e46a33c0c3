use Rattle.std.proofs.Common.{sym, ap, subst}
use Rattle.oz_dellog.specs.declared.logged.Logged.{Logged}
use Rattle.oz_dellog.specs.Index.{Lists}
use Rattle.oz_dellog.proofs.Sound.{is_added, is_undone, logs}
use Rattle.oz_dellog.proofs.log.DelLog.add.Goals as goal

pub invariant_of-self-in-Ok-insert : goal.invariant_of-self-in-Ok-insert
invariant_of-self-in-Ok-insert c =
    is_added c.self.inside.last c.in-Some.number c.self.inside.unretired c.insert.new.self c.self.inside.index c.list.new.index c.new_logged.result
    c.self.invariant c.in-Some.ensures.1 c.in-Ok-insert.ensures.entries c.insert.ensures.ordered
    (subst (λ container. Lists c.self.inside.index c.list.new.index container c.in-Some.number) (sym (ap (λ (logged : Logged). logged.container) c.new_logged.ensures)) c.in-Ok.ensures.ok)

pub returns-in-Ok-insert-clause-ok : goal.returns-in-Ok-insert-clause-ok
returns-in-Ok-insert-clause-ok c =
    logs c.args.self.now c.self.inside.last c.in-Some.number c.args.container c.args.locals c.self.inside.unretired c.insert.new.self c.new_logged.result
    c.self.view_is c.in-Some.ensures.1 c.new_logged.ensures (c.in-Ok-insert.ensures.updates.0)

pub invariant_of-self-in-Err : goal.invariant_of-self-in-Err
invariant_of-self-in-Err c =
    is_undone c.self.inside.last c.in-Some.number c.args.container c.self.inside.unretired c.insert.new.self c.self.inside.index c.list.new.index c.unlist.new.index
    c.self.invariant c.in-Some.ensures.1 c.in-Err.ensures.err c.insert.ensures.ordered c.in-Ok.ensures.ok c.unlist.ensures
