use Rattle.std.proofs.Common.{◌≡◌, ◌++◌, ℕ, All, filter_map}
use Rattle.oz_dellog.specs.declared.logged.Logged.{Logged}
use Rattle.oz_scm.specs.grants.Log.{IsLocalCount}
use Rattle.oz_service.specs.Sending.{IsSound, due_in, dues_in}
use Rattle.oz_service.proofs.deleting.due.dues_of.Given as goal

-- what is due of those so far and of those that are left is what is due of all
abbrev pub invariant-loop-number : goal.invariant-loop-number
invariant-loop-number g l = record {
  dues : l.dues.items ++ filter_map (due_in g.O.Opened.opening l.scm.mine) l.number-iterator ≡ dues_in g.O.Opened.opening l.scm.mine l.scm.scm.made;
  sound : All (IsSound l.count) l.dues.items;
  counted : All (λ (entry : ℕ × Logged). IsLocalCount entry.1.locals) l.number-iterator;
}
