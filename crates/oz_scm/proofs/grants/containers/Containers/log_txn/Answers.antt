use Rattle.std.proofs.Common.{subst, sym}
use Rattle.oz_dellog.specs.Log.{Log}
use Rattle.oz_scm.specs.grants.Made.{MayLog}
use Rattle.oz_scm.specs.grants.Steps.{IsListed, IsSound, View, WasLogged, made_of}
use Rattle.oz_scm.proofs.Logs.{kept_log, counted_by, was_logged}
use Rattle.oz_scm.proofs.grants.containers.Containers.log_txn.Goals as goal
use Rattle.oz_scm.proofs.grants.containers.Containers.log_txn.Goals.{in-Ok, in-Err}

pub invariant_of-self : goal.invariant_of-self
invariant_of-self c =
    let inside = c.self.inside in
    let may : MayLog (made_of inside.log inside.node_count inside.next inside.list.items) c.args.txn = rw (← c.self.view_is) at c.requires in
    elim c.match-add.branch [
      | in-Ok w ↦ kept_log inside.node_count inside.next inside.log inside.list.items inside.roomy.items c.add.new.self c.args.txn.container c.args.txn.locals
          (counted_by c.args.txn.locals may.count_is) w.in-Ok.ensures.ok c.self.invariant
      | in-Err w ↦ subst (λ (log : Log). IsSound (made_of log inside.node_count inside.next inside.list.items) × IsListed inside.list.items inside.roomy.items)
          (sym w.in-Err.ensures.err) c.self.invariant
    ]

pub returns-clause-was : goal.returns-clause-was
returns-clause-was c =
    let inside = c.self.inside in
    elim c.match-add.branch [
      | in-Ok w ↦
          rw w.result-is (subst (λ (v : View). WasLogged v.made (made_of c.add.new.self inside.node_count inside.next inside.list.items)) c.self.view_is
          (was_logged inside.node_count inside.next inside.log inside.list.items inside.roomy.items c.args.txn c.add.new.self w.in-Ok.ensures.ok c.self.invariant))
      | in-Err w ↦ rw w.result-is tt
    ]
