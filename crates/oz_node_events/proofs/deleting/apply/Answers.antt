use Rattle.std.proofs.Common.{◌∙◌}
use Rattle.oz_node_events.proofs.Changed.{applied, apply_refused, none_written}
use Rattle.oz_node_events.proofs.deleting.apply.Goals as goal

pub returns-in-Ok-clause-applied : goal.returns-in-Ok-clause-applied
returns-in-Ok-clause-applied g c =
    let D = g.D.Disk in
    let runs = c.in_ok-check_runs.ensures.runs in
    let did = c.in-Ok.ensures in (
      applied D.told D.clock D.image D.faults c.args.txn.now c.args.node.now c.apply_deletes.new.self runs did.pairs did.goes_on c.in-Ok.count (λ due. (did.not_due runs due).1) (did.applied runs) (did.freed runs)
          (λ up bytes is. (c.halted-halted.ensures.at_rest (c.halted-halted.ensures.halted ∙ up) bytes is).0),
      did.count,
    )

pub returns-in-Ok-clause-written : goal.returns-in-Ok-clause-written
returns-in-Ok-clause-written g c =
    let D = g.D.Disk in
    let runs = c.in_ok-check_runs.ensures.runs in
    let did = c.in-Ok.ensures in
    none_written D.told D.clock D.image D.faults c.args.txn.now c.args.node.now c.apply_deletes.new.self runs did.pairs did.goes_on (λ due. (did.not_due runs due).1) (did.freed runs)

pub returns-in-Err-clause-refused : goal.returns-in-Err-clause-refused
returns-in-Err-clause-refused g c =
    let D = g.D.Disk in
    let runs = c.in_ok-check_runs.ensures.runs in
    let did = c.in-Err.ensures in
    rw c.refused_as.ensures (apply_refused D.told D.clock D.image D.faults c.args.txn.now c.args.node.now c.apply_deletes.new.self runs did.pairs did.goes_on c.in-Err.refusal (λ due. (did.not_due runs due).0) (did.applied runs) did.shelf)
