use Rattle.std.proofs.Common.{ap, ◌∙◌}
use Rattle.oz_entries.specs.declared.entry.Entry.TheVariants as entries
use Rattle.oz_node_events.proofs.Changed.{journaled_refused}
use Rattle.oz_node_events.proofs.Replicas.{changed_so}
use Rattle.oz_node_events.proofs.closing.set_state.Goals as goal

pub returns-in-Ok-clause-changed : goal.returns-in-Ok-clause-changed
returns-in-Ok-clause-changed g c =
    let D = g.D.Disk in
    let runs = c.in_ok-check_runs.ensures.runs in
    let did = c.in-Ok.ensures in
    changed_so D.told D.clock D.image D.faults c.args.node.now c.set_state.new.self runs did.pairs did.goes_on (entries.SetState c.args.container c.args.state) (did.made runs) did.shelf
    (λ up bytes is. (c.halted-halted.ensures.at_rest (c.halted-halted.ensures.halted ∙ up) bytes is).0)

pub returns-in-Ok-clause-written : goal.returns-in-Ok-clause-written
returns-in-Ok-clause-written g c = ap (λ s. s.written) c.in-Ok.ensures.shelf

pub returns-in-Err-clause-refused : goal.returns-in-Err-clause-refused
returns-in-Err-clause-refused g c =
    let D = g.D.Disk in
    let runs = c.in_ok-check_runs.ensures.runs in
    let did = c.in-Err.ensures in
    rw c.refused_as.ensures (journaled_refused D.told D.clock D.image D.faults c.args.node.now c.set_state.new.self runs did.pairs did.goes_on (entries.SetState c.args.container c.args.state) c.in-Err.refusal (did.made runs) did.shelf)

pub returns-in-Err-clause-written : goal.returns-in-Err-clause-written
returns-in-Err-clause-written g c = ap (λ s. s.written) c.in-Err.ensures.shelf
