use Rattle.run_cases.proofs.nodes.nodes_for.Goals as goal

pub returns-in-Err : goal.returns-in-Err
returns-in-Err c nodes workers run = absurd (c.words_of_a_run_have_no_fault.ensures _ _ (nodes, workers, run) c.in-Err.ensures.fault)
