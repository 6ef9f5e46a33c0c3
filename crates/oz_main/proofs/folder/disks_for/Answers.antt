use Rattle.oz_main.proofs.folder.disks_for.Goals as goal

pub returns-in-Ok-clause-manager : goal.returns-in-Ok-clause-manager
returns-in-Ok-clause-manager g c dir options is run = c.disks_named.ensures.manager dir options is

pub returns-in-Ok-clause-scm : goal.returns-in-Ok-clause-scm
returns-in-Ok-clause-scm g c dir options is run = c.disks_named.ensures.scm dir options is

pub returns-in-Ok-clause-nodes : goal.returns-in-Ok-clause-nodes
returns-in-Ok-clause-nodes g c dir options is run = c.disks_named.ensures.nodes dir options is

pub returns-in-Err-clause-manager : goal.returns-in-Err-clause-manager
returns-in-Err-clause-manager g c dir options is run = absurd (c.words_of_a_run_have_no_fault.ensures _ _ run c.in-Err.ensures.fault)

pub returns-in-Err-clause-scm : goal.returns-in-Err-clause-scm
returns-in-Err-clause-scm g c dir options is run = absurd (c.words_of_a_run_have_no_fault.ensures _ _ run c.in-Err.ensures.fault)

pub returns-in-Err-clause-nodes : goal.returns-in-Err-clause-nodes
returns-in-Err-clause-nodes g c dir options is run = absurd (c.words_of_a_run_have_no_fault.ensures _ _ run c.in-Err.ensures.fault)

pub returns-in-Err-clause-count : goal.returns-in-Err-clause-count
returns-in-Err-clause-count g c nodes workers run = absurd (c.words_of_a_run_have_no_fault.ensures _ _ (nodes, workers, run) c.in-Err.ensures.fault)
