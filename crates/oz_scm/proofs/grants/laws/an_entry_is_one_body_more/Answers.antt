use Rattle.oz_scm.specs.grants.laws.Journals.{first_made, grant_made, step_made, log_made, ack_made, retirement_made}
use Rattle.oz_scm.proofs.grants.laws.an_entry_is_one_body_more.Goals as goal

pub returns-clause-first : goal.returns-clause-first
returns-clause-first c = first_made

pub returns-clause-grant : goal.returns-clause-grant
returns-clause-grant c = grant_made

pub returns-clause-step : goal.returns-clause-step
returns-clause-step c = step_made

pub returns-clause-log : goal.returns-clause-log
returns-clause-log c = log_made

pub returns-clause-ack : goal.returns-clause-ack
returns-clause-ack c = ack_made

pub returns-clause-retirement : goal.returns-clause-retirement
returns-clause-retirement c = retirement_made
