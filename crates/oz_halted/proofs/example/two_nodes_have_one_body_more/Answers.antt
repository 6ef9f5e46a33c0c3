use Rattle.oz_halted.proofs.Shown as shown
use Rattle.oz_halted.proofs.example.two_nodes_have_one_body_more.Goals as goal

pub returns-clause-coherent : goal.returns-clause-coherent
returns-clause-coherent c = shown.coherent

pub returns-clause-apart : goal.returns-clause-apart
returns-clause-apart c = shown.apart

pub returns-clause-legal : goal.returns-clause-legal
returns-clause-legal c = shown.legal

pub returns-clause-fits : goal.returns-clause-fits
returns-clause-fits c = shown.fits

pub returns-clause-may_be_left : goal.returns-clause-may_be_left
returns-clause-may_be_left c = shown.may_be_left

pub returns-clause-not_as_told : goal.returns-clause-not_as_told
returns-clause-not_as_told c = shown.not_as_told
