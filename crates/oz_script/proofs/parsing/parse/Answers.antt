use Rattle.std.proofs.Common.{arith}
use Rattle.oz_script.proofs.Parses.{circle_fault, later_fault, first_within}
use Rattle.oz_script.proofs.parsing.parse.Goals as goal

pub fault_at-requires : goal.fault_at-requires
fault_at-requires c =
    let within = first_within c.in_ok-script.field-0.script.lines c.in_ok-line.field-0 c.in-Some.line c.in_ok-line.ensures c.in-Some.is in
    omega (arith, within, c.in_ok-script.ensures.places)

pub returns-in-Some-clause-exact : goal.returns-in-Some-clause-exact
returns-in-Some-clause-exact c =
    circle_fault c.args.bytes.now c.in_ok-script.field-0 c.in_ok-line.field-0 c.in-Some.line c.fault_at.result c.in_ok-script.ensures.exact c.in_ok-script.ensures.places c.in_ok-line.ensures c.in-Some.is c.fault_at.ensures

pub returns-in-Some-later_index-clause-exact : goal.returns-in-Some-later_index-clause-exact
returns-in-Some-later_index-clause-exact c =
    later_fault c.args.bytes.now c.in_ok-script.field-0 c.in_ok-line.field-0 c.in-Some-later_index.line c.fault_at-in-Some-later_index.result c.in_ok-script.ensures.exact c.in_ok-script.ensures.places c.in_ok-line.ensures c.in_default.is c.in-Some-later_index.ensures c.fault_at-in-Some-later_index.ensures
