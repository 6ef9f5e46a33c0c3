use Rattle.std.proofs.Common.{◌<◌, ◌≤◌, length, subst, arith}
use Rattle.std.proofs.lemmas.Bool.Decides.{nat_tests}
use Rattle.oz_loaded.specs.Loads.{IsFaultIn}
use Rattle.oz_loaded.proofs.Places.{is_there, fault_ends, fault_in, found_there}
use Rattle.oz_journal.specs.Body.{bodies_in}
use Rattle.oz_loaded.proofs.loading.tables_of.Goals as goal

pub unreachable-requires : goal.unreachable-requires
unreachable-requires c =
    let bodies = c.args.bodies.now in
    let body = c.in-Err-Damaged.body in
    let past : length bodies ≤ body = grind (arith, nat_tests, c.in_default.ensures.lookup.0) in
    is_there c.bodies_make_one_thing.ensures.within bodies body c.in-Err-Damaged.at (c.in-Err-Damaged.ensures.damaged body c.in-Err-Damaged.at c.in-Err-Damaged.field-0-is) past

pub overflow_add-result : goal.overflow_add-result
overflow_add-result c =
    let bodies = c.args.bodies.now in
    let body = c.in-Err-Damaged.body in
    let below : body < length bodies = grind (arith, nat_tests, c.in-Some.ensures.lookup.0) in
    let found = found_there bodies body c.in-Some.damaged.now below c.in-Some.ensures.lookup.1 in
    omega (arith, c.requires.ends, fault_ends bodies body c.in-Err-Damaged.at (c.in-Err-Damaged.ensures.damaged body c.in-Err-Damaged.at c.in-Err-Damaged.field-0-is) c.in-Some.damaged.now found c.requires.places c.bodies_make_one_thing.ensures.within)

pub returns-in-Some-clause-damaged : goal.returns-in-Some-clause-damaged
returns-in-Some-clause-damaged c offset is =
    let bodies = c.args.bodies.now in
    let body = c.in-Err-Damaged.body in
    let below : body < length bodies = grind (arith, nat_tests, c.in-Some.ensures.lookup.0) in
    let found = found_there bodies body c.in-Some.damaged.now below c.in-Some.ensures.lookup.1 in
    subst (IsFaultIn (bodies_in bodies)) (cc is) (fault_in bodies body c.in-Err-Damaged.at (c.in-Err-Damaged.ensures.damaged body c.in-Err-Damaged.at c.in-Err-Damaged.field-0-is) c.in-Some.damaged.now found c.requires.places)
