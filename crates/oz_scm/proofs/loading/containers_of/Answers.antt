use Rattle.std.proofs.Common.{◌≡◌, ◌<◌, Option, length, sym, subst, ◌∙◌, arith}
use Rattle.oz_scm.specs.grants.Build.{Makes}
use Rattle.oz_scm.specs.grants.Steps.{View, made_in}
use Rattle.std.proofs.lemmas.Bool.Decides.{nat_tests}
use Rattle.oz_scm.specs.Scm.{IsFaultIn}
use Rattle.oz_scm.proofs.Places.{fault_ends, fault_in, found_there}
use Rattle.oz_journal.specs.Body.{bodies_in}
use Rattle.oz_scm.proofs.loading.containers_of.Goals as goal

pub overflow_add-result : goal.overflow_add-result
overflow_add-result c =
    let bodies = c.args.bodies.now in
    let body = c.in-Err-Damaged.body in
    let below : body < length bodies = grind (arith, nat_tests, c.in-Some.ensures.lookup.0) in
    let found = found_there bodies body c.in-Some.damaged.now below c.in-Some.ensures.lookup.1 in
    omega (arith, c.requires.ends, fault_ends bodies body c.in-Err-Damaged.at (c.in-Err-Damaged.ensures.damaged body c.in-Err-Damaged.at c.in-Err-Damaged.field-0-is) c.in-Some.damaged.now found c.requires.places c.bodies_make_one_thing.ensures.within)

pub returns-in-Err-Damaged-clause-damaged : goal.returns-in-Err-Damaged-clause-damaged
returns-in-Err-Damaged-clause-damaged c offset is =
    let bodies = c.args.bodies.now in
    let body = c.in-Err-Damaged.body in
    let below : body < length bodies = grind (arith, nat_tests, c.in-Some.ensures.lookup.0) in
    let found = found_there bodies body c.in-Some.damaged.now below c.in-Some.ensures.lookup.1 in
    subst (IsFaultIn (bodies_in bodies)) (cc is) (fault_in bodies body c.in-Err-Damaged.at (c.in-Err-Damaged.ensures.damaged body c.in-Err-Damaged.at c.in-Err-Damaged.field-0-is) c.in-Some.damaged.now found c.requires.places)

pub returns-then-recorded-nodes-clause-nodes : goal.returns-then-recorded-nodes-clause-nodes
returns-then-recorded-nodes-clause-nodes c recorded given is =
    let one : c.nodes-recorded.result ≡ recorded = cc is in
    let two : c.args.nodes ≡ given = cc is in
    let makes = subst (λ (o : Option View). Makes (bodies_in c.args.bodies.now) (made_in o)) c.in-Some-found.is c.in-Ok.ensures.made in (
      sym two,
      λ same. grind (arith, nat_tests, c.if-recorded-nodes.true, one, same),
      (c.in-Some-found.containers.made, makes, sym c.nodes-recorded.ensures.count ∙ one),
    )
