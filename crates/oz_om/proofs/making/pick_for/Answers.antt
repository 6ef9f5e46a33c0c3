use Rattle.std.proofs.Common.{None, sym, ◌∙◌, subst}
use Rattle.std.specs.Prelude.{All}
use Rattle.oz_core.specs.declared.event.Event.{Event}
use Rattle.oz_locks.specs.Pool.{AreFresh, GrantFits, pool_of}
use Rattle.oz_om.specs.Held.{IsPickFor}
use Rattle.oz_requests.specs.declared.request.Request.{Request}
use Rattle.std.specs.Prelude.{List, drop, take}
use Rattle.oz_om.proofs.Granting.{grants_are_fresh, grants_fit}
use Rattle.oz_om.proofs.Legal.{legal_of}
use Rattle.oz_om.proofs.making.pick_for.Goals as goal

pub grant-requires-clause-fit : goal.grant-requires-clause-fit
grant-requires-clause-fit g c = λ agreed.
    subst (λ (l : List Event). All (λ (event : Event). GrantFits event.kind) l) (sym c.requires.held.seen)
    (grants_fit g.O.Opened.opening c.args.ledger.now.story
    (legal_of g.O.Opened.coherent g.O.Opened.opening g.O.Opened.bytes g.O.Opened.script (c.requires.opens.agrees.1 agreed) c.args.ledger.now.story c.requires.held.follow))

pub grant-requires-clause-fresh : goal.grant-requires-clause-fresh
grant-requires-clause-fresh g c = λ agreed.
    subst (λ (l : List Event). AreFresh c.args.stripe.now.number (take c.args.stripe.now.known l) (drop c.args.stripe.now.known l)) (sym c.requires.held.seen)
    (grants_are_fresh g.O.Opened.opening c.args.ledger.now.story
    (legal_of g.O.Opened.coherent g.O.Opened.opening g.O.Opened.bytes g.O.Opened.script (c.requires.opens.agrees.1 agreed) c.args.ledger.now.story c.requires.held.follow)
    c.args.stripe.now.number c.args.stripe.now.known)

pub returns-in-None-clause-picked : goal.returns-in-None-clause-picked
returns-in-None-clause-picked g c =
    let granted = c.in_ok-grant.ensures in
    subst (λ (r : Request). IsPickFor g.L.Loaded.coherent c.grant.new.self r None) (sym c.in-AllocateBlock.is)
    (record {
      left = λ agreed. granted.pool agreed ∙ (λ i. pool_of (sym granted.ok i).number (sym granted.ok i).seen (sym granted.ok i).mine);
      first = c.in-None.ensures;
    })
