use Rattle.std.proofs.Common.{List, ap, drop, length, take, ◌++◌, ◌-◌, ◌∙◌}
use Rattle.std.proofs.lemmas.List.{take_rest}
use Rattle.oz_locks.specs.Pool.{blocks_granted}
use Rattle.oz_locks.specs.Stripe.{StripeView}
use Rattle.oz_locks.specs.declared.pool.FreeBlock.{FreeBlock}
use Rattle.oz_locks.proofs.Seated.{whole_known}
use Rattle.oz_locks.proofs.stripe.Stripe.grant.Goals as goal

pub invariant_of-self-2 : goal.invariant_of-self-2
invariant_of-self-2 g c =
    let s = c.self.inside in
    (whole_known _ _ _ _ _ _ _ _ _ _ _ _ _ _ _ _ _ c.self.view_is c.self.invariant c.requires.story c.requires.fit c.requires.fresh
    (take_rest c.args.story.now s.known)
    (λ fit. c.add_granted.ensures fit
    ∙ ap (λ (l : List FreeBlock). l ++ blocks_granted s.number (take (length c.args.story.now - s.known) (drop s.known c.args.story.now))) c.in_ok-reserve.ensures.items)).1

pub returns-clause-ok : goal.returns-clause-ok
returns-clause-ok g c =
    let v = c.args.self.now in
    ap (λ (v : StripeView _). record v { pool = c.add_granted.new.pool.items; known = length c.args.story.now }) c.self.view_is
    ∙ ap (λ n. record v { pool = c.add_granted.new.pool.items; known = n }) (ap length c.requires.story)

pub returns-clause-pool : goal.returns-clause-pool
returns-clause-pool g c =
    let s = c.self.inside in
    (whole_known _ _ _ _ _ _ _ _ _ _ _ _ _ _ _ _ _ c.self.view_is c.self.invariant c.requires.story c.requires.fit c.requires.fresh
    (take_rest c.args.story.now s.known)
    (λ fit. c.add_granted.ensures fit
    ∙ ap (λ (l : List FreeBlock). l ++ blocks_granted s.number (take (length c.args.story.now - s.known) (drop s.known c.args.story.now))) c.in_ok-reserve.ensures.items)).0
