use Rattle.std.proofs.Common.{rules, ◌≡◌, false, Ok, ap}
use Rattle.oz_names.specs.declared.limits.TheConstants.{STRIPES}
use Rattle.oz_service.proofs.Going.{begins_same, goes_then}
use Rattle.oz_service.proofs.Passing.{work_around}
use Rattle.oz_service.proofs.pass.passing.Service+Ledger+O+O+R.work_off.Goals as goal

pub returns-in_err-chain-clause-goes_on : goal.returns-in_err-chain-clause-goes_on
returns-in_err-chain-clause-goes_on g c =
    goes_then c.args.self.now c.loop.self c.chain.new.self c.loop.invariant.goes_on c.in_err-chain.ensures.goes_on

pub returns-then-not-branch-clause-goes_on : goal.returns-then-not-branch-clause-goes_on
returns-then-not-branch-clause-goes_on g c =
    goes_then c.args.self.now c.loop.self c.chain.new.self c.loop.invariant.goes_on c.in_ok-chain.ensures.goes_on

pub returns-then-not-branch-clause-idle : goal.returns-then-not-branch-clause-idle
returns-then-not-branch-clause-idle g c = λ coherent same.
    let none : c.in_ok-chain.field-0 ≡ false = search rules in
    let after = c.chain.new.self.seen in
    work_around c.args.self.now.seen c.loop.self.seen after after c.loop.invariant.goes_on.seen (begins_same after)
    g.O.Opened.opening g.L.Loaded.rows STRIPES (c.in_ok-chain.ensures.work coherent (ap Ok none))

pub loop-preserved : goal.loop-preserved
loop-preserved g c = record {
  none = c.in_ok-chain.ensures.none;
  goes_on = goes_then c.args.self.now c.loop.self c.chain.new.self c.loop.invariant.goes_on c.in_ok-chain.ensures.goes_on;
}
