use Rattle.std.proofs.Common.{◌∙◌, Ok, ap, sym}
use Rattle.oz_service.proofs.Going.{goes_then}
use Rattle.oz_service.proofs.Passing.{neither, one_stripe_more}
use Rattle.oz_service.proofs.pass.passing.Service+Ledger+O+O+R.purge_all.Goals as goal

pub returns-in_err-purged-clause-goes_on : goal.returns-in_err-purged-clause-goes_on
returns-in_err-purged-clause-goes_on g c =
    goes_then c.args.self.now c.loop-stripe.self c.purge.new.self c.loop-stripe.invariant.goes_on c.in_err-purged.ensures.goes_on

pub loop-stripe-preserved : goal.loop-stripe-preserved
loop-stripe-preserved g c =
    let before = c.loop-stripe.invariant in
    let its = c.in_ok-purged.ensures in record {
      none = its.none;
      goes_on = goes_then c.args.self.now c.loop-stripe.self c.purge.new.self before.goes_on its.goes_on;
      idle = λ e.
          let both = neither c.loop-stripe.any c.in_ok-purged.purged (sym c.either-any.ensures ∙ e) in
          one_stripe_more g.O.Opened.coherent g.O.Opened.opening g.L.Loaded.rows c.loop-stripe.stripe c.args.self.now.seen c.loop-stripe.self.seen c.purge.new.self.seen
          before.goes_on.seen its.goes_on.seen (before.idle both.0) (its.idle (ap Ok both.1));
    }
