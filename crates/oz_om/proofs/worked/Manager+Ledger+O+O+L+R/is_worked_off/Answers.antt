use Rattle.std.proofs.Common.{◌≡◌, ◌<◌, true, false, rules, ◌∙◌}
use Rattle.oz_names.specs.declared.limits.TheConstants.{STRIPES}
use Rattle.oz_turn.specs.Seat.{seen_of}
use Rattle.oz_om.proofs.Remains.{one_left, one_more}
use Rattle.oz_om.proofs.Works.{begins_further}
use Rattle.oz_om.proofs.worked.Manager+Ledger+O+O+L+R.is_worked_off.Goals as goal

pub returns-then-not-is_over-clause-answered : goal.returns-then-not-is_over-clause-answered
returns-then-not-is_over-clause-answered g c = λ coherent.
    let not : c.in_ok-is_over.is_over ≡ false = search rules in
    let within : c.loop-stripe.stripe < STRIPES = search rules in
    let w = c.in_ok-is_over.ensures in
    one_left g.O.Opened.opening g.L.Loaded.rows (seen_of c.args.seat.now) (seen_of c.loop-stripe.seat) (seen_of c.is_worked_off_in.new.seat) w.shown.goes_on
    c.loop-stripe.stripe (c.loop-stripe.invariant.were coherent) within c.in_ok-is_over.is_over not (w.answered coherent)

pub loop-stripe-preserved : goal.loop-stripe-preserved
loop-stripe-preserved g c =
    let is : c.in_ok-is_over.is_over ≡ true = search rules in
    let w = c.in_ok-is_over.ensures in
    let before = c.loop-stripe.invariant in record {
      ready = w.shown.ready;
      room = w.shown.room ∙ before.room;
      mine = w.shown.mine ∙ before.mine;
      goes_on = begins_further (seen_of c.args.seat.now) (seen_of c.loop-stripe.seat) (seen_of c.is_worked_off_in.new.seat) w.shown.goes_on before.goes_on;
      were = λ coherent. one_more g.O.Opened.opening g.L.Loaded.rows (seen_of c.args.seat.now) (seen_of c.loop-stripe.seat) (seen_of c.is_worked_off_in.new.seat)
          w.shown.goes_on c.loop-stripe.stripe (before.were coherent) before.goes_on c.in_ok-is_over.is_over is (w.answered coherent);
    }
