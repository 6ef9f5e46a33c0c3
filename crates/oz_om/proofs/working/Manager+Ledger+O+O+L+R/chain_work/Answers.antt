use Rattle.std.proofs.Common.{◌≡◌, ◌<◌, true, false, is_some, rules, ◌∙◌}
use Rattle.oz_names.specs.declared.limits.TheConstants.{STRIPES}
use Rattle.oz_turn.specs.Seat.{seen_of}
use Rattle.oz_om.specs.Working.{HadWork}
use Rattle.oz_om.proofs.Works.{begins_further, first_of, none_longer, none_more, none_of}
use Rattle.oz_om.proofs.working.Manager+Ledger+O+O+L+R.chain_work.Goals as goal

pub returns-then-is_some-clause-work : goal.returns-then-is_some-clause-work
returns-then-is_some-clause-work g c = λ coherent.
    let is : is_some c.in_ok-work.work ≡ true = search rules in
    let within : c.loop-stripe.stripe < STRIPES = search rules in
    let w = c.in_ok-work.ensures in
    first_of g.O.Opened.opening g.L.Loaded.rows c.loop-stripe.stripe (seen_of c.args.seat.now) (seen_of c.work_in.new.seat) c.in_ok-work.work is within
    (none_longer g.O.Opened.opening g.L.Loaded.rows c.loop-stripe.stripe (seen_of c.args.seat.now) (seen_of c.loop-stripe.seat) (seen_of c.work_in.new.seat) (c.loop-stripe.invariant.none coherent) w.shown.goes_on)
    (w.work coherent)

pub loop-stripe-preserved : goal.loop-stripe-preserved
loop-stripe-preserved g c =
    let is : is_some c.in_ok-work.work ≡ false = search rules in
    let w = c.in_ok-work.ensures in
    let before = c.loop-stripe.invariant in record {
      ready = w.shown.ready;
      room = w.shown.room ∙ before.room;
      mine = w.shown.mine ∙ before.mine;
      goes_on = begins_further (seen_of c.args.seat.now) (seen_of c.loop-stripe.seat) (seen_of c.work_in.new.seat) w.shown.goes_on before.goes_on;
      none = λ coherent. none_more g.O.Opened.opening g.L.Loaded.rows c.loop-stripe.stripe (seen_of c.args.seat.now) (seen_of c.loop-stripe.seat) (seen_of c.work_in.new.seat)
          (before.none coherent) w.shown.goes_on before.goes_on
          (none_of c.in_ok-work.work is (λ o. HadWork g.O.Opened.opening g.L.Loaded.rows c.loop-stripe.stripe (seen_of c.work_in.new.seat) o) (w.work coherent));
    }
