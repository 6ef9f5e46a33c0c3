use Rattle.std.proofs.Common.{◌≡◌, ◌<◌, ◌≤◌, length, rules, ◌∙◌}
use Rattle.oz_names.specs.declared.limits.TheConstants.{STRIPES}
use Rattle.oz_turn.specs.Seat.{seen_of}
use Rattle.oz_om.specs.Purging.{OneWasRefused}
use Rattle.oz_om.proofs.Purges.{first_purged, no_length, none_further, one_refused, refused_through}
use Rattle.oz_om.proofs.Works.{begins_further}
use Rattle.oz_om.proofs.purging.Manager+Ledger+O+O+L+R.purge_blocks.Goals as goal

pub returns-in_err-purged-clause-refused : goal.returns-in_err-purged-clause-refused
returns-in_err-purged-clause-refused g c =
    let within : c.loop-stripe.stripe < STRIPES = search rules in
    let first = seen_of c.args.seat.now in
    let after = seen_of c.purge_in.new.seat in
    refused_through (OneWasRefused g.O.Opened.coherent g.O.Opened.opening g.L.Loaded.rows first after) c.from_residual.result c.in_err-purged.field-0.0 c.from_residual.ensures.1
    (one_refused g.O.Opened.coherent g.O.Opened.opening g.L.Loaded.rows first (seen_of c.loop-stripe.seat) after c.in_err-purged.ensures.shown.goes_on c.loop-stripe.stripe
    c.loop-stripe.invariant.none c.loop-stripe.invariant.goes_on within c.in_err-purged.field-0.0 c.in_err-purged.ensures.refused)

pub returns-then-not-is_empty-clause-purged : goal.returns-then-not-is_empty-clause-purged
returns-then-not-is_empty-clause-purged g c =
    let within : c.loop-stripe.stripe < STRIPES = search rules in
    let some : 1 ≤ length c.in_ok-purged.purged.rows.items = search rules in
    let w = c.in_ok-purged.ensures in
    first_purged g.O.Opened.coherent g.O.Opened.opening g.L.Loaded.rows (seen_of c.args.seat.now) (seen_of c.loop-stripe.seat) (seen_of c.purge_in.new.seat) w.shown.goes_on
    c.loop-stripe.stripe c.loop-stripe.invariant.none c.loop-stripe.invariant.goes_on within c.in_ok-purged.purged w.purged some

pub loop-stripe-preserved : goal.loop-stripe-preserved
loop-stripe-preserved g c =
    let none : length c.in_ok-purged.purged.rows.items ≡ 0 = search rules in
    let w = c.in_ok-purged.ensures in
    let before = c.loop-stripe.invariant in record {
      ready = w.shown.ready;
      room = w.shown.room ∙ before.room;
      mine = w.shown.mine ∙ before.mine;
      goes_on = begins_further (seen_of c.args.seat.now) (seen_of c.loop-stripe.seat) (seen_of c.purge_in.new.seat) w.shown.goes_on before.goes_on;
      none = none_further g.O.Opened.coherent g.O.Opened.opening g.L.Loaded.rows (seen_of c.args.seat.now) (seen_of c.loop-stripe.seat) (seen_of c.purge_in.new.seat)
          w.shown.goes_on c.loop-stripe.stripe before.none before.goes_on c.in_ok-purged.purged w.purged (no_length c.in_ok-purged.purged.rows.items none);
    }
