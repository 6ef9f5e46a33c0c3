use Rattle.std.proofs.Common.{sym, subst}
use Rattle.oz_node_events.specs.Led.{AreForLines, no_lines}
use Rattle.oz_repl.specs.views.Away.{StaysAway}
use Rattle.oz_repl.specs.views.laws.Untold.{away_first}
use Rattle.oz_node_events.proofs.ForLines.{for_none}
use Rattle.oz_node_events.proofs.Led.{led_new}
use Rattle.oz_node_events.proofs.Own.{kept_new}
use Rattle.oz_node_events.proofs.seat.NodeSeat.make.Goals as goal

pub invariant_of-result : goal.invariant_of-result
invariant_of-result g c =
    let O = g.O.Opened in
    let r = c.requires in (
      r.seat.ready,
      r.seat.room,
      kept_new O.coherent O.opening O.bytes O.script c.args.dn _ _ r.few r.there r.numbered r.seat.seen r.seat.mine,
      λ coherent. led_new O.script c.args.dn _ _
          (subst (AreForLines O.script c.args.dn no_lines) (sym r.seat.seen) (for_none O.script c.args.dn no_lines)) r.seat.mine,
      λ coherent. subst (StaysAway O.opening c.args.dn) (sym r.seat.seen) (away_first O.opening c.args.dn),
    )
