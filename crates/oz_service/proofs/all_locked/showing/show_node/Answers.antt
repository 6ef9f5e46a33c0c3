use Rattle.std.proofs.Common.{ap, ◌∙◌}
use Rattle.oz_service.specs.AllLocked.{node_shown}
use Rattle.oz_turn.specs.Seat.{seen_of}
use Rattle.oz_service.proofs.all_locked.showing.show_node.Goals as goal

pub invariant_of-cell : goal.invariant_of-cell
invariant_of-cell g c =
    let shown = c.be_shown.ensures in
    record {
      idle = c.cell.invariant.idle;
      stood = c.it_stands_where_it_saw_more.ensures c.cell.inside.kept c.be_shown.new.self c.cell.inside.node shown.kept_before shown.kept
          c.cell.invariant.stood (ap (λ v. v.dn) shown.seen) (ap (λ v. v.mine) shown.seen) shown.goes_on;
    }

pub returns-clause-same : goal.returns-clause-same
returns-clause-same g c =
    let shown = c.be_shown.ensures in
    let cell = c.cell.inside in
    ap (λ k. record { node = cell.node; kept = k }) (shown.seen ∙ ap (λ l. record cell.kept { seen = l }) (ap (λ s. s.seen) shown.share))
    ∙ ap (node_shown (seen_of c.args.holder.now)) c.cell.view_is
