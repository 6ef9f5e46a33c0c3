use Rattle.std.proofs.Common.{sym, ◌∙◌}
use Rattle.std.proofs.lemmas.Bool.{false≢true}
use Rattle.oz_scm_events.proofs.Kept.{kept_new}
use Rattle.oz_scm_events.proofs.cell.ScmCell.make.Goals as goal

pub invariant_of-result : goal.invariant_of-result
invariant_of-result g c =
    let r = c.requires in
    (r.seat.ready, kept_new g.O.Opened.opening _ c.args.scm _ _ _ r.seat.seen r.seat.mine r.running r.nodes r.next r.containers r.up r.log r.faults, λ coherent stopped. absurd (false≢true (sym r.running ∙ stopped)))
