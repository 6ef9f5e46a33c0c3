use Rattle.std.proofs.Common.{◌≡◌, List, ap, subst, ◌∙◌}
use Rattle.std.specs.Prelude.{Bool}
use Rattle.oz_core.specs.Scm.{is_up}
use Rattle.oz_nodes.specs.Pipelines.{is_node_up}
use Rattle.oz_scm_events.proofs.Kept.{among_ups}
use Rattle.oz_scm_events.proofs.Ups.{one_of_ups}
use Rattle.oz_turn.specs.Seat.{mine_of}
use Rattle.oz_scm_events.proofs.cell.ScmCell.is_up.Goals as goal

pub is_up-requires : goal.is_up-requires
is_up-requires g c = among_ups g.O.Opened.opening c.self.inside.scm _ _ _ c.self.invariant.1 c.args.dn c.requires

pub returns : goal.returns
returns g c =
    subst (λ v. c.is_up.result ≡ is_up c.args.dn v.mine) c.self.view_is
    (c.is_up.ensures ∙ ap (λ (ups : List Bool). is_node_up ups c.args.dn) c.self.invariant.1.up
    ∙ one_of_ups g.O.Opened.opening (mine_of c.self.inside.seat) c.args.dn c.requires)
