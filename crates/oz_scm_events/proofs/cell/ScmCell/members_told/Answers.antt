use Rattle.std.specs.FinMap.{get}
use Rattle.std.proofs.Common.{◌≡◌, IfSome, None, subst}
use Rattle.oz_core.specs.Scm.{containers, members}
use Rattle.oz_turn.specs.Seat.{mine_of}
use Rattle.oz_scm_events.proofs.Members.{members_are, none_are}
use Rattle.oz_scm_events.proofs.cell.ScmCell.members_told.Goals as goal

pub returns-clause-made : goal.returns-clause-made
returns-clause-made g c =
    let O = g.O.Opened in
    let kept = c.self.invariant.1 in
    subst (λ v. IfSome c.members.result (λ dns. members O.opening v.mine c.args.container ≡ dns)) c.self.view_is
    (members_are O.opening (mine_of c.self.inside.seat) c.args.container c.self.inside.scm.made kept.nodes c.members.result c.members.ensures (kept.made c.args.container))

pub returns-clause-none : goal.returns-clause-none
returns-clause-none g c =
    let O = g.O.Opened in
    let kept = c.self.invariant.1 in
    subst (λ v. c.members.result ≡ None → get (containers O.opening v.mine) c.args.container ≡ None) c.self.view_is
    (none_are O.opening (mine_of c.self.inside.seat) c.args.container c.self.inside.scm.made kept.nodes c.members.result c.members.ensures (kept.made c.args.container))
