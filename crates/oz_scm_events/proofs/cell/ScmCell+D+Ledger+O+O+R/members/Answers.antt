use Rattle.std.specs.FinMap.{get}
use Rattle.std.specs.Option.{option_map}
use Rattle.std.proofs.Common.{◌≡◌, ap, ◌∙◌, subst}
use Rattle.oz_core.specs.Scm.{Containers, containers}
use Rattle.oz_scm.specs.declared.grants.container.Container.{Container as MadeContainer}
use Rattle.oz_scm.specs.grants.Made.{Made, container_at}
use Rattle.oz_nodes.specs.Pipelines.{members_of}
use Rattle.oz_turn.specs.Seat.{seen_of}
use Rattle.oz_scm_events.proofs.Members.{members_are, none_are}
use Rattle.oz_scm_events.proofs.cell.ScmCell+D+Ledger+O+O+R.members.Goals as goal

pub returns-clause-made : goal.returns-clause-made
returns-clause-made g c coherent =
    let O = g.O.Opened in
    let story = seen_of c.show.new.seat in
    let kept = c.is_kept.ensures in
    let its = subst (λ (made : Made). c.members.result ≡ option_map (λ (one : MadeContainer). members_of made.nodes one.pipeline) (container_at made.containers c.args.container))
    (ap (λ v. v.scm.made) c.self.view_is) c.members.ensures in
    members_are O.opening story c.args.container c.show.new.self.scm.made kept.nodes c.members.result its
    (ap (λ (all : Containers). get all c.args.container) (c.the_scm_alone_tells.ensures.containers story coherent c.show.ensures.follow ∙ ap (λ l. containers O.opening l) c.show.ensures.shown)
    ∙ kept.made c.args.container)

pub returns-clause-none : goal.returns-clause-none
returns-clause-none g c coherent none =
    let O = g.O.Opened in
    let story = seen_of c.show.new.seat in
    let kept = c.is_kept.ensures in
    let its = subst (λ (made : Made). c.members.result ≡ option_map (λ (one : MadeContainer). members_of made.nodes one.pipeline) (container_at made.containers c.args.container))
    (ap (λ v. v.scm.made) c.self.view_is) c.members.ensures in
    none_are O.opening story c.args.container c.show.new.self.scm.made kept.nodes c.members.result its
    (ap (λ (all : Containers). get all c.args.container) (c.the_scm_alone_tells.ensures.containers story coherent c.show.ensures.follow ∙ ap (λ l. containers O.opening l) c.show.ensures.shown)
    ∙ kept.made c.args.container) none
