use Rattle.std.proofs.Common.{◌≡◌, ◌≢◌, false, None, sym, ap, ◌∙◌, subst}
use Rattle.std.specs.Prelude.{OnOk}
use Rattle.oz_core.specs.declared.event.Node.TheVariants.{Datanode}
use Rattle.oz_core.specs.Manager.{halt_of}
use Rattle.oz_turn.specs.Seat.{seen_of}
use Rattle.oz_node_admin.specs.Commands.{HasBeen}
use Rattle.oz_node_admin.proofs.halting.take_down_locked.Goals as goal

pub tell_down-requires-clause-halted : goal.tell_down-requires-clause-halted
tell_down-requires-clause-halted g c =
    let number : c.cell.inside.kept.dn ≡ c.args.dn =
    sym c.cell.invariant.stood.number ∙ (ap (λ v. v.node.id) c.cell.view_is ∙ c.requires.its) in
    subst (λ n. halt_of (Datanode n) (seen_of c.args.seat.now) ≢ None) (sym number) c.requires.halted

pub invariant_of-cell : goal.invariant_of-cell
invariant_of-cell g c =
    let told = c.tell_down.ensures in
    record {
      idle = c.cell.invariant.idle;
      stood = c.it_stands_where_it_saw_more.ensures c.cell.inside.kept c.tell_down.new.kept c.cell.inside.node told.kept_before told.kept c.cell.invariant.stood told.number told.its told.goes_on;
    }

pub returns-clause-down : goal.returns-clause-down
returns-clause-down g c =
    let number : c.cell.inside.kept.dn ≡ c.args.dn =
    sym c.cell.invariant.stood.number ∙ (ap (λ v. v.node.id) c.cell.view_is ∙ c.requires.its) in
    subst (λ n. OnOk c.tell_down.result (HasBeen g.O.Opened.coherent n false (seen_of c.args.seat.now) (seen_of c.tell_down.new.seat))) number c.tell_down.ensures.down
