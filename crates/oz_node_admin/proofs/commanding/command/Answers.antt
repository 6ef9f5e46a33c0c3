use Rattle.std.specs.Prelude.{Ok}
use Rattle.std.proofs.Common.{[], append-nil, refl, sym, ◌∙◌, subst}
use Rattle.oz_scm_events.specs.Tracked.{IsTracked}
use Rattle.oz_node_admin.proofs.Told.{scm_as}
use Rattle.oz_node_admin.proofs.commanding.command.Goals as goal

pub returns-then-halted-clause-stays : goal.returns-then-halted-clause-stays
returns-then-halted-clause-stays g c =
    let show = c.show.ensures in
    record {
      number = show.number;
      kept = show.kept;
      stands = c.it_stands_where_it_saw_more.ensures c.args.kept.now c.show.new.self c.args.node.now show.kept_before show.kept c.requires.stood show.number show.mine show.goes_on;
      goes_on = show.goes_on;
    }

pub returns-in_err-ready-clause-stays : goal.returns-in_err-ready-clause-stays
returns-in_err-ready-clause-stays g c =
    record { number = refl; kept = c.is_kept.ensures; stands = c.requires.stood; goes_on = ([], sym (append-nil c.args.kept.now.seen)) }

pub carry_out-requires-clause-able : goal.carry_out-requires-clause-able
carry_out-requires-clause-able g c = record { unhalted = sym c.halted.ensures.halted ∙ c.if-halted.false; kept = c.is_kept.ensures; stood = c.requires.stood }

pub returns-in-Ok-clause-comes_to : goal.returns-in-Ok-clause-comes_to
returns-in-Ok-clause-comes_to g c =
    let room = c.ready.ensures in
    let done = c.in-Ok.ensures in
    let runs = c.args.runs in
    let view = c.args.kept.now in
    let before = c.args.scm.now in
    let after = c.carry_out.new.scm in
    record {
      unhalted = sym c.halted.ensures.halted ∙ c.if-halted.false;
      node = done.node;
      number = c.carry_out.ensures.stays.number;
      its = done.its;
      last = done.last;
      changed = c.in-Ok._changed;
      of_the_scm = subst (λ l. IsTracked {E = Unit {0}} view.dn runs l after.mine (Ok c.in-Ok._changed)) room.same.1 done.of_the_scm;
      scm = scm_as after.scm c.ready.new.self.scm before.scm view.dn view.dn runs done.scm room.same.0 refl;
      has_been = done.has_been;
    }

pub returns-in-Err-clause-comes_to : goal.returns-in-Err-clause-comes_to
returns-in-Err-clause-comes_to g c =
    let room = c.ready.ensures in
    let left = c.in-Err.ensures in (
      sym c.halted.ensures.halted ∙ c.if-halted.false,
      record {
        node = left.left.node;
        number = c.carry_out.ensures.stays.number;
        its = left.left.its;
        last = left.left.last;
        scm = left.scm_left.0 ∙ room.same.0;
        of_the_scm = left.scm_left.1 ∙ room.same.1;
      },
    )
