use Rattle.std.proofs.Common.{[], ◌∷◌, OnOk, refl, sym, ap, ◌∙◌, subst}
use Rattle.oz_turn.specs.Seat.{seen_of}
use Rattle.oz_datanode.specs.Datanode.{count_of, is_halted}
use Rattle.oz_service.specs.TakenDown.{HasSeenMore, ToldDowns, left_up}
use Rattle.oz_service.proofs.Downs.{begins_itself, halted_stands_still, on_err, on_ok, told_none, told_one, unhalted_one}
use Rattle.oz_service.proofs.all_locked.taking_down.take_down_node.Goals as goal

pub tell_down-requires-clause-still : goal.tell_down-requires-clause-still
tell_down-requires-clause-still g c =
    let node = c.cell.inside.node in
    let kept = c.cell.inside.kept in
    halted_stands_still kept.dn kept.mine (is_halted node) (count_of g.D.Disk.faults node) c.cell.invariant.stood.halt (sym c.halted-halted.ensures.halted ∙ c.if-not-halted.false)

pub invariant_of-cell : goal.invariant_of-cell
invariant_of-cell g c =
    let told = c.tell_down.ensures in
    record {
      idle = c.cell.invariant.idle;
      stood = c.it_stands_where_it_saw_more.ensures c.cell.inside.kept c.tell_down.new.kept c.cell.inside.node told.kept_before told.kept
          c.cell.invariant.stood (ap (λ v. v.dn) told.seen) (ap (λ v. v.mine) told.seen) told.goes_on;
    }

pub returns-then-not-halted-clause-told : goal.returns-then-not-halted-clause-told
returns-then-not-halted-clause-told g c =
    let scm = c.args.scm.now in
    let node = c.cell.inside.node in
    subst (λ x. ToldDowns (left_up scm.mine (x ∷ [])) scm scm) c.cell.view_is
    (subst (λ l. ToldDowns l scm scm) (unhalted_one scm.mine node (sym c.halted-halted.ensures.halted ∙ c.if-not-halted.true))
    (told_none scm scm refl refl refl (begins_itself scm.seen)))

pub returns-then-not-halted-clause-looked : goal.returns-then-not-halted-clause-looked
returns-then-not-halted-clause-looked g c =
    record { ready = c.requires.seat.ready; begins = begins_itself (seen_of c.args.seat.now); mine = refl; room = refl }

pub returns-clause-told : goal.returns-clause-told
returns-clause-told g c =
    let scm = c.args.scm.now in
    let after = c.tell_down.new.scm in
    let tell = c.tell_down.ensures in
    let node = c.cell.inside.node in
    let kept = c.cell.inside.kept in
    subst (λ x. OnOk c.tell_down.result (ToldDowns (left_up scm.mine (x ∷ [])) scm after)) c.cell.view_is
    (on_ok c.tell_down.result
    (λ told. record {
      mine = told_one scm.mine after.mine node kept.dn c.cell.invariant.stood.number (sym c.halted-halted.ensures.halted ∙ c.if-not-halted.false) told.0 told.1;
      scm = tell.scm;
      room = tell.scm_room;
      begins = tell.scm_goes_on;
    }) tell.told)

pub returns-clause-lacks : goal.returns-clause-lacks
returns-clause-lacks g c =
    let tell = c.tell_down.ensures in
    on_err c.tell_down.result (λ mine. told_none c.args.scm.now c.tell_down.new.scm tell.scm mine tell.scm_room tell.scm_goes_on) tell.lacks

pub returns-clause-same : goal.returns-clause-same
returns-clause-same g c =
    let node = c.cell.inside.node in
    let tell = c.tell_down.ensures in
    subst (λ x. HasSeenMore x (record { node = node; kept = c.tell_down.new.kept })) c.cell.view_is
    (record { same = ap (λ k. record { node = node; kept = k }) tell.seen; begins = tell.goes_on })
