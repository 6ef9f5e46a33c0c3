use Rattle.std.specs.Prelude.{Some}
use Rattle.std.proofs.Common.{◌≡◌, inl, ℕ, [], append-nil, refl, sym, ap, ◌∙◌, subst}
use Rattle.oz_core.specs.declared.event.Node.TheVariants.{Datanode}
use Rattle.oz_core.specs.Manager.{halt_of}
use Rattle.oz_datanode.specs.Datanode.{count_of}
use Rattle.oz_turn.specs.Seat.{seen_of}
use Rattle.oz_node_admin.specs.Wipes.{WipeComesTo}
use Rattle.oz_node_admin.proofs.Emptying.{halt_told, wiped_so}
use Rattle.oz_node_admin.proofs.wiped.wipe.Goals as goal

pub returns-then-halted-clause-stays : goal.returns-then-halted-clause-stays
returns-then-halted-clause-stays g c =
    let show = c.show.ensures in
    record {
      number = show.number;
      kept = show.kept;
      stands = c.it_stands_where_it_saw_more.ensures c.args.kept.now c.show.new.self c.args.node.now show.kept_before show.kept c.requires.stood show.number show.mine show.goes_on;
      goes_on = show.goes_on;
    }

pub returns-then-halted-clause-comes_to : goal.returns-then-halted-clause-comes_to
returns-then-halted-clause-comes_to g c =
    let O = g.O.Opened in
    let D = g.D.Disk in
    let view = c.args.kept.now in
    let node = c.args.node.now in
    let later = c.show.new.self in
    let show = c.show.ensures in
    let stood = c.it_stands_where_it_saw_more.ensures view later node show.kept_before show.kept c.requires.stood show.number show.mine show.goes_on in
    let halted = sym c.halted.ensures.halted ∙ c.if-halted.true in
    inl (record {
      halted = halted;
      counted = c.count.ensures;
      seen = ap (halt_of (Datanode view.dn)) show.other_seen
          ∙ (subst (λ n. halt_of (Datanode n) later.seen ≡ Some (count_of D.faults node)) show.number
          (halt_told O.coherent O.opening O.bytes O.script O.faults D.told D.clock D.image D.faults later node
          (λ story dn all. c.its_seat_alone_tells.ensures.halt story dn all) show.kept stood halted)
          ∙ ap (λ (n : ℕ). Some n) (sym c.count.ensures));
      untouched = record { node = refl; number = show.number; its = show.mine; last = show.last; scm = refl; of_the_scm = refl };
    })

pub returns-in_err-ready-clause-stays : goal.returns-in_err-ready-clause-stays
returns-in_err-ready-clause-stays g c =
    record { number = refl; kept = c.is_kept.ensures; stands = c.requires.stood; goes_on = ([], sym (append-nil c.args.kept.now.seen)) }

pub carry_out-requires-clause-able : goal.carry_out-requires-clause-able
carry_out-requires-clause-able g c = record { unhalted = sym c.halted.ensures.halted ∙ c.if-halted.false; kept = c.is_kept.ensures; stood = c.requires.stood }

pub returns-in-Ok-clause-comes_to : goal.returns-in-Ok-clause-comes_to
returns-in-Ok-clause-comes_to g c =
    let O = g.O.Opened in
    let D = g.D.Disk in
    let room = c.ready.ensures in
    let done = c.in-Ok.ensures in
    let line = c.args.line.now in
    let view = c.args.kept.now in
    let kept = c.carry_out.new.kept in
    let old = c.args.node.now in
    let new = c.carry_out.new.node in
    let seen = seen_of c.args.seat.now in
    let later = seen_of c.carry_out.new.seat in
    let stays = c.carry_out.ensures.stays in
    subst (λ r. WipeComesTo (record { node = old; kept = view }) (record { node = new; kept = kept }) c.args.scm.now c.carry_out.new.scm D.told D.clock D.image D.faults O.coherent O.script line seen later r)
    (sym c.answer_of.ensures)
    (wiped_so D.told D.clock D.image D.faults O.coherent O.script line old new view kept c.args.scm.now c.ready.new.self c.carry_out.new.scm seen later
    (sym c.halted.ensures.halted ∙ c.if-halted.false) room.same.0 room.same.1
    (λ halted. ap (halt_of (Datanode view.dn)) c.carry_out.ensures.seen
    ∙ subst (λ n. halt_of (Datanode n) kept.seen ≡ Some (count_of D.faults new)) stays.number
    (halt_told O.coherent O.opening O.bytes O.script O.faults D.told D.clock D.image D.faults kept new
    (λ story dn all. c.its_seat_alone_tells.ensures.halt story dn all) stays.kept stays.stands halted))
    c.in-Ok.done done.empties done.seats done.last done.has_told)

pub returns-in-Err-clause-comes_to : goal.returns-in-Err-clause-comes_to
returns-in-Err-clause-comes_to g c =
    let room = c.ready.ensures in
    let left = c.in-Err.ensures in (
      sym c.halted.ensures.halted ∙ c.if-halted.false,
      record {
        node = left.undone.node;
        number = c.carry_out.ensures.stays.number;
        its = left.undone.its;
        last = left.undone.last;
        scm = left.scm_left.0 ∙ room.same.0;
        of_the_scm = left.scm_left.1 ∙ room.same.1;
      },
    )
