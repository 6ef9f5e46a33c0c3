use Rattle.std.proofs.Common.{[], refl, sym, ◌∙◌, subst, append-nil, arith}
use Rattle.oz_turn.specs.Seat.{IsReady, seen_of}
use Rattle.oz_node_admin.proofs.Down.{next_down}
use Rattle.oz_node_admin.proofs.Told.{begins_through}
use Rattle.oz_node_admin.proofs.halting.take_down_halted.Goals as goal

pub loop-dn-init : goal.loop-dn-init
loop-dn-init g c = record {
  down = λ dn less some. absurd (omega (arith, less));
  looked = record { ready = c.requires.seat.ready; begins = ([], sym (append-nil (seen_of c.args.seat.now))); mine = refl; room = refl };
}

pub loop-dn-preserved : goal.loop-dn-preserved
loop-dn-preserved g c =
    let O = g.O.Opened in
    let first = seen_of c.args.seat.now in
    let mid = seen_of c.loop-dn.seat in
    let last = seen_of c.take_down_where_halted.new.seat in
    let kept = c.loop-dn.invariant in
    let one = c.take_down_where_halted.ensures.looked in
    record {
      down = next_down O.coherent O.opening O.bytes O.script c.loop-dn.dn first mid last kept.looked.begins one.begins kept.down c.in_ok-take_down_where_halted.ensures.down;
      looked = record {
        ready = subst (λ n. IsReady g.R.Ring.turn n c.take_down_where_halted.new.seat) kept.looked.ready.numbered one.ready;
        begins = begins_through last mid first one.begins kept.looked.begins;
        mine = one.mine ∙ kept.looked.mine;
        room = one.room ∙ kept.looked.room;
      };
    }

pub returns-clause-down : goal.returns-clause-down
returns-clause-down g c =
    λ dn less some. c.loop-dn.invariant.down dn (omega (arith, less, c.loop-dn-test.false)) some
