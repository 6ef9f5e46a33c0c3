use Rattle.std.proofs.Common.{false, sym, ◌∙◌}
use Rattle.oz_turn.specs.Seat.{seen_of}
use Rattle.oz_node_admin.proofs.Down.{down_already, left_halted, on_ok}
use Rattle.oz_node_admin.proofs.Told.{has_been_since}
use Rattle.oz_node_admin.proofs.halting.take_down_where_halted.Goals as goal

pub returns-then-not-is_left_up-clause-down : goal.returns-then-not-is_left_up-clause-down
returns-then-not-is_left_up-clause-down g c =
    let look = c.is_left_up.ensures in
    λ some. down_already g.O.Opened.coherent c.args.dn (seen_of c.args.seat.now) (seen_of c.is_left_up.new.seat) look.looked.begins (sym look.left ∙ c.if-not-is_left_up.true) some

pub take_down_locked-requires-clause-halted : goal.take_down_locked-requires-clause-halted
take_down_locked-requires-clause-halted g c =
    left_halted c.args.dn (seen_of c.is_left_up.new.seat) (sym c.is_left_up.ensures.left ∙ c.if-not-is_left_up.false)

pub returns-clause-down : goal.returns-clause-down
returns-clause-down g c =
    let O = g.O.Opened in
    let before = seen_of c.args.seat.now in
    let mid = seen_of c.is_left_up.new.seat in
    let after = seen_of c.take_down_locked.new.seat in
    on_ok c.take_down_locked.result
    (λ been some. has_been_since O.coherent O.opening O.bytes O.script c.args.dn false before mid after c.is_left_up.ensures.looked.begins been)
    c.take_down_locked.ensures.down
