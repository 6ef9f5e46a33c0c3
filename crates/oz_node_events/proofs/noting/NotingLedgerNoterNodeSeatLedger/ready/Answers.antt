use Rattle.std.proofs.Common.{[], ◌∙◌}
use Rattle.oz_replicas.specs.Notes.{Subject}
use Rattle.oz_turn.specs.Seat.{mine_of, number_of, room_of, seen_of}
use Rattle.oz_node_events.specs.Noting.{AreTold, NotingView}
use Rattle.oz_node_events.proofs.Noted.{noted_as, noting_later, ready_stands, same_noting, seen_alike}
use Rattle.oz_node_events.proofs.noting.NotingLedgerNoterNodeSeatLedger.ready.Goals as goal

pub invariant_of-self : goal.invariant_of-self
invariant_of-self g c =
    let O = g.O.Opened in
    let D = g.D.Disk in
    let inside = c.self.inside in
    let subject : Subject = record { block = inside.block; members = inside.members; bytes = inside.bytes.now } in
    let ready = c.ready.ensures in (
      c.self.invariant.0,
      ready.other.0 ∙ c.self.invariant.1,
      ready.other_free,
      noting_later O.coherent O.opening O.bytes O.script O.faults D.told D.clock D.image D.faults inside.id inside.first subject (seen_of inside.seat.now) (seen_of c.ready.new.other)
          ready.other_begins c.self.invariant.3,
    )

pub returns-clause-noted : goal.returns-clause-noted
returns-clause-noted g c =
    let inside = c.self.inside in
    let subject : Subject = record { block = inside.block; members = inside.members; bytes = inside.bytes.now } in
    let ready = c.ready.ensures in
    let told : AreTold inside.id inside.first [] (seen_of inside.seat.now) (seen_of c.ready.new.other) = record { since = ready.other_begins.0; goes_on = ready.other_begins.1; told = tt } in
    let before : NotingView = record { reference = inside.seat.ghost_name; by = number_of inside.seat.now; seen = seen_of inside.seat.now; mine = mine_of inside.seat.now; room = room_of inside.seat.now; id = inside.id; first = inside.first; subject = subject } in
    let after : NotingView = record { reference = inside.seat.ghost_name; by = number_of c.ready.new.other; seen = seen_of c.ready.new.other; mine = mine_of c.ready.new.other; room = room_of c.ready.new.other; id = inside.id; first = inside.first; subject = subject } in
    noted_as before c.args.self.now after [] c.self.view_is
    (same_noting inside.seat.ghost_name (seen_of c.ready.new.other) inside.id inside.first subject ready.other.1 ready.other_mine ready.other_room) told

pub returns-clause-knows : goal.returns-clause-knows
returns-clause-knows g c = seen_alike (seen_of c.ready.new.other) c.ready.new.self.seen c.ready.ensures.other_seen

pub returns-clause-stands : goal.returns-clause-stands
returns-clause-stands g c node stood =
    let O = g.O.Opened in
    let D = g.D.Disk in
    let ready = c.ready.ensures in
    ready_stands O.coherent O.opening O.bytes O.script O.faults D.told D.clock D.image D.faults node c.args.kept.now c.ready.new.self
    ready.kept_before ready.kept ready.number ready.mine ready.goes_on stood
