use Rattle.std.proofs.Common.{◌≡◌, ◌≤◌, ◌<◌, ◌↔◌, Bool, true, List, length, All, sym, subst, arith}
use Rattle.oz_core.specs.declared.event.Event.{Event}
use Rattle.oz_core.specs.Seats.{first_worker_seat}
use Rattle.oz_script.specs.declared.lines.script.Script.{Script}
use Rattle.oz_running.specs.Run.{IsWorkedOff}
use Rattle.oz_running.proofs.Whole.{flusher_left, nodes_left, quiet_left, ready_left, scm_left, service_left, stripe_left}
use Rattle.oz_turn.specs.Seat.{AreReady, mine_of, number_of, seen_of}
use Rattle.oz_turn.specs.Told.{BeginsWith, own_entries}
use Rattle.oz_turn.specs.Turn.{seats_of}
use Rattle.oz_running.proofs.closing.ended.Goals as goal

pub close-ledger-requires-clause-turn : goal.close-ledger-requires-clause-turn
close-ledger-requires-clause-turn g c =
    let D = g.D.Disk in
    let O = g.O.Opened in
    let left = c.args.left in
    let ready = ready_left D.told D.clock D.image D.faults O.coherent O.opening O.bytes O.bodies O.script O.faults g.M.Mounted.disk g.L.Loaded.rows g.R.Ring.turn
    left.journal.stopped left.journal.disk left.scm left.nodes.items left.seats.items c.requires.left in
    c.ready_seats_may_close.ensures.turn _ left.seats.items (subst (λ t. AreReady t left.seats.items) (sym c.requires.turn) ready)

pub close-ledger-requires-clause-free : goal.close-ledger-requires-clause-free
close-ledger-requires-clause-free g c =
    let D = g.D.Disk in
    let O = g.O.Opened in
    let left = c.args.left in
    let ready = ready_left D.told D.clock D.image D.faults O.coherent O.opening O.bytes O.bodies O.script O.faults g.M.Mounted.disk g.L.Loaded.rows g.R.Ring.turn
    left.journal.stopped left.journal.disk left.scm left.nodes.items left.seats.items c.requires.left in
    c.ready_seats_may_close.ensures.free g.R.Ring.turn left.seats.items ready

pub close-ledger-requires-clause-all : goal.close-ledger-requires-clause-all
close-ledger-requires-clause-all g c n less =
    let D = g.D.Disk in
    let O = g.O.Opened in
    let left = c.args.left in
    let ready = ready_left D.told D.clock D.image D.faults O.coherent O.opening O.bytes O.bodies O.script O.faults g.M.Mounted.disk g.L.Loaded.rows g.R.Ring.turn
    left.journal.stopped left.journal.disk left.scm left.nodes.items left.seats.items c.requires.left in
    c.ready_seats_may_close.ensures.all g.R.Ring.turn left.seats.items n ready (omega (arith, less, c.requires.count))

pub returns : goal.returns
returns g c =
    let D = g.D.Disk in
    let O = g.O.Opened in
    let M = g.M.Mounted in
    let rows = g.L.Loaded.rows in
    let turn = g.R.Ring.turn in
    let left = c.args.left in
    let stopped = left.journal.stopped in
    let disk = left.journal.disk in
    let nodes = left.nodes.items in
    let seats = left.seats.items in
    let is = c.requires.left in
    let story : List Event = c.into_story-story.result.items in
    let same : c.close-ledger.result.story ≡ story = sym c.into_story-story.ensures.story in
    let follow = c.into_story-story.ensures.follow in
    let many : first_worker_seat ≤ length seats = omega (arith, c.requires.many) in
    let begins = subst (λ (l : List Event). All (λ s. BeginsWith l (seen_of s)) seats) same c.close-ledger.ensures.begins in
    let own = subst (λ (l : List Event). All (λ s. own_entries (λ (event : Event). event.seat) (number_of s) l ≡ mine_of s) seats) same c.close-ledger.ensures.own in
    record {
      follow = follow;
      kept = flusher_left D.told D.clock D.image D.faults O.coherent O.opening O.bytes O.bodies O.script O.faults M.disk rows turn stopped disk left.scm nodes seats is story many begins own
          (λ seen given kept goes_on known. c.the_whole_story_is_kept.ensures disk stopped seen given story kept goes_on known follow);
      stood = stripe_left D.told D.clock D.image D.faults O.coherent O.opening O.bytes O.bodies O.script O.faults M.disk rows turn stopped disk left.scm nodes seats is story many begins own;
      scm = scm_left D.told D.clock D.image D.faults O.coherent O.opening O.bytes O.bodies O.script O.faults M.disk rows turn stopped disk left.scm nodes seats is story many begins own;
      datanodes = nodes_left D.told D.clock D.image D.faults O.coherent O.opening O.bytes O.bodies O.script O.faults M.disk rows turn stopped disk left.scm nodes seats is story many begins own follow
          (λ view node kept stood goes_on given. c.its_seat_alone_tells.ensures.stands view node story kept stood goes_on follow given);
      asked = service_left D.told D.clock D.image D.faults O.coherent O.opening O.bytes O.bodies O.script O.faults M.disk rows turn stopped disk left.scm nodes seats is story many begins own;
      quiet = quiet_left D.told D.clock D.image D.faults O.coherent O.opening O.bytes O.bodies O.script O.faults M.disk rows turn stopped disk left.scm nodes seats is story many begins own;
      seated = subst (λ (l : List Event). All (λ (event : Event). event.seat < seats_of c.args.turn) l) same c.close-ledger.ensures.given;
      done = subst (λ (b : Bool). (c.is_worked_off-is_done.result ≡ true) ↔ IsWorkedOff b O.script story) c.stopped.ensures.stopped
          (subst (λ (s : Script). (c.is_worked_off-is_done.result ≡ true) ↔ IsWorkedOff c.stopped.result s story) c.requires.script
          (subst (λ (l : List Event). (c.is_worked_off-is_done.result ≡ true) ↔ IsWorkedOff c.stopped.result c.args.script.now l) same c.is_worked_off-is_done.ensures));
    }
