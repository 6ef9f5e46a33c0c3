use Rattle.std.proofs.Common.{rules, ◌≡◌, ◌++◌, refl, sym, ap, ◌∙◌, arith}
use Rattle.oz_turn.specs.Seat.{mine_of, seen_of}
use Rattle.oz_journal.specs.batches.Body.{body_bytes}
use Rattle.oz_flusher.proofs.Laws.{ours_all, flushed_enabled, halt_enabled}
use Rattle.oz_flusher.proofs.WholeFlush.{appends_as, appends_of, story_is, given_is, later_than, noted_count, others, others_more, quiet_flushed, quiet_longer, quiet_of, ready_taken, stops_halted, stops_of, stops_stable}
use Rattle.oz_flusher.specs.Taken.{bodies_of}
use Rattle.oz_flusher.proofs.Stopping.{stops_longer}
use Rattle.oz_flusher.proofs.flusher.Flusher.flush_once.Goals as goal

pub returns-in_default-clause-idle : goal.returns-in_default-clause-idle
returns-in_default-clause-idle g c =
    let O = g.O.Opened in
    let swap = c.in_default.ensures in
    let same : mine_of c.swap.new.seat ≡ mine_of c.args.seat.now = search rules in
    record {
      ready = swap.ready;
      running = search rules;
      quiet = λ coherent.
          let ours = ours_all O.coherent O.opening O.bytes O.script coherent (seen_of c.swap.new.seat) swap.follow in
          let others = others_more (seen_of c.args.seat.now) swap.begins.0 (seen_of c.swap.new.seat) swap.begins.1 ours (swap.known_after ∙ (same ∙ sym swap.known)) in
          quiet_longer O.opening O.bodies (seen_of c.args.seat.now) swap.begins.0 (seen_of c.swap.new.seat) (mine_of c.args.seat.now) (mine_of c.swap.new.seat) _ _ swap.begins.1 others same (quiet_of g.D.Disk.told g.D.Disk.clock g.D.Disk.image g.D.Disk.faults _ _ c.self.view_is O.opening O.bodies (seen_of c.args.seat.now) (mine_of c.args.seat.now) (c.requires.idle.quiet coherent));
    }

pub returns-in_default-clause-stops : goal.returns-in_default-clause-stops
returns-in_default-clause-stops g c coherent told first hold =
    let O = g.O.Opened in
    let swap = c.in_default.ensures in
    let same : mine_of c.swap.new.seat ≡ mine_of c.args.seat.now = search rules in
    let ours = ours_all O.coherent O.opening O.bytes O.script coherent (seen_of c.swap.new.seat) swap.follow in
    let others = others_more (seen_of c.args.seat.now) swap.begins.0 (seen_of c.swap.new.seat) swap.begins.1 ours (swap.known_after ∙ (same ∙ sym swap.known)) in
    stops_longer O.bodies (seen_of c.args.seat.now) swap.begins.0 (seen_of c.swap.new.seat) first _ _ swap.begins.1 others (stops_of g.D.Disk.told g.D.Disk.clock g.D.Disk.image g.D.Disk.faults _ _ c.self.view_is O.bodies (seen_of c.args.seat.now) first hold)

pub note-requires-clause-follows : goal.note-requires-clause-follows
note-requires-clause-follows g c story all same =
    let O = g.O.Opened in
    let swapped = c.in-Some.ensures.some in
    let rose = c.in_default-append_to.ensures.appended.settled.cause.failed in
    let count = c.faults-count.ensures in
    record {
      of_seat = refl;
      enabled = λ coherent. halt_enabled O.coherent O.opening O.bytes O.script coherent story all (mine_of c.args.seat.now) c.in-Some.index c.faults-count.result (same ∙ swapped.given) (c.requires.idle.quiet coherent).settled (omega (arith, rose, count));
      fits = λ coherent. tt;
    }

pub returns-in_default-append_to-clause-ends : goal.returns-in_default-append_to-clause-ends
returns-in_default-append_to-clause-ends g c =
    let swapped = c.in-Some.ensures.some in
    let noted = noted_count _ _ _ _ _ _ c.faults-count.ensures c.note.ensures.noted in (
      c.in-Some.index,
      record {
        before = swapped.before;
        begins = swapped.begins;
        some = swapped.some;
        last = swapped.last;
        more = noted.more;
        story = story_is _ _ _ _ _ _ _ _ _ _ swapped noted;
        given = given_is _ _ _ _ _ _ _ _ _ _ swapped noted;
        written = appends_as _ _ _ _ _ _ (ap (λ l. body_bytes c.in-Some.index l) swapped.taken) refl (appends_of g.D.Disk.told g.D.Disk.clock g.D.Disk.image g.D.Disk.faults _ _ c.self.view_is _ _ _ c.in_default-append_to.ensures.appended);
      },
    )

pub returns-in_default-append_to-clause-stops : goal.returns-in_default-append_to-clause-stops
returns-in_default-append_to-clause-stops g c coherent told first hold =
    let O = g.O.Opened in
    let swapped = c.in-Some.ensures.some in
    let noted = c.note.ensures.noted in
    let ours = ours_all O.coherent O.opening O.bytes O.script coherent _ c.note.ensures.follow in
    let apart = others _ _ _ _ _ _ _ _ _ _ swapped noted ours c.in-Some.ensures.known c.note.ensures.known in
    stops_halted _ _ _ _ _ _ _ _ _ _ swapped noted apart O.bodies _ _ first _ (appends_of g.D.Disk.told g.D.Disk.clock g.D.Disk.image g.D.Disk.faults _ _ c.self.view_is _ _ _ c.in_default-append_to.ensures.appended) told (c.requires.idle.quiet coherent).journal hold

pub note-requires-2-clause-follows : goal.note-requires-2-clause-follows
note-requires-2-clause-follows g c story all same =
    let O = g.O.Opened in
    let swapped = c.in-Some.ensures.some in
    let adds = appends_of g.D.Disk.told g.D.Disk.clock g.D.Disk.image g.D.Disk.faults _ _ c.self.view_is _ _ _ c.in-Ok.ensures.appended in
    let is = c.in-Ok.ensures.moment ∙ adds.settled.moments in
    record {
      of_seat = refl;
      enabled = λ coherent. (let quiet = c.requires.idle.quiet coherent in flushed_enabled O.coherent O.opening O.bytes O.script coherent story all (mine_of c.args.seat.now) c.in-Some.index c.in-Ok.moment (same ∙ swapped.given) quiet.settled (c.in-Some.ensures.rises coherent) (later_than _ _ _ is quiet.by_now));
      fits = λ coherent. tt;
    }

pub returns-clause-ends : goal.returns-clause-ends
returns-clause-ends g c =
    let swapped = c.in-Some.ensures.some in
    let noted = c.note-2.ensures.noted in (
      c.in-Ok.ensures.moment,
      record {
        before = swapped.before;
        begins = swapped.begins;
        some = swapped.some;
        last = swapped.last;
        more = noted.more;
        story = story_is _ _ _ _ _ _ _ _ _ _ swapped noted;
        given = given_is _ _ _ _ _ _ _ _ _ _ swapped noted;
        written = appends_as _ _ _ _ _ _ (ap (λ l. body_bytes c.in-Some.index l) swapped.taken) refl (appends_of g.D.Disk.told g.D.Disk.clock g.D.Disk.image g.D.Disk.faults _ _ c.self.view_is _ _ _ c.in-Ok.ensures.appended);
      },
    )

pub returns-clause-idle : goal.returns-clause-idle
returns-clause-idle g c =
    let O = g.O.Opened in
    let swapped = c.in-Some.ensures.some in
    let noted = c.note-2.ensures.noted in
    let adds = appends_of g.D.Disk.told g.D.Disk.clock g.D.Disk.image g.D.Disk.faults _ _ c.self.view_is _ _ _ c.in-Ok.ensures.appended in
    record {
      ready = c.note-2.ensures.ready;
      running = search rules;
      quiet = λ coherent.
          let quiet = c.requires.idle.quiet coherent in
          let ours = ours_all O.coherent O.opening O.bytes O.script coherent _ c.note-2.ensures.follow in
          let apart = others _ _ _ _ _ _ _ _ _ _ swapped noted ours c.in-Some.ensures.known c.note-2.ensures.known in
          let given = given_is _ _ _ _ _ _ _ _ _ _ swapped noted in
          let taken = ready_taken _ _ _ _ _ _ _ _ _ _ swapped noted apart refl in
          quiet_flushed O.opening O.bodies c.in-Some.index c.in-Ok.moment _ (seen_of c.args.seat.now) (mine_of c.args.seat.now) _ _ _ _ _ given taken c.in-Ok.ensures.moment adds.settled.telling
          (adds.tells (O.bodies ++ bodies_of (seen_of c.args.seat.now))) quiet.settled quiet.journal;
    }

pub returns-clause-stops : goal.returns-clause-stops
returns-clause-stops g c coherent told first hold =
    let O = g.O.Opened in
    let swapped = c.in-Some.ensures.some in
    let noted = c.note-2.ensures.noted in
    let ours = ours_all O.coherent O.opening O.bytes O.script coherent _ c.note-2.ensures.follow in
    let apart = others _ _ _ _ _ _ _ _ _ _ swapped noted ours c.in-Some.ensures.known c.note-2.ensures.known in
    stops_stable _ _ _ _ _ _ _ _ _ _ swapped noted apart O.bodies _ _ first (appends_of g.D.Disk.told g.D.Disk.clock g.D.Disk.image g.D.Disk.faults _ _ c.self.view_is _ _ _ c.in-Ok.ensures.appended) c.in-Ok.ensures.moment told (c.requires.idle.quiet coherent).journal hold
