use Rattle.std.proofs.Common.{ap, ◌∙◌, arith}
use Rattle.oz_journal.specs.Journal.{body_of}
use Rattle.oz_journal.proofs.Added.{body_small, gate_there, contents_after, bodies_after, moments_after, rests_after, acknowledged_after}
use Rattle.oz_journal.proofs.journal.Journal.append.Goals as goal

pub put-requires-clause-there : goal.put-requires-clause-there
put-requires-clause-there g c =
    let running = ap (λ s. s.stopped) c.self.view_is ∙ c.requires.running in
    gate_there _ _ _ _ (c.self.invariant.1 running)

pub invariant_of-self-2 : goal.invariant_of-self-2
invariant_of-self-2 g c =
    let running = ap (λ s. s.stopped) c.self.view_is ∙ c.requires.running in (
      omega (arith, c.in-Ok.ensures.within),
      λ still. rests_after _ _ _ _ _ (c.self.invariant.1 running) (body_of c.args.framed.now) _ (body_small c.args.framed.now c.requires.most) c.frame.ensures _ _ c.in-Ok.ensures.written c.in-Ok.ensures.stable,
    )

pub returns-in_default-clause-appended : goal.returns-in_default-clause-appended
returns-in_default-clause-appended g c =
    let running = ap (λ s. s.stopped) c.self.view_is ∙ c.requires.running in
    rw (← c.self.view_is) (record {
      settled = record {
        telling = c.put.ensures.telling;
        stable = tt;
        time = c.put.ensures.time;
        moments = tt;
        cause = record { never_falls = c.put.ensures.cause.never_falls; failed = c.in_default.ensures.cause.failed };
      };
      tells = λ bodies stands. tt;
      leaves = moments_after _ (g.D.Disk.told c.put.new.disk) _ _ _ (c.self.invariant.1 running) (body_of c.args.framed.now) _ (body_small c.args.framed.now c.requires.most) c.frame.ensures _ _ _ c.put.ensures.leaves;
      acknowledged = λ bodies stands. tt;
    })

pub returns-clause-appended : goal.returns-clause-appended
returns-clause-appended g c =
    let running = ap (λ s. s.stopped) c.self.view_is ∙ c.requires.running in
    rw (← c.self.view_is) (record {
      settled = record {
        telling = c.put.ensures.telling;
        stable = c.in-Ok.ensures.stable;
        time = c.put.ensures.time;
        moments = c.in-Ok.ensures.moments;
        cause = record { never_falls = c.put.ensures.cause.never_falls; failed = tt };
      };
      tells = bodies_after _ _ _ _ _ (c.self.invariant.1 running) (body_of c.args.framed.now) _ (body_small c.args.framed.now c.requires.most) c.frame.ensures c.in-Ok.ensures.written;
      leaves = moments_after _ (g.D.Disk.told c.put.new.disk) _ _ _ (c.self.invariant.1 running) (body_of c.args.framed.now) _ (body_small c.args.framed.now c.requires.most) c.frame.ensures _ _ _ c.put.ensures.leaves;
      acknowledged = acknowledged_after _ _ _ _ _ (c.self.invariant.1 running) (body_of c.args.framed.now) _ (body_small c.args.framed.now c.requires.most) c.frame.ensures c.in-Ok.ensures.written (g.D.Disk.image c.put.new.disk) (g.D.Disk.clock c.put.new.disk) c.in-Ok.ensures.stable;
    })

pub returns-clause-contents : goal.returns-clause-contents
returns-clause-contents g c =
    let running = ap (λ s. s.stopped) c.self.view_is ∙ c.requires.running in
    rw (← c.self.view_is)
    (contents_after _ _ _ _ _ (c.self.invariant.1 running) (body_of c.args.framed.now) _ (body_small c.args.framed.now c.requires.most) c.frame.ensures c.in-Ok.ensures.written)
