use Rattle.std.proofs.Common.{length, arith}
use Rattle.oz_world.specs.Disk.{Torn, Same}
use Rattle.oz_world.specs.laws.Partial.{torn_none}
use Rattle.oz_world.specs.laws.Moments.{call_spans, spans_still, took_a_moment}
use Rattle.oz_journal.proofs.store.store.Goals as goal

pub returns-in_err-sync-clause-time : goal.returns-in_err-sync-clause-time
returns-in_err-sync-clause-time g c =
    spans_still (Torn c.args.pos (length c.args.bytes.now)) _ _ _ _ _ _ (torn_none c.args.pos (length c.args.bytes.now))
    (call_spans _ _ _ _ _ c.write_at.ensures.time c.write_at.ensures.no_time)
    (call_spans Same _ _ _ _ c.sync.ensures.time c.sync.ensures.no_time)

pub returns-clause-time : goal.returns-clause-time
returns-clause-time g c =
    spans_still (Torn c.args.pos (length c.args.bytes.now)) _ _ _ _ _ _ (torn_none c.args.pos (length c.args.bytes.now))
    (call_spans _ _ _ _ _ c.write_at.ensures.time c.write_at.ensures.no_time)
    (call_spans Same _ _ _ _ c.sync.ensures.time c.sync.ensures.no_time)

pub returns-clause-moments : goal.returns-clause-moments
returns-clause-moments g c =
    let written = took_a_moment _ _ (Torn c.args.pos (length c.args.bytes.now)) _ _ _ _ c.in_ok-write_at.was c.write_at.ensures.time (λ h. (c.write_at.ensures.no_time h).0) in
    let synced = took_a_moment _ _ Same _ _ _ _ c.in_ok-sync.was c.sync.ensures.time (λ h. (c.sync.ensures.no_time h).0) in
    omega (arith, written, synced)
