use Rattle.std.proofs.Common.{ℕ, ◌*◌, length, subst}
use Rattle.oz_world.specs.Disk.{Torn, Moves}
use Rattle.oz_world.specs.Moments.{Spans}
use Rattle.oz_world.specs.laws.Moments.{call_spans}
use Rattle.oz_chunk.proofs.Moving.{moves_torn, a_moment}
use Rattle.oz_chunk.proofs.disk.put.Goals as goal

pub returns : goal.returns
returns g c =
    let pos : ℕ = c.args.slot * 16384 in
    let filling = c.args.filling.now in
    record {
      written = c.write_at.ensures.written;
      torn =
          subst (λ (n : ℕ). Moves (Torn pos n) (g.D.Disk.told c.args.disk.now) (g.D.Disk.told c.write_at.new.self)) c.requires.size
          (moves_torn c.write_at.result _ _ pos filling c.write_at.ensures.written c.write_at.ensures.failed);
      time =
          subst (λ (n : ℕ). Spans (Torn pos n) (g.D.Disk.clock c.args.disk.now) (g.D.Disk.clock c.write_at.new.self) (g.D.Disk.image c.args.disk.now) (g.D.Disk.image c.write_at.new.self)) c.requires.size
          (call_spans (Torn pos (length filling)) _ _ _ _ c.write_at.ensures.time c.write_at.ensures.no_time);
      moment = a_moment c.write_at.result (Torn pos (length filling)) _ _ _ _ c.write_at.ensures.time (λ h. (c.write_at.ensures.no_time h).0);
      cause = c.write_at.ensures.cause;
    }
