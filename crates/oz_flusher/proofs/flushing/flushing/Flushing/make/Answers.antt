use Rattle.std.proofs.Common.{sym, ap}
use Rattle.oz_core.specs.declared.event.Node.TheVariants.{Manager}
use Rattle.oz_core.specs.Manager.{halt_of}
use Rattle.oz_flusher.proofs.flushing_lemmas.Kept.{kept_new}
use Rattle.oz_flusher.proofs.flushing.flushing.Flushing.make.Goals as goal

pub invariant_of-result : goal.invariant_of-result
invariant_of-result g c =
    let O = g.O.Opened in
    let r = c.requires in (
      r.seat.ready,
      ap (halt_of Manager) (sym r.seat.mine),
      kept_new O.coherent O.opening O.bodies g.M.Mounted.disk _ _ _ _ r.running r.seat.seen r.seat.mine r.faults r.telling r.time r.journal r.stops,
    )
