use Rattle.oz_service.specs.Pass.{GoesOn}
use Rattle.oz_running.proofs.freeing.free.Given as goal

-- the service job goes on
abbrev pub invariant-loop : goal.invariant-loop
invariant-loop g l = record { goes_on : GoesOn l.fn.service l.service }
