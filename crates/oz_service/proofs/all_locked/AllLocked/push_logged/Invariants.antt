use Rattle.std.proofs.Common.{take}
use Rattle.oz_scm.specs.grants.Made.{log_of}
use Rattle.oz_service.specs.Viewed.{IsToGo}
use Rattle.oz_service.proofs.Grown.{Grown}
use Rattle.oz_service.proofs.all_locked.AllLocked.push_logged.Given as goal

-- those of the blocks so far are added that are to go
abbrev pub invariant-loop-local : goal.invariant-loop-local
invariant-loop-local g l =
    Grown (λ local. IsToGo (log_of l.self.scm.scm.made) l.old l.container local) (take l.local-index l.held) l.fn.logged.items l.logged.items
