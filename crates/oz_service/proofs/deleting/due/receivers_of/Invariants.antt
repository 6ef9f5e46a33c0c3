use Rattle.std.proofs.Common.{◌≡◌, ◌&&◌, filter, not, take}
use Rattle.oz_core.specs.Scm.{is_up}
use Rattle.oz_dellog.specs.Logged.{is_acknowledged_by}
use Rattle.oz_service.proofs.deleting.due.receivers_of.Given as goal

-- those of the datanodes so far that are up and haven't acknowledged it
abbrev pub invariant-loop-dn : goal.invariant-loop-dn
invariant-loop-dn g l = l.receivers.items ≡ filter (λ dn. is_up dn l.scm.mine && not (is_acknowledged_by l.logged dn)) (take l.dn-index l.fn.dns)
