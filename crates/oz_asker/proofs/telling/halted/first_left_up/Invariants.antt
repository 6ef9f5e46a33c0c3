use Rattle.std.proofs.Common.{◌≡◌, ◌≢◌, ◌<◌, ℕ, false, None}
use Rattle.oz_core.specs.declared.event.Node.TheVariants.{Datanode}
use Rattle.oz_core.specs.Manager.{halt_of}
use Rattle.oz_core.specs.Scm.{is_up}
use Rattle.oz_asker.proofs.telling.halted.first_left_up.Given as goal

-- none of those that were looked at is up though it halted
abbrev pub invariant-loop-dn : goal.invariant-loop-dn
invariant-loop-dn g l = record {
  down : (dn : ℕ) → dn < l.dn → halt_of (Datanode dn) l.ledger.story ≢ None → is_up dn l.ledger.story ≡ false;
}
