use Rattle.std.proofs.Common.{length, sym, ap, ◌∙◌, subst}
use Rattle.std.proofs.lemmas.List.{length-map}
use Rattle.std.specs.Sync.Mutex.{mutex_guard_value}
use Rattle.oz_replicas.specs.Cells.{AreInOrder}
use Rattle.oz_service.proofs.all_locked.AllLocked.is_kept.Goals as goal

pub returns-clause-count : goal.returns-clause-count
returns-clause-count g c = ap (λ v. length v.nodes) (sym c.self.view_is) ∙ (length-map c.self.inside.nodes.items mutex_guard_value ∙ c.self.invariant.0)

pub returns-clause-order : goal.returns-clause-order
returns-clause-order g c = subst (λ v. AreInOrder v.nodes) c.self.view_is c.self.invariant.1
