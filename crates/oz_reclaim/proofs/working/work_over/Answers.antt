use Rattle.std.proofs.Common.{List, ℕ, sym, ◌∙◌, ap, subst}
use Rattle.oz_reclaim.specs.Gathered.{IsLeast}
use Rattle.oz_reclaim.proofs.Least.{least_snapshot}
use Rattle.oz_rows.specs.declared.key.RowKey.TheVariants as keys
use Rattle.oz_reclaim.proofs.working.work_over.Goals as goal

pub first_marked-requires-clause-least : goal.first_marked-requires-clause-least
first_marked-requires-clause-least g c =
    subst IsLeast (sym (c.in_ok-start.ensures ∙ ap (λ (none : List ℕ). keys.Snapshot none none 0) c.in_ok-none.ensures)) least_snapshot
