use Rattle.std.proofs.Common.{List, ℕ, sym, ◌∙◌, ap, subst}
use Rattle.oz_effects.specs.changes.Steps.{holds}
use Rattle.oz_reclaim.specs.Gathered.{IsLeast}
use Rattle.oz_reclaim.proofs.FreeRows.{among_first, only}
use Rattle.oz_reclaim.proofs.Least.{least_deleted}
use Rattle.oz_rows.specs.declared.key.RowKey.TheVariants as keys
use Rattle.oz_rows.specs.RowMaps.{row_of}
use Rattle.oz_reclaim.proofs.finding.reclaimable.Goals as goal

pub returns-clause-only : goal.returns-clause-only
returns-clause-only c = λ namespace fit stands.
    only (row_of c.args.durable.now.rows) c.args.pinned.now (holds c.in_ok-used.used) (holds c.add_each.new.blocks) c.in_ok-used.ensures c.in_ok-add_each.ensures c.args.most c.in_ok-keys.keys.items c.in_ok-keys.ensures namespace fit stands

pub returns-clause-first : goal.returns-clause-first
returns-clause-first c = λ namespace fit stands.
    among_first (row_of c.args.durable.now.rows) c.args.pinned.now (holds c.in_ok-used.used) (holds c.add_each.new.blocks) c.in_ok-used.ensures c.in_ok-add_each.ensures c.args.most c.in_ok-keys.keys.items c.in_ok-keys.ensures namespace fit stands

pub first_free-requires-clause-least : goal.first_free-requires-clause-least
first_free-requires-clause-least c = subst IsLeast (sym (c.in_ok-start.ensures ∙ ap (λ (none : List ℕ). keys.Deleted none none 0 none 0) c.in_ok-none.ensures)) least_deleted
