use Rattle.std.proofs.Common.{List, sym, subst}
use Rattle.oz_rows.specs.declared.entry.RowEntry.{RowEntry}
use Rattle.oz_rows.specs.Rows.{kind_of}
use Rattle.oz_reclaim.proofs.OneKind.{Gathering, begins, steps, ends}
use Rattle.oz_reclaim.proofs.gathering.rows_of_kind.Goals as goal

pub loop-init : goal.loop-init
loop-init g c =
    subst (λ (found : List RowEntry). Gathering (g.M.RowMap.rows c.args.rows.now) (kind_of c.args.start.now) c.args.start.now found)
    (sym c.in_ok-found.ensures) (begins (g.M.RowMap.rows c.args.rows.now) c.args.start.now c.requires)

pub returns-in_default : goal.returns-in_default
returns-in_default g c = ends (g.M.RowMap.rows c.args.rows.now) (kind_of c.args.start.now) c.loop.last.now c.loop.found.items c.loop.invariant c.in_default.ensures

pub loop-preserved : goal.loop-preserved
loop-preserved g c =
    subst (λ (found : List RowEntry). Gathering (g.M.RowMap.rows c.args.rows.now) (kind_of c.args.start.now) c.in-Some.key.now found) (sym c.in_ok-push.ensures.items)
    (steps (g.M.RowMap.rows c.args.rows.now) (kind_of c.args.start.now) c.loop.last.now c.loop.found.items c.loop.invariant c.in-Some.key.now c.in-Some.row.now c.in-Some.ensures)
