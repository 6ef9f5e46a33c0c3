use Rattle.std.proofs.Common.{◌≡◌, ◌≤◌, List, length, rules, subst, sym}
use Rattle.oz_effects.specs.changes.Steps.{holds}
use Rattle.oz_reclaim.proofs.FreeRows.{Walk, begins, ends, few_at_first, few_more, full, steps}
use Rattle.oz_rows.specs.declared.key.RowKey.{RowKey}
use Rattle.oz_reclaim.proofs.finding.first_free.Goals as goal

pub loop-init : goal.loop-init
loop-init g c =
    let all = g.M.RowMap.rows c.args.rows.now in
    let start = c.args.start.now in
    subst (λ (found : List RowKey). Walk all (holds c.args.used.now) start found × (length found ≤ c.args.most)) (sym c.in_ok-keys.ensures)
    (begins all (holds c.args.used.now) start c.requires.least c.requires.deleted, few_at_first (holds c.args.used.now) start (all start) c.args.most c.requires.some)

pub returns-then-len-most : goal.returns-then-len-most
returns-then-len-most g c =
    let full_now : length c.loop.keys.items ≡ c.args.most = search rules in
    full (g.M.RowMap.rows c.args.rows.now) (holds c.args.used.now) c.loop.last.now c.loop.keys.items c.loop.invariant.0 c.args.most full_now

pub returns-in_default : goal.returns-in_default
returns-in_default g c = ends (g.M.RowMap.rows c.args.rows.now) (holds c.args.used.now) c.loop.last.now c.loop.keys.items c.loop.invariant.0 c.args.most c.loop.invariant.1 c.in_default.ensures

pub loop-preserved : goal.loop-preserved
loop-preserved g c =
    let all = g.M.RowMap.rows c.args.rows.now in
    let not_full : length c.loop.keys.items ≡ c.args.most → ⊥ = search rules in
    subst (λ (found : List RowKey). Walk all (holds c.args.used.now) c.in-Some.key.now found × (length found ≤ c.args.most)) (sym c.in_ok-add_free.ensures) (
      steps all (holds c.args.used.now) c.loop.last.now c.loop.keys.items c.loop.invariant.0 c.in-Some.key.now c.in-Some.row.now c.in-Some.ensures,
      few_more (holds c.args.used.now) c.in-Some.key.now c.in-Some.row.now c.loop.keys.items c.args.most c.loop.invariant.1 not_full,
    )
