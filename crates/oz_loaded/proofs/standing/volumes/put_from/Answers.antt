use Rattle.std.proofs.Common.{rules, sym, subst}
use Rattle.oz_namespace.specs.declared.namespace.Bucket.{Bucket}
use Rattle.oz_namespace.specs.Namespace.{ByName}
use Rattle.oz_rows.specs.declared.key.RowKey.{RowKey}
use Rattle.oz_rows.specs.RowMaps.{HasNoNext, row_of}
use Rattle.oz_loaded.specs.standing.Made.{entered, volume_in}
use Rattle.oz_loaded.proofs.standing_lemmas.Walking.{Walked, begins, ends, steps}
use Rattle.oz_loaded.proofs.standing.volumes.put_from.Goals as goal

pub loop-init : goal.loop-init
loop-init c =
    let all = c.args.tables.now.rows in
    let before = c.args.made.now in
    subst (λ (made : ByName (ByName Bucket)). Walked all before made c.args.start.now) (sym c.in_ok-put_volume.ensures)
    (subst (λ (key : RowKey). Walked all before (entered before (volume_in all key)) key) (sym c.requires) (begins all before))

pub returns-in_default : goal.returns-in_default
returns-in_default c =
    let all = c.args.tables.now.rows in
    let none : HasNoNext (row_of all) c.loop.last.now = search rules in
    ends all c.args.made.now c.loop.made c.loop.last.now c.rows_are_in_order.ensures none c.loop.invariant

pub loop-preserved : goal.loop-preserved
loop-preserved c =
    let all = c.args.tables.now.rows in
    let before = c.args.made.now in
    subst (λ (made : ByName (ByName Bucket)). Walked all before made c.in-Some.key.now) (sym c.in_ok-put_volume-2.ensures)
    (steps all before c.loop.made c.loop.last.now c.in-Some.key.now c.in-Some._row.now c.in-Some.ensures c.loop.invariant)
