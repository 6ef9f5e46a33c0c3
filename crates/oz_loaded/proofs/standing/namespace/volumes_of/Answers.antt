use Rattle.std.proofs.Common.{◌≡◌, ◌<◌, ◌∙◌, length, slice_get, Some, ap, sym, subst, arith}
use Rattle.oz_rows.specs.RowMaps.{row_of}
use Rattle.oz_loaded.specs.standing.Standing.{AddsVolumes}
use Rattle.oz_loaded.proofs.standing_lemmas.Striped.{BelowAre, all_below, item_at, next_below, none_below}
use Rattle.oz_tables.specs.Tables.{TableView}
use Rattle.oz_loaded.proofs.standing.namespace.volumes_of.Goals as goal

pub loop-part-init : goal.loop-part-init
loop-part-init c = λ all are. subst (BelowAre all 0) (sym c.new-made.ensures) (none_below all)

pub loop-part-preserved : goal.loop-part-preserved
loop-part-preserved c = λ all are.
    let parts = c.args.parts.now in
    let part = c.part-item.result in
    let n = c.loop-part.part-index in
    let within : n < length parts = omega arith in
    let is : slice_get parts n ≡ Some part = item_at parts n part within ∙ ap Some (sym c.part-item.is) in
    let adds : AddsVolumes (row_of part.durable.rows) c.loop-part.made c.put_volumes.new.made =
    subst (λ (tables : TableView). AddsVolumes (row_of tables.rows) c.loop-part.made c.put_volumes.new.made) c.durable.ensures c.in_ok-put_volumes.ensures in
    next_below all parts part n c.loop-part.made c.put_volumes.new.made are is adds (c.loop-part.invariant all are)

pub returns : goal.returns
returns c = λ all are.
    let n = c.loop-part.part-index in
    let end : n ≡ 16 = omega (arith, c.loop-part-test.false, c.loop-part.auto.part-index-end, are.sixteen) in
    all_below all c.loop-part.made (subst (λ n. BelowAre all n c.loop-part.made) end (c.loop-part.invariant all are))
