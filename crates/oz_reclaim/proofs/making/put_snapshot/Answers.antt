use Rattle.std.proofs.Common.{◌≡◌, ◌<◌, ◌^◌, List, ℕ, arith, rules, sym, subst}
use Rattle.oz_reclaim.proofs.Marked.{row_fits}
use Rattle.oz_rows.specs.declared.key.RowKey.{RowKey}
use Rattle.oz_rows.specs.declared.key.RowKey.TheVariants as keys
use Rattle.oz_rows.specs.declared.row.Row.TheVariants as rows
use Rattle.oz_rows.specs.declared.row.SnapshotState.TheVariants.{Live}
use Rattle.oz_rows.specs.Rows.{RowFits}
use Rattle.oz_reclaim.proofs.making.put_snapshot.Goals as goal

pub put-requires-2 : goal.put-requires-2
put-requires-2 c =
    let n = c.args.number in
    let few = c.requires.few in
    let small : n < 2 ^ 64 = omega (arith, few) in
    let same : c.in_ok-try_clone.field-0 ≡ c.args.name.now = search rules in
    subst (λ (k : RowKey). RowFits k (rows.Snapshot c.in_ok-try_clone.field-0 c.args.previous Live)) (sym c.in_ok-of_snapshot.ensures)
    (subst (λ (x : List ℕ). RowFits (keys.Snapshot c.args.volume.now c.args.bucket.now n) (rows.Snapshot x c.args.previous Live)) (sym same) (row_fits c.args.volume.now c.args.bucket.now c.args.name.now n c.args.previous Live c.requires.named c.requires.least small c.requires.owner))
