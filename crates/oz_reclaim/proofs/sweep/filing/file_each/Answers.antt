use Rattle.std.proofs.Common.{◌≡◌, ap, subst}
use Rattle.oz_reclaim.specs.sweep.Filing.{Files}
use Rattle.oz_reclaim.proofs.sweep_lemmas.Filed.{files_entry}
use Rattle.oz_rows.specs.declared.entry.RowEntry.{RowEntry}
use Rattle.oz_rows.specs.declared.key.RowKey.{RowKey}
use Rattle.oz_rows.specs.RowMaps.{row_of}
use Rattle.oz_reclaim.proofs.sweep.filing.file_each.Goals as goal

pub loop-entry-preserved : goal.loop-entry-preserved
loop-entry-preserved c =
    let all = row_of c.args.durable.now.rows in
    let key = ap (λ (entry : RowEntry). entry.key) c.entry.view_is in
    record {
      still = λ right. c.in_ok-file_key.ensures.still (c.loop-entry.invariant.still right);
      files = λ right. files_entry all c.args.found.now c.loop-entry.entry-index c.entry-item.result c.args.changes.now.items c.loop-entry.changes.items c.file_key.new.changes.items
          c.loop-entry-test.true c.entry-item.is (c.loop-entry.invariant.files right)
          (subst (λ (k : RowKey). Files all (λ (other : RowKey). other ≡ k) c.loop-entry.changes.items c.file_key.new.changes.items) key (c.in_ok-file_key.ensures.files (c.loop-entry.invariant.still right)));
    }
