use Rattle.std.proofs.Common.{sym, subst}
use Rattle.oz_reclaim.specs.sweep.Dead.{IsDeadRow}
use Rattle.oz_reclaim.proofs.sweep_lemmas.Filed.{files_one}
use Rattle.oz_rows.specs.declared.key.RowKey.{RowKey}
use Rattle.oz_rows.specs.RowMaps.{row_of}
use Rattle.oz_reclaim.proofs.sweep.filing.file_key.Goals as goal

pub returns-clause-files : goal.returns-clause-files
returns-clause-files c = λ right.
    let all = row_of c.args.durable.now.rows in
    files_one all c.args.changes.now.items c.push.new.self.items c.args.key.now (record { key = c.in_ok-key.key; row = c.in_ok-row.row }) c.in_ok-push.ensures.items c.in_ok-key.ensures
    (subst (λ (k : RowKey). IsDeadRow all k c.in_ok-row.row) (sym c.in_ok-key.ensures) (c.in_ok-row.ensures.told right))
