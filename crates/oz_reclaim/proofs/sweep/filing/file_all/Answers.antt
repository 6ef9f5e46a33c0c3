use Rattle.std.proofs.Common.{List, ℕ, sym, ◌∙◌, ap, subst}
use Rattle.std.proofs.lemmas.Result.{on_ok_weaker}
use Rattle.oz_reclaim.specs.Gathered.{AreAllOf, IsLeast}
use Rattle.oz_reclaim.specs.sweep.Filing.{IsAmong, IsDeletedThere}
use Rattle.oz_reclaim.proofs.Least.{least_deleted}
use Rattle.oz_reclaim.proofs.sweep_lemmas.Filed.{files_for}
use Rattle.oz_reclaim.proofs.sweep_lemmas.Parts.{all_among}
use Rattle.oz_rows.specs.declared.entry.RowEntry.{RowEntry}
use Rattle.oz_rows.specs.declared.key.RowKey.TheVariants as keys
use Rattle.oz_rows.specs.RowMaps.{row_of}
use Rattle.oz_rows.specs.Rows.{kind_of}
use Rattle.oz_reclaim.proofs.sweep.filing.file_all.Goals as goal

pub rows_of_kind-requires : goal.rows_of_kind-requires
rows_of_kind-requires c = subst IsLeast (sym (c.in_ok-start.ensures ∙ ap (λ (none : List ℕ). keys.Deleted none none 0 none 0) c.in_ok-none.ensures)) least_deleted

pub returns-clause-files : goal.returns-clause-files
returns-clause-files c =
    let all = row_of c.args.durable.now.rows in
    let found : List RowEntry = c.as_slice.result.now in
    let are = subst (λ (l : List RowEntry). AreAllOf all (kind_of c.in_ok-start.start) l) (sym c.as_slice.ensures.value) c.in_ok-found.ensures in
    on_ok_weaker c.file_each.result
    (λ files right. files_for all (IsAmong found) (IsDeletedThere all) c.args.changes.now.items c.file_each.new.changes.items (files right)
    (all_among all (kind_of c.in_ok-start.start) found (ap kind_of c.in_ok-start.ensures) are))
    c.file_each.ensures.files
