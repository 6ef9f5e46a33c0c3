use Rattle.std.proofs.Common.{List, refl, sym, subst}
use Rattle.std.proofs.lemmas.Result.{on_ok_weaker}
use Rattle.oz_effects.specs.Parts.{IsPart, front_of}
use Rattle.oz_effects.specs.declared.parts.Part.TheVariants as parts
use Rattle.oz_reclaim.specs.sweep.Filing.{IsAmong, IsDeletedIn}
use Rattle.oz_reclaim.proofs.sweep_lemmas.Filed.{files_for}
use Rattle.oz_reclaim.proofs.sweep_lemmas.Parts.{deleted_among}
use Rattle.oz_rows.specs.declared.entry.RowEntry.{RowEntry}
use Rattle.oz_rows.specs.RowMaps.{row_of}
use Rattle.oz_reclaim.proofs.sweep.filing.file_bucket.Goals as goal

pub returns-clause-files : goal.returns-clause-files
returns-clause-files c =
    let all : List RowEntry = c.args.durable.now.rows in
    let found : List RowEntry = c.as_slice.result.now in
    let front = front_of parts.Deleted c.args.volume.now c.args.bucket.now in
    let is = subst (λ (part : List RowEntry). IsPart all front part) (sym c.as_slice.ensures.value) (c.in_ok-found.ensures all (record { in_order = c.rows_are_in_order.ensures; rows_are = λ key. refl })) in
    on_ok_weaker c.file_each.result
    (λ files right. files_for (row_of all) (IsAmong found) (IsDeletedIn (row_of all) c.args.volume.now c.args.bucket.now) c.args.changes.now.items c.file_each.new.changes.items (files right)
    (deleted_among all found c.args.volume.now c.args.bucket.now is))
    c.file_each.ensures.files
