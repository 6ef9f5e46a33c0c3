use Rattle.std.proofs.Common.{List, ◌∙◌, ap}
use Rattle.oz_effects.specs.Parts.{front_of}
use Rattle.oz_effects.specs.declared.parts.Part.TheVariants as parts
use Rattle.oz_rows.specs.declared.entry.RowEntry.{RowEntry}
use Rattle.oz_loaded.specs.standing.Made.{rows_in, snapshots_in_order}
use Rattle.oz_loaded.proofs.standing_lemmas.Gathered.{is_part}
use Rattle.oz_loaded.proofs.standing_lemmas.Results.{if_ok}
use Rattle.oz_loaded.proofs.standing.buckets.snapshots_in.Goals as goal

pub returns : goal.returns
returns c =
    let v = c.args.volume.now in
    let b = c.args.bucket.now in
    let all = c.args.tables.now.rows in
    let found = c.deref.ensures.value ∙ is_part (front_of parts.Snapshots v b) all c.in_ok-found.found.items c.rows_are_in_order.ensures c.in_ok-found.ensures in
    let kept = c.deref-2.ensures.value ∙ is_part (front_of parts.SnapshotKeys v b) all c.in_ok-kept.kept.items c.rows_are_in_order.ensures c.in_ok-kept.ensures in
    if_ok c.snapshots_of.result _ _ c.snapshots_of.ensures (λ made is. is
    ∙ ap (λ (kept : List RowEntry). snapshots_in_order kept c.deref.result.now) kept
    ∙ ap (snapshots_in_order (rows_in parts.SnapshotKeys v b all)) found)
