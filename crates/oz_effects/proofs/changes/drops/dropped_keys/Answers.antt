use Rattle.std.proofs.Common.{List, sym, ◌∙◌, subst}
use Rattle.oz_rows.specs.declared.entry.RowEntry.{RowEntry}
use Rattle.oz_effects.specs.Parts.{IsPart}
use Rattle.oz_effects.specs.changes.Steps.{in_bucket}
use Rattle.oz_effects.specs.changes.laws.PartEffects.{dropped_part}
use Rattle.oz_effects.specs.changes.laws.Results.{if_ok}
use Rattle.oz_effects.proofs.changes.drops.dropped_keys.Goals as goal

pub returns : goal.returns
returns g c = if_ok c.drops.result _ _ c.drops.ensures (λ changes are_dropped all are.
    let volume = c.args.volume.now in
    let bucket = c.args.bucket.now in
    let part = subst (λ (part : List RowEntry). IsPart all (in_bucket 7 volume bucket) part) (sym c.as_slice.ensures.value) (c.in_ok-kept.ensures all are) in
    are_dropped ∙ sym (dropped_part all c.as_slice.result.now volume bucket c.args.number part))
