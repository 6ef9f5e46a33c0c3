use Rattle.std.proofs.Common.{[], ◌∙◌, ap}
use Rattle.oz_effects.specs.Parts.{front_of}
use Rattle.oz_effects.specs.declared.parts.Part.TheVariants as parts
use Rattle.oz_loaded.specs.standing.Made.{bucket_shown, buckets_made, filled}
use Rattle.oz_loaded.proofs.standing_lemmas.Gathered.{is_part}
use Rattle.oz_loaded.proofs.standing_lemmas.Results.{if_ok}
use Rattle.oz_loaded.proofs.standing.buckets.buckets_of.Goals as goal

pub returns : goal.returns
unfolding buckets_made
returns c = if_ok c.in_rows.result _ _ c.in_rows.ensures (λ made is. is ∙ ap (filled (bucket_shown c.args.tables.now.rows)) (c.deref.ensures.value
    ∙ is_part (front_of parts.Buckets c.args.volume.now []) c.args.tables.now.rows c.in_ok-found.found.items c.rows_are_in_order.ensures c.in_ok-found.ensures))
