use Rattle.std.proofs.Common.{◌∙◌, ap}
use Rattle.oz_effects.specs.Parts.{front_of}
use Rattle.oz_effects.specs.declared.parts.Part.TheVariants as parts
use Rattle.oz_loaded.specs.standing.Made.{filled, session_shown}
use Rattle.oz_loaded.proofs.standing_lemmas.Gathered.{is_part}
use Rattle.oz_loaded.proofs.standing_lemmas.Results.{if_ok}
use Rattle.oz_loaded.proofs.standing.buckets.sessions_in.Goals as goal

pub returns : goal.returns
returns c = if_ok c.sessions_of.result _ _ c.sessions_of.ensures (λ made is. is ∙ ap (filled session_shown) (c.deref.ensures.value
    ∙ is_part (front_of parts.Sessions c.args.volume.now c.args.bucket.now) c.args.tables.now.rows c.in_ok-found.found.items c.rows_are_in_order.ensures c.in_ok-found.ensures))
