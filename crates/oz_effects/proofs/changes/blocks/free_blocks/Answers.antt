use Rattle.std.proofs.Common.{◌&&◌, Bool, List, [], ◌∷◌, sym, ◌∙◌, ap, subst}
use Rattle.std.specs.Prelude.{not}
use Rattle.oz_rows.specs.declared.entry.RowEntry.{RowEntry}
use Rattle.oz_effects.specs.Effects.{is_in_a_key}
use Rattle.oz_effects.specs.Parts.{IsPart}
use Rattle.oz_effects.specs.changes.Steps.{is_in_a_session}
use Rattle.oz_effects.specs.changes.laws.PartEffects.{kept_part}
use Rattle.oz_effects.proofs.changes.blocks.free_blocks.Goals as goal

pub returns : goal.returns
returns g c = λ all are block.
    let part : List RowEntry = c.as_slice.result.now in
    let is = subst (λ (part : List RowEntry). IsPart all ((3 ∷ []) ∷ []) part) (sym c.as_slice.ensures.value) (c.in_ok-keys.ensures all are) in
    c.take_out.ensures block
    ∙ ap (λ (t : Bool). t && not (is_in_a_key part block)) (c.in_ok-free.ensures block)
    ∙ ap (λ (t : Bool). is_in_a_session c.args.sessions.now block && not t) (sym (kept_part all part block is))
