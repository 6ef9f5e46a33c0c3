use Rattle.std.proofs.Common.{◌++◌, ◌<◌, List, length, take, get_or, sym, ◌∙◌, ap, arith}
use Rattle.std.specs.List.{flat_map}
use Rattle.std.proofs.lemmas.List.{flat_map_more, take_more}
use Rattle.oz_fields.specs.declared.block.Block.{Block}
use Rattle.oz_rows.specs.declared.operation.Change.{Change}
use Rattle.oz_effects.specs.changes.Steps.{freed_block, holds}
use Rattle.oz_effects.proofs.changes.closings.add_blocks.Goals as goal

pub loop-block-preserved : goal.loop-block-preserved
loop-block-preserved c =
    let give = freed_block (holds c.args.free.now) c.args.volume.now c.args.bucket.now c.args.key.now in
    let blocks : List Block = c.args.blocks.now in
    let at = c.loop-block.block-index in
    let none : Block = record { container = 0; local = 0 } in
    let lt : at < length blocks = omega arith in
    c.in_ok-add_block.ensures
    ∙ ap (λ (l : List Change). l ++ give (get_or blocks at none)) c.loop-block.invariant
    ∙ flat_map_more give c.args.changes.now.items (take at blocks) (get_or blocks at none)
    ∙ ap (λ (l : List Block). c.args.changes.now.items ++ flat_map give l) (sym (take_more blocks at none lt))
