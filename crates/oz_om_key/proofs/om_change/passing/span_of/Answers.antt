use Rattle.std.proofs.Common.{◌≡◌, ℕ, ◌≤◌, ◌++◌, [], ◌∷◌, List, get_or, take, max, min, sym, ap, ◌∙◌, subst, arith}
use Rattle.std.proofs.lemmas.List.{take_more}
use Rattle.std.specs.List.{AllByRecursion}
use Rattle.oz_fields.specs.declared.block.Block.{Block}
use Rattle.oz_fields.specs.declared.block.Piece.{Piece}
use Rattle.oz_model.specs.Reach.{blocks_of}
use Rattle.oz_om_key.specs.om_change.Passing.{IsInSpan}
use Rattle.oz_om_key.proofs.om_change_lemmas.Passing.{blocks_more, span_on}
use Rattle.oz_om_key.proofs.om_change.passing.span_of.Goals as goal

pub loop-piece-preserved : goal.loop-piece-preserved
loop-piece-preserved c =
    let pieces = c.args.pieces.now in
    let i = c.loop-piece.piece-index in
    let piece : Piece = get_or pieces i (record { block = record { container = 0; local = 0 }; length = 0 }) in
    subst (λ (l : List Block). AllByRecursion (IsInSpan (record { least = c.min.result; greatest = c.max.result })) l) (sym (blocks_more pieces i (record { block = record { container = 0; local = 0 }; length = 0 }) c.loop-piece-test.true))
    (span_on c.loop-piece.span piece.block c.min.result c.max.result c.min.ensures c.max.ensures (blocks_of (take i pieces)) c.loop-piece.invariant)
