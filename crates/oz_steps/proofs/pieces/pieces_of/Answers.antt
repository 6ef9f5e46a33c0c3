use Rattle.std.proofs.Common.{◌≡◌, ◌-◌, ◌*◌, ◌∷◌, [], ◌++◌, ℕ, List, length, take, get_or, min, sym, ◌∙◌, ap, arith}
use Rattle.oz_command.specs.Payload.{data_length, piece}
use Rattle.oz_core.specs.Steps.{pieces_from}
use Rattle.oz_fields.specs.declared.block.Block.{Block}
use Rattle.oz_fields.specs.declared.block.Piece.{Piece}
use Rattle.oz_steps.proofs.Cut.{piece-length, piece-more}
use Rattle.oz_steps.proofs.pieces.pieces_of.Goals as goal

pub loop-block-preserved : goal.loop-block-preserved
loop-block-preserved c =
    let i : ℕ = c.loop-block.block-index in
    let command = c.args.command.now in
    let blocks : List Block = c.args.blocks.now in
    let default : Block = record { container = 0; local = 0 } in
    let left_is : c.loop-block.left ≡ data_length command - 65536 * i = c.loop-block.invariant.1 in
    let long : length (piece i command) ≡ min 65536 (data_length command - 65536 * i) = piece-length i command in
    let taken : c.min-length.result ≡ min c.loop-block.left 65536 = c.min-length.ensures ∙ ap (min c.loop-block.left) c.from.ensures in
    let so_long : c.min-length.result ≡ length (piece i command) = omega (arith, taken, left_is, long) in (
      c.in_ok-push.ensures.items
          ∙ (ap (λ (ps : List Piece). ps ++ record { block = get_or blocks i default; length = c.min-length.result } ∷ []) c.loop-block.invariant.0
          ∙ (ap (λ (n : ℕ). pieces_from 0 command (take i blocks) ++ record { block = get_or blocks i default; length = n } ∷ []) so_long
          ∙ sym (piece-more command blocks i default c.loop-block-test.true))),
      omega (arith, c.from-left.ensures, taken, left_is),
    )
