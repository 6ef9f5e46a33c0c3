use Rattle.std.proofs.Common.{◌≡◌, ◌||◌, Bool, List, [], ◌∷◌, refl, ◌∙◌, ap}
use Rattle.std.proofs.lemmas.List.{take_all}
use Rattle.std.specs.List.{list_any}
use Rattle.oz_effects.specs.changes.Steps.{holds}
use Rattle.oz_fields.specs.declared.block.Block.{Block}
use Rattle.oz_fields.specs.declared.block.Piece.{Piece}
use Rattle.oz_rows.specs.RowMaps.{is_block}
use Rattle.oz_sound.specs.frames.Sessions.{blocks_in}
use Rattle.oz_reclaim.proofs.reaching.add_pieces.Goals as goal

any_in : (block : Block) (pieces : List Piece) → list_any (λ (piece : Piece). is_block block piece.block) pieces ≡ list_any (is_block block) (blocks_in pieces)
any_in block [] = refl
any_in block (piece ∷ pieces) = ap (λ (t : Bool). is_block block piece.block || t) (any_in block pieces)

pub returns : goal.returns
returns c = λ block.
    c.loop-piece.invariant block
    ∙ ap (λ (l : List Piece). holds c.args.blocks.now block || list_any (λ (piece : Piece). is_block block piece.block) l) (take_all c.loop-piece.piece-index c.args.pieces.now c.loop-piece-test.false)
    ∙ ap (λ (t : Bool). holds c.args.blocks.now block || t) (any_in block c.args.pieces.now)
