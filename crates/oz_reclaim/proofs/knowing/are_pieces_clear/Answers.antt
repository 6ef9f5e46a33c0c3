use Rattle.std.proofs.Common.{◌≡◌, ◌||◌, Bool, not, List, [], ◌∷◌, refl, ◌∙◌, ap}
use Rattle.std.specs.List.{list_any}
use Rattle.oz_effects.specs.changes.Steps.{holds}
use Rattle.oz_fields.specs.declared.block.Block.{Block}
use Rattle.oz_fields.specs.declared.block.Piece.{Piece}
use Rattle.oz_sound.specs.frames.Sessions.{blocks_in}
use Rattle.oz_reclaim.proofs.knowing.are_pieces_clear.Goals as goal

any_in : (test : Block → Bool) (pieces : List Piece) → list_any (λ (piece : Piece). test piece.block) pieces ≡ list_any test (blocks_in pieces)
any_in test [] = refl
any_in test (piece ∷ pieces) = ap (λ (t : Bool). test piece.block || t) (any_in test pieces)

pub returns : goal.returns
returns c = ap not (c.is_one_shown.ensures ∙ any_in (holds c.args.shown.now) c.args.pieces.now)
