use Rattle.std.proofs.Common.{◌↔◌, IsTrue, List, subst}
use Rattle.std.specs.List.{All}
use Rattle.oz_fields.specs.declared.block.Piece.{Piece}
use Rattle.oz_scm_law.specs.Words.{HadWanted, IsWanted}
use Rattle.oz_scm_law.proofs.held.had_wanted.Goals as goal

pub returns : goal.returns
unfolding HadWanted
returns c =
    subst (λ (pieces : List Piece). IsTrue c.are_wanted.result ↔ All (λ (piece : Piece). IsWanted c.args.opening.now c.args.story.now c.args.number c.args.wanted piece.block) pieces)
    c.items.ensures c.are_wanted.ensures
