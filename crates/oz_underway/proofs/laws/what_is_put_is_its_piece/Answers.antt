use Rattle.std.proofs.Common.{sym, ap, ◌∙◌}
use Rattle.oz_fields.specs.declared.block.Block.{Block}
use Rattle.oz_core.specs.Scm.{members}
use Rattle.oz_underway.specs.laws.Piece.{its_piece, members_story}
use Rattle.oz_underway.proofs.laws.what_is_put_is_its_piece.Goals as goal

pub returns-clause-piece : goal.returns-clause-piece
returns-clause-piece g c coherent whole numbered seen line asked said first count command progress block dns way writing story begins all =
    let O = g.O.Opened in
    its_piece O.coherent O.opening O.bytes O.script seen line asked said command progress writing.granted coherent way writing.its story begins all whole numbered block dns first count writing

pub returns-clause-members : goal.returns-clause-members
returns-clause-members g c coherent seen line asked said first count command progress block dns way writing nodes story begins all =
    let O = g.O.Opened in
    ap (λ (b : Block). members O.opening story b.container) writing.block_is
    ∙ (members_story O.coherent O.opening O.bytes O.script seen line asked said command progress writing.granted coherent way writing.its story begins all nodes ∙ sym writing.of_pipeline)
