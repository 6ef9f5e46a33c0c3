use Rattle.std.proofs.lemmas.Slice.Eq.{slice_eq-Decides}
use Rattle.oz_legal.proofs.manager_law_lemmas.Same.{piece_decides}
use Rattle.oz_legal.proofs.manager_law.replies.are_same_pieces.Goals as goal

pub returns : goal.returns
returns c = slice_eq-Decides piece_decides c.args.one.now c.args.other.now c.eq.result c.eq.ensures
