use Rattle.std.proofs.lemmas.Slice.Eq.{slice_eq-Decides}
use Rattle.oz_asker.proofs.Pieces.{piece_decides}
use Rattle.oz_asker.proofs.finding.are_same_pieces.Goals as goal

pub returns : goal.returns
returns c = slice_eq-Decides piece_decides c.args.one.now c.args.other.now c.eq.result c.eq.ensures
