use Rattle.oz_reclaim.proofs.NotMade.{joined}
use Rattle.oz_reclaim.proofs.making.take_over.Goals as goal

pub returns-clause-changes : goal.returns-clause-changes
returns-clause-changes g c = λ entries are.
    joined c.args.draft.changes c.in_ok-copies.copies.items c.in_ok-moves.moves.items c.in_ok-copied.copied.changes c.in_ok-moved.moved.changes _ _
    c.in_ok-copied.ensures.changes c.in_ok-moved.ensures.changes (c.in_ok-copies.ensures entries are) (c.in_ok-moves.ensures entries are)
