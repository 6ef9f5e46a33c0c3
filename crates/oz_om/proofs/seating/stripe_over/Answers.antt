use Rattle.oz_om.proofs.Undecided.{keeps_part}
use Rattle.oz_om.proofs.seating.stripe_over.Goals as goal

pub make-requires-clause-keeps : goal.make-requires-clause-keeps
make-requires-clause-keeps g c =
    let laws = c.a_stripes_rows_are_sound.ensures in
    keeps_part _ _ _ _ _ _ _ c.requires.opens laws.sound laws.stand c.args.number c.args.part _ c.requires.part c.durable.ensures c.rows_are_in_order.ensures
