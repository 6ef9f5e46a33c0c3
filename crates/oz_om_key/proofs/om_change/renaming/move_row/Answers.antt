use Rattle.std.proofs.Common.{sym, ◌∙◌}
use Rattle.oz_om_key.proofs.om_change.renaming.move_row.Goals as goal

pub put_moved-requires : goal.put_moved-requires
put_moved-requires g c = λ stood e. c.requires.to stood (sym c.in_ok-row.ensures ∙ e)
