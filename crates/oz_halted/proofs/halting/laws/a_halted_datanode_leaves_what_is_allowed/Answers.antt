use Rattle.oz_halted.specs.halting.laws.Left.{by_entry}
use Rattle.oz_halted.proofs.halting.laws.a_halted_datanode_leaves_what_is_allowed.Goals as goal

pub returns : goal.returns
returns c = λ opening bytes script before behind dn count was kept entry given left gives coherent apart numbered legal fits stands made may contents opened.
    by_entry opening bytes script coherent apart dn numbered before behind count legal fits.steps
    left gives kept given contents opened was stands entry made may
