use Rattle.oz_script.proofs.placed_lemmas.Numbers.{numbered-read, placed-read}
use Rattle.oz_script.proofs.placed.placed.read_lines.Goals as goal

pub returns-clause-numbered : goal.returns-clause-numbered
returns-clause-numbered c = numbered-read c.args.bytes.now c.in_ok-drafting.drafting.draft c.placed_of.result c.in_ok-drafting.ensures.exact c.placed_of.ensures

pub returns-clause-places : goal.returns-clause-places
returns-clause-places c = placed-read c.args.bytes.now c.in_ok-drafting.drafting.draft c.placed_of.result c.in_ok-drafting.ensures.exact c.placed_of.ensures
