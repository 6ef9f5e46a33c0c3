use Rattle.std.proofs.Common.{List, subst}
use Rattle.oz_block.specs.Blocks.{IsFaultIn}
use Rattle.oz_block.proofs.Changing.{kept_loaded}
use Rattle.oz_block.proofs.Places.{damaged_journal, damaged_body}
use Rattle.oz_entries.specs.Build.{Makes}
use Rattle.oz_entries.specs.Held.{node_of}
use Rattle.oz_journal.specs.declared.body.Body.{Body}
use Rattle.oz_journal.specs.Body.{bodies_in}
use Rattle.oz_block.proofs.blocks.Blocks.load.Goals as goal

pub returns-in-Err-clause-damaged : goal.returns-in-Err-clause-damaged
returns-in-Err-clause-damaged g c offset is = damaged_journal (g.D.Disk.told c.args.disk) offset (c.in-Err.ensures.damaged offset is)

pub invariant_of-result : goal.invariant_of-result
invariant_of-result g c = λ running. kept_loaded (g.D.Disk.told c.args.disk) _ _ _ c.in-Ok.ensures.telling c.in-Ok.ensures.stands (subst (λ (l : List Body). Makes (bodies_in l) (node_of c.in-Ok-held_of.held)) c.deref.ensures.value c.in-Ok-held_of.ensures.made)

pub returns-clause-damaged : goal.returns-clause-damaged
returns-clause-damaged g c offset is = damaged_body (g.D.Disk.told c.args.disk) _ offset c.in-Ok.ensures.bodies (subst (λ (l : List Body). IsFaultIn (bodies_in l) offset) c.deref.ensures.value (c.in-Err-held_of.ensures.damaged offset is))
