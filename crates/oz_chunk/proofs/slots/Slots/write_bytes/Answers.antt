use Rattle.oz_chunk.specs.laws.Keeping.{write_spans}
use Rattle.oz_chunk.proofs.slots.Slots.write_bytes.Goals as goal

pub returns-in_default-clause-others : goal.returns-in_default-clause-others
returns-in_default-clause-others g c = rw (← c.self.view_is) (λ kept apart. write_spans kept c.args.slot _ _ _ _ apart c.put.ensures.time)

pub returns-clause-others : goal.returns-clause-others
returns-clause-others g c = rw (← c.self.view_is) (λ kept apart. write_spans kept c.args.slot _ _ _ _ apart c.put.ensures.time)
