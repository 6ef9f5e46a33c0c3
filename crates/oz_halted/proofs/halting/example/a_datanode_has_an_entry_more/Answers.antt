use Rattle.std.proofs.Common.{inl, inr, refl}
use Rattle.oz_halted.proofs.Entries.{numbered, halted}
use Rattle.oz_halted.proofs.halting.example.a_datanode_has_an_entry_more.Goals as goal

pub returns-clause-numbered : goal.returns-clause-numbered
returns-clause-numbered c = numbered

pub returns-clause-halted : goal.returns-clause-halted
returns-clause-halted c = halted

pub returns-clause-as_told : goal.returns-clause-as_told
returns-clause-as_told c = (inl refl, refl)

pub returns-clause-with_one_more : goal.returns-clause-with_one_more
returns-clause-with_one_more c = (inr refl, refl)
